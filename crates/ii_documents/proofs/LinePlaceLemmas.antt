-- The last colon of a place.
use Rattle.std.proofs.Common.{◌≡◌, ◌∙◌, ◌≤◌, ℕ, ◌+◌, ◌<◌, ◌^◌, List, [], ◌∷◌, ◌++◌, Bor, Option, None, Some, MatchOption, append_assoc, decimal, drop, length, length-append, get_or, refl, sym, ap, ap₂, subst, take, arith}
use Rattle.std.proofs.lemmas.Fmt.{decimal_is_IsNumeral}
use Rattle.std.proofs.lemmas.List.{take-append-drop}
use Rattle.std.proofs.lemmas.Str.Pattern.{NoCharPasses-char, drop_at_char}
use Rattle.std.specs.Str.Parse.{AllDigits}
use Rattle.std.specs.Str.Pattern.{RFindsChar}

-- no byte is a colon
abbrev pub HasNoColon : List ℕ → Type 0
HasNoColon text = (i : ℕ) → i < length text → get_or text i 0 ≡ 58 → ⊥

-- digits have no colon
digits_have_none : (a b : List ℕ) → AllDigits 10 (a ++ 58 ∷ b) → ⊥
digits_have_none [] b all = let low = all.0 in absurd (omega (arith, low))
digits_have_none (x ∷ a) b all = digits_have_none a b all.1

-- a text with a colon has one
has_colon : (text a b : List ℕ) → text ≡ a ++ 58 ∷ b → HasNoColon text → ⊥
has_colon text a b has none =
    let long = length-append a (58 ∷ b) in
    let same = ap length has in
    none (length a) (omega (arith, long, same)) (ap (λ (bs : List ℕ). get_or bs (length a) 0) has ∙ at_end a b)
  where
    at_end : (a b : List ℕ) → get_or (a ++ 58 ∷ b) (length a) 0 ≡ 58
    at_end [] b = refl
    at_end (x ∷ a) b = at_end a b

-- a text is cut at its last colon in one way
same_split : (a b x y : List ℕ) → a ++ 58 ∷ b ≡ x ++ 58 ∷ y → HasNoColon b → AllDigits 10 y → (a ≡ x) × (b ≡ y)
same_split [] b [] y is none digits = (refl, cc)
same_split [] b (h ∷ x) y is none digits = let later : b ≡ x ++ 58 ∷ y = cc in absurd (has_colon b x y later none)
same_split (h ∷ a) b [] y is none digits = let later : y ≡ a ++ 58 ∷ b = cc in absurd (digits_have_none a b (subst (AllDigits 10) later digits))
same_split (h ∷ a) b (g ∷ x) y is none digits =
    let heads : h ≡ g = cc in
    let tails : a ++ 58 ∷ b ≡ x ++ 58 ∷ y = cc in
    let rest = same_split a b x y tails none digits in
    (ap₂ (λ (n : ℕ) (ns : List ℕ). n ∷ ns) heads rest.0, rest.1)

-- what `rsplit_once` finds
abbrev pub FindsLast : List ℕ → Option (Bor (List ℕ) × Bor (List ℕ)) → Type 0
FindsLast text r = MatchOption r (RFindsChar 58 text None) (λ x. (i : ℕ) × (j : ℕ) × RFindsChar 58 text (Some (i, j)) × (x.0.now ≡ take i text) × (x.1.now ≡ drop j text) × (i ≤ j) × (length x.0.now ≡ i) × (length x.1.now + j ≡ length text))

-- the number after the last colon, and what is before it
pub number_split : (text before : List ℕ) (r : Option (Bor (List ℕ) × Bor (List ℕ))) (front digits : Bor (List ℕ)) (n : ℕ) → FindsLast text r → r ≡ Some (front, digits) → text ≡ before ++ 58 ∷ decimal n → n < 2 ^ 64
    → (front.now ≡ before) × (digits.now ≡ decimal n)
number_split text before r front digits n finds is has below =
    let h = subst (FindsLast text) is finds in
    let cut : text ≡ front.now ++ 58 ∷ digits.now = sym (take-append-drop h.0 text) ∙ ap₂ (λ (a b : List ℕ). a ++ b) (sym h.3) (drop_at_char 58 text h.0 h.1 h.2.1 (omega arith) ∙ ap (λ (bs : List ℕ). 58 ∷ bs) (sym h.4)) in
    let none : HasNoColon digits.now = λ i inside colon. NoCharPasses-char 58 (drop h.1 text) i h.2.0 (omega arith) (let same = ap length h.4 in omega (arith, inside, same)) (ap (λ (bs : List ℕ). get_or bs i 0) (sym h.4) ∙ colon) in
    same_split front.now digits.now before (decimal n) (sym cut ∙ has) none (decimal_is_IsNumeral n below).0.1

-- a text without a colon
pub no_number : (text before : List ℕ) (r : Option (Bor (List ℕ) × Bor (List ℕ))) (n : ℕ) → FindsLast text r → r ≡ None → text ≡ before ++ 58 ∷ decimal n → ⊥
no_number text before r n finds is has = has_colon text before (decimal n) has (λ i inside colon. NoCharPasses-char 58 text i (subst (FindsLast text) is finds) (omega arith) inside colon)

-- a place ends with the number of a byte
pub ends_with_byte : (file : List ℕ) (line byte : ℕ) → file ++ 58 ∷ (decimal line ++ 58 ∷ decimal byte) ≡ (file ++ 58 ∷ decimal line) ++ 58 ∷ decimal byte
ends_with_byte file line byte = sym (append_assoc file (58 ∷ decimal line) (58 ∷ decimal byte))
