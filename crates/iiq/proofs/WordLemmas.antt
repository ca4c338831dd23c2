-- Laws of parts and numbers.
use Rattle.std.proofs.Common.{◌≡◌, ◌∙◌, ◌≢◌, ℕ, zero, suc, ◌+◌, ◌*◌, ◌-◌, ◌^◌, ◌<◌, Bool, true, false, ◌&&◌, ℤ, pos, neg_ℤ, List, [], ◌∷◌, length, take, drop, get_or, Some, None, Result, Ok, Err, nat_lt, nat_le, refl, sym, ap, arith, cond, eqb, eq-eqb, not, subst, w64}
use Rattle.std.proofs.lemmas.List.Sums.{passes_at_first, prefix_len_passes}
use Rattle.std.proofs.lemmas.Bool.{and_parts, eqb-true, lt-ltb, ltb-true, ltb-false, leb-true, not-true}
use Rattle.std.proofs.lemmas.List.Splits.{slice_split_first, slice_split_none}
use Rattle.std.proofs.lemmas.Str.{IsUtf8-from_ascii, IsUtf8-drop, IsCharBoundary-after_ascii}
use Rattle.std.proofs.lemmas.Str.Parse.{IsNumeralModel, numerals_by_fold, tells_all_ascii_digits, parse_plain, parse_signed_minus, parse_signed_plain}
use Rattle.std.specs.Prelude.{if◌then◌else◌}
use Rattle.std.specs.Option.{option_map}
use Rattle.std.specs.Str.Parse.{ParsesSigned, ParsesUnsigned}
use Rattle.std.specs.List.{position, position_or_len, All}
use Rattle.std.specs.Result.{result_ok, OkIff}
use Rattle.std.specs.Char.{is_ascii_digit}
use Rattle.std.specs.Str.{all_ascii_digits, IsUtf8}
use Rattle.ii_io.specs.Steps.{◌>>=◌, needs}
use Rattle.ii_base.proofs.ResultLemmas.{ok_where}
use Rattle.ii_query_parser.proofs.TermLemmas.{some_if}
use Rattle.iiq.specs.Words.{parts, parts_left, number_on, number_below, signed_number}

none_if : (t : Bool) (n : ℕ) → cond t (Some n) None ≡ None → t ≡ false
none_if true n e = absurd (cc)
none_if false n e = refl

-- a text with a separator
pub parts_at : (c : ℕ) (text : List ℕ) (i : ℕ) → Some i ≡ position (λ b. eqb b c) text → parts c text ≡ take i text ∷ parts_left c (Some (drop (i + 1) text))
parts_at c text i e =
    let found = some_if (nat_lt (position_or_len (λ b. eqb b c) text) (length text)) (position_or_len (λ b. eqb b c) text) i (sym e) in
    let within = ltb-true (position_or_len (λ b. eqb b c) text) (length text) found.0 in
    rw (← found.1) (slice_split_first (λ b. eqb b c) text 0 within)

-- what follows an ASCII separator is UTF-8, if the complete text is
pub utf8_behind : (c : ℕ) (text : List ℕ) (i : ℕ) → Some i ≡ position (λ b. eqb b c) text → c < 128 → IsUtf8 text → IsUtf8 (drop (i + 1) text)
utf8_behind c text i e ascii whole =
    let found = some_if (nat_lt (position_or_len (λ b. eqb b c) text) (length text)) (position_or_len (λ b. eqb b c) text) i (sym e) in
    let within : i < length text = rw found.1 at (ltb-true (position_or_len (λ b. eqb b c) text) (length text) found.0) in
    let here : get_or text i 0 ≡ c = eqb-true (get_or text i 0) c (rw found.1 at (passes_at_first (λ b. eqb b c) text 0 (ltb-true (position_or_len (λ b. eqb b c) text) (length text) found.0))) in
    IsUtf8-drop text (i + 1) whole (IsCharBoundary-after_ascii text i whole within (omega (arith, here, ascii)))

-- a text with none
none_before : (c : ℕ) (text : List ℕ) → None ≡ position (λ b. eqb b c) text → All (λ b. eqb b c ≡ false) text
none_before c text e k d h =
    let none = none_if (nat_lt (position_or_len (λ b. eqb b c) text) (length text)) (position_or_len (λ b. eqb b c) text) (sym e) in
    let all = ltb-false (position_or_len (λ b. eqb b c) text) (length text) none in
    not-true (eqb (get_or text k d) c) (prefix_len_passes (λ b. not (eqb b c)) text k d (omega arith))

pub parts_whole : (c : ℕ) (text : List ℕ) → None ≡ position (λ b. eqb b c) text → parts c text ≡ text ∷ []
parts_whole c text e = slice_split_none (λ b. eqb b c) text (none_before c text e)

own : IsNumeralModel (λ ds. all_ascii_digits ds ≡ true) (number_on 0)
own = numerals_by_fold (λ ds. all_ascii_digits ds ≡ true) tells_all_ascii_digits number_on (record { empty = λ n. refl; more = λ n c cs h. let moved : 10 * n + (c - 48) ≡ n * 10 + (c - 48) = omega arith in ap (λ (m : ℕ). number_on m cs) moved })

number_cases : (n : ℕ) (word : List ℕ) (some digits fits : Bool) → nat_lt 0 (length word) ≡ some → all_ascii_digits word ≡ digits → nat_lt (number_on 0 word) (2 ^ 64) ≡ fits
    → (E : Type 0) (r : Result ℕ E) → OkIff r ((all_ascii_digits word ≡ true) × (0 < length word) × (number_on 0 word < 2 ^ 64)) (number_on 0 word)
    → result_ok r ≡ (needs (some && digits && fits) >>= λ _. Some (number_on 0 word))
number_cases n word true true true a b c E (Ok x) h = ap Some h.1
number_cases n word true true true a b c E (Err e) h = absurd (h (b, ltb-true 0 (length word) a, ltb-true (number_on 0 word) 18446744073709551616 c))
number_cases n word false digits fits a b c E (Ok x) h = absurd (let low = ltb-false 0 (length word) a in let high = h.0.1 in omega arith)
number_cases n word false digits fits a b c E (Err e) h = refl
number_cases n word true false fits a b c E (Ok x) h = absurd (let digits = h.0.0 in cc)
number_cases n word true false fits a b c E (Err e) h = refl
number_cases n word true true false a b c E (Ok x) h = absurd (let low = ltb-false (number_on 0 word) 18446744073709551616 c in let high = h.0.2 in omega arith)
number_cases n word true true false a b c E (Err e) h = refl

-- what std reads of a word that begins with no sign
pub number_read : {E : Type 0} (word text : List ℕ) (r : Result ℕ E) → text ≡ word → ParsesUnsigned 64 10 text r → get_or word 0 0 ≢ 43 → result_ok r ≡ number_below (2 ^ 64) word
number_read {E = E} word text r e h plain =
    let parsed = rw e at h in
    number_cases 0 word (nat_lt 0 (length word)) (all_ascii_digits word) (nat_lt (number_on 0 word) 18446744073709551616) refl refl refl E r (parse_plain own 64 word r parsed plain)

digit_small : (c : ℕ) → is_ascii_digit c ≡ true → c < 128
digit_small c h =
    let high = leb-true c 57 (and_parts (nat_le 48 c) (nat_le c 57) h).1 in
    omega arith

ascii_at : (word : List ℕ) → all_ascii_digits word ≡ true → (i : ℕ) → get_or word i 0 < 128
ascii_at [] h i = omega arith
ascii_at (c ∷ cs) h zero = digit_small c (and_parts (is_ascii_digit c) (all_ascii_digits cs) h).0
ascii_at (c ∷ cs) h (suc i) = ascii_at cs (and_parts (is_ascii_digit c) (all_ascii_digits cs) h).1 i

no_digits_cases : (word : List ℕ) (some fits : Bool) → None ≡ (needs (some && false && fits) >>= λ _. Some (number_on 0 word))
no_digits_cases word true fits = refl
no_digits_cases word false fits = refl

-- a word that is not all digits is no number
pub number_no_digits : (limit : ℕ) (word : List ℕ) → all_ascii_digits word ≡ false → None ≡ number_below limit word
number_no_digits limit word e = rw e (no_digits_cases word (nat_lt 0 (length word)) (nat_lt (number_on 0 word) limit))

no_text_cases : (word : List ℕ) (digits : Bool) → all_ascii_digits word ≡ digits → ¬ (IsUtf8 word) → digits ≡ false
no_text_cases word true e h = absurd (h (IsUtf8-from_ascii word (ascii_at word e)))
no_text_cases word false e h = refl

-- a word that is no text is no number
pub number_no_text : (word : List ℕ) → ¬ (IsUtf8 word) → None ≡ number_below (2 ^ 64) word
number_no_text word h = number_no_digits (2 ^ 64) word (no_text_cases word (all_ascii_digits word) refl h)

plus_first : (word : List ℕ) → get_or word 0 0 ≡ 43 → all_ascii_digits word ≡ false
plus_first [] e = absurd (omega arith)
plus_first (c ∷ cs) e =
    let P : ℕ → Type 0 = λ b. all_ascii_digits (b ∷ cs) ≡ false in
    subst P (sym e) refl

-- a word that begins with a plus is no number
pub number_plus : (word : List ℕ) → get_or word 0 0 ≡ 43 → None ≡ number_below (2 ^ 64) word
number_plus word e = number_no_digits (2 ^ 64) word (plus_first word e)

-- what std reads of a number, by a condition that means the same
same_condition : {T E : Type 0} (r : Result T E) (P Q : Type 0) (v : T) → (P → Q) → (Q → P) → OkIff r P v → OkIff r Q v
same_condition (Ok x) P Q v to from h = (to h.0, h.1)
same_condition (Err e) P Q v to from h = λ q. h (from q)

needed_by : {A : Type 0} (f : ℕ → A) (n : ℕ) (t : Bool) → option_map f (needs t >>= λ _. Some n) ≡ cond t (Some (f n)) None
needed_by f n true = refl
needed_by f n false = refl

-- the condition of a number below a limit
abbrev IsBelow : ℕ → List ℕ → Type 0
IsBelow limit word = (all_ascii_digits word ≡ true) × (0 < length word) × (number_on 0 word < limit)

below_read : {A E : Type 0} (f : ℕ → A) (limit : ℕ) (word : List ℕ) (r : Result A E) → OkIff r (IsBelow limit word) (f (number_on 0 word)) → result_ok r ≡ option_map f (number_below limit word)
below_read f limit word r h =
    let some = nat_lt 0 (length word) in
    let digits = all_ascii_digits word in
    let fits = nat_lt (number_on 0 word) limit in
    ok_where r (IsBelow limit word) (some && digits && fits) (f (number_on 0 word))
    (λ p. rw (lt-ltb 0 (length word) p.1, p.0, lt-ltb (number_on 0 word) limit p.2) refl)
    (λ t.
    let all = and_parts (some && digits) fits t in
    let both = and_parts some digits all.0 in
    (both.1, ltb-true 0 (length word) both.0, ltb-true (number_on 0 word) limit all.1)) h
    ∙ sym (needed_by f (number_on 0 word) (some && digits && fits))

signed_by : {E : Type 0} (c : ℕ) (cs : List ℕ) (r : Result ℤ E) (minus : Bool) → eqb c 45 ≡ minus → ParsesSigned w64 10 (c ∷ cs) r → c ≢ 43
    → result_ok r ≡ (if minus then option_map (λ n. neg_ℤ (pos n)) (number_below (2 ^ 63 + 1) cs) else option_map (λ n. pos n) (number_below (2 ^ 63) (c ∷ cs)))
signed_by c cs r true e h plus =
    below_read (λ n. neg_ℤ (pos n)) (2 ^ 63 + 1) cs r
    (same_condition r _ (IsBelow (2 ^ 63 + 1) cs) (neg_ℤ (pos (number_on 0 cs)))
    (λ p. (p.0, p.1, let low = p.2 in omega (arith, low)))
    (λ q. (q.0, q.1, let low = q.2 in omega (arith, low)))
    (parse_signed_minus own w64 (c ∷ cs) r h (eqb-true c 45 e)))
signed_by c cs r false e h plus = below_read (λ n. pos n) (2 ^ 63) (c ∷ cs) r (parse_signed_plain own w64 (c ∷ cs) r h plus (λ same. let not : eqb c 45 ≡ true = eq-eqb c 45 same in cc))

-- what std reads of a word that begins with no plus
pub signed_read : {E : Type 0} (word text : List ℕ) (r : Result ℤ E) → text ≡ word → ParsesSigned w64 10 text r → get_or word 0 0 ≢ 43 → false ≡ (eqb (length word) 0) → result_ok r ≡ signed_number word
signed_read [] text r e h plain some = absurd (cc)
signed_read (c ∷ cs) text r e h plain some = signed_by c cs r (eqb c 45) refl (rw e at h) plain

-- a word that begins with a plus is no signed number
pub signed_plus : (word : List ℕ) → get_or word 0 0 ≡ 43 → None ≡ signed_number word
signed_plus [] e = refl
signed_plus (c ∷ cs) e =
    let P : ℕ → Type 0 = λ b. None ≡ signed_number (b ∷ cs) in
    subst P (sym e) (ap (option_map (λ n. pos n)) (number_no_digits (2 ^ 63) (43 ∷ cs) refl))

ascii_after : (c : ℕ) (cs : List ℕ) → c < 128 → all_ascii_digits cs ≡ true → (i : ℕ) → get_or (c ∷ cs) i 0 < 128
ascii_after c cs low digits zero = low
ascii_after c cs low digits (suc i) = ascii_at cs digits i

behind_minus : (c : ℕ) (cs : List ℕ) (digits : Bool) → c ≡ 45 → all_ascii_digits cs ≡ digits → ¬ (IsUtf8 (c ∷ cs)) → digits ≡ false
behind_minus c cs true minus e h = absurd (h (IsUtf8-from_ascii (c ∷ cs) (ascii_after c cs (omega (arith, minus)) e)))
behind_minus c cs false minus e h = refl

signed_no_text_by : (c : ℕ) (cs : List ℕ) (minus : Bool) → eqb c 45 ≡ minus → ¬ (IsUtf8 (c ∷ cs))
    → None ≡ (if minus then option_map (λ n. neg_ℤ (pos n)) (number_below (2 ^ 63 + 1) cs) else option_map (λ n. pos n) (number_below (2 ^ 63) (c ∷ cs)))
signed_no_text_by c cs true e h = ap (option_map (λ n. neg_ℤ (pos n))) (number_no_digits (2 ^ 63 + 1) cs (behind_minus c cs (all_ascii_digits cs) (eqb-true c 45 e) refl h))
signed_no_text_by c cs false e h = ap (option_map (λ n. pos n)) (number_no_digits (2 ^ 63) (c ∷ cs) (no_text_cases (c ∷ cs) (all_ascii_digits (c ∷ cs)) refl h))

-- a word that is no text is no signed number
pub signed_no_text : (word : List ℕ) → ¬ (IsUtf8 word) → None ≡ signed_number word
signed_no_text [] h = refl
signed_no_text (c ∷ cs) h = signed_no_text_by c cs (eqb c 45) refl h
