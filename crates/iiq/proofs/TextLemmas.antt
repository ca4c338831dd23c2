-- The words of a text are texts.
use Rattle.std.proofs.Common.{◌≡◌, ℕ, zero, suc, ◌+◌, ◌<◌, ◌≤◌, List, [], ◌∷◌, length, take, drop, get_or, Option, Some, None, refl, sym, arith, eqb, subst, nat_lt}
use Rattle.std.proofs.lemmas.Str.{IsUtf8-nil, IsUtf8-take, IsCharBoundary-before_ascii}
use Rattle.std.proofs.lemmas.Bool.{eqb-true, ltb-true}
use Rattle.std.proofs.lemmas.List.{length-drop}
use Rattle.std.proofs.lemmas.List.Sums.{passes_at_first}
use Rattle.std.specs.List.{position, position_or_len}
use Rattle.std.specs.Option.{IfSome, option_copied}
use Rattle.std.specs.Borrow.{Bor}
use Rattle.std.specs.Str.{IsUtf8}
use Rattle.iiq.specs.Words.{AreTexts, parts, parts_left}
use Rattle.ii_query_parser.proofs.TermLemmas.{some_if}
use Rattle.iiq.proofs.WordLemmas.{parts_at, parts_whole, utf8_behind}

-- what is before an ASCII separator is UTF-8
text_before : (c : ℕ) (text : List ℕ) (i : ℕ) → Some i ≡ position (λ b. eqb b c) text → c < 128 → IsUtf8 text → IsUtf8 (take i text)
text_before c text i e ascii whole =
    let found = some_if (nat_lt (position_or_len (λ b. eqb b c) text) (length text)) (position_or_len (λ b. eqb b c) text) i (sym e) in
    let within : i < length text = rw found.1 at (ltb-true (position_or_len (λ b. eqb b c) text) (length text) found.0) in
    let here : get_or text i 0 ≡ c = eqb-true (get_or text i 0) c (rw found.1 at (passes_at_first (λ b. eqb b c) text 0 (ltb-true (position_or_len (λ b. eqb b c) text) (length text) found.0))) in
    IsUtf8-take text i whole (IsCharBoundary-before_ascii text i within (omega (arith, here, ascii)))

texts_by : (m c : ℕ) (text : List ℕ) → length text ≤ suc m → c < 128 → IsUtf8 text → ((rest : List ℕ) → length rest ≤ m → IsUtf8 rest → AreTexts (parts c rest)) → (o : Option ℕ) → o ≡ position (λ b. eqb b c) text → AreTexts (parts c text)
texts_by m c text few ascii whole later None e = subst AreTexts (sym (parts_whole c text e)) (whole, tt)
texts_by m c text few ascii whole later (Some i) e =
    subst AreTexts (sym (parts_at c text i e))
    (text_before c text i e ascii whole, later (drop (i + 1) text) (omega (arith, few, length-drop (i + 1) text)) (utf8_behind c text i e ascii whole))

texts_within : (n c : ℕ) (text : List ℕ) → length text ≤ n → c < 128 → IsUtf8 text → AreTexts (parts c text)
texts_within zero c [] few ascii whole = (IsUtf8-nil, tt)
texts_within zero c (x ∷ xs) few ascii whole = absurd (omega (arith, few))
texts_within (suc m) c text few ascii whole = texts_by m c text few ascii whole (λ rest low u. texts_within m c rest low ascii u) (position (λ b. eqb b c) text) refl

-- the parts of a text that is left
pub left_texts : (c : ℕ) (rest : Option (Bor (List ℕ))) → c < 128 → IfSome rest (λ text. IsUtf8 text.now) → AreTexts (parts_left c (option_copied rest))
left_texts c None ascii text = tt
left_texts c (Some rest) ascii text = texts_within (length rest.now) c rest.now (omega arith) ascii text
