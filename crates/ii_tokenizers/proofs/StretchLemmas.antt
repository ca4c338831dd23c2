-- Texts that are cut into stretches behind a space and before a letter or digit.
use Rattle.std.proofs.Common.{◌≡◌, ℕ, suc, ◌+◌, ◌-◌, ◌<◌, ◌≤◌, List, [], ◌∷◌, ◌++◌, length, take, drop, get_or, refl, sym, ap, ap₂, ◌∙◌, ◌⊎◌, inl, inr, subst, arith, append-nil, drop-drop, length-drop, take_all}
use Rattle.std.specs.Prelude.{IsCharBoundary, IsUtf8}
use Rattle.std.proofs.Math.Seq.{drop-cons, take-suc}
use Rattle.std.proofs.lemmas.List.{drop_all, get_or-drop, length-take-le, take-append-drop}
use Rattle.std.proofs.lemmas.Str.{IsCharBoundary-before_ascii, IsCharBoundary-end, IsUtf8-between, IsUtf8-drop}
use Rattle.std.proofs.lemmas.Str.Ascii.{IsAscii-nil}
use Rattle.ii_base.specs.Words.{Word}
use Rattle.ii_base.specs.Parts.{Part, part_words}
use Rattle.ii_tokenizers.specs.Analyzers.{rule_parts}
use Rattle.ii_tokenizers.specs.Stretches.{IsBehindSpace}
use Rattle.ii_tokenizers.proofs.PartLemmas.{added_parts}
use Rattle.ii_tokenizers.proofs.AsciiWordLemmas.{ascii_rule_parts}
use Rattle.ii_base.proofs.RunLemmas.{no_more}
use Rattle.ii_tokenizers.proofs.SpaceLemmas.{low_letter, parts_at_space}

-- a place behind a space lies between two characters
pub behind_space : (text : List ℕ) (i : ℕ) → IsBehindSpace text i → IsCharBoundary text i
behind_space text i is = IsCharBoundary-before_ascii text i is.1 (low_letter (get_or text i 0) is.3)

-- a stretch, and what follows it
pub stretch_first : (text : List ℕ) (start end : ℕ) → IsUtf8 text → IsCharBoundary text start → start < end → IsBehindSpace text end
    → rule_parts start (drop start text) ≡ rule_parts start (take (end - start) (drop start text)) ++ rule_parts end (drop end text)
stretch_first text start end utf8 boundary order is =
    let xs = take (end - 1 - start) (drop start text) in
    let y = get_or text end 0 in
    let ys = drop (suc end) text in
    let rest = drop start text in
    let inside : end - 1 - start < length rest = omega (arith, length-drop start text, order, is.1) in
    let place : start + (end - 1 - start) ≡ end - 1 = omega (arith, order) in
    let more : suc (end - 1 - start) ≡ end - start = omega (arith, order) in
    let space : get_or rest (end - 1 - start) 0 ≡ 32 = get_or-drop start text (end - 1 - start) 0 ∙ ap (λ (i : ℕ). get_or text i 0) place ∙ is.2 in
    let past : start + (end - start) ≡ end = omega (arith, order) in
    let front : take (end - start) rest ≡ xs ++ 32 ∷ [] = ap (λ (n : ℕ). take n rest) (sym more) ∙ take-suc rest (end - 1 - start) 0 inside ∙ ap (λ (c : ℕ). xs ++ c ∷ []) space in
    let back : drop end text ≡ y ∷ ys = drop-cons text end 0 is.1 in
    let whole : rest ≡ take (end - start) rest ++ drop end text = sym (take-append-drop (end - start) rest) ∙ ap (λ (bs : List ℕ). take (end - start) rest ++ bs) (drop-drop (end - start) start text ∙ ap (λ (i : ℕ). drop i text) past) in
    let size : start + length (xs ++ 32 ∷ []) ≡ end = omega (arith, ap length front, length-take-le (end - start) rest (omega (arith, inside, more)), order) in
    let left : IsUtf8 xs = IsUtf8-between text start (end - 1) utf8 (omega (arith, order)) boundary (IsCharBoundary-before_ascii text (end - 1) (omega (arith, is.1)) (subst (λ (c : ℕ). c < 128) (sym is.2) (omega arith))) in
    let right : IsUtf8 (y ∷ ys) = subst IsUtf8 back (IsUtf8-drop text end utf8 (behind_space text end is)) in
    ap (rule_parts start) (whole ∙ ap₂ ◌++◌ front back)
    ∙ parts_at_space start xs ys y left right is.3
    ∙ ap₂ (λ (bs : List ℕ) (ps : List Part). rule_parts start bs ++ ps) (sym front) (ap₂ rule_parts size (sym back))

nothing_left : (n i : ℕ) (text : List ℕ) → length text ≤ i → rule_parts n (drop i text) ≡ []
nothing_left n i text past = ap (rule_parts n) (drop_all i text past) ∙ ascii_rule_parts n [] IsAscii-nil ∙ no_more n 0 [] (omega arith)

-- the tokens of a stretch were added
pub stretch_step : (old new : List Word) (text : List ℕ) (start end : ℕ) → IsUtf8 text → IsCharBoundary text start → start < end → (end ≡ length text) ⊎ IsBehindSpace text end
    → new ≡ old ++ part_words (length old) (rule_parts start (take (end - start) (drop start text)))
    → new ++ part_words (length new) (rule_parts end (drop end text)) ≡ old ++ part_words (length old) (rule_parts start (drop start text))
stretch_step old new text start end utf8 boundary order (inl last) added =
    let size : length (drop start text) ≤ end - start = omega (arith, length-drop start text, last) in
    ap (λ (ps : List Part). new ++ part_words (length new) ps) (nothing_left end end text (omega (arith, last)))
    ∙ append-nil new
    ∙ added
    ∙ ap (λ (bs : List ℕ). old ++ part_words (length old) (rule_parts start bs)) (take_all (end - start) (drop start text) size)
stretch_step old new text start end utf8 boundary order (inr behind) added =
    added_parts old new (length old) (length new) (rule_parts start (take (end - start) (drop start text))) (rule_parts end (drop end text)) added refl refl
    ∙ ap (λ (ps : List Part). old ++ part_words (length old) ps) (sym (stretch_first text start end utf8 boundary order behind))

-- past the end
pub stretches_end : (words : List Word) (text : List ℕ) (start : ℕ) → length text ≤ start → words ++ part_words (length words) (rule_parts start (drop start text)) ≡ words
stretches_end words text start past = ap (λ (ps : List Part). words ++ part_words (length words) ps) (nothing_left start start text past) ∙ append-nil words

-- a stretch ends between two characters
pub stretch_boundary : (text : List ℕ) (end : ℕ) → (end ≡ length text) ⊎ IsBehindSpace text end → IsCharBoundary text end
stretch_boundary text end (inl last) = subst (IsCharBoundary text) (sym last) (IsCharBoundary-end text)
stretch_boundary text end (inr behind) = behind_space text end behind
