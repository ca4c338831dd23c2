-- The positions of a phrase's first term are tried in turn.
use Rattle.std.proofs.Common.{◌≡◌, ◌∙◌, ℕ, ◌+◌, ◌≤◌, true, false, Some, None, List, drop, refl, sym, ap, arith}
use Rattle.std.specs.Prelude.{slice_get}
use Rattle.std.specs.List.{AllByRecursion, list_any}
use Rattle.std.specs.List.Sorted.{IsNonDecreasing}
use Rattle.std.proofs.Math.Seq.{drop-cons}
use Rattle.std.proofs.lemmas.Option.{get_or_from_slice_get, slice_get_within}
use Rattle.ii_docset.specs.Cursor.{position_before}
use Rattle.ii_query.specs.Phrase.{IsUnread, PhrasePartState, PhraseTermState, parts_in, stand_here, stand_left}
use Rattle.ii_query.proofs.PhraseSteps.{any_next}
use Rattle.ii_query.proofs.PieceLemmas.{after_next, all_passed, before_next}
use Rattle.ii_query.proofs.ReadsLemmas.{unread_stand}

-- No phrase begins at the first positions, and what is left of the other terms tells of each start that isn't below these.
pub record AreTried {P : Type 0} (starts : List ℕ) (parts : List PhrasePartState) (i : ℕ) (terms : List (PhraseTermState P)) : Type 0 where
  pub left : list_any (stand_here parts) (drop i starts) ≡ list_any (stand_here parts) starts
  pub later : (s : ℕ) → position_before i starts ≤ s → stand_left terms s ≡ stand_here parts s

pub none_tried : {P : Type 0} (starts : List ℕ) (i : ℕ) (terms : List (PhraseTermState P)) → i ≡ 0 → AllByRecursion IsUnread terms → AreTried starts (parts_in terms) i terms
none_tried starts i terms first unread = record { left = ap (λ (k : ℕ). list_any (stand_here (parts_in terms)) (drop k starts)) first; later = λ s up. unread_stand terms s unread }

stand_now : {P : Type 0} (starts : List ℕ) (parts : List PhrasePartState) (i start : ℕ) (terms : List (PhraseTermState P)) → AreTried starts parts i terms → IsNonDecreasing starts → Some start ≡ slice_get starts i → stand_left terms start ≡ stand_here parts start
stand_now starts parts i start terms t order is = t.later start (before_next starts i start order is)

-- one more start is tried in vain
pub one_tried : {P : Type 0} (starts : List ℕ) (parts : List PhrasePartState) (i next start : ℕ) (terms later : List (PhraseTermState P)) → AreTried starts parts i terms → IsNonDecreasing starts → Some start ≡ slice_get starts i → next ≡ i + 1
    → stand_left terms start ≡ false → ((s : ℕ) → start ≤ s → stand_left later s ≡ stand_left terms s) → AreTried starts parts next later
one_tried starts parts i next start terms later t order is more misses kept =
    let here = get_or_from_slice_get starts i start 0 (sym is) in
    let fails = ap (stand_here parts) here ∙ sym (stand_now starts parts i start terms t order is) ∙ misses in
    let place = ap (λ (k : ℕ). position_before k starts) more ∙ after_next starts i start is in
    let before = before_next starts i start order is in
    record {
      left = ap (λ (k : ℕ). list_any (stand_here parts) (drop k starts)) more ∙ any_next (stand_here parts) starts i (slice_get_within starts i start (sym is)) fails ∙ t.left;
      later = λ s up. kept s (omega (arith, place, up)) ∙ t.later s (omega (arith, place, before, up));
    }

-- a phrase begins at a start
pub start_found : {P : Type 0} (starts : List ℕ) (parts : List PhrasePartState) (i start : ℕ) (terms : List (PhraseTermState P)) → AreTried starts parts i terms → IsNonDecreasing starts → Some start ≡ slice_get starts i → stand_left terms start ≡ true
    → true ≡ list_any (stand_here parts) starts
start_found starts parts i start terms t order is found =
    let here = get_or_from_slice_get starts i start 0 (sym is) in
    let holds = ap (stand_here parts) here ∙ sym (stand_now starts parts i start terms t order is) ∙ found in
    sym (ap (list_any (stand_here parts)) (drop-cons starts i 0 (slice_get_within starts i start (sym is))) ∙ rw holds refl) ∙ t.left

-- all starts were tried in vain
pub all_tried : {P : Type 0} (starts : List ℕ) (parts : List PhrasePartState) (i : ℕ) (terms : List (PhraseTermState P)) → AreTried starts parts i terms → None ≡ slice_get starts i → false ≡ list_any (stand_here parts) starts
all_tried starts parts i terms t is = sym (ap (list_any (stand_here parts)) (all_passed starts i is)) ∙ t.left
