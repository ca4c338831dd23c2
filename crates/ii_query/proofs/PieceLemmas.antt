-- Positions that don't decrease are passed.
use Rattle.std.proofs.Common.{◌≡◌, ◌∙◌, ℕ, zero, suc, add-one, ◌+◌, ◌<◌, ◌≤◌, Bool, false, Some, None, List, [], drop, get_or, length, nat_eq, inl, inr, refl, sym, ap, arith, length-drop}
use Rattle.std.specs.Prelude.{slice_get}
use Rattle.std.specs.List.Sorted.{IsNonDecreasing}
use Rattle.std.proofs.Math.Seq.{drop-cons}
use Rattle.std.proofs.lemmas.Bool.{cases_lt, ne_eqb}
use Rattle.std.proofs.lemmas.Bool.Decides.{eqb_tells}
use Rattle.std.proofs.lemmas.List.{drop_all, get_or-drop}
use Rattle.std.proofs.lemmas.List.Folds.{list_any_none}
use Rattle.std.specs.List.{list_any}
use Rattle.std.proofs.lemmas.Option.{get_or_from_slice_get, none-some, slice_get-get_or, slice_get_within}
use Rattle.ii_base.specs.Entries.{Entry}
use Rattle.ii_docset.specs.Cursor.{position_before}
use Rattle.ii_query.specs.declared.position_piece.PositionPiece.{PositionPiece}
use Rattle.ii_query.specs.Phrase.{ReadsOnce, is_among}
use Rattle.ii_query.specs.PositionPiece.{IsPieceOf, PassesBelow, term_with}
use Rattle.ii_query.proofs.PhraseSteps.{any_next}

-- one more position is passed
pub passed_more : (positions : List ℕ) (least old i next : ℕ) → Some next ≡ slice_get positions i → next < least → PassesBelow positions least old i → PassesBelow positions least old (i + 1)
passed_more positions least old i next is low passed test none =
    let here = get_or_from_slice_get positions i next 0 (sym is) in
    any_next test positions i (slice_get_within positions i next (sym is)) (none (get_or positions i 0) (omega (arith, here, low))) ∙ passed test none

-- a position that isn't passed is told as before
pub passed_keeps : (positions : List ℕ) (least old new p : ℕ) → PassesBelow positions least old new → least ≤ p → is_among (drop new positions) p ≡ is_among (drop old positions) p
passed_keeps positions least old new p passed up = passed (λ (q : ℕ). nat_eq q p) (λ q low. ne_eqb q p (λ same. omega (arith, same, low, up)))

-- what holds of no position from the next one on holds of none that is left
pub none_after : (test : ℕ → Bool) (positions : List ℕ) (i next : ℕ) → IsNonDecreasing positions → Some next ≡ slice_get positions i → ((p : ℕ) → next ≤ p → test p ≡ false) → list_any test (drop i positions) ≡ false
none_after test positions i next order is none =
    let left = length-drop i positions in
    list_any_none test (drop i positions)
    (λ j d within.
    let here = get_or_from_slice_get positions i next d (sym is) in
    let later = order i (i + j) d (omega arith) (omega (arith, left, within)) in
    let there = get_or-drop i positions j d in
    none (get_or (drop i positions) j d) (omega (arith, here, later, there)))

-- the first position that isn't below a number tells whether it is there
pub found_at : (positions : List ℕ) (position i next : ℕ) → IsNonDecreasing positions → Some next ≡ slice_get positions i → position ≤ next → nat_eq next position ≡ is_among (drop i positions) position
found_at positions position i next order is up =
    let here = get_or_from_slice_get positions i next 0 (sym is) in
    let inside = slice_get_within positions i next (sym is) in
    elim (eqb_tells next position) [
      | inl h ↦ h.0 ∙ sym (ap (λ (ps : List ℕ). is_among ps position) (drop-cons positions i 0 inside) ∙ rw (here, h.0) refl)
      | inr h ↦
          let other = h.1 in
          h.0 ∙ sym (none_after (λ (q : ℕ). nat_eq q position) positions i next order is (λ q above. ne_eqb q position (λ same. omega (arith, same, above, up, other))))
    ]

-- at the end none is left
pub all_passed : (positions : List ℕ) (i : ℕ) → None ≡ slice_get positions i → drop i positions ≡ []
all_passed positions i is = elim (cases_lt i (length positions)) [
  | inl inside ↦ absurd (none-some (get_or positions i 0) (is ∙ slice_get-get_or positions i 0 inside))
  | inr past ↦ drop_all i positions past
]

pub none_left : (positions : List ℕ) (i position : ℕ) → None ≡ slice_get positions i → false ≡ is_among (drop i positions) position
none_left positions i position is = sym (ap (λ (ps : List ℕ). is_among ps position) (all_passed positions i is))

-- a piece of which one more position is passed
abbrev pub passed_one : PositionPiece → PositionPiece
passed_one piece = record { positions = piece.positions; count = piece.count; next = piece.next + 1; read = piece.read; ended = piece.ended }

pub one_passed : (positions : List ℕ) (piece : PositionPiece) → IsPieceOf positions piece → piece.next < piece.count → IsPieceOf positions (passed_one piece)
one_passed positions piece p inside = record { size = p.size; within = p.within; whole = p.whole; holds = p.holds; inside = omega (arith, inside); last = p.last; first = p.first }

-- a term of which one more position is passed has read the same
pub reads_passed : {P : Type 0} (spent : ℕ → ℕ → P → P → Type 0) (n : ℕ) (es fs : List Entry) (old new : P) (start piece : PositionPiece) → ReadsOnce spent (term_with n es old start) (term_with n fs new piece) → ReadsOnce spent (term_with n es old start) (term_with n fs new (passed_one piece))
reads_passed spent n es fs old new start piece r = record { asked = r.asked; count = r.count; by = r.by; reads = r.reads; positions = r.positions }

-- the position before the next one is at most that one
pub before_next : (positions : List ℕ) (i next : ℕ) → IsNonDecreasing positions → Some next ≡ slice_get positions i → position_before i positions ≤ next
before_next positions zero next order is = omega arith
before_next positions (suc i) next order is =
    let here = get_or_from_slice_get positions (suc i) next 0 (sym is) in
    let up = order i (suc i) 0 (omega arith) (slice_get_within positions (suc i) next (sym is)) in
    omega (arith, here, up)

pub after_next : (positions : List ℕ) (i next : ℕ) → Some next ≡ slice_get positions i → position_before (i + 1) positions ≡ next
after_next positions i next is = ap (λ (k : ℕ). position_before k positions) (add-one i) ∙ get_or_from_slice_get positions i next 0 (sym is)
