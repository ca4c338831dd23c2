-- Which limits the terms of a field exceed, and which term is the first to do so.
use Rattle.std.specs.Prelude.{◌^◌, ◌≤◌, ◌⊎◌, List, [], ◌∷◌, length}
use Rattle.std.specs.List.{AllByRecursion, flat_map}
use Rattle.ii_base.specs.declared.schema.index_record_option.IndexRecordOption.{IndexRecordOption}
use Rattle.ii_recorder.specs.Pushed.{FillTooLarge}
use Rattle.ii_recorder.specs.Terms.{IsShort, WrittenTerm, positions_body, positions_bytes, postings_bytes}

-- P holds for an element of a list, and Q for all elements before it.
abbrev pub FirstOf : {X : Type 0} → (X → Type 0) → (X → Type 0) → List X → Type 0
FirstOf Q P [] = ⊥
FirstOf Q P (x ∷ xs) = P x ⊎ (Q x × FirstOf Q P xs)

-- The term frequencies of a block of a term have too large a sum.
abbrev pub HasLargeSum : WrittenTerm → Type 0
HasLargeSum t = FillTooLarge t.skip_info [] t.freqs

-- No block has too large a sum, but the postings or the positions of a term have 2 ^ 32 bytes or more.
abbrev pub IsLong : IndexRecordOption → WrittenTerm → Type 0
IsLong mode t = (¬ HasLargeSum t) × ((2 ^ 32 ≤ length (postings_bytes t)) ⊎ (2 ^ 32 ≤ length (positions_bytes mode t.deltas)))

-- A term exceeds neither limit.
abbrev pub IsWithin : IndexRecordOption → WrittenTerm → Type 0
IsWithin mode t = (¬ HasLargeSum t) × IsShort mode t

-- The postings or the positions of all terms of a field have 2 ^ 56 bytes or more.
abbrev pub PassEnds : IndexRecordOption → List WrittenTerm → Type 0
PassEnds mode ts = (2 ^ 56 ≤ length (flat_map postings_bytes ts)) ⊎ (2 ^ 56 ≤ length (positions_body mode ts))

-- The terms of a field exceed no limit.
pub record AreWithin (mode : IndexRecordOption) (ts : List WrittenTerm) : Type 0 where
  pub terms : AllByRecursion (IsWithin mode) ts
  pub ends : ¬ PassEnds mode ts
