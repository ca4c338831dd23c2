-- The model of a cursor: its remaining documents, as a list of entries.
use Rattle.std.specs.Prelude.{◌≡◌, ◌≢◌, ℕ, ◌+◌, ◌^◌, ◌<◌, ◌≤◌, Bool, true, false, List, [], ◌∷◌, filter, get_or, nat_le, ⊤}
use Rattle.std.specs.List.{All}
use Rattle.std.specs.List.Sorted.{IsNonDecreasing}
use Rattle.ii_base.specs.declared.doc_id.TheConstants.{TERMINATED}
use Rattle.ii_docset.specs.declared.docset.SeekDangerResult.{SeekDangerResult}
use Rattle.ii_docset.specs.declared.docset.SeekDangerResult.TheVariants.{Found, SeekLowerBound}
use Rattle.ii_base.specs.Entries.{Entry}

-- the current document, or `TERMINATED`
abbrev pub doc_at : List Entry → ℕ
doc_at [] = TERMINATED
doc_at (e ∷ es) = e.doc

-- Each document is less than the next one, and the last is less than `TERMINATED`.
abbrev pub IsAscending : List Entry → Type 0
IsAscending [] = ⊤
IsAscending (e ∷ es) = (e.doc < doc_at es) × IsAscending es

-- The term frequency and the positions of an entry have 32 bits.
abbrev pub FitsU32 : Entry → Type 0
FitsU32 e = (e.term_freq < 2 ^ 32) × All (λ (p : ℕ). p < 2 ^ 32) e.positions

-- No position of an entry is less than the one before it.
abbrev pub IsInOrder : Entry → Type 0
IsInOrder e = IsNonDecreasing e.positions

-- The invariant of the remaining documents of any cursor.
pub record IsSound (es : List Entry) : Type 0 where
  pub ascending : IsAscending es
  pub fits : All FitsU32 es
  pub in_order : All IsInOrder es

-- the remaining documents that are at least the target
abbrev pub from_doc : ℕ → List Entry → List Entry
from_doc target es = filter (λ (e : Entry). nat_le target e.doc) es

-- A target is at most `TERMINATED`, and at least the current document, if there is one.
pub record IsTarget (target : ℕ) (es : List Entry) : Type 0 where
  pub up_to : target ≤ TERMINATED
  pub forward : doc_at es < TERMINATED → doc_at es ≤ target

-- There is a current document.
abbrev pub IsCurrent : List Entry → Type 0
IsCurrent es = doc_at es < TERMINATED

-- the term frequency of the current document; 1 if frequencies aren't read or no document remains
abbrev pub term_freq_at : Bool → List Entry → ℕ
term_freq_at true es = 1
term_freq_at false [] = 1
term_freq_at false (e ∷ es) = e.term_freq

-- the sum of the term frequencies of all remaining documents
abbrev pub total_freq : Bool → List Entry → ℕ
total_freq one [] = 0
total_freq one (e ∷ es) = term_freq_at one (e ∷ es) + total_freq one es

-- the positions of the current document
abbrev pub positions_at : List Entry → List ℕ
positions_at [] = []
positions_at (e ∷ es) = e.positions

-- the position before an index, 0 before the first
abbrev pub position_before : ℕ → List ℕ → ℕ
position_before from positions = get_or (0 ∷ positions) from 0

-- The result for a target, given the documents from it on: `Found`, or the first one; at the end, the end itself.
abbrev pub IsDangerAnswer : SeekDangerResult → ℕ → List Entry → Type 0
IsDangerAnswer Found target es = (target < TERMINATED) × (doc_at es ≡ target)
IsDangerAnswer (SeekLowerBound bound) target es = (target < TERMINATED → (doc_at es ≢ target) × (bound ≡ doc_at es)) × (target ≡ TERMINATED → bound ≡ TERMINATED)
