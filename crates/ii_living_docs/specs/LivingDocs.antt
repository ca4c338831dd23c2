-- The living documents of a segment, by their numbers in an index.
use Rattle.std.specs.Prelude.{◌≡◌, ℕ, ◌+◌, ◌<◌, ◌≤◌, Bool, true, List, length, nat_le}
use Rattle.ii_base.specs.Entries.{Entry}
use Rattle.ii_base.specs.declared.doc_id.TheConstants.{TERMINATED}
use Rattle.ii_docset.specs.Cursor.{doc_at, IsSound}
use Rattle.ii_alive.specs.Alive.{num_living, rank}
use Rattle.ii_segments.specs.Segments.{is_living}

-- a cursor over a segment's documents, their flags, and the number of the first living one
pub record LivingParts (D : Type 0) : Type 0 where
  pub inner : D
  pub alive : List Bool
  pub base : ℕ

-- The first entry is of a living document, or of none of the segment.
pub record IsAtLiving (alive : List Bool) (es : List Entry) : Type 0 where
  pub sound : IsSound es
  pub living : doc_at es < length alive → is_living alive (doc_at es) ≡ true

-- The numbers of the living documents and those of all documents are less than TERMINATED.
pub record AreNumbered (base : ℕ) (alive : List Bool) : Type 0 where
  pub few : base + num_living alive ≤ TERMINATED
  pub short : length alive ≤ TERMINATED

-- A document parts the living ones: those from it on have at least this many living documents before them.
pub record IsDocumentOf (alive : List Bool) (number doc : ℕ) : Type 0 where
  pub within : doc ≤ length alive
  pub parts : (other : ℕ) → is_living alive other ≡ true → nat_le doc other ≡ nat_le number (rank alive other)
