-- The stored documents of an index of segments, by their numbers.
use Rattle.std.specs.Prelude.{◌≡◌, ℕ, suc, ◌-◌, Bool, IsSomeAnd, List, [], ◌∷◌, length, nat_lt, slice_index, Option, None, Some, Result, Ok, Err, if◌then◌else◌}
use Rattle.std.specs.Option.{option_map}
use Rattle.ii_alive.specs.Alive.{num_living}
use Rattle.ii_doc_store.specs.declared.faults.StoreDamage.{StoreDamage}
use Rattle.ii_doc_store.specs.declared.faults.StoreDamage.TheVariants.{Index}
use Rattle.ii_doc_store.specs.StoreReader.{HoldsDocuments, StoreReaderState, document_of, index_of, num_docs}
use Rattle.ii_doc_store_merger.specs.StoreSources.{SegmentDocuments}
use Rattle.ii_segments.specs.Segments.{living_docs}
use Rattle.nequllpa_opening.specs.declared.faults.DocumentFault.{DocumentFault}
use Rattle.nequllpa_opening.specs.declared.faults.DocumentFault.TheVariants.{Damaged, NoDocument, NotStored}
use Rattle.nequllpa_opening.specs.declared.documents.SegmentStore.{SegmentStore}

-- the stored documents of a segment, if it has some, and which documents are alive
pub record StoredSegmentState : Type 0 where
  pub store : Option StoreReaderState
  pub alive : List Bool

-- the model of borrowed documents
abbrev pub stored_segment : SegmentStore → StoredSegmentState
stored_segment s = record { store = option_map (λ r. r.now) s.store; alive = s.alive.now }

-- a document, or the damage of the segment at a place
abbrev pub or_damage_at : ℕ → Result (List ℕ) StoreDamage → Result (List ℕ) DocumentFault
or_damage_at place (Ok document) = Ok document
or_damage_at place (Err damage) = Err (Damaged place damage)

-- a document of a store, which must have it
abbrev pub document_in_store : ℕ → Option StoreReaderState → ℕ → Result (List ℕ) DocumentFault
document_in_store place None doc = Err (NotStored place)
document_in_store place (Some r) doc = if nat_lt doc (num_docs r.checkpoints) then or_damage_at place (document_of r.bytes r.checkpoints doc) else Err (Damaged place Index)

-- the living document with a number in the segment at a place
abbrev pub document_in_segment : ℕ → StoredSegmentState → ℕ → Result (List ℕ) DocumentFault
document_in_segment place s number = document_in_store place s.store (slice_index (living_docs s.alive) number)

-- the living document with a number in segments, of which the first is at a place
abbrev pub document_from : ℕ → List StoredSegmentState → ℕ → Result (List ℕ) DocumentFault
document_from place [] number = Err NoDocument
document_from place (s ∷ ss) number = if nat_lt number (num_living s.alive) then document_in_segment place s number else document_from (suc place) ss (number - num_living s.alive)

-- A segment has these documents stored, and the flags are theirs.
pub record HoldsDocumentsOf (s : StoredSegmentState) (d : SegmentDocuments) : Type 0 where
  pub store : IsSomeAnd s.store (λ r. HoldsDocuments r.bytes d.documents × (index_of r.bytes ≡ Ok r.checkpoints))
  pub alive : s.alive ≡ d.alive
  pub count : length d.documents ≡ length d.alive
