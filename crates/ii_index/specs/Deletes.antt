-- Deletes of documents that have a term, and which documents they leave.
use Rattle.std.specs.Prelude.{◌≡◌, ◌⊎◌, ⊤, ℕ, ◌+◌, ◌-◌, ◌<◌, ◌&&◌, Bool, true, nat_eq, nat_lt, not, List, [], ◌∷◌, ◌++◌, filter, map, IsSome, length, Result, Ok}
use Rattle.std.specs.List.{AllByRecursion, list_any, range_with_len}
use Rattle.ii_base.specs.Entries.{docs_of}
use Rattle.ii_base.specs.Schema.{SchemaEntry}
use Rattle.ii_base.specs.Terms.{TermState}
use Rattle.ii_base.specs.declared.doc_id.TheConstants.{TERMINATED}
use Rattle.ii_base.specs.declared.schema.index_record_option.IndexRecordOption.TheVariants.{Basic}
use Rattle.ii_definitions.specs.Tokens.{IndexToken}
use Rattle.ii_directory.specs.Directory.{Files}
use Rattle.ii_io.specs.Parts.{◌>>=◌}
use Rattle.ii_io.specs.declared.faults.Part.{Part}
use Rattle.ii_index.specs.Segments.{HoldsIndexOf, with_tokens}
use Rattle.ii_index.specs.declared.deletes.Scope.{Scope}
use Rattle.ii_index.specs.declared.deletes.Scope.TheVariants.{Committed, Pending}
use Rattle.ii_query_parser.specs.Queries.{is_token_of}
use Rattle.ii_reader.specs.OpenIndex.{OpenIndexState, index_of_files}
use Rattle.ii_search.specs.Found.{docs_of_term}
use Rattle.ii_segment_store.specs.Changes.{without}
use Rattle.ii_segment_store.specs.Contents.{SegmentContents}
use Rattle.ii_segments.specs.Segments.{Segment, index_tokens, num_docs_of}
use Rattle.nequllpa_merging.specs.HeldSegments.{HoldsSegment}

-- a delete: the term, and how many documents were pending when it was asked for
pub record DeleteState : Type 0 where
  pub term : TermState
  pub num_pending : ℕ

-- The term of each delete is of one of the first n fields.
abbrev pub HaveFieldsBelow : ℕ → List DeleteState → Type 0
HaveFieldsBelow n deletes = AllByRecursion (λ (d : DeleteState). d.term.field < n) deletes

-- whether a document has a token of a term
abbrev pub has_term : TermState → List IndexToken → ℕ → Bool
has_term term ts doc = list_any (is_token_of term doc) ts

-- whether deletes delete a document: it has the term, and is one of the n committed documents or was pending before
abbrev pub is_deleted : List DeleteState → ℕ → List IndexToken → ℕ → Bool
is_deleted deletes n ts doc = list_any (λ (d : DeleteState). nat_lt doc (n + d.num_pending) && has_term d.term ts doc) deletes

-- all documents at a commit as one segment, n committed ones and k pending ones, of which those that aren't deleted are alive
abbrev pub committed : List DeleteState → ℕ → List IndexToken → ℕ → List IndexToken → Segment
committed deletes n ts k us = record {
  alive = map (λ (doc : ℕ). not (is_deleted deletes n (with_tokens n ts us) doc)) (range_with_len 0 (n + k));
  tokens = with_tokens n ts us;
}

-- The files of a directory hold an index of the living documents of a segment.
abbrev pub HoldsIndexOfSegment : List SchemaEntry → Files → Segment → Type 0
HoldsIndexOfSegment entries files s = HoldsIndexOf entries files (num_docs_of (s ∷ [])) (index_tokens (s ∷ []))

-- the number below which a delete reaches documents of a segment: all that are committed, and of the pending ones, of which some are in earlier segments, those that were added before it
abbrev pub limit_in : Scope → DeleteState → ℕ
limit_in Committed d = TERMINATED
limit_in (Pending base) d = d.num_pending - base

-- whether a delete reaches a document of a segment that has its term
abbrev pub in_scope : Scope → DeleteState → ℕ → Bool
in_scope Committed d doc = true
in_scope (Pending base) d doc = nat_lt doc (d.num_pending - base)

-- whether deletes reach a document of a segment with these tokens
abbrev pub is_reached : Scope → List DeleteState → List IndexToken → ℕ → Bool
is_reached scope deletes ts doc = list_any (λ (d : DeleteState). in_scope scope d doc && has_term d.term ts doc) deletes

-- whether a document is one of some
abbrev pub is_among : List ℕ → ℕ → Bool
is_among docs doc = list_any (λ (d : ℕ). nat_eq d doc) docs

-- Documents of a segment are exactly those that deletes reach, whichever tokens its files hold.
abbrev pub AreReached : Scope → List SchemaEntry → List DeleteState → SegmentContents → List ℕ → Type 0
AreReached scope entries deletes c docs = (s : Segment) → HoldsSegment entries c s → (doc : ℕ) → is_among docs doc ≡ is_reached scope deletes s.tokens doc

-- the documents that a delete reaches, of those that have its term
abbrev pub reached_of : Scope → DeleteState → List ℕ → List ℕ
reached_of Committed d docs = docs
reached_of (Pending base) d docs = filter (λ (doc : ℕ). nat_lt doc (d.num_pending - base)) docs

-- the documents of an open segment that a delete reaches, or the first corrupt part
abbrev pub docs_of_delete : Scope → OpenIndexState → DeleteState → Result (List ℕ) Part
docs_of_delete scope index d = do
  es ← docs_of_term Basic index d.term
  Ok (reached_of scope d (docs_of es))

-- the documents of an open segment that deletes reach, one delete after the other, or the first corrupt part
abbrev pub docs_reached : Scope → OpenIndexState → List DeleteState → Result (List ℕ) Part
docs_reached scope index [] = Ok []
docs_reached scope index (d ∷ ds) = do
  first ← docs_of_delete scope index d
  others ← docs_reached scope index ds
  Ok (first ++ others)

-- the documents that deletes reach in the files of a segment, or the first corrupt part
abbrev pub docs_in_files : Scope → List SchemaEntry → List DeleteState → SegmentContents → Result (List ℕ) Part
docs_in_files scope entries deletes c = do
  index ← index_of_files c.terms c.postings c.positions c.fieldnorms entries
  docs_reached scope index deletes

-- These documents of a committed segment are deleted; it has counts, unless there are none.
pub record AreDeletedOf (entries : List SchemaEntry) (deletes : List DeleteState) (c : SegmentContents) (docs : List ℕ) : Type 0 where
  pub docs_are : docs_in_files Committed entries deletes c ≡ Ok docs
  pub counted : (docs ≡ []) ⊎ IsSome c.counts
  pub reached : AreReached Committed entries deletes c docs

-- These documents of segments that were written one after the other are deleted, given how many documents are in earlier ones.
abbrev pub ArePendingDeleted : List SchemaEntry → List DeleteState → ℕ → List SegmentContents → List (List ℕ) → Type 0
ArePendingDeleted entries deletes base [] [] = ⊤
ArePendingDeleted entries deletes base [] (docs ∷ deleted) = ⊥
ArePendingDeleted entries deletes base (c ∷ cs) [] = ⊥
ArePendingDeleted entries deletes base (c ∷ cs) (docs ∷ deleted) = AreReached (Pending base) entries deletes c docs × ArePendingDeleted entries deletes (base + length c.alive) cs deleted

-- a segment, after some of its documents were deleted
abbrev pub left_of : List ℕ → Segment → Segment
left_of docs s = record { alive = without docs s.alive; tokens = s.tokens }
