-- An index, merged from segments.
use Rattle.std.specs.Prelude.{◌≡◌, ℕ, ◌+◌, ◌<◌, ◌≤◌, ◌-◌, ◌^◌, Bool, false, IfSome, List, [], ◌∷◌, filter, length, map, nat_lt, ◌==◌, slice_get, slice_index, OnOk, Option, Result, Some, unwrap_or}
use Rattle.std.specs.List.{AllByRecursion, AllZip, list_any, range_with_len}
use Rattle.std.specs.Option.{option_map}
use Rattle.ii_io.specs.Composite.{Body, body_of}
use Rattle.ii_io.specs.CompositeWrite.{CompositeWriteState, HasBodies}
use Rattle.ii_io.specs.declared.composite_file.place.BodyStart.{BodyStart}
use Rattle.ii_io.specs.declared.faults.Fault.{Fault}
use Rattle.ii_alive.specs.Alive.{num_living}
use Rattle.ii_fieldnorm.specs.Readers.{Norms, norms_of_ids}
use Rattle.ii_base.specs.Schema.{SchemaEntry}
use Rattle.ii_definitions.specs.Fields.{option_of}
use Rattle.ii_definitions.specs.Files.{HoldsField}
use Rattle.ii_definitions.specs.Postings.{field_count}
use Rattle.ii_definitions.specs.Tokens.{IndexToken}
use Rattle.ii_definitions.specs.TrueBounds.{HasTrueTerms}
use Rattle.ii_reader.specs.InvertedIndexReader.{reader_of_none}
use Rattle.ii_reader.specs.OpenIndex.{IndexHolds, OpenIndexState}
use Rattle.ii_base.specs.declared.schema.index_record_option.IndexRecordOption.TheVariants.{Basic}
use Rattle.ii_base.specs.declared.doc_id.TheConstants.{TERMINATED}
use Rattle.ii_recorder.specs.IndexBodies.{AllGrow, CountsFailures, IndexBodiesState}
use Rattle.ii_recorder.specs.IndexSerializer.{IndexSerializerState}
use Rattle.ii_recorder.specs.Terms.{FieldBodies, field_bodies}
use Rattle.ii_segments.specs.Segments.{AreSegmentTokens, Segment}
use Rattle.ii_merger.specs.MergeSources.{FieldSourceState}
use Rattle.ii_merger.specs.MergedField.{AreMergedKeys, IsMergedFieldFault, merged_terms}
use Rattle.ii_merger.specs.declared.merge_source.MergeSource.{MergeSource}

-- a segment: its open files, and which documents are alive
pub record MergeSourceState : Type 0 where
  pub index : OpenIndexState
  pub alive : List Bool

-- the model of a borrowed segment
abbrev pub opened_segment : MergeSource → MergeSourceState
opened_segment s = record { index = s.index.now; alive = s.alive.now }

-- a field of a segment
abbrev pub field_of_segment : ℕ → MergeSourceState → FieldSourceState
field_of_segment field s = record { reader = unwrap_or (slice_get s.index.readers field) (reader_of_none Basic); alive = s.alive }

-- the fields of segments
abbrev pub field_sources : ℕ → List MergeSourceState → List FieldSourceState
field_sources field ss = map (field_of_segment field) ss

-- the number of living documents of segments
abbrev pub all_living : List MergeSourceState → ℕ
all_living [] = 0
all_living (s ∷ ss) = num_living s.alive + all_living ss

-- the norms of a field, if a file of norms has some
abbrev pub norms_of_field : List Body → ℕ → Option Norms
norms_of_field bodies field = option_map norms_of_ids (body_of field bodies)

-- Each field that has norms has one for each document.
abbrev pub AreNormsOf : ℕ → List Body → Type 0
AreNormsOf num_docs bodies = (field : ℕ) → IfSome (body_of field bodies) (λ ids. length ids ≡ num_docs)

-- Only fields below n were written to a file.
pub record StartsBelow (n : ℕ) (c : CompositeWriteState) : Type 0 where
  pub below : AllByRecursion (λ (s : BodyStart). s.field < n) c.starts
  pub few : length c.starts ≤ n

-- Only fields below n were written to the three files.
pub record FieldsBelow (n : ℕ) (b : IndexBodiesState) : Type 0 where
  pub terms : StartsBelow n b.terms
  pub postings : StartsBelow n b.postings
  pub positions : StartsBelow n b.positions

-- An open segment holds the tokens of a segment.
pub record MergeSourceHolds (entries : List SchemaEntry) (opened : MergeSourceState) (s : Segment) : Type 0 where
  pub index : IndexHolds entries (length s.alive) opened.index s.tokens
  pub alive : opened.alive ≡ s.alive
  pub tokens : AreSegmentTokens entries s

-- Open segments hold the tokens of segments, one by one.
abbrev pub MergeSourcesHold : List SchemaEntry → List MergeSourceState → List Segment → Type 0
MergeSourcesHold entries opened ss = AllZip (MergeSourceHolds entries) opened ss

-- the three bodies of a field
pub record MergedPart : Type 0 where
  pub field : ℕ
  pub bodies : FieldBodies

-- the body of a field in the file of terms
abbrev pub terms_body_of : MergedPart → Body
terms_body_of p = record { field = p.field; bytes = p.bodies.terms }

-- the body of a field in the file of postings
abbrev pub postings_body_of : MergedPart → Body
postings_body_of p = record { field = p.field; bytes = p.bodies.postings }

-- the body of a field in the file of positions
abbrev pub positions_body_of : MergedPart → Body
positions_body_of p = record { field = p.field; bytes = p.bodies.positions }

-- whether a field has bodies
abbrev pub has_part : ℕ → List MergedPart → Bool
has_part field parts = list_any (λ (p : MergedPart). p.field == field) parts

-- what is merged: the fields of the schema, their numbers of tokens, the norms of the living documents, and the segments
pub record Merging : Type 0 where
  pub entries : List SchemaEntry
  pub num_tokens : List ℕ
  pub norms : List Body
  pub segments : List MergeSourceState

-- Segments may be merged: they have the fields of the schema, few documents, and norms for each.
pub record MayBeMerged (entries : List SchemaEntry) (bodies : List Body) (ss : List MergeSourceState) : Type 0 where
  pub many : length entries < 2 ^ 32 - 1
  pub fields : AllByRecursion (λ (s : MergeSourceState). length s.index.readers ≡ length entries) ss
  pub few : all_living ss ≤ TERMINATED
  pub norms : AreNormsOf (all_living ss) bodies

-- How a call that writes complete fields ends: entries stay, a writer's failure counts once, and output is kept.
pub record EndsFields (old new : IndexSerializerState) (result : Result (Unit {0}) Fault) : Type 0 where
  pub entries : new.entries ≡ old.entries
  pub unclosed : OnOk result (new.closed ≡ false)
  pub failures : CountsFailures old.bodies new.bodies result
  pub grow : AllGrow old.bodies new.bodies

-- the fields below n that have tokens
abbrev pub fields_with_tokens : Merging → ℕ → List ℕ
fields_with_tokens m n = filter (λ (field : ℕ). nat_lt 0 (slice_index m.num_tokens field)) (range_with_len 0 n)

-- The bodies of a field are those of the terms that its living documents have.
pub record IsMergedPart (m : Merging) (p : MergedPart) : Type 0 where
  pub entry : SchemaEntry
  pub is : slice_get m.entries p.field ≡ Some entry
  pub keys : List (List ℕ)
  pub are : AreMergedKeys (field_sources p.field m.segments) keys
  pub bodies : p.bodies ≡ field_bodies entry.option (slice_index m.num_tokens p.field) (merged_terms (norms_of_field m.norms p.field) entry (field_sources p.field m.segments) keys)

-- The fields below n that have tokens, in ascending order, each with its bodies.
pub record AreMergedParts (m : Merging) (n : ℕ) (parts : List MergedPart) : Type 0 where
  pub fields : map (λ (p : MergedPart). p.field) parts ≡ fields_with_tokens m n
  pub are : AllByRecursion (IsMergedPart m) parts

-- Exactly these parts were written to the three files.
pub record HasParts (initial now : IndexBodiesState) (parts : List MergedPart) : Type 0 where
  pub terms : HasBodies initial.terms.writer now.terms (map terms_body_of parts)
  pub postings : HasBodies initial.postings.writer now.postings (map postings_body_of parts)
  pub positions : HasBodies initial.positions.writer now.positions (map positions_body_of parts)

-- The fields below n were written, whatever the segments hold.
pub record WroteFieldsBelow (m : Merging) (initial now : IndexBodiesState) (n : ℕ) : Type 0 where
  pub parts : List MergedPart
  pub are : AreMergedParts m n parts
  pub has : HasParts initial now parts

-- Why the fields of segments can't be written: one of them can't be, after those before it.
pub record IsFieldsFault (m : Merging) (initial : IndexBodiesState) (fault : Fault) : Type 0 where
  pub field : ℕ
  pub some : 0 < slice_index m.num_tokens field
  pub before : IndexBodiesState
  pub wrote : WroteFieldsBelow m initial before field
  pub cause : IsMergedFieldFault m.entries field (slice_index m.num_tokens field) (norms_of_field m.norms field) (field_sources field m.segments) before fault

-- The bodies of a field have true bounds, by a file of norms that has some for it.
pub record HasTruePart (entries : List SchemaEntry) (norms : List Body) (p : MergedPart) : Type 0 where
  pub each : (own : Norms) → norms_of_field norms p.field ≡ Some own → HasTrueTerms (option_of entries p.field) own p.bodies.terms p.bodies.postings

-- Of the fields below n exactly those with tokens were written, and hold these, with true bounds.
pub record HasMergedFields (entries : List SchemaEntry) (initial now : IndexBodiesState) (n : ℕ) (norms : List Body) (ts : List IndexToken) : Type 0 where
  pub parts : List MergedPart
  pub below : AllByRecursion (λ (p : MergedPart). p.field < n) parts
  pub terms : HasBodies initial.terms.writer now.terms (map terms_body_of parts)
  pub postings : HasBodies initial.postings.writer now.postings (map postings_body_of parts)
  pub positions : HasBodies initial.positions.writer now.positions (map positions_body_of parts)
  pub present : (field : ℕ) → field < n → has_part field parts ≡ nat_lt 0 (field_count field ts)
  pub holds : AllByRecursion (λ (p : MergedPart). HoldsField (option_of entries p.field) p.field p.bodies.terms p.bodies.postings p.bodies.positions ts) parts
  pub bounds : AllByRecursion (HasTruePart entries norms) parts
