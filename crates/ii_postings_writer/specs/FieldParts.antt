-- The fields of an index as they are written, in order.
use Rattle.std.specs.Prelude.{◌≡◌, ℕ, ◌<◌, ◌^◌, List, [], ◌∷◌, length, map, MatchOption, Option, ⊤, slice_get, slice_index_or, unwrap_or}
use Rattle.std.specs.List.{AllByRecursion, flat_map, range_with_len}
use Rattle.std.specs.Option.{option_map}
use Rattle.ii_io.specs.Composite.{Body, body_of}
use Rattle.ii_io.specs.CompositeWrite.{HasBodies}
use Rattle.ii_base.specs.Schema.{SchemaEntry}
use Rattle.ii_definitions.specs.Fields.{option_of}
use Rattle.ii_fieldnorm.specs.Readers.{Norms}
use Rattle.ii_recorder.specs.HeldTerms.{HoldsTerms}
use Rattle.ii_recorder.specs.IndexBodies.{IndexBodiesState}
use Rattle.ii_recorder.specs.Terms.{FieldBodies, WrittenTerm, field_bodies}
use Rattle.ii_termdict.specs.ReadBack.{AreAscending}
use Rattle.ii_recorder.specs.IndexSerializer.{IndexSerializerState}
use Rattle.ii_recorder.specs.Recorded.{RecorderState}
use Rattle.ii_postings_writer.specs.IndexingContext.{TermIndex, recorder_of}
use Rattle.ii_postings_writer.specs.IndexingTerm.{AreTermBytes}
use Rattle.ii_postings_writer.specs.PostingsWriter.{PostingsWriterState}
use Rattle.ii_postings_writer.specs.SortedTerms.{IsTold, SortedTerm, norms_in, terms_in, written_term}
use Rattle.ii_postings_writer.specs.TermLimits.{AreWithin}

-- A field that is written: its number of tokens, its norms, and its terms.
pub record FieldPart : Type 0 where
  pub field : ℕ
  pub tokens : ℕ
  pub norms : Option Norms
  pub terms : List SortedTerm

-- the terms of a field, as they are written
abbrev pub written_terms : List SchemaEntry → FieldPart → List WrittenTerm
written_terms entries p = map (written_term p.norms (option_of entries p.field)) p.terms

-- the three bodies of a field
abbrev pub bodies_of : List SchemaEntry → FieldPart → FieldBodies
bodies_of entries p = field_bodies (option_of entries p.field) p.tokens (written_terms entries p)

-- the body of a field in the file of terms
abbrev pub terms_body : List SchemaEntry → FieldPart → Body
terms_body entries p = record { field = p.field; bytes = (bodies_of entries p).terms }

-- the body of a field in the file of postings
abbrev pub postings_body : List SchemaEntry → FieldPart → Body
postings_body entries p = record { field = p.field; bytes = (bodies_of entries p).postings }

-- the body of a field in the file of positions
abbrev pub positions_of_part : List SchemaEntry → FieldPart → Body
positions_of_part entries p = record { field = p.field; bytes = (bodies_of entries p).positions }

-- The bodies of a field hold its terms, which exceed no limit and for which `IsTold` holds.
pub record HoldsPart (entries : List SchemaEntry) (p : FieldPart) : Type 0 where
  pub terms : HoldsTerms (option_of entries p.field) p.tokens (bodies_of entries p) (written_terms entries p)
  pub told : AllByRecursion (IsTold (option_of entries p.field)) p.terms
  pub within : AreWithin (option_of entries p.field) (written_terms entries p)

-- Exactly these fields were written to the three files since `initial`.
pub record HasFields (entries : List SchemaEntry) (initial now : IndexBodiesState) (fs : List FieldPart) : Type 0 where
  pub terms : HasBodies initial.terms.writer now.terms (map (terms_body entries) fs)
  pub postings : HasBodies initial.postings.writer now.postings (map (postings_body entries) fs)
  pub positions : HasBodies initial.positions.writer now.positions (map (positions_of_part entries) fs)
  pub held : AllByRecursion (HoldsPart entries) fs

-- the part of a field, or none if the field has no terms
abbrev pub parts_of : List SchemaEntry → ℕ → ℕ → Option Norms → List SortedTerm → List FieldPart
parts_of entries field tokens norms [] = []
parts_of entries field tokens norms (t ∷ ts) = record { field = field; tokens = tokens; norms = norms; terms = t ∷ ts } ∷ []

-- the number of tokens of a field's writer
abbrev pub tokens_in : List PostingsWriterState → ℕ → ℕ
tokens_in writers field = unwrap_or (option_map (λ (w : PostingsWriterState). w.total_num_tokens) (slice_get writers field)) 0

-- the first `n` fields as they are written
abbrev pub first_parts : List SchemaEntry → List PostingsWriterState → List Body → List (List SortedTerm) → ℕ → List FieldPart
first_parts entries writers readers terms n = flat_map (λ (field : ℕ). parts_of entries field (tokens_in writers field) (norms_in readers field) (slice_index_or terms field [])) (range_with_len 0 n)

-- Each field has fewer than 2 ^ 32 norms.
abbrev pub AreShortNorms : List Body → Type 0
AreShortNorms norms = (field : ℕ) → MatchOption (body_of field norms) ⊤ (λ ids. length ids < 2 ^ 32)

-- The terms of a context were written in the order of `sorted`, which ascends.
pub record WroteTerms (old new : IndexSerializerState) (writers : List PostingsWriterState) (readers : List Body) (terms sorted : TermIndex) : Type 0 where
  pub same : (bytes : List ℕ) → recorder_of sorted bytes ≡ recorder_of terms bytes
  pub ascending : AreAscending (map (λ (t : List ℕ × RecorderState). t.0) sorted)
  pub whole : AllByRecursion AreTermBytes (map (λ (t : List ℕ × RecorderState). t.0) sorted)
  pub fields : HasFields old.entries old.bodies new.bodies (first_parts old.entries writers readers (map (λ (field : ℕ). terms_in field sorted) (range_with_len 0 (length old.entries))) (length old.entries))

-- The terms of a context were written in some ascending order.
pub record WroteContext (old new : IndexSerializerState) (writers : List PostingsWriterState) (readers : List Body) (terms : TermIndex) : Type 0 where
  pub sorted : TermIndex
  pub wrote : WroteTerms old new writers readers terms sorted
