-- Fields of segments that hold the tokens of the segments.
use Rattle.std.specs.Prelude.{◌≡◌, ℕ, List, Option, Some}
use Rattle.std.specs.List.{AllZip}
use Rattle.ii_base.specs.Schema.{SchemaEntry}
use Rattle.ii_definitions.specs.Files.{HoldsField}
use Rattle.ii_definitions.specs.Fields.{option_of}
use Rattle.ii_definitions.specs.Tokens.{IndexToken}
use Rattle.ii_definitions.specs.TrueBounds.{HasTrueTerms}
use Rattle.ii_fieldnorm.specs.Readers.{Norms}
use Rattle.ii_reader.specs.OpenIndex.{FieldReaderHolds}
use Rattle.ii_recorder.specs.IndexBodies.{AddsBodies, IndexBodiesState}
use Rattle.ii_recorder.specs.Terms.{FieldBodies}
use Rattle.ii_segments.specs.Segments.{AreSegmentTokens, Segment}
use Rattle.ii_merger.specs.MergeSources.{FieldSourceState}

-- A source holds the tokens of a segment in a field, and knows which of its documents are alive.
pub record SourceHolds (entries : List SchemaEntry) (field : ℕ) (source : FieldSourceState) (s : Segment) : Type 0 where
  pub reader : FieldReaderHolds entries field source.reader s.tokens
  pub alive : source.alive ≡ s.alive
  pub tokens : AreSegmentTokens entries s

-- Sources hold the tokens of segments, one by one.
abbrev pub SourcesHold : List SchemaEntry → ℕ → List FieldSourceState → List Segment → Type 0
SourcesHold entries field sources ss = AllZip (SourceHolds entries field) sources ss

-- A field was written: its bodies hold its tokens, and have true bounds if it has norms.
pub record WroteField (entries : List SchemaEntry) (old new : IndexBodiesState) (field : ℕ) (norms : Option Norms) (ts : List IndexToken) : Type 0 where
  pub bodies : FieldBodies
  pub adds : AddsBodies old new field bodies
  pub holds : HoldsField (option_of entries field) field bodies.terms bodies.postings bodies.positions ts
  pub bounds : (own : Norms) → norms ≡ Some own → HasTrueTerms (option_of entries field) own bodies.terms bodies.postings
