-- The bounds of blocks in an open index.
use Rattle.std.specs.Prelude.{◌≡◌, ℕ, List, Some, Ok, slice_get}
use Rattle.ii_io.specs.Composite.{body_of}
use Rattle.ii_base.specs.Schema.{SchemaEntry}
use Rattle.ii_fieldnorm.specs.Readers.{norms_of_ids}
use Rattle.ii_layout.specs.WrittenBounds.{HasTrueBounds}
use Rattle.ii_termstore.specs.declared.term_info.TermInfo.{TermInfo}
use Rattle.ii_termdict.specs.Dictionary.{info_under}
use Rattle.ii_definitions.specs.Fields.{option_of}
use Rattle.ii_definitions.specs.Files.{bytes_in}
use Rattle.ii_definitions.specs.TrueBounds.{HaveTrueBounds}
use Rattle.ii_reader.specs.InvertedIndexReader.{InvertedIndexReaderState}
use Rattle.ii_reader.specs.OpenIndex.{OpenIndexState, index_of_files}

-- Each term of a field with norms has true bounds: a full block's least norm id, and its greatest count.
pub record IndexHasTrueBounds (index : OpenIndexState) : Type 0 where
  pub each : (field : ℕ) (reader : InvertedIndexReaderState) (ids key : List ℕ) (info : TermInfo) → slice_get index.readers field ≡ Some reader → body_of field index.fieldnorms ≡ Some ids → info_under key reader.terms ≡ Some info
      → HasTrueBounds (norms_of_ids ids) reader.option info.doc_freq (bytes_in reader.postings info.postings_range)

-- The law: files with true bounds open as an index with true bounds.
abbrev pub OpensTrueBounds : Type 0
OpensTrueBounds = (entries : List SchemaEntry) (terms postings positions fieldnorms : List ℕ) (index : OpenIndexState) → HaveTrueBounds (option_of entries) terms postings fieldnorms
    → index_of_files terms postings positions fieldnorms entries ≡ Ok index → IndexHasTrueBounds index
