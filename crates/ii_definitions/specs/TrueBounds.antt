-- What the bounds of blocks in the files of an index say.
use Rattle.std.specs.Prelude.{◌≡◌, ℕ, List, Some, Ok}
use Rattle.ii_io.specs.Composite.{Body, body_of, composite}
use Rattle.ii_io.specs.Numbers.{number_at}
use Rattle.ii_base.specs.declared.schema.index_record_option.IndexRecordOption.{IndexRecordOption}
use Rattle.ii_fieldnorm.specs.Readers.{Norms, norms_of_ids}
use Rattle.ii_layout.specs.WrittenBounds.{HasTrueBounds}
use Rattle.ii_termstore.specs.declared.term_info.TermInfo.{TermInfo}
use Rattle.ii_termdict.specs.Dictionary.{TermEntry, dictionary, info_under}
use Rattle.ii_definitions.specs.Files.{bytes_in}

-- Each term of a field has true bounds.
pub record HasTrueTerms (option : IndexRecordOption) (norms : Norms) (terms postings : List ℕ) : Type 0 where
  pub each : (entries : List TermEntry) (counted : ℕ × List ℕ) (key : List ℕ) (info : TermInfo) → dictionary terms ≡ Ok entries → number_at 8 postings ≡ Some counted → info_under key entries ≡ Some info
      → HasTrueBounds norms option info.doc_freq (bytes_in counted.1 info.postings_range)

-- Each term of a field with norms has true bounds, by the bodies of the files.
pub record HaveTrueBodies (option : ℕ → IndexRecordOption) (terms postings norms : List Body) : Type 0 where
  pub fields : (field : ℕ) (t p ids : List ℕ) → body_of field terms ≡ Some t → body_of field postings ≡ Some p → body_of field norms ≡ Some ids → HasTrueTerms (option field) (norms_of_ids ids) t p

-- The files of an index have true bounds: a full block's least norm id, by the file of norms, and its greatest count.
pub record HaveTrueBounds (option : ℕ → IndexRecordOption) (terms postings fieldnorms : List ℕ) : Type 0 where
  pub bodies : (term_bodies postings_bodies norm_bodies : List Body) → composite terms ≡ Some term_bodies → composite postings ≡ Some postings_bodies → composite fieldnorms ≡ Some norm_bodies
      → HaveTrueBodies option term_bodies postings_bodies norm_bodies
