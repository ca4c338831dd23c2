-- The open term of a field: options, norms, documents, frequencies and deltas.
use Rattle.std.specs.Prelude.{ℕ, List, Option}
use Rattle.ii_base.specs.declared.schema.index_record_option.IndexRecordOption.{IndexRecordOption}
use Rattle.ii_fieldnorm.specs.Readers.{Norms}

pub record OpenTermState : Type 0 where
  pub norms : Option Norms
  pub mode : IndexRecordOption
  pub skip_info : IndexRecordOption
  pub docs : List ℕ
  pub freqs : List ℕ
  pub deltas : List ℕ
