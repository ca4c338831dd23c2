-- An option that is compared with itself.
use Rattle.std.proofs.Common.{◌≡◌, refl}
use Rattle.ii_base.specs.Options.{downgrade}
use Rattle.ii_base.specs.declared.schema.index_record_option.IndexRecordOption.{IndexRecordOption}
use Rattle.ii_base.specs.declared.schema.index_record_option.IndexRecordOption.TheVariants.{Basic, WithFreqs, WithFreqsAndPositions}

pub downgrade_same : (option : IndexRecordOption) → downgrade option option ≡ option
downgrade_same Basic = refl
downgrade_same WithFreqs = refl
downgrade_same WithFreqsAndPositions = refl
