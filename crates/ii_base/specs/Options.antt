-- What an index keeps of a term in a document.
use Rattle.std.specs.Prelude.{Bool, true, false}
use Rattle.ii_base.specs.declared.schema.index_record_option.IndexRecordOption.{IndexRecordOption}
use Rattle.ii_base.specs.declared.schema.index_record_option.IndexRecordOption.TheVariants.{Basic, WithFreqs, WithFreqsAndPositions}

-- whether an option keeps term frequencies
abbrev pub has_freq : IndexRecordOption → Bool
has_freq Basic = false
has_freq WithFreqs = true
has_freq WithFreqsAndPositions = true

-- whether an option keeps positions
abbrev pub has_positions : IndexRecordOption → Bool
has_positions Basic = false
has_positions WithFreqs = false
has_positions WithFreqsAndPositions = true

-- the lesser of two options
abbrev pub downgrade : IndexRecordOption → IndexRecordOption → IndexRecordOption
downgrade Basic other = Basic
downgrade WithFreqs Basic = Basic
downgrade WithFreqs WithFreqs = WithFreqs
downgrade WithFreqs WithFreqsAndPositions = WithFreqs
downgrade WithFreqsAndPositions other = other
