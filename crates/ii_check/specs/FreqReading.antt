-- Whether the term frequencies of a term are read.
use Rattle.std.specs.Prelude.{ℕ, Bool, false, if◌then◌else◌, List, Result, Ok}
use Rattle.ii_io.specs.declared.faults.Part.{Part}
use Rattle.ii_io.specs.Parts.{◌>>=◌}
use Rattle.ii_base.specs.declared.schema.index_record_option.IndexRecordOption.{IndexRecordOption}
use Rattle.ii_base.specs.Options.{has_freq}
use Rattle.ii_layout.specs.Frequencies.{has_freqs}
use Rattle.ii_layout.specs.Postings.{Postings, postings}
use Rattle.ii_check.specs.declared.freq_reading_option.FreqReadingOption.{FreqReadingOption}
use Rattle.ii_check.specs.declared.freq_reading_option.FreqReadingOption.TheVariants.{NoFreq, SkipFreq, ReadFreq}

-- by whether entries have term frequencies, these are requested, and the term has any
abbrev pub reading_by : Bool → Bool → Bool → FreqReadingOption
reading_by recorded requested there = if recorded then (if requested then (if there then ReadFreq else NoFreq) else SkipFreq) else NoFreq

-- what is done with the term frequencies of postings
abbrev pub freq_reading_of : IndexRecordOption → Postings → FreqReadingOption
freq_reading_of requested p = reading_by (has_freq p.skip.skip_info) (has_freq requested) (has_freqs p.skip p.after)

-- what is done with the term frequencies of a term, by its bytes
abbrev pub freq_reading : IndexRecordOption → IndexRecordOption → ℕ → List ℕ → Result FreqReadingOption Part
freq_reading recorded requested doc_freq bytes = do
  p ← postings recorded requested doc_freq bytes
  Ok (freq_reading_of requested p)

-- what is done with the term frequencies of a term in no documents, which has none
abbrev pub reading_of_none : IndexRecordOption → IndexRecordOption → FreqReadingOption
reading_of_none recorded requested = reading_by (has_freq recorded) (has_freq requested) false
