-- The term that the tests write from a recorder.
use Rattle.std.specs.Prelude.{[], ◌∷◌, if◌then◌else◌, None}
use Rattle.ii_base.specs.declared.schema.index_record_option.IndexRecordOption.{IndexRecordOption}
use Rattle.ii_base.specs.declared.schema.index_record_option.IndexRecordOption.TheVariants.{Basic}
use Rattle.ii_base.specs.Options.{has_freq, has_positions}
use Rattle.ii_base.specs.Entries.{docs_of}
use Rattle.ii_recorder.specs.Pushed.{pushed_deltas, pushed_freqs}
use Rattle.ii_recorder.specs.Recorded.{RecorderState, entries_of_recorder}
use Rattle.ii_recorder.specs.Terms.{WrittenTerm}

-- the term `a` with a recorder's documents
abbrev pub recorded_term : IndexRecordOption → RecorderState → WrittenTerm
recorded_term mode r = record {
  key = 97 ∷ [];
  norms = None;
  skip_info = if has_freq r.option then mode else Basic;
  docs = docs_of (entries_of_recorder r);
  freqs = pushed_freqs r.option (entries_of_recorder r);
  deltas = if has_positions mode then pushed_deltas (entries_of_recorder r) else [];
}
