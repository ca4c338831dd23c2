-- What an option keeps of an entry.
use Rattle.std.specs.Prelude.{if◌then◌else◌, []}
use Rattle.ii_base.specs.declared.schema.index_record_option.IndexRecordOption.{IndexRecordOption}
use Rattle.ii_base.specs.Options.{has_freq, has_positions}
use Rattle.ii_base.specs.Entries.{Entry}

-- an entry reduced to what an option keeps: else term frequency 1 and no positions
abbrev pub cut_entry : IndexRecordOption → Entry → Entry
cut_entry option e = record {
  doc = e.doc;
  term_freq = if has_freq option then e.term_freq else 1;
  positions = if has_positions option then e.positions else [];
}
