use Rattle.std.proofs.Common.{◌≡◌}
use Rattle.ii_reader.proofs.DamageLemmas.{AreChecked}
use Rattle.ii_reader.proofs.index_files.first_damaged_field.Given as goal

abbrev pub invariant-loop-reader : goal.invariant-loop-reader
invariant-loop-reader l = record {
  place : l.field_id ≡ l.reader-index;
  checked : AreChecked l.readers l.reader-index;
}
