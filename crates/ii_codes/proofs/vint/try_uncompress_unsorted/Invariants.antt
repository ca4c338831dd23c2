use Rattle.ii_codes.proofs.SortedVintLemmas.{IsReadingRow}
use Rattle.ii_codes.proofs.vint.try_uncompress_unsorted.Given as goal

abbrev pub invariant-loop-entry : goal.invariant-loop-entry
invariant-loop-entry l = IsReadingRow l.compressed_data l.output l.entry-index l.used
