use Rattle.ii_codes.proofs.SortedVintLemmas.{IsReadingOn}
use Rattle.ii_codes.proofs.vint.try_uncompress_unsorted_until_end.Given as goal

abbrev pub invariant-loop-k : goal.invariant-loop-k
invariant-loop-k l = IsReadingOn l.compressed_data l.output l.k l.used
