use Rattle.ii_codes.proofs.SortedVintLemmas.{IsReadingSums}
use Rattle.ii_codes.proofs.vint.try_uncompress_sorted.Given as goal

abbrev pub invariant-loop-value : goal.invariant-loop-value
invariant-loop-value l = IsReadingSums l.offset l.last l.compressed_data l.output l.value-index l.used
