use Rattle.ii_codes.proofs.SortedVintLemmas.{reads_unsorted_back}
use Rattle.ii_codes.proofs.vint.reads_unsorted_vints_back.Goals as goal

pub returns : goal.returns
returns c = reads_unsorted_back
