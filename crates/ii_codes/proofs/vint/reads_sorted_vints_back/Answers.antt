use Rattle.ii_codes.proofs.SortedVintLemmas.{reads_back}
use Rattle.ii_codes.proofs.vint.reads_sorted_vints_back.Goals as goal

pub returns : goal.returns
returns c = reads_back
