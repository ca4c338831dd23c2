use Rattle.ii_folder_promises.proofs.RangeLaws.{written_hold}
use Rattle.ii_folder_promises.proofs.ranges.written_segments_hold_their_index.Goals as goal

pub returns : goal.returns
returns c = λ s entries whole is. written_hold s entries whole is
