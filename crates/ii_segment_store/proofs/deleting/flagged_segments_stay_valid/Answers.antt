use Rattle.ii_segment_store.proofs.OrderLaws.{flagged_is_segment}
use Rattle.ii_segment_store.proofs.deleting.flagged_segments_stay_valid.Goals as goal

pub returns : goal.returns
returns c = flagged_is_segment
