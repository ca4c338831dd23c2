use Rattle.ii_doc_store.proofs.CutLaws.{cuts_into_blocks}
use Rattle.ii_doc_store.proofs.round_trip.cuts_into_blocks.Goals as goal

pub returns : goal.returns
returns c = cuts_into_blocks
