use Rattle.ii_doc_store.proofs.DamageLaws.{names_damaged_blocks}
use Rattle.ii_doc_store.proofs.round_trip.names_damaged_blocks.Goals as goal

pub returns : goal.returns
returns c = names_damaged_blocks
