use Rattle.ii_store.proofs.MetaLaws.{index_of_meta, slot_of_meta}
use Rattle.ii_store.proofs.meta.meta_is_read_back.Goals as goal

pub returns-clause-slot : goal.returns-clause-slot
returns-clause-slot c = slot_of_meta

pub returns-clause-index : goal.returns-clause-index
returns-clause-index c = index_of_meta
