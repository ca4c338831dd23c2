use Rattle.ii_store.proofs.ListLaws.{earlier_again, meta_again}
use Rattle.ii_store.proofs.index_meta.list_is_read_back.Goals as goal

pub returns-clause-written : goal.returns-clause-written
returns-clause-written c = meta_again

pub returns-clause-earlier : goal.returns-clause-earlier
returns-clause-earlier c = earlier_again
