use Rattle.std.proofs.Common.{inl}
use Rattle.nequllpa_indexing.proofs.counting.finish_stored.Goals as goal

pub returns-in-Err-clause-fault : goal.returns-in-Err-clause-fault
returns-in-Err-clause-fault c ps stored has = inl (c.in-Err.ensures.fault ps stored has)
