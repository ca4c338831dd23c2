use Rattle.std.proofs.Common.{arith}
use Rattle.ii_termstore.proofs.term_info_store.block_meta.put_meta.Goals as goal

pub returns-clause-range : goal.returns-clause-range
returns-clause-range c = (omega arith, c.put_info.ensures.range)
