use Rattle.std.proofs.Common.{arith}
use Rattle.ii_termstore.proofs.term_info.put_info.Goals as goal

pub returns-clause-range : goal.returns-clause-range
returns-clause-range c = record { doc_freq = omega arith; postings = omega arith; positions = omega arith }
