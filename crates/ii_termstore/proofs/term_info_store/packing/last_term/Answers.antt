use Rattle.std.proofs.Common.{arith}
use Rattle.ii_termstore.proofs.PackLemmas.{last_of-get_or}
use Rattle.ii_termstore.proofs.term_info_store.packing.last_term.Goals as goal

pub returns-in-len1-up : goal.returns-in-len1-up
returns-in-len1-up c = last_of-get_or c.args.first.now c.args.others.now _ (omega arith)
