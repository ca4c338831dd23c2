use Rattle.ii_query.proofs.SetLemmas.{set_in}
use Rattle.ii_query.proofs.bit_set.set_bit.Goals as goal

pub returns-clause-added : goal.returns-clause-added
returns-clause-added c = λ d. set_in c.args.words.now c.args.doc d c.requires
