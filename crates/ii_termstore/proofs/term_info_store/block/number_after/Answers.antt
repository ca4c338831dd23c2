use Rattle.ii_termstore.proofs.BlockLemmas.{no_bits}
use Rattle.ii_termstore.proofs.term_info_store.block.number_after.Goals as goal

pub returns-then-width-eq0-clause-value : goal.returns-then-width-eq0-clause-value
returns-then-width-eq0-clause-value c = no_bits _ c.args.place c.args.width c.if-width-eq0.true
