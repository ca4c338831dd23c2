use Rattle.std.proofs.Common.{[]}
use Rattle.ii_damage.proofs.TotalsLemmas.{always}
use Rattle.ii_damage.proofs.checking.walked_damages.Goals as goal

pub count_damages-requires : goal.count_damages-requires
count_damages-requires c = c.in_ok-found.ensures.walked c.args.files.now.num_docs [] c.requires

pub returns-then-is_empty-clause-walked : goal.returns-then-is_empty-clause-walked
returns-then-is_empty-clause-walked c = always c.count_damages.result (c.in_ok-found.ensures.walked c.args.files.now.num_docs [] c.requires)

pub returns-clause-walked : goal.returns-clause-walked
returns-clause-walked c = c.in_ok-found.ensures.walked c.args.files.now.num_docs [] c.requires
