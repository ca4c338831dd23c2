use Rattle.ii_query.proofs.AllLemmas.{all_goes_to, all_stays}
use Rattle.ii_query.proofs.all_docs.AllDocsDocSet.seek.Goals as goal
use Rattle.ii_query.proofs.all_docs.AllDocsDocSet.seek.Goals.{then-self-target, else-self-target}

pub returns-clause-rest : goal.returns-clause-rest
returns-clause-rest c = elim c.if-self-target.branch [
  | then-self-target w ↦ rw (w.self-is) (all_goes_to c.args.self.now.next c.args.self.now.end c.args.target w.if-self-target.true)
  | else-self-target w ↦ rw (w.self-is) (all_stays c.args.self.now.next c.args.self.now.end c.args.target c.args.self.now.up_to w.if-self-target.false)
]
