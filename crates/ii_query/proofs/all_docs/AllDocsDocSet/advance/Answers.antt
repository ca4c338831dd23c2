use Rattle.ii_query.proofs.AllLemmas.{all_end, all_next}
use Rattle.ii_query.proofs.all_docs.AllDocsDocSet.advance.Goals as goal
use Rattle.ii_query.proofs.all_docs.AllDocsDocSet.advance.Goals.{then-self, else-self}

pub returns-clause-rest : goal.returns-clause-rest
returns-clause-rest c = elim c.if-self.branch [
  | then-self w ↦ rw (w.self-is) (all_next c.args.self.now.next c.args.self.now.end w.if-self.true)
  | else-self w ↦ rw (w.self-is) (all_end c.args.self.now.next c.args.self.now.end w.if-self.false)
]
