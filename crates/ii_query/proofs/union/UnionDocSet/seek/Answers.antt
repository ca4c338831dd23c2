use Rattle.ii_query.proofs.UnionLemmas.{either_from}
use Rattle.ii_query.proofs.union.UnionDocSet.seek.Goals as goal

pub returns-clause-rest : goal.returns-clause-rest
returns-clause-rest g c = rw (c.go_on.ensures.rest, c.go_on-2.ensures.rest) (either_from c.args.target (g.A.DocSet.rest c.args.self.now.first) (g.B.DocSet.rest c.args.self.now.other))
