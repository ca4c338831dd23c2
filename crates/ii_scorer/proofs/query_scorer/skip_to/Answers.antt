use Rattle.std.proofs.Common.{ℕ}
use Rattle.ii_scorer.specs.Scorers.{MayScore, doc_bound}
use Rattle.ii_scorer.proofs.BlockListLaws.{all_none}
use Rattle.ii_scorer.proofs.PartsLemmas.{none_reaches}
use Rattle.ii_scorer.proofs.query_scorer.skip_to.Goals as goal

pub returns-then-least-most-clause-next : goal.returns-then-least-most-clause-next
returns-then-least-most-clause-next g c = none_reaches g.T.Scorer.state c.args.most c.args.target c.args.least c.args.parts.now c.requires.up_to c.if-least-most.true c.requires.bounded

pub returns-then-least-most-clause-work : goal.returns-then-least-most-clause-work
returns-then-least-most-clause-work g c = rw c.in-One.is (all_none (MayScore c.args.target c.args.least 2147483647 (λ (doc : ℕ). doc_bound (g.T.Scorer.state c.in-One.scorer) doc)) (g.T.Scorer.state c.in-One.scorer).lists)

pub returns-clause-work : goal.returns-clause-work
returns-clause-work g c = rw c.in-One.is c.skip_to_score.ensures.work
