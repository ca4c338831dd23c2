use Rattle.std.proofs.Common.{rules}
use Rattle.ii_base.specs.declared.doc_id.TheConstants.{TERMINATED}
use Rattle.ii_scorer.specs.QueryScorers.{bound_by_parts, depth_of, lists_by_parts}
use Rattle.ii_scorer.specs.Scorers.{bounds_below}
use Rattle.ii_scorer.proofs.PartsLemmas.{view_bounded}
use Rattle.ii_scorer.proofs.query_scorer.QueryScorer.bound.Goals as goal

pub returns-clause-bounded : goal.returns-clause-bounded
returns-clause-bounded g c = rw (← c.self.view_is) (view_bounded g.T.Scorer.state c.self.inside.most (depth_of c.self.inside.parts) (bounds_below TERMINATED (bound_by_parts g.T.Scorer.state c.self.inside.most c.self.inside.parts)) (lists_by_parts g.T.Scorer.state c.self.inside.parts) c.self.inside.parts (search rules) c.self.invariant.0)
