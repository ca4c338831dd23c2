use Rattle.std.proofs.Common.{ap, refl}
use Rattle.ii_base.specs.declared.doc_id.TheConstants.{TERMINATED}
use Rattle.ii_scorer.specs.QueryScorers.{bound_by_parts, depth_of, lists_by_parts, score_by_parts}
use Rattle.ii_scorer.specs.Scorers.{bounds_below}
use Rattle.ii_scorer.proofs.BoundLemmas.{row_reached, row_reads}
use Rattle.ii_scorer.proofs.PartsLemmas.{row_alike, row_next, view_bounded}
use Rattle.ii_scorer.proofs.query_scorer.QueryScorerScorer.skip_to_score.Goals as goal

pub returns-clause-next : goal.returns-clause-next
returns-clause-next g c = rw (← c.self.view_is) (row_next c.args.target c.args.least c.skip_to.result (score_by_parts g.T.Scorer.state c.self.inside.parts) c.skip_to.ensures.next)

pub returns-clause-kept : goal.returns-clause-kept
returns-clause-kept g c = rw (← c.self.view_is)
    (record {
      alike = row_alike c.skip_to.result (score_by_parts g.T.Scorer.state c.self.inside.parts) (score_by_parts g.T.Scorer.state c.skip_to.new.parts) c.skip_to.ensures.alike;
      most = refl;
      depth = c.skip_to.ensures.depth;
      bounds = ap (bounds_below TERMINATED) c.skip_to.ensures.bounds;
      bounded = λ b. view_bounded g.T.Scorer.state c.self.inside.most (depth_of c.skip_to.new.parts) (bounds_below TERMINATED (bound_by_parts g.T.Scorer.state c.self.inside.most c.skip_to.new.parts)) (lists_by_parts g.T.Scorer.state c.skip_to.new.parts) c.skip_to.new.parts b.fits c.skip_to.ensures.bounded;
    })

pub returns-clause-reached : goal.returns-clause-reached
returns-clause-reached g c = rw (← c.self.view_is) (row_reached c.skip_to.result c.args.least (bound_by_parts g.T.Scorer.state c.self.inside.most c.self.inside.parts) (lists_by_parts g.T.Scorer.state c.self.inside.parts) c.skip_to.ensures.reached)

pub returns-clause-work : goal.returns-clause-work
returns-clause-work g c = rw (← c.self.view_is)
    (row_reads c.args.target c.args.least c.skip_to.result (bound_by_parts g.T.Scorer.state c.self.inside.most c.self.inside.parts) (lists_by_parts g.T.Scorer.state c.self.inside.parts) (lists_by_parts g.T.Scorer.state c.skip_to.new.parts) c.skip_to.ensures.work)
