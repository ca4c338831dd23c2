use Rattle.std.proofs.Common.{◌≡◌, ◌-◌}
use Rattle.ii_base.specs.declared.doc_id.TheConstants.{TERMINATED}
use Rattle.ii_scorer.specs.QueryScorers.{PartsAreBounded, bound_by_parts, depth_of, lists_by_parts, score_by_parts}
use Rattle.ii_scorer.proofs.RunLemmas.{ReadsUpTo, SkipsTo}
use Rattle.ii_scorer.proofs.query_scorer.skip_runs.Given as goal

abbrev pub decreases-loop-doc : goal.decreases-loop-doc
decreases-loop-doc g l = TERMINATED - l.doc

abbrev pub invariant-loop-doc : goal.invariant-loop-doc
invariant-loop-doc g l = record {
  skips : SkipsTo l.target l.least (score_by_parts g.T.Scorer.state l.fn.parts) (score_by_parts g.T.Scorer.state l.parts) l.doc;
  depth : depth_of l.parts ≡ depth_of l.fn.parts;
  bounds : bound_by_parts g.T.Scorer.state l.most l.parts ≡ bound_by_parts g.T.Scorer.state l.most l.fn.parts;
  work : ReadsUpTo l.target l.least l.doc (bound_by_parts g.T.Scorer.state l.most l.fn.parts) (lists_by_parts g.T.Scorer.state l.fn.parts) (lists_by_parts g.T.Scorer.state l.parts);
  bounded : PartsAreBounded g.T.Scorer.state l.most l.parts;
}
