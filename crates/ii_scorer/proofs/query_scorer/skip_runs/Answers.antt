use Rattle.std.proofs.Common.{◌≤◌, ◌∙◌, arith, inr, refl}
use Rattle.ii_base.specs.declared.doc_id.TheConstants.{TERMINATED}
use Rattle.ii_scorer.specs.QueryScorers.{bound_by_parts, lists_by_parts, score_by_parts}
use Rattle.ii_scorer.specs.Scorers.{MayScore}
use Rattle.ii_scorer.proofs.BlockListLaws.{all_none}
use Rattle.ii_scorer.proofs.RunLemmas.{parts_end, reaches_then, reads_here, reads_still, skips_end, skips_more, skips_none, skips_run}
use Rattle.ii_scorer.proofs.query_scorer.skip_runs.Goals as goal

pub returns-clause-next : goal.returns-clause-next
returns-clause-next g c =
    let end : TERMINATED ≤ c.loop-doc.doc = omega (arith, c.loop-doc-test.false) in
    skips_end c.args.target c.args.least c.loop-doc.doc (score_by_parts g.T.Scorer.state c.args.parts.now) (score_by_parts g.T.Scorer.state c.loop-doc.parts) c.loop-doc.invariant.skips end
    (λ d from. parts_end g.T.Scorer.state c.args.most c.args.parts.now d from c.requires.bounded)

pub loop-doc-init : goal.loop-doc-init
loop-doc-init g c =
    let state = g.T.Scorer.state in
    record {
      skips = skips_none c.args.target c.args.least (score_by_parts state c.args.parts.now) c.requires.up_to;
      depth = refl;
      bounds = refl;
      work = all_none (MayScore c.args.target c.args.least c.args.target (bound_by_parts state c.args.most c.args.parts.now)) (lists_by_parts state c.args.parts.now);
      bounded = c.requires.bounded;
    }

pub returns-then-next-bound-clause-bounds : goal.returns-then-next-bound-clause-bounds
returns-then-next-bound-clause-bounds g c = c.next_of-next.ensures.bounds ∙ c.bound_by-bound.ensures.bounds ∙ c.loop-doc.invariant.bounds

pub returns-then-next-bound-clause-reached : goal.returns-then-next-bound-clause-reached
returns-then-next-bound-clause-reached g c = λ low.
    let l = c.loop-doc in
    let state = g.T.Scorer.state in
    let next = c.next_of-next.result in
    inr (reaches_then (bound_by_parts state c.args.most l.parts) (bound_by_parts state c.args.most c.args.parts.now) c.args.least c.bound_by-bound.result.most next l.invariant.bounds c.if-bound-least.true (c.bound_by-bound.ensures.within next c.next_of-next.ensures.next.low c.if-next-bound.true))

pub returns-then-next-bound-clause-work : goal.returns-then-next-bound-clause-work
returns-then-next-bound-clause-work g c =
    let l = c.loop-doc in
    let state = g.T.Scorer.state in
    let old = bound_by_parts state c.args.most c.args.parts.now in
    let bound = c.bound_by-bound.result in
    let ahead = c.bound_by-bound.ensures.bound.ahead in
    let reaches : c.args.least ≤ old l.doc = reaches_then (bound_by_parts state c.args.most l.parts) old c.args.least bound.most l.doc l.invariant.bounds c.if-bound-least.true (c.bound_by-bound.ensures.within l.doc (omega arith) ahead) in
    reads_here c.args.target c.args.least l.doc c.next_of-next.result old (lists_by_parts state c.args.parts.now) (lists_by_parts state l.parts) (lists_by_parts state c.bound_by-bound.new.parts) (lists_by_parts state c.next_of-next.new.parts)
    l.invariant.skips.low c.next_of-next.ensures.next.low c.loop-doc-test.true reaches l.invariant.work c.bound_by-bound.ensures.work c.next_of-next.ensures.work

pub loop-doc-preserved-else-next-bound : goal.loop-doc-preserved-else-next-bound
loop-doc-preserved-else-next-bound g c =
    let l = c.loop-doc in
    let state = g.T.Scorer.state in
    let old = bound_by_parts state c.args.most c.args.parts.now in
    let bound = c.bound_by-bound.result in
    let ahead = c.bound_by-bound.ensures.bound.ahead in
    let reaches : c.args.least ≤ old l.doc = reaches_then (bound_by_parts state c.args.most l.parts) old c.args.least bound.most l.doc l.invariant.bounds c.if-bound-least.true (c.bound_by-bound.ensures.within l.doc (omega arith) ahead) in
    record {
      skips = skips_more c.args.target c.args.least l.doc (score_by_parts state c.args.parts.now) (score_by_parts state l.parts) (score_by_parts state c.bound_by-bound.new.parts) l.invariant.skips c.bound_by-bound.ensures.alike c.next_of-next.result (score_by_parts state c.next_of-next.new.parts) c.next_of-next.ensures.next c.next_of-next.ensures.alike;
      depth = c.next_of-next.ensures.depth ∙ c.bound_by-bound.ensures.depth ∙ l.invariant.depth;
      bounds = c.next_of-next.ensures.bounds ∙ c.bound_by-bound.ensures.bounds ∙ l.invariant.bounds;
      work = reads_here c.args.target c.args.least l.doc c.next_of-next.result old (lists_by_parts state c.args.parts.now) (lists_by_parts state l.parts) (lists_by_parts state c.bound_by-bound.new.parts) (lists_by_parts state c.next_of-next.new.parts)
          l.invariant.skips.low c.next_of-next.ensures.next.low c.loop-doc-test.true reaches l.invariant.work c.bound_by-bound.ensures.work c.next_of-next.ensures.work;
      bounded = c.next_of-next.ensures.bounded;
    }

pub loop-doc-preserved : goal.loop-doc-preserved
loop-doc-preserved g c =
    let l = c.loop-doc in
    let state = g.T.Scorer.state in
    let bound = c.bound_by-bound.result in
    let ahead = c.bound_by-bound.ensures.bound.ahead in
    record {
      skips = skips_run c.args.target c.args.least l.doc (score_by_parts state c.args.parts.now) (score_by_parts state l.parts) (score_by_parts state c.bound_by-bound.new.parts) l.invariant.skips c.bound_by-bound.ensures.alike bound c.bound_by-bound.ensures.bound c.if-bound-least.false;
      depth = c.bound_by-bound.ensures.depth ∙ l.invariant.depth;
      bounds = c.bound_by-bound.ensures.bounds ∙ l.invariant.bounds;
      work = reads_still c.args.target c.args.least l.doc bound.end (bound_by_parts state c.args.most c.args.parts.now) (lists_by_parts state c.args.parts.now) (lists_by_parts state l.parts) (lists_by_parts state c.bound_by-bound.new.parts) (omega (arith, ahead)) l.invariant.work c.bound_by-bound.ensures.work;
      bounded = c.bound_by-bound.ensures.bounded;
    }
