use Rattle.std.proofs.Common.{◌≡◌, ◌∙◌, ◌≤◌, ℕ, arith, inl, inr, refl, subst, sym}
use Rattle.ii_base.specs.declared.doc_id.TheConstants.{TERMINATED}
use Rattle.ii_scorer.specs.Scorers.{IsBelow, score_of}
use Rattle.ii_scorer.proofs.ScorerLemmas.{all_at_least}
use Rattle.ii_ranking.proofs.ListingLemmas.{listed_more, listed_none, listed_to}
use Rattle.ii_ranking.proofs.listing.list_docs.Goals as goal

pub loop-doc-init : goal.loop-doc-init
loop-doc-init g c = record { low = omega arith; alike = λ d from. refl; listed = c.new-listed.ensures.items ∙ listed_none (score_of (g.T.Scorer.state c.args.scorer.now)) }

pub returns-then-next-ge-TERMINATED-clause-listed : goal.returns-then-next-ge-TERMINATED-clause-listed
returns-then-next-ge-TERMINATED-clause-listed g c =
    let l = c.loop-doc in
    let f = score_of (g.T.Scorer.state c.args.scorer.now) in
    l.invariant.listed ∙ sym (listed_to f l.doc TERMINATED l.invariant.low (λ d from inside. subst (IsBelow 0) (l.invariant.alike d from) (c.seek_with_score-next.ensures.next.passed d from (inr c.if-next-ge-TERMINATED.true))))

pub loop-doc-preserved : goal.loop-doc-preserved
loop-doc-preserved g c =
    let l = c.loop-doc in
    let f = score_of (g.T.Scorer.state c.args.scorer.now) in
    let next = c.seek_with_score-next.result in
    let up = c.seek_with_score-next.ensures.next.low in
    let end = c.if-next-ge-TERMINATED.false in
    let sought : (d : ℕ) → next ≤ d → score_of (g.T.Scorer.state c.seek_with_score-next.new.self) d ≡ f d = λ d from. c.seek_with_score-next.ensures.kept.alike d (omega (arith, from, up)) ∙ l.invariant.alike d (omega (arith, from, up)) in
    record {
      low = omega (arith, end);
      alike = λ d from. c.score_at-score.ensures.kept.alike d (omega (arith, from)) ∙ sought d (omega (arith, from));
      listed = listed_more f l.doc next c.score_at-score.result l.listed.items c.push_listed.new.listed.items up
          (λ d from before. subst (IsBelow 0) (l.invariant.alike d from) (c.seek_with_score-next.ensures.next.passed d from (inl before)))
          (c.score_at-score.ensures.score ∙ all_at_least (score_of (g.T.Scorer.state c.seek_with_score-next.new.self) next) ∙ sought next (omega arith))
          l.invariant.listed c.in_ok-push_listed.ensures.added;
    }
