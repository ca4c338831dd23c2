use Rattle.std.proofs.Common.{◌∙◌, ◌<◌, ℕ, length, refl, rules, subst, sym, ap}
use Rattle.ii_base.specs.declared.doc_id.TheConstants.{TERMINATED}
use Rattle.ii_scorer.specs.BlockLists.{ReadsOnly}
use Rattle.ii_scorer.specs.QueryScorers.{bound_by_parts, depth_of, lists_by_parts, score_by_parts}
use Rattle.ii_scorer.specs.Scorers.{ScorerState, bounds_below, lists_of}
use Rattle.ii_scorer.proofs.BlockListLaws.{all_append, all_none}
use Rattle.ii_scorer.proofs.BoundLemmas.{lists_next, row_within, zip_bounds}
use Rattle.ii_scorer.proofs.PartsLemmas.{row_alike, view_bounded, zip_any, zip_are_bounded, zip_each}
use Rattle.ii_scorer.proofs.RunLemmas.{bounds_any, bounds_each, bounds_next, bounds_none, bounds_within, row_bound}
use Rattle.ii_scorer.proofs.ScorerLemmas.{depth_zipped, zip_depth, zip_long, zip_same, zip_set, zip_sums}
use Rattle.ii_scorer.proofs.query_scorer.+bound_until.Goals as goal

pub QueryScorer::bound_until-returns-clause-bound : goal.QueryScorer::bound_until-returns-clause-bound
QueryScorer::bound_until-returns-clause-bound g t c = rw (← c.self.view_is) (row_bound c.args.target (score_by_parts g.T.Scorer.state c.self.inside.parts) c.bound_by.result c.bound_by.ensures.bound)

pub QueryScorer::bound_until-returns-clause-kept : goal.QueryScorer::bound_until-returns-clause-kept
QueryScorer::bound_until-returns-clause-kept g t c = rw (← c.self.view_is)
    (record {
      alike = row_alike c.args.target (score_by_parts g.T.Scorer.state c.self.inside.parts) (score_by_parts g.T.Scorer.state c.bound_by.new.parts) c.bound_by.ensures.alike;
      most = refl;
      depth = c.bound_by.ensures.depth;
      bounds = ap (bounds_below TERMINATED) c.bound_by.ensures.bounds;
      bounded = λ b. view_bounded g.T.Scorer.state c.self.inside.most (depth_of c.bound_by.new.parts) (bounds_below TERMINATED (bound_by_parts g.T.Scorer.state c.self.inside.most c.bound_by.new.parts)) (lists_by_parts g.T.Scorer.state c.bound_by.new.parts) c.bound_by.new.parts b.fits c.bound_by.ensures.bounded;
    })

pub bound_by-returns-in-Each-clause-alike : goal.bound_by-returns-in-Each-clause-alike
bound_by-returns-in-Each-clause-alike g t c = λ doc from. rw c.in-Each.is (zip_each c.args.target doc c.in-Each.parts.items c.bound_of_all.new.parts.items from c.bound_of_all.ensures.kept)

pub bound_by-returns-in-Each-clause-depth : goal.bound_by-returns-in-Each-clause-depth
bound_by-returns-in-Each-clause-depth g t c = rw c.in-Each.is (zip_depth c.args.target c.in-Each.parts.items c.bound_of_all.new.parts.items c.bound_of_all.ensures.kept)

pub bound_by-returns-in-Each-clause-bounded : goal.bound_by-returns-in-Each-clause-bounded
bound_by-returns-in-Each-clause-bounded g t c = zip_are_bounded c.args.target c.args.most c.in-Each.parts.items c.bound_of_all.new.parts.items c.bound_of_all.ensures.kept (rw c.in-Each.is at c.requires.bounded)

pub bound_by-returns-in-Any-clause-alike : goal.bound_by-returns-in-Any-clause-alike
bound_by-returns-in-Any-clause-alike g t c = λ doc from. rw c.in-Any.is (zip_any c.args.target doc c.in-Any.parts.items c.bound_of_all-in-Any.new.parts.items from c.bound_of_all-in-Any.ensures.kept)

pub bound_by-returns-in-Any-clause-depth : goal.bound_by-returns-in-Any-clause-depth
bound_by-returns-in-Any-clause-depth g t c = rw c.in-Any.is (zip_depth c.args.target c.in-Any.parts.items c.bound_of_all-in-Any.new.parts.items c.bound_of_all-in-Any.ensures.kept)

pub bound_by-returns-in-Any-clause-bounded : goal.bound_by-returns-in-Any-clause-bounded
bound_by-returns-in-Any-clause-bounded g t c =
    let olds = c.in-Any.parts.items in
    let news = c.bound_of_all-in-Any.new.parts.items in
    let b = rw c.in-Any.is at c.requires.bounded in
    (zip_are_bounded c.args.target c.args.most olds news c.bound_of_all-in-Any.ensures.kept b.0, b.1 ∙ sym (zip_sums c.args.target 0 olds news c.bound_of_all-in-Any.ensures.kept))

pub bound_of_all-loop-place-init : goal.bound_of_all-loop-place-init
bound_of_all-loop-place-init g t c = record { kept = zip_same c.args.target c.args.parts.now.items; bounds = bounds_none c.args.target c.args.parts.now.items c.requires; work = all_none (λ (from : ℕ). ⊥) (lists_of c.args.parts.now.items) }

pub bound_of_all-bound_until-bound-requires : goal.bound_of_all-bound_until-bound-requires
bound_of_all-bound_until-bound-requires g t c κs within =
    let l = c.loop-place in
    let inside : l.place < length l.parts.items = search rules in
    let low = depth_zipped c.args.target c.args.parts.now.items l.parts.items l.place c.index_mut.result.now inside c.index_mut.ensures.value l.invariant.kept in
    search (rules, low)

pub bound_of_all-loop-place-preserved : goal.bound_of_all-loop-place-preserved
bound_of_all-loop-place-preserved g t c =
    let l = c.loop-place in
    let inside : l.place < length l.parts.items = search rules in
    record {
      kept = zip_set c.args.target c.args.parts.now.items l.parts.items l.place c.index_mut.result.now c.bound_until-bound.new.self inside c.index_mut.ensures.value c.bound_until-bound.ensures.kept l.invariant.kept;
      bounds = bounds_next l.place c.args.target l.most l.end c.args.parts.now.items l.parts.items c.index_mut.result.now c.bound_until-bound.result c.saturating_add-most.result c.min-end.result inside c.index_mut.ensures.value l.invariant.kept
          l.invariant.bounds c.bound_until-bound.ensures.bound c.bound_until-bound.ensures.within (search rules) (search rules);
      work = lists_next (λ (from : ℕ). ⊥) c.args.parts.now.items l.parts.items l.place c.index_mut.result.now c.bound_until-bound.new.self inside c.index_mut.ensures.value c.bound_until-bound.ensures.work l.invariant.work;
    }

pub bound_of_all-returns-clause-any : goal.bound_of_all-returns-clause-any
bound_of_all-returns-clause-any g t c =
    let l = c.loop-place in
    let many = zip_long c.args.target c.args.parts.now.items l.parts.items l.invariant.kept in
    bounds_any l.place c.args.target (record { most = l.most; end = l.end }) c.args.parts.now.items (search (rules, many)) l.invariant.bounds

pub bound_of_all-returns-clause-each : goal.bound_of_all-returns-clause-each
bound_of_all-returns-clause-each g t c =
    let l = c.loop-place in
    let many = zip_long c.args.target c.args.parts.now.items l.parts.items l.invariant.kept in
    bounds_each c.args.target (record { most = l.most; end = l.end }) c.args.parts.now.items (bounds_any l.place c.args.target (record { most = l.most; end = l.end }) c.args.parts.now.items (search (rules, many)) l.invariant.bounds)

pub bound_of_all-returns-clause-within : goal.bound_of_all-returns-clause-within
bound_of_all-returns-clause-within g t c =
    let l = c.loop-place in
    let many = zip_long c.args.target c.args.parts.now.items l.parts.items l.invariant.kept in
    bounds_within l.place c.args.target l.most l.end c.args.parts.now.items (search (rules, many)) l.invariant.bounds

pub QueryScorer::bound_until-returns-clause-within : goal.QueryScorer::bound_until-returns-clause-within
QueryScorer::bound_until-returns-clause-within g t c = rw (← c.self.view_is)
    (row_within c.args.target c.bound_by.result.most c.bound_by.result.end (bound_by_parts g.T.Scorer.state c.self.inside.most c.self.inside.parts) c.bound_by.ensures.bound.up_to c.bound_by.ensures.within)

pub bound_by-returns-in-Each-clause-bounds : goal.bound_by-returns-in-Each-clause-bounds
bound_by-returns-in-Each-clause-bounds g t c = rw c.in-Each.is (zip_bounds c.args.target c.in-Each.parts.items c.bound_of_all.new.parts.items c.bound_of_all.ensures.kept)

pub bound_by-returns-in-Any-clause-bounds : goal.bound_by-returns-in-Any-clause-bounds
bound_by-returns-in-Any-clause-bounds g t c = rw c.in-Any.is (zip_bounds c.args.target c.in-Any.parts.items c.bound_of_all-in-Any.new.parts.items c.bound_of_all-in-Any.ensures.kept)

pub bound_by-returns-in-Without-clause-work : goal.bound_by-returns-in-Without-clause-work
bound_by-returns-in-Without-clause-work g t c =
    let first = c.in-Without.first.value.lists in
    let other = c.in-Without.field-1.value.lists in
    let read = subst (λ (s : ScorerState). ReadsOnly (λ (from : ℕ). ⊥) s.lists c.bound_until.new.self.lists) c.deref_mut.ensures.value c.bound_until.ensures.work in
    rw c.in-Without.is (all_append (λ (from : ℕ). ⊥) first c.bound_until.new.self.lists other other read (all_none (λ (from : ℕ). ⊥) other))
