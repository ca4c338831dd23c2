use Rattle.std.proofs.Common.{◌≡◌, ◌∙◌, ◌+◌, ◌-◌, ◌<◌, ℕ, suc, List, None, Option, arith, drop, get_or, length, refl, rules, subst, sym, ap}
use Rattle.std.specs.List.{fold}
use Rattle.std.proofs.lemmas.List.{get_or_default}
use Rattle.ii_scorer.specs.BlockLists.{ReadsOnly}
use Rattle.ii_scorer.specs.Combinations.{any_of, both}
use Rattle.ii_base.specs.declared.doc_id.TheConstants.{TERMINATED}
use Rattle.ii_scorer.specs.QueryScorers.{bound_by_parts, depth_of, lists_by_parts, score_by_parts}
use Rattle.ii_scorer.specs.Scorers.{IsUpTo, ScorerState, bounds_below, lists_of, scores_at, sums_after}
use Rattle.ii_scorer.proofs.BlockListLaws.{all_append, all_none}
use Rattle.ii_scorer.proofs.BoundLemmas.{lists_next, lists_set, zip_bounds}
use Rattle.ii_scorer.proofs.PartsLemmas.{row_alike, row_score, view_bounded, zip_any, zip_are_bounded, zip_each}
use Rattle.ii_scorer.proofs.ScorerLemmas.{any_next, any_start, any_without, depth_zipped, each_next, each_over, each_start, sums_long, zip_depth, zip_long, zip_same, zip_set, zip_sums}
use Rattle.ii_scorer.proofs.query_scorer.+score.Goals as goal

pub QueryScorer::score-returns-clause-score : goal.QueryScorer::score-returns-clause-score
QueryScorer::score-returns-clause-score g t c = rw (← c.self.view_is) (row_score c.args.least c.args.doc c.score_by.result (score_by_parts g.T.Scorer.state c.self.inside.parts) c.requires c.score_by.ensures.score)

pub QueryScorer::score-returns-clause-kept : goal.QueryScorer::score-returns-clause-kept
QueryScorer::score-returns-clause-kept g t c = rw (← c.self.view_is)
    (record {
      alike = row_alike c.args.doc (score_by_parts g.T.Scorer.state c.self.inside.parts) (score_by_parts g.T.Scorer.state c.score_by.new.parts) c.score_by.ensures.alike;
      most = refl;
      depth = c.score_by.ensures.depth;
      bounds = ap (bounds_below TERMINATED) c.score_by.ensures.bounds;
      bounded = λ b. view_bounded g.T.Scorer.state c.self.inside.most (depth_of c.score_by.new.parts) (bounds_below TERMINATED (bound_by_parts g.T.Scorer.state c.self.inside.most c.score_by.new.parts)) (lists_by_parts g.T.Scorer.state c.score_by.new.parts) c.score_by.new.parts b.fits c.score_by.ensures.bounded;
    })

pub score_by-returns-in-Each-clause-alike : goal.score_by-returns-in-Each-clause-alike
score_by-returns-in-Each-clause-alike g t c = λ d from. rw c.in-Each.is (zip_each c.args.doc d c.in-Each.parts.items c.score_of_each.new.parts.items from c.score_of_each.ensures.kept)

pub score_by-returns-in-Each-clause-depth : goal.score_by-returns-in-Each-clause-depth
score_by-returns-in-Each-clause-depth g t c = rw c.in-Each.is (zip_depth c.args.doc c.in-Each.parts.items c.score_of_each.new.parts.items c.score_of_each.ensures.kept)

pub score_by-returns-in-Each-clause-bounded : goal.score_by-returns-in-Each-clause-bounded
score_by-returns-in-Each-clause-bounded g t c = zip_are_bounded c.args.doc c.args.most c.in-Each.parts.items c.score_of_each.new.parts.items c.score_of_each.ensures.kept (rw c.in-Each.is at c.requires.bounded)

pub score_by-returns-in-Any-clause-alike : goal.score_by-returns-in-Any-clause-alike
score_by-returns-in-Any-clause-alike g t c = λ d from. rw c.in-Any.is (zip_any c.args.doc d c.in-Any.parts.items c.score_of_any.new.parts.items from c.score_of_any.ensures.kept)

pub score_by-returns-in-Any-clause-depth : goal.score_by-returns-in-Any-clause-depth
score_by-returns-in-Any-clause-depth g t c = rw c.in-Any.is (zip_depth c.args.doc c.in-Any.parts.items c.score_of_any.new.parts.items c.score_of_any.ensures.kept)

pub score_by-returns-in-Any-clause-bounded : goal.score_by-returns-in-Any-clause-bounded
score_by-returns-in-Any-clause-bounded g t c =
    let olds = c.in-Any.parts.items in
    let news = c.score_of_any.new.parts.items in
    let b = rw c.in-Any.is at c.requires.bounded in
    (zip_are_bounded c.args.doc c.args.most olds news c.score_of_any.ensures.kept b.0, b.1 ∙ sym (zip_sums c.args.doc 0 olds news c.score_of_any.ensures.kept))

pub score_of_any-loop-place-init : goal.score_of_any-loop-place-init
score_of_any-loop-place-init g t c = record { within = search rules; kept = zip_same c.args.doc c.args.parts.now.items; sum = any_start c.args.parts.now.items c.len-place.result c.args.doc (search rules); work = all_none (λ (from : ℕ). from ≡ c.args.doc) (lists_of c.args.parts.now.items) }

pub score_of_any-index-requires : goal.score_of_any-index-requires
score_of_any-index-requires g t c =
    let l = c.loop-place in
    let many = ap length c.requires.sums ∙ sums_long 0 c.args.parts.now.items in
    let within = l.invariant.within in
    let some = c.loop-place-test.true in
    search (rules, many, within, some)

pub score_of_any-returns-then-most_with-least-clause-score : goal.score_of_any-returns-then-most_with-least-clause-score
score_of_any-returns-then-most_with-least-clause-score g t c =
    let l = c.loop-place in
    let ss = c.args.parts.now.items in
    let i = l.place - 1 in
    let within = l.invariant.within in
    let some = c.loop-place-test.true in
    let before : suc i ≡ l.place = omega (arith, some) in
    let many = ap length c.requires.sums ∙ sums_long 0 ss in
    let at : c.index.result.now ≡ get_or (sums_after 0 ss) i 0 = c.index.ensures ∙ get_or_default c.args.sums.now.items i c.index.result.now 0 (omega (arith, many, within, some)) ∙ ap (λ (sums : List ℕ). get_or sums i 0) c.requires.sums in
    sym (any_without ss i c.args.doc c.most_with.result c.args.least l.sum (omega (arith, within, some)) c.requires.bounded (l.invariant.sum ∙ ap (λ (n : ℕ). any_of (scores_at (drop n ss) c.args.doc)) (sym before))
    (λ score up. c.most_with.ensures score (subst (λ (m : ℕ). IsUpTo m score) (sym at) up)) c.if-most_with-least.true)

pub score_of_any-index_mut-requires : goal.score_of_any-index_mut-requires
score_of_any-index_mut-requires g t c =
    let l = c.loop-place in
    let long = zip_long c.args.doc c.args.parts.now.items l.parts.items l.invariant.kept in
    let within = l.invariant.within in
    let some = c.loop-place-test.true in
    search (rules, long, within, some)

pub score_of_any-score-score-requires : goal.score_of_any-score-score-requires
score_of_any-score-score-requires g t c κs within =
    let l = c.loop-place in
    let long = zip_long c.args.doc c.args.parts.now.items l.parts.items l.invariant.kept in
    let low = l.invariant.within in
    let some = c.loop-place-test.true in
    let inside : l.place - 1 < length l.parts.items = omega (arith, long, low, some) in
    let deep = depth_zipped c.args.doc c.args.parts.now.items l.parts.items (l.place - 1) c.index_mut.result.now inside c.index_mut.ensures.value l.invariant.kept in
    search (rules, deep)

pub score_of_any-loop-place-preserved : goal.score_of_any-loop-place-preserved
score_of_any-loop-place-preserved g t c =
    let l = c.loop-place in
    let ss = c.args.parts.now.items in
    let i = l.place - 1 in
    let long = zip_long c.args.doc ss l.parts.items l.invariant.kept in
    let low = l.invariant.within in
    let some = c.loop-place-test.true in
    let inside : i < length l.parts.items = omega (arith, long, low, some) in
    let before : suc i ≡ l.place = omega (arith, some) in
    record {
      within = omega (arith, low);
      kept = zip_set c.args.doc ss l.parts.items i c.index_mut.result.now c.score-score.new.self inside c.index_mut.ensures.value c.score-score.ensures.kept l.invariant.kept;
      sum = c.either-sum.ensures
          ∙ any_next c.args.doc i ss l.parts.items c.index_mut.result.now l.sum c.score-score.result inside c.index_mut.ensures.value l.invariant.kept c.score-score.ensures.score
          (l.invariant.sum ∙ ap (λ (n : ℕ). any_of (scores_at (drop n ss) c.args.doc)) (sym before));
      work = lists_next (λ (from : ℕ). from ≡ c.args.doc) c.args.parts.now.items l.parts.items i c.index_mut.result.now c.score-score.new.self inside c.index_mut.ensures.value c.score-score.ensures.work l.invariant.work;
    }

pub score_of_each-loop-place-init : goal.score_of_each-loop-place-init
score_of_each-loop-place-init g t c =
    let ss = c.args.parts.now.items in
    let inside : 0 < length ss = search rules in
    record {
      kept = zip_set c.args.doc ss ss 0 c.index_mut.result.now c.score-sum.new.self inside c.index_mut.ensures.value c.score-sum.ensures.kept (zip_same c.args.doc ss);
      sum = each_start c.args.doc ss ss c.index_mut.result.now c.score-sum.result inside c.index_mut.ensures.value (zip_same c.args.doc ss) c.score-sum.ensures.score;
      work = lists_set (λ (from : ℕ). from ≡ c.args.doc) ss 0 c.index_mut.result.now c.score-sum.new.self inside c.index_mut.ensures.value c.score-sum.ensures.work;
    }

pub score_of_each-returns-then-is_none-clause-score : goal.score_of_each-returns-then-is_none-clause-score
score_of_each-returns-then-is_none-clause-score g t c =
    let l = c.loop-place in
    let none : l.sum ≡ None = search rules in
    each_over c.args.doc l.place c.args.parts.now.items l.sum none l.invariant.sum

pub score_of_each-score-score-requires : goal.score_of_each-score-score-requires
score_of_each-score-score-requires g t c κs within =
    let l = c.loop-place in
    let inside : l.place < length l.parts.items = search rules in
    let deep = depth_zipped c.args.doc c.args.parts.now.items l.parts.items l.place c.index_mut-in-loop-place.result.now inside c.index_mut-in-loop-place.ensures.value l.invariant.kept in
    search (rules, deep)

pub score_of_each-loop-place-preserved : goal.score_of_each-loop-place-preserved
score_of_each-loop-place-preserved g t c =
    let l = c.loop-place in
    let ss = c.args.parts.now.items in
    let inside : l.place < length l.parts.items = search rules in
    record {
      kept = zip_set c.args.doc ss l.parts.items l.place c.index_mut-in-loop-place.result.now c.score-score.new.self inside c.index_mut-in-loop-place.ensures.value c.score-score.ensures.kept l.invariant.kept;
      sum = ap (λ (s : Option ℕ). fold both s (scores_at (drop (l.place + 1) ss) c.args.doc)) c.both-sum.ensures
          ∙ each_next c.args.doc l.place ss l.parts.items c.index_mut-in-loop-place.result.now l.sum c.score-score.result inside c.index_mut-in-loop-place.ensures.value l.invariant.kept c.score-score.ensures.score l.invariant.sum;
      work = lists_next (λ (from : ℕ). from ≡ c.args.doc) c.args.parts.now.items l.parts.items l.place c.index_mut-in-loop-place.result.now c.score-score.new.self inside c.index_mut-in-loop-place.ensures.value c.score-score.ensures.work l.invariant.work;
    }

pub score_by-returns-in-Each-clause-bounds : goal.score_by-returns-in-Each-clause-bounds
score_by-returns-in-Each-clause-bounds g t c = rw c.in-Each.is (zip_bounds c.args.doc c.in-Each.parts.items c.score_of_each.new.parts.items c.score_of_each.ensures.kept)

pub score_by-returns-in-Any-clause-bounds : goal.score_by-returns-in-Any-clause-bounds
score_by-returns-in-Any-clause-bounds g t c = rw c.in-Any.is (zip_bounds c.args.doc c.in-Any.parts.items c.score_of_any.new.parts.items c.score_of_any.ensures.kept)

pub score_without-returns-then-is_none-clause-work : goal.score_without-returns-then-is_none-clause-work
score_without-returns-then-is_none-clause-work g t c =
    let other = c.args.other.now.value.lists in
    let read = subst (λ (s : ScorerState). ReadsOnly (λ (from : ℕ). from ≡ c.args.doc) s.lists c.score-score.new.self.lists) c.deref_mut.ensures.value c.score-score.ensures.work in
    all_append (λ (from : ℕ). from ≡ c.args.doc) c.args.first.now.value.lists c.score-score.new.self.lists other other read (all_none (λ (from : ℕ). from ≡ c.args.doc) other)

pub score_without-returns-then-is_some-clause-work : goal.score_without-returns-then-is_some-clause-work
score_without-returns-then-is_some-clause-work g t c =
    let read = subst (λ (s : ScorerState). ReadsOnly (λ (from : ℕ). from ≡ c.args.doc) s.lists c.score-score.new.self.lists) c.deref_mut.ensures.value c.score-score.ensures.work in
    let asked = subst (λ (s : ScorerState). ReadsOnly (λ (from : ℕ). from ≡ c.args.doc) s.lists c.score.new.self.lists) c.deref_mut-2.ensures.value c.score.ensures.work in
    all_append (λ (from : ℕ). from ≡ c.args.doc) c.args.first.now.value.lists c.score-score.new.self.lists c.args.other.now.value.lists c.score.new.self.lists read asked

pub score_without-returns-clause-work : goal.score_without-returns-clause-work
score_without-returns-clause-work g t c =
    let read = subst (λ (s : ScorerState). ReadsOnly (λ (from : ℕ). from ≡ c.args.doc) s.lists c.score-score.new.self.lists) c.deref_mut.ensures.value c.score-score.ensures.work in
    let asked = subst (λ (s : ScorerState). ReadsOnly (λ (from : ℕ). from ≡ c.args.doc) s.lists c.score.new.self.lists) c.deref_mut-2.ensures.value c.score.ensures.work in
    all_append (λ (from : ℕ). from ≡ c.args.doc) c.args.first.now.value.lists c.score-score.new.self.lists c.args.other.now.value.lists c.score.new.self.lists read asked
