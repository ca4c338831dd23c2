use Rattle.std.proofs.Common.{◌≡◌, ◌∙◌, ◌+◌, ◌-◌, ◌<◌, ℕ, List, arith, get_or, length, min, refl, rules, subst, sym, ap}
use Rattle.ii_base.specs.declared.doc_id.TheConstants.{TERMINATED}
use Rattle.ii_scorer.specs.BlockLists.{ReadsOnly}
use Rattle.ii_scorer.specs.QueryScorers.{bound_by_parts, depth_of, lists_by_parts, score_by_parts}
use Rattle.ii_scorer.specs.Scorers.{ScorerState, bounds_below, lists_of}
use Rattle.ii_scorer.proofs.BlockListLaws.{all_append, all_none}
use Rattle.ii_scorer.proofs.BoundLemmas.{lists_next, zip_bounds}
use Rattle.ii_scorer.proofs.PartsLemmas.{none_reaches, row_alike, row_next, view_bounded, zip_any, zip_are_bounded, zip_each}
use Rattle.ii_scorer.proofs.ScorerLemmas.{depth_zipped, next_missing, PassesParts, passes_any, passes_next, passes_none, sums_long, zip_depth, zip_same, zip_set, zip_sums}
use Rattle.ii_scorer.proofs.query_scorer.+go_to.Goals as goal

pub QueryScorer::go_to-returns-clause-next : goal.QueryScorer::go_to-returns-clause-next
QueryScorer::go_to-returns-clause-next g t c = rw (← c.self.view_is) (row_next c.args.target c.args.least c.next_of.result (score_by_parts g.T.Scorer.state c.self.inside.parts) c.next_of.ensures.next)

pub QueryScorer::go_to-returns-clause-kept : goal.QueryScorer::go_to-returns-clause-kept
QueryScorer::go_to-returns-clause-kept g t c = rw (← c.self.view_is)
    (record {
      alike = row_alike c.args.target (score_by_parts g.T.Scorer.state c.self.inside.parts) (score_by_parts g.T.Scorer.state c.next_of.new.parts) c.next_of.ensures.alike;
      most = refl;
      depth = c.next_of.ensures.depth;
      bounds = ap (bounds_below TERMINATED) c.next_of.ensures.bounds;
      bounded = λ b. view_bounded g.T.Scorer.state c.self.inside.most (depth_of c.next_of.new.parts) (bounds_below TERMINATED (bound_by_parts g.T.Scorer.state c.self.inside.most c.next_of.new.parts)) (lists_by_parts g.T.Scorer.state c.next_of.new.parts) c.next_of.new.parts b.fits c.next_of.ensures.bounded;
    })

pub meet-loop-place-init : goal.meet-loop-place-init
meet-loop-place-init g t c = record { kept = zip_same c.args.target c.args.parts.now.items; low = λ some. absurd (omega (arith, some)); work = all_none (λ (from : ℕ). from ≡ c.args.target) (lists_of c.args.parts.now.items) }

pub meet-go_to-next-requires : goal.meet-go_to-next-requires
meet-go_to-next-requires g t c κs within =
    let l = c.loop-place in
    let inside : l.place < length l.parts.items = search rules in
    let low = depth_zipped c.args.target c.args.parts.now.items l.parts.items l.place c.index_mut.result.now inside c.index_mut.ensures.value l.invariant.kept in
    search (rules, low)

pub meet-returns-then-next-target-clause-next : goal.meet-returns-then-next-target-clause-next
meet-returns-then-next-target-clause-next g t c =
    let l = c.loop-place in
    let inside : l.place < length l.parts.items = search rules in
    next_missing c.args.target c.go_to-next.result l.place c.args.parts.now.items l.parts.items c.index_mut.result.now inside c.index_mut.ensures.value l.invariant.kept c.go_to-next.ensures.next

pub meet-returns-then-next-target-clause-kept : goal.meet-returns-then-next-target-clause-kept
meet-returns-then-next-target-clause-kept g t c =
    let l = c.loop-place in
    let inside : l.place < length l.parts.items = search rules in
    zip_set c.args.target c.args.parts.now.items l.parts.items l.place c.index_mut.result.now c.go_to-next.new.self inside c.index_mut.ensures.value c.go_to-next.ensures.kept l.invariant.kept

pub meet-returns-then-next-eq-TERMINATED-clause-next : goal.meet-returns-then-next-eq-TERMINATED-clause-next
meet-returns-then-next-eq-TERMINATED-clause-next g t c =
    let l = c.loop-place in
    let inside : l.place < length l.parts.items = search rules in
    next_missing c.args.target c.go_to-next.result l.place c.args.parts.now.items l.parts.items c.index_mut.result.now inside c.index_mut.ensures.value l.invariant.kept c.go_to-next.ensures.next

pub meet-returns-then-next-eq-TERMINATED-clause-kept : goal.meet-returns-then-next-eq-TERMINATED-clause-kept
meet-returns-then-next-eq-TERMINATED-clause-kept g t c =
    let l = c.loop-place in
    let inside : l.place < length l.parts.items = search rules in
    zip_set c.args.target c.args.parts.now.items l.parts.items l.place c.index_mut.result.now c.go_to-next.new.self inside c.index_mut.ensures.value c.go_to-next.ensures.kept l.invariant.kept

pub meet-loop-place-preserved : goal.meet-loop-place-preserved
meet-loop-place-preserved g t c =
    let l = c.loop-place in
    let inside : l.place < length l.parts.items = search rules in
    record {
      kept = zip_set c.args.target c.args.parts.now.items l.parts.items l.place c.index_mut.result.now c.go_to-next.new.self inside c.index_mut.ensures.value c.go_to-next.ensures.kept l.invariant.kept;
      low = λ some. let up = c.go_to-next.ensures.next.low in search (rules, up);
      work = lists_next (λ (from : ℕ). from ≡ c.args.target) c.args.parts.now.items l.parts.items l.place c.index_mut.result.now c.go_to-next.new.self inside c.index_mut.ensures.value c.go_to-next.ensures.work l.invariant.work;
    }

pub next_of-returns-then-most-least-clause-next : goal.next_of-returns-then-most-least-clause-next
next_of-returns-then-most-least-clause-next g t c = none_reaches g.T.Scorer.state c.args.most c.args.target c.args.least c.args.parts.now c.requires.up_to c.if-most-least.true c.requires.bounded

pub next_of-returns-in-Each-clause-alike : goal.next_of-returns-in-Each-clause-alike
next_of-returns-in-Each-clause-alike g t c = λ doc from. rw c.in-Each.is (zip_each c.args.target doc c.in-Each.parts.items c.meet.new.parts.items from c.meet.ensures.kept)

pub next_of-returns-in-Each-clause-depth : goal.next_of-returns-in-Each-clause-depth
next_of-returns-in-Each-clause-depth g t c = rw c.in-Each.is (zip_depth c.args.target c.in-Each.parts.items c.meet.new.parts.items c.meet.ensures.kept)

pub next_of-returns-in-Each-clause-bounded : goal.next_of-returns-in-Each-clause-bounded
next_of-returns-in-Each-clause-bounded g t c = zip_are_bounded c.args.target c.args.most c.in-Each.parts.items c.meet.new.parts.items c.meet.ensures.kept (rw c.in-Each.is at c.requires.bounded)

pub next_of-returns-in-Any-clause-alike : goal.next_of-returns-in-Any-clause-alike
next_of-returns-in-Any-clause-alike g t c = λ doc from. rw c.in-Any.is (zip_any c.args.target doc c.in-Any.parts.items c.next_of_any.new.parts.items from c.next_of_any.ensures.kept)

pub next_of-returns-in-Any-clause-depth : goal.next_of-returns-in-Any-clause-depth
next_of-returns-in-Any-clause-depth g t c = rw c.in-Any.is (zip_depth c.args.target c.in-Any.parts.items c.next_of_any.new.parts.items c.next_of_any.ensures.kept)

pub next_of-returns-in-Any-clause-bounded : goal.next_of-returns-in-Any-clause-bounded
next_of-returns-in-Any-clause-bounded g t c =
    let olds = c.in-Any.parts.items in
    let news = c.next_of_any.new.parts.items in
    let b = rw c.in-Any.is at c.requires.bounded in
    (zip_are_bounded c.args.target c.args.most olds news c.next_of_any.ensures.kept b.0, b.1 ∙ sym (zip_sums c.args.target 0 olds news c.next_of_any.ensures.kept))

pub next_of_any-loop-place-init : goal.next_of_any-loop-place-init
next_of_any-loop-place-init g t c = record { kept = zip_same c.args.target c.args.parts.now.items; passes = passes_none c.num_below-place.result c.args.target c.args.parts.now.items c.requires.up_to; work = all_none (λ (from : ℕ). from ≡ c.args.target) (lists_of c.args.parts.now.items) }

pub next_of_any-go_to-doc-requires : goal.next_of_any-go_to-doc-requires
next_of_any-go_to-doc-requires g t c κs within =
    let l = c.loop-place in
    let inside : l.place < length l.parts.items = search rules in
    let low = depth_zipped c.args.target c.args.parts.now.items l.parts.items l.place c.index_mut.result.now inside c.index_mut.ensures.value l.invariant.kept in
    search (rules, low)

pub next_of_any-loop-place-preserved : goal.next_of_any-loop-place-preserved
next_of_any-loop-place-preserved g t c =
    let l = c.loop-place in
    let inside : l.place < length l.parts.items = search rules in
    let least : min l.next c.go_to-doc.result ≡ c.min-next.result = search rules in
    record {
      kept = zip_set c.args.target c.args.parts.now.items l.parts.items l.place c.index_mut.result.now c.go_to-doc.new.self inside c.index_mut.ensures.value c.go_to-doc.ensures.kept l.invariant.kept;
      passes = subst (λ (d : ℕ). PassesParts c.num_below-place.result (l.place + 1) c.args.target d c.args.parts.now.items) least
          (passes_next c.args.parts.now.items l.parts.items c.num_below-place.result l.place c.args.target l.next c.go_to-doc.result c.index_mut.result.now inside c.index_mut.ensures.value l.invariant.kept l.invariant.passes c.go_to-doc.ensures.next);
      work = lists_next (λ (from : ℕ). from ≡ c.args.target) c.args.parts.now.items l.parts.items l.place c.index_mut.result.now c.go_to-doc.new.self inside c.index_mut.ensures.value c.go_to-doc.ensures.work l.invariant.work;
    }

pub next_of_any-returns-clause-next : goal.next_of_any-returns-clause-next
next_of_any-returns-clause-next g t c =
    let l = c.loop-place in
    let ss = c.args.parts.now.items in
    let k = c.num_below-place.result in
    let all = ap length c.requires.sums ∙ sums_long 0 ss in
    let within = c.num_below-place.ensures.within in
    let ended : l.place ≡ length ss = search (rules, all, within) in
    passes_any ss k c.args.target l.next c.args.least c.requires.bounded (omega (arith, all, within)) (λ some. subst (λ (sums : List ℕ). get_or sums (k - 1) 0 < c.args.least) c.requires.sums (c.num_below-place.ensures.below some))
    (subst (λ (n : ℕ). PassesParts k n c.args.target l.next ss) ended l.invariant.passes)

pub meet-returns-then-next-target-clause-work : goal.meet-returns-then-next-target-clause-work
meet-returns-then-next-target-clause-work g t c =
    let l = c.loop-place in
    let inside : l.place < length l.parts.items = search rules in
    lists_next (λ (from : ℕ). from ≡ c.args.target) c.args.parts.now.items l.parts.items l.place c.index_mut.result.now c.go_to-next.new.self inside c.index_mut.ensures.value c.go_to-next.ensures.work l.invariant.work

pub meet-returns-then-next-eq-TERMINATED-clause-work : goal.meet-returns-then-next-eq-TERMINATED-clause-work
meet-returns-then-next-eq-TERMINATED-clause-work g t c =
    let l = c.loop-place in
    let inside : l.place < length l.parts.items = search rules in
    lists_next (λ (from : ℕ). from ≡ c.args.target) c.args.parts.now.items l.parts.items l.place c.index_mut.result.now c.go_to-next.new.self inside c.index_mut.ensures.value c.go_to-next.ensures.work l.invariant.work

pub next_of-returns-then-most-least-clause-work : goal.next_of-returns-then-most-least-clause-work
next_of-returns-then-most-least-clause-work g t c = all_none (λ (from : ℕ). from ≡ c.args.target) (lists_by_parts g.T.Scorer.state c.args.parts.now)

pub next_of-returns-in-Each-clause-bounds : goal.next_of-returns-in-Each-clause-bounds
next_of-returns-in-Each-clause-bounds g t c = rw c.in-Each.is (zip_bounds c.args.target c.in-Each.parts.items c.meet.new.parts.items c.meet.ensures.kept)

pub next_of-returns-in-Any-clause-bounds : goal.next_of-returns-in-Any-clause-bounds
next_of-returns-in-Any-clause-bounds g t c = rw c.in-Any.is (zip_bounds c.args.target c.in-Any.parts.items c.next_of_any.new.parts.items c.next_of_any.ensures.kept)

pub next_of-returns-in-Without-clause-work : goal.next_of-returns-in-Without-clause-work
next_of-returns-in-Without-clause-work g t c =
    let first = c.in-Without.first.value.lists in
    let other = c.in-Without.field-1.value.lists in
    let read = subst (λ (s : ScorerState). ReadsOnly (λ (from : ℕ). from ≡ c.args.target) s.lists c.go_to.new.self.lists) c.deref_mut.ensures.value c.go_to.ensures.work in
    rw c.in-Without.is (all_append (λ (from : ℕ). from ≡ c.args.target) first c.go_to.new.self.lists other other read (all_none (λ (from : ℕ). from ≡ c.args.target) other))
