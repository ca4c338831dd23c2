use Rattle.std.proofs.Common.{◌≡◌, ◌∙◌, ◌+◌, ◌++◌, ◌<◌, ℕ, List, arith, drop, length, refl, subst, sym}
use Rattle.std.specs.Prelude.{slice_index_or}
use Rattle.std.proofs.lemmas.List.{drop_all}
use Rattle.ii_scorer.specs.TopNComputer.{KeepsBest}
use Rattle.ii_prepared_term.specs.PreparedSegments.{PreparedSegmentState, prepared_scored}
use Rattle.ii_prepared_term.proofs.PreparedSegmentLemmas.{AddsSegments, adds_all, adds_none, adds_one, next_few}
use Rattle.ii_prepared_term.proofs.prepared_segments.PreparedSegments.push_all.Goals as goal

pub loop-place-init : goal.loop-place-init
loop-place-init c = record { adds = adds_none c.self.inside.segments.items c.args.computer.now; wanted = refl }

pub push_living-requires : goal.push_living-requires
push_living-requires c =
    let all = c.self.inside.segments.items in
    let l = c.loop-place in
    let s : PreparedSegmentState = record { query = c.segment.inside.query; alive = c.segment.inside.alive.now } in
    let is = subst (λ (t : PreparedSegmentState). t ≡ slice_index_or all l.place t) (sym c.segment.view_is) c.index-segment.ensures in
    let inside : l.place < length all = let many = c.len-place-end.ensures in let low = c.loop-place-test.true in omega (arith, many, low) in
    let here = next_few all l.place l.base s c.args.computer.now l.computer inside is l.invariant.adds in
    let few = c.self.invariant in
    record { few = omega (arith, here, few) }

pub overflow_add-base : goal.overflow_add-base
overflow_add-base c =
    let all = c.self.inside.segments.items in
    let l = c.loop-place in
    let s : PreparedSegmentState = record { query = c.segment.inside.query; alive = c.segment.inside.alive.now } in
    let is = subst (λ (t : PreparedSegmentState). t ≡ slice_index_or all l.place t) (sym c.segment.view_is) c.index-segment.ensures in
    let inside : l.place < length all = let many = c.len-place-end.ensures in let low = c.loop-place-test.true in omega (arith, many, low) in
    let here = next_few all l.place l.base s c.args.computer.now l.computer inside is l.invariant.adds in
    let few = c.self.invariant in
    let living = c.num_living-base.ensures in
    omega (arith, here, few, living)

pub loop-place-preserved : goal.loop-place-preserved
loop-place-preserved c =
    let all = c.self.inside.segments.items in
    let l = c.loop-place in
    let s : PreparedSegmentState = record { query = c.segment.inside.query; alive = c.segment.inside.alive.now } in
    let is = subst (λ (t : PreparedSegmentState). t ≡ slice_index_or all l.place t) (sym c.segment.view_is) c.index-segment.ensures in
    let inside : l.place < length all = let many = c.len-place-end.ensures in let low = c.loop-place-test.true in omega (arith, many, low) in
    record {
      adds = subst (λ (n : ℕ). AddsSegments all (drop (l.place + 1) all) (l.base + n) c.args.computer.now c.push_living.new.computer) (sym c.num_living-base.ensures)
          (adds_one all l.place l.base s c.args.computer.now l.computer inside is l.invariant.adds c.push_living.new.computer c.in_ok-push_living.ensures.kept);
      wanted = c.push_living.ensures.wanted ∙ l.invariant.wanted;
    }

pub returns-clause-kept : goal.returns-clause-kept
returns-clause-kept c = λ scored h.
    let all = c.self.inside.segments.items in
    let l = c.loop-place in
    let end = drop_all l.place all (let many = c.len-place-end.ensures in let low = c.loop-place-test.false in omega (arith, many, low)) in
    subst (λ (ss : List PreparedSegmentState). KeepsBest (scored ++ prepared_scored 0 ss) l.computer) c.self.view_is
    (adds_all all (drop l.place all) l.base c.args.computer.now l.computer l.invariant.adds end scored h)
