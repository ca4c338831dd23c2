use Rattle.std.proofs.Common.{◌≡◌, ◌+◌, ◌<◌, [], ap, arith, drop, map, rules}
use Rattle.std.proofs.lemmas.List.{drop_all, length-map}
use Rattle.ii_ranking.specs.Segments.{segment_of}
use Rattle.ii_ranking.proofs.SegmentLemmas.{segment_at}
use Rattle.ii_segment_search.specs.Searcher.{total_living}
use Rattle.ii_statistics.proofs.statistics.num_living.Goals as goal

pub overflow_add-total : goal.overflow_add-total
overflow_add-total c =
    let l = c.loop-place in
    let s = c.index-segments-place.result in
    let step = ap total_living (segment_at c.args.segments.now l.place s c.loop-place-test.true c.index-segments-place.is) in
    let living = c.num_living.ensures in
    let same = c.from-total.ensures in
    let whole = l.invariant in
    let few = c.requires in
    let more : l.total + c.from-total.result < 4294967296 = omega (arith, step, living, same, whole, few) in
    search (rules, more)

pub loop-place-preserved : goal.loop-place-preserved
loop-place-preserved c =
    let l = c.loop-place in
    let s = c.index-segments-place.result in
    let step = ap total_living (segment_at c.args.segments.now l.place s c.loop-place-test.true c.index-segments-place.is) in
    let living = c.num_living.ensures in
    let same = c.from-total.ensures in
    let whole = l.invariant in
    omega (arith, step, living, same, whole)

pub returns : goal.returns
returns c =
    let l = c.loop-place in
    let all = map segment_of c.args.segments.now in
    let many = length-map c.args.segments.now segment_of in
    let none : drop l.place all ≡ [] = drop_all l.place all (omega (arith, many, c.loop-place-test.false)) in
    let left = ap total_living none in
    let whole = l.invariant in
    omega (arith, left, whole)
