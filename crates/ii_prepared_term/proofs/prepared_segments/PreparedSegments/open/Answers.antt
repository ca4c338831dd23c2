use Rattle.std.proofs.Common.{◌+◌, ◌≤◌, List, arith, drop, length, map, refl, rules, subst, sym}
use Rattle.std.proofs.lemmas.List.{drop_all, length-map}
use Rattle.ii_ranking.specs.Segments.{segment_of}
use Rattle.ii_ranking.proofs.SegmentLemmas.{IsRanking, next_segment, ranking_refused, ranks_all, segment_at}
use Rattle.ii_prepared_term.specs.PreparedSegments.{PreparedSegmentState, prepared_living, prepared_scored}
use Rattle.ii_prepared_term.proofs.PreparedSegmentLemmas.{prepares_one}
use Rattle.ii_prepared_term.proofs.prepared_segments.PreparedSegments.open.Goals as goal

pub loop-place-init : goal.loop-place-init
loop-place-init g c =
    let all = map segment_of c.args.segments.now in
    let none = c.new-prepared.ensures.items in
    subst (λ (ss : List PreparedSegmentState). IsRanking (g.S.Bm25StatisticsProvider.statistics c.args.statistics.now) c.args.query.now all all (prepared_living ss) (prepared_scored 0 ss)) (sym none)
    (record { scored_is = refl; few = omega arith; sound = refl; fields = c.requires.fields })

pub open-requires : goal.open-requires
open-requires g c =
    let l = c.loop-place in
    let all = map segment_of c.args.segments.now in
    let s = c.index-segments-place.result in
    record { fields = (next_segment (g.S.Bm25StatisticsProvider.statistics c.args.statistics.now) c.args.query.now all (drop l.place all) (drop (l.place + 1) all) (segment_of s) (prepared_living l.prepared.items) (prepared_scored 0 l.prepared.items) l.invariant (segment_at c.args.segments.now l.place s c.loop-place-test.true c.index-segments-place.is)).0 }

pub returns-in-Err-clause-fault : goal.returns-in-Err-clause-fault
returns-in-Err-clause-fault g c =
    let l = c.loop-place in
    let all = map segment_of c.args.segments.now in
    let s = c.index-segments-place.result in
    ranking_refused (g.S.Bm25StatisticsProvider.statistics c.args.statistics.now) c.args.query.now all (drop l.place all) (drop (l.place + 1) all) (segment_of s) (prepared_living l.prepared.items) (prepared_scored 0 l.prepared.items) c.in-Err.fault l.invariant
    (segment_at c.args.segments.now l.place s c.loop-place-test.true c.index-segments-place.is)
    c.in-Err.ensures.fault

pub loop-place-preserved : goal.loop-place-preserved
loop-place-preserved g c =
    let l = c.loop-place in
    let all = map segment_of c.args.segments.now in
    let s = c.index-segments-place.result in
    subst (λ (ss : List PreparedSegmentState). IsRanking (g.S.Bm25StatisticsProvider.statistics c.args.statistics.now) c.args.query.now all (drop (l.place + 1) all) (prepared_living ss) (prepared_scored 0 ss)) (sym c.in_ok-push-in-Ok.ensures.items)
    (prepares_one (g.S.Bm25StatisticsProvider.statistics c.args.statistics.now) c.args.query.now all (drop l.place all) (drop (l.place + 1) all) (segment_of s) l.prepared.items c.in-Ok.one l.invariant
    (segment_at c.args.segments.now l.place s c.loop-place-test.true c.index-segments-place.is) c.in-Ok.ensures.same c.in-Ok.ensures.scores c.in-Ok.ensures.sound)

pub invariant_of-result : goal.invariant_of-result
invariant_of-result g c =
    let few = c.loop-place.invariant.few in
    let all_few = c.requires.few in
    omega (arith, few, all_few)

pub returns-clause-scores : goal.returns-clause-scores
returns-clause-scores g c =
    let l = c.loop-place in
    let all = map segment_of c.args.segments.now in
    let many = length-map c.args.segments.now segment_of in
    let end : length c.args.segments.now ≤ l.place = search rules in
    (ranks_all (g.S.Bm25StatisticsProvider.statistics c.args.statistics.now) c.args.query.now all (drop l.place all) (prepared_living l.prepared.items) (prepared_scored 0 l.prepared.items) l.invariant (drop_all l.place all (omega (arith, many, end)))).0

pub returns-clause-sound : goal.returns-clause-sound
returns-clause-sound g c =
    let l = c.loop-place in
    let all = map segment_of c.args.segments.now in
    let many = length-map c.args.segments.now segment_of in
    let end : length c.args.segments.now ≤ l.place = search rules in
    (ranks_all (g.S.Bm25StatisticsProvider.statistics c.args.statistics.now) c.args.query.now all (drop l.place all) (prepared_living l.prepared.items) (prepared_scored 0 l.prepared.items) l.invariant (drop_all l.place all (omega (arith, many, end)))).1
