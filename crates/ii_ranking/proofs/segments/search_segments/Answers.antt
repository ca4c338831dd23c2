use Rattle.std.proofs.Common.{◌∙◌, ◌+◌, ◌++◌, ◌<◌, ◌≤◌, ◌^◌, ℕ, IfOk, List, arith, drop, length, map, refl, rules, subst, sym}
use Rattle.std.proofs.lemmas.List.{drop_all, length-map}
use Rattle.ii_ranking.specs.Scores.{query_score, scored_in}
use Rattle.ii_ranking.specs.Segments.{segment_of, segment_scored}
use Rattle.ii_scorer.specs.TopDocs.{AreBest}
use Rattle.ii_ranking.proofs.SegmentLemmas.{KeepsRanking, next_segment, ranking_refused, ranks_all, ranks_one, segment_at}
use Rattle.ii_ranking.proofs.SegmentTokenLaws.{gives_best_of_segments, memory_of_segments}
use Rattle.ii_ranking.proofs.segments.search_segments.Goals as goal

pub add_segment-requires-clause-fields : goal.add_segment-requires-clause-fields
add_segment-requires-clause-fields g c =
    let l = c.loop-place in
    let all = map segment_of c.args.segments.now in
    let s = c.index-segments-place.result in
    (next_segment (g.S.Bm25StatisticsProvider.statistics c.args.statistics.now) c.args.query.now all (drop l.place all) (drop (l.place + 1) all) (segment_of s) l.base l.invariant.ranking.scored l.invariant.ranking.ranking (segment_at c.args.segments.now l.place s c.loop-place-test.true c.index-segments-place.is)).0

pub add_segment-requires-clause-few : goal.add_segment-requires-clause-few
add_segment-requires-clause-few g c =
    let l = c.loop-place in
    let all = map segment_of c.args.segments.now in
    let s = c.index-segments-place.result in
    let next = next_segment (g.S.Bm25StatisticsProvider.statistics c.args.statistics.now) c.args.query.now all (drop l.place all) (drop (l.place + 1) all) (segment_of s) l.base l.invariant.ranking.scored l.invariant.ranking.ranking (segment_at c.args.segments.now l.place s c.loop-place-test.true c.index-segments-place.is) in
    let few = c.requires.few in
    let here = next.1 in
    omega (arith, here, few)

pub returns-in-Err-clause-fault : goal.returns-in-Err-clause-fault
returns-in-Err-clause-fault g c =
    let l = c.loop-place in
    let all = map segment_of c.args.segments.now in
    let s = c.index-segments-place.result in
    ranking_refused (g.S.Bm25StatisticsProvider.statistics c.args.statistics.now) c.args.query.now all (drop l.place all) (drop (l.place + 1) all) (segment_of s) l.base l.invariant.ranking.scored c.in-Err.fault l.invariant.ranking.ranking
    (segment_at c.args.segments.now l.place s c.loop-place-test.true c.index-segments-place.is) c.in-Err.ensures.fault

pub overflow_add-base : goal.overflow_add-base
overflow_add-base g c =
    let l = c.loop-place in
    let all = map segment_of c.args.segments.now in
    let s = c.index-segments-place.result in
    let next = next_segment (g.S.Bm25StatisticsProvider.statistics c.args.statistics.now) c.args.query.now all (drop l.place all) (drop (l.place + 1) all) (segment_of s) l.base l.invariant.ranking.scored l.invariant.ranking.ranking (segment_at c.args.segments.now l.place s c.loop-place-test.true c.index-segments-place.is) in
    let few = c.requires.few in
    let here = next.1 in
    let more : l.base + c.num_living-base.result < 2 ^ 32 = let living = c.num_living-base.ensures in omega (arith, here, few, living) in
    search (rules, more)

pub loop-place-preserved : goal.loop-place-preserved
loop-place-preserved g c =
    let l = c.loop-place in
    let st = g.S.Bm25StatisticsProvider.statistics c.args.statistics.now in
    let all = map segment_of c.args.segments.now in
    let s = c.index-segments-place.result in
    let scored = l.invariant.ranking.scored ++ segment_scored l.base s.alive.now (query_score (scored_in s.index.now st) c.args.query.now) in
    record {
      ranking = subst (λ (n : ℕ). KeepsRanking st c.args.query.now all (drop (l.place + 1) all) (l.base + n) c.add_segment.new.computer) (sym c.num_living-base.ensures)
          (record {
            scored = scored;
            ranking = ranks_one st c.args.query.now all (drop l.place all) (drop (l.place + 1) all) (segment_of s) l.base l.invariant.ranking.scored scored l.invariant.ranking.ranking (segment_at c.args.segments.now l.place s c.loop-place-test.true c.index-segments-place.is)
                refl c.in-Ok.ensures.sound;
            kept = c.in-Ok.ensures.kept l.invariant.ranking.scored l.invariant.ranking.kept;
          });
      wanted = c.add_segment.ensures.wanted ∙ l.invariant.wanted;
    }

pub returns-in-Err-clause-holds : goal.returns-in-Err-clause-holds
returns-in-Err-clause-holds g c = λ schema ss hold fields.
    let l = c.loop-place in
    let all = map segment_of c.args.segments.now in
    let s = c.index-segments-place.result in
    memory_of_segments schema c.args.query.now fields (segment_of s) c.in-Err.fault c.in-Err.ensures.memory l.place all (drop (l.place + 1) all) ss hold (segment_at c.args.segments.now l.place s c.loop-place-test.true c.index-segments-place.is)

pub returns-clause-holds : goal.returns-clause-holds
returns-clause-holds g c = λ schema ss hold fields.
    let l = c.loop-place in
    let st = g.S.Bm25StatisticsProvider.statistics c.args.statistics.now in
    let all = map segment_of c.args.segments.now in
    let many = length-map c.args.segments.now segment_of in
    let end : length c.args.segments.now ≤ l.place = search rules in
    let ranked = (ranks_all st c.args.query.now all (drop l.place all) l.base l.invariant.ranking.scored l.invariant.ranking.ranking (drop_all l.place all (omega (arith, many, end)))).0 in
    gives_best_of_segments schema st c.args.query.now fields c.args.docs.now all ss c.best_of.result hold (subst (λ (row : List (ℕ × ℕ)). IfOk c.best_of.result (λ best. AreBest c.args.docs.now row best.items)) ranked (c.best_of.ensures.best l.invariant.ranking.scored l.invariant.ranking.kept)) c.best_of.ensures.only
