use Rattle.std.proofs.Common.{◌≡◌, ◌+◌, None, Option, Ok, IfErr, ap, arith, drop, map, subst, sym, take}
use Rattle.std.specs.Prelude.{OnOk}
use Rattle.std.proofs.lemmas.List.{length-map, take_all}
use Rattle.ii_io.specs.declared.faults.Part.{Part}
use Rattle.ii_query_parser.specs.Queries.{tree_of}
use Rattle.ii_ranking.specs.Scores.{IsScoreFault}
use Rattle.ii_ranking.specs.Segments.{segment_of}
use Rattle.ii_ranking.specs.Shares.{share_of}
use Rattle.ii_segment_search.specs.Searcher.{total_living}
use Rattle.ii_explanation.proofs.PlaceLemmas.{IsDocAt, damage_at, explained_at, fields_at, living_next, no_place, none_damaged, only_memory_at, split_at, sum_of}
use Rattle.ii_explanation.proofs.segments.explain_segments.Goals as goal

pub explain-requires : goal.explain-requires
explain-requires g c =
    let all = map segment_of c.args.segments.now in
    let i = c.loop-place.place in
    let s = c.index-segments-place.result in
    record { fields = fields_at c.args.query.now all (take i all) (drop (i + 1) all) (segment_of s) (split_at c.args.segments.now i s c.loop-place-test.true c.index-segments-place.is) c.requires.fields }

pub returns-then-left-living-clause-shares : goal.returns-then-left-living-clause-shares
returns-then-left-living-clause-shares g c =
    let all = map segment_of c.args.segments.now in
    let i = c.loop-place.place in
    let s = c.index-segments-place.result in
    let number_is = c.loop-place.invariant in
    let rank_is = c.select-doc.ensures.rank in
    explained_at (g.S.Bm25StatisticsProvider.statistics c.args.statistics.now) (tree_of c.args.query.now) all c.args.number (segment_of s) c.select-doc.result c.explain.result
    (record { before = take i all; after = drop (i + 1) all; whole = split_at c.args.segments.now i s c.loop-place-test.true c.index-segments-place.is; living = c.select-doc.ensures.alive; number_is = omega (arith, number_is, rank_is) })
    c.explain.ensures.shares

pub returns-then-left-living-clause-sum : goal.returns-then-left-living-clause-sum
returns-then-left-living-clause-sum g c =
    let all = map segment_of c.args.segments.now in
    let i = c.loop-place.place in
    let s = c.index-segments-place.result in
    let st = g.S.Bm25StatisticsProvider.statistics c.args.statistics.now in
    let number_is = c.loop-place.invariant in
    let rank_is = c.select-doc.ensures.rank in
    sum_of st c.args.query.now all c.args.number c.explain.result
    (explained_at st (tree_of c.args.query.now) all c.args.number (segment_of s) c.select-doc.result c.explain.result
    (record { before = take i all; after = drop (i + 1) all; whole = split_at c.args.segments.now i s c.loop-place-test.true c.index-segments-place.is; living = c.select-doc.ensures.alive; number_is = omega (arith, number_is, rank_is) })
    c.explain.ensures.shares)

pub returns-then-left-living-clause-sound : goal.returns-then-left-living-clause-sound
returns-then-left-living-clause-sound g c =
    let all = map segment_of c.args.segments.now in
    let i = c.loop-place.place in
    let s = c.index-segments-place.result in
    let number_is = c.loop-place.invariant in
    let rank_is = c.select-doc.ensures.rank in
    let at : IsDocAt all c.args.number (segment_of s) c.select-doc.result =
    record { before = take i all; after = drop (i + 1) all; whole = split_at c.args.segments.now i s c.loop-place-test.true c.index-segments-place.is; living = c.select-doc.ensures.alive; number_is = omega (arith, number_is, rank_is) } in
    subst (λ (d : Option Part). OnOk c.explain.result (d ≡ None)) (sym (damage_at c.args.query.now all c.args.number (segment_of s) c.select-doc.result at)) c.explain.ensures.sound

pub returns-then-left-living-clause-fault : goal.returns-then-left-living-clause-fault
returns-then-left-living-clause-fault g c =
    let all = map segment_of c.args.segments.now in
    let i = c.loop-place.place in
    let s = c.index-segments-place.result in
    let number_is = c.loop-place.invariant in
    let rank_is = c.select-doc.ensures.rank in
    let at : IsDocAt all c.args.number (segment_of s) c.select-doc.result =
    record { before = take i all; after = drop (i + 1) all; whole = split_at c.args.segments.now i s c.loop-place-test.true c.index-segments-place.is; living = c.select-doc.ensures.alive; number_is = omega (arith, number_is, rank_is) } in
    subst (λ (d : Option Part). IfErr c.explain.result (IsScoreFault d)) (sym (damage_at c.args.query.now all c.args.number (segment_of s) c.select-doc.result at)) c.explain.ensures.fault

pub returns-then-left-living-clause-only : goal.returns-then-left-living-clause-only
returns-then-left-living-clause-only g c = λ sound.
    let all = map segment_of c.args.segments.now in
    let i = c.loop-place.place in
    let s = c.index-segments-place.result in
    only_memory_at c.args.query.now all (take i all) (drop (i + 1) all) (segment_of s) c.explain.result (split_at c.args.segments.now i s c.loop-place-test.true c.index-segments-place.is) sound c.explain.ensures.fault

pub loop-place-preserved : goal.loop-place-preserved
loop-place-preserved g c =
    let next = living_next c.args.segments.now c.loop-place.place c.index-segments-place.result c.loop-place-test.true c.index-segments-place.is in
    let living = c.num_living-living.ensures in
    let number_is = c.loop-place.invariant in
    omega (arith, next, living, number_is)

pub returns-clause-shares : goal.returns-clause-shares
returns-clause-shares g c =
    let all = map segment_of c.args.segments.now in
    let many = length-map c.args.segments.now segment_of in
    let end = c.loop-place-test.false in
    let living : total_living (take c.loop-place.place all) ≡ total_living all = ap total_living (take_all c.loop-place.place all (omega (arith, many, end))) in
    let number_is = c.loop-place.invariant in
    no_place (g.S.Bm25StatisticsProvider.statistics c.args.statistics.now) (tree_of c.args.query.now) all c.args.number (map share_of c.new.result.items) (omega (arith, living, number_is)) (ap (map share_of) c.new.ensures.items)

pub returns-clause-sum : goal.returns-clause-sum
returns-clause-sum g c =
    let all = map segment_of c.args.segments.now in
    let many = length-map c.args.segments.now segment_of in
    let end = c.loop-place-test.false in
    let living : total_living (take c.loop-place.place all) ≡ total_living all = ap total_living (take_all c.loop-place.place all (omega (arith, many, end))) in
    let st = g.S.Bm25StatisticsProvider.statistics c.args.statistics.now in
    let number_is = c.loop-place.invariant in
    sum_of st c.args.query.now all c.args.number (Ok c.new.result) (no_place st (tree_of c.args.query.now) all c.args.number (map share_of c.new.result.items) (omega (arith, living, number_is)) (ap (map share_of) c.new.ensures.items))

pub returns-clause-sound : goal.returns-clause-sound
returns-clause-sound g c =
    let all = map segment_of c.args.segments.now in
    let many = length-map c.args.segments.now segment_of in
    let end = c.loop-place-test.false in
    let living : total_living (take c.loop-place.place all) ≡ total_living all = ap total_living (take_all c.loop-place.place all (omega (arith, many, end))) in
    let number_is = c.loop-place.invariant in
    none_damaged c.args.query.now all c.args.number (omega (arith, living, number_is))
