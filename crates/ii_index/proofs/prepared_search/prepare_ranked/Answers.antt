use Rattle.std.proofs.Common.{◌∙◌, arith, map}
use Rattle.ii_ranking.specs.Segments.{segment_of, segments_damage}
use Rattle.ii_index.specs.Statistics.{searcher_tokens}
use Rattle.ii_statistics.specs.Statistics.{query_statistics, query_terms, segments_statistics, terms_damage}
use Rattle.ii_statistics.proofs.DamageLemmas.{damaged_before, damaged_later, sound_both}
use Rattle.ii_statistics.proofs.StatisticsLaws.{same_segments}
use Rattle.ii_index.proofs.prepared_search.prepare_ranked.Goals as goal

pub statistics_of-requires-clause-few : goal.statistics_of-requires-clause-few
statistics_of-requires-clause-few c = let few = c.requires.few.living in omega (arith, few)

pub returns-in-Err-clause-fault : goal.returns-in-Err-clause-fault
returns-in-Err-clause-fault c =
    let segments = map segment_of c.args.segments.now in
    let query = c.args.query.now in
    damaged_before (terms_damage segments (query_terms query)) (segments_damage query segments) c.in-Err.fault c.in-Err.ensures.fault

pub open-requires-clause-few : goal.open-requires-clause-few
open-requires-clause-few c = let few = c.requires.few.living in omega (arith, few)

pub returns-in-Ok-open-clause-scores : goal.returns-in-Ok-open-clause-scores
returns-in-Ok-open-clause-scores c =
    let segments = map segment_of c.args.segments.now in
    let query = c.args.query.now in
    let a = query_statistics c.in-Ok.statistics in
    let b = segments_statistics (searcher_tokens c.args.tokens.now) segments in
    c.in-Ok-open.ensures.scores ∙ same_segments a b c.in-Ok.ensures.docs query c.in-Ok.ensures.same 0 segments

pub returns-in-Ok-open-clause-sound : goal.returns-in-Ok-open-clause-sound
returns-in-Ok-open-clause-sound c =
    let segments = map segment_of c.args.segments.now in
    let query = c.args.query.now in
    sound_both (terms_damage segments (query_terms query)) (segments_damage query segments) c.in-Ok.ensures.sound c.in-Ok-open.ensures.sound

pub returns-clause-fault : goal.returns-clause-fault
returns-clause-fault c =
    let segments = map segment_of c.args.segments.now in
    let query = c.args.query.now in
    damaged_later (terms_damage segments (query_terms query)) (segments_damage query segments) c.in-Err-open.fault c.in-Ok.ensures.sound c.in-Err-open.ensures.fault
