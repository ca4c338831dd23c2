use Rattle.std.proofs.Common.{ℕ, List, Ok, arith, length, map, subst}
use Rattle.ii_ranking.specs.Segments.{segment_of, segments_damage}
use Rattle.ii_ranking.specs.TokenScores.{GivesBest}
use Rattle.ii_scorer.specs.TopDocs.{AreBest}
use Rattle.ii_index.specs.Statistics.{searcher_tokens}
use Rattle.ii_index.proofs.HeldLemmas.{terms_held_sound}
use Rattle.ii_statistics.specs.Statistics.{query_statistics, query_terms, segments_statistics, terms_damage}
use Rattle.ii_ranking.proofs.TokenLaws.{memory_of_none}
use Rattle.ii_statistics.proofs.DamageLemmas.{damaged_before, damaged_later, sound_both}
use Rattle.ii_statistics.proofs.StatisticsLaws.{same_segments, same_tokens}
use Rattle.ii_statistics.proofs.TermLemmas.{terms_below}
use Rattle.ii_index.proofs.ranking.best_of_ranked.Goals as goal

pub statistics_of-requires-clause-few : goal.statistics_of-requires-clause-few
statistics_of-requires-clause-few c = let few = c.requires.few.living in omega (arith, few)

pub search_segments-requires-clause-few : goal.search_segments-requires-clause-few
search_segments-requires-clause-few c = let few = c.requires.few.living in omega (arith, few)

pub returns-in-Err-clause-fault : goal.returns-in-Err-clause-fault
returns-in-Err-clause-fault c =
    let segments = map segment_of c.args.segments.now in
    damaged_before (terms_damage segments (query_terms c.args.query.now)) (segments_damage c.args.query.now segments) c.in-Err.fault c.in-Err.ensures.fault

pub returns-in-Err-clause-holds : goal.returns-in-Err-clause-holds
returns-in-Err-clause-holds c = λ entries ss hold fields.
    let segments = map segment_of c.args.segments.now in
    let terms = query_terms c.args.query.now in
    memory_of_none (terms_damage segments terms) c.in-Err.fault (terms_held_sound entries segments ss hold terms (terms_below (length entries) c.args.query.now fields)) c.in-Err.ensures.fault

pub returns-in-Ok-search_segments-clause-best : goal.returns-in-Ok-search_segments-clause-best
returns-in-Ok-search_segments-clause-best c =
    let segments = map segment_of c.args.segments.now in
    let query = c.args.query.now in
    let a = query_statistics c.in-Ok.statistics in
    let b = segments_statistics (searcher_tokens c.args.tokens.now) segments in
    subst (λ (row : List (ℕ × ℕ)). AreBest c.args.docs.now row c.in-Ok-search_segments.best.items) (same_segments a b c.in-Ok.ensures.docs query c.in-Ok.ensures.same 0 segments) c.in-Ok-search_segments.ensures.best

pub returns-in-Ok-search_segments-clause-sound : goal.returns-in-Ok-search_segments-clause-sound
returns-in-Ok-search_segments-clause-sound c =
    let segments = map segment_of c.args.segments.now in
    sound_both (terms_damage segments (query_terms c.args.query.now)) (segments_damage c.args.query.now segments) c.in-Ok.ensures.sound c.in-Ok-search_segments.ensures.sound

pub returns-in-Ok-search_segments-clause-holds : goal.returns-in-Ok-search_segments-clause-holds
returns-in-Ok-search_segments-clause-holds c = λ entries ss hold fields.
    let segments = map segment_of c.args.segments.now in
    let query = c.args.query.now in
    let a = query_statistics c.in-Ok.statistics in
    let b = segments_statistics (searcher_tokens c.args.tokens.now) segments in
    subst (λ (row : List (ℕ × ℕ)). GivesBest c.args.docs.now row (Ok c.in-Ok-search_segments.best)) (same_tokens a b c.in-Ok.ensures.docs query c.in-Ok.ensures.same entries 0 ss) (c.in-Ok-search_segments.ensures.holds entries ss hold fields)

pub returns-clause-fault : goal.returns-clause-fault
returns-clause-fault c =
    let segments = map segment_of c.args.segments.now in
    damaged_later (terms_damage segments (query_terms c.args.query.now)) (segments_damage c.args.query.now segments) c.in-Err-search_segments.fault c.in-Ok.ensures.sound c.in-Err-search_segments.ensures.fault

pub returns-clause-holds : goal.returns-clause-holds
returns-clause-holds c = λ entries ss hold fields. c.in-Err-search_segments.ensures.holds entries ss hold fields
