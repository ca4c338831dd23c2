use Rattle.std.proofs.Common.{◌∙◌, ℕ, List, arith, map, subst, sym}
use Rattle.std.specs.List.{Contains}
use Rattle.ii_explanation.specs.Explanations.{number_damage}
use Rattle.ii_ranking.specs.Segments.{segment_of}
use Rattle.ii_index.specs.Statistics.{searcher_tokens}
use Rattle.ii_statistics.specs.Statistics.{query_statistics, query_terms, segments_statistics, terms_damage}
use Rattle.ii_statistics.proofs.DamageLemmas.{damaged_before, damaged_later, sound_both}
use Rattle.ii_statistics.proofs.StatisticsLaws.{same_segments, same_shares_in}
use Rattle.ii_index.proofs.ranking.shares_of_ranked.Goals as goal

pub statistics_of-requires-clause-few : goal.statistics_of-requires-clause-few
statistics_of-requires-clause-few c = let few = c.requires.few.living in omega (arith, few)

pub returns-in-Err-clause-fault : goal.returns-in-Err-clause-fault
returns-in-Err-clause-fault c =
    let segments = map segment_of c.args.segments.now in
    damaged_before (terms_damage segments (query_terms c.args.query.now)) (number_damage c.args.query.now c.args.doc segments) c.in-Err.fault c.in-Err.ensures.fault

pub returns-in-Ok-explain_segments-clause-shares : goal.returns-in-Ok-explain_segments-clause-shares
returns-in-Ok-explain_segments-clause-shares c =
    let a = query_statistics c.in-Ok.statistics in
    let b = segments_statistics (searcher_tokens c.args.tokens.now) (map segment_of c.args.segments.now) in
    record {
      here = λ before after s doc whole living number. c.in-Ok-explain_segments.ensures.shares.here before after s doc whole living number ∙ same_shares_in a b c.in-Ok.ensures.docs c.args.query.now c.in-Ok.ensures.same s doc;
      none = c.in-Ok-explain_segments.ensures.shares.none;
    }

pub returns-in-Ok-explain_segments-clause-sum : goal.returns-in-Ok-explain_segments-clause-sum
returns-in-Ok-explain_segments-clause-sum c = λ score scored.
    let segments = map segment_of c.args.segments.now in
    let a = query_statistics c.in-Ok.statistics in
    let b = segments_statistics (searcher_tokens c.args.tokens.now) segments in
    c.in-Ok-explain_segments.ensures.sum score (subst (λ (row : List (ℕ × ℕ)). Contains row (score, c.args.doc)) (sym (same_segments a b c.in-Ok.ensures.docs c.args.query.now c.in-Ok.ensures.same 0 segments)) scored)

pub returns-in-Ok-explain_segments-clause-sound : goal.returns-in-Ok-explain_segments-clause-sound
returns-in-Ok-explain_segments-clause-sound c =
    let segments = map segment_of c.args.segments.now in
    sound_both (terms_damage segments (query_terms c.args.query.now)) (number_damage c.args.query.now c.args.doc segments) c.in-Ok.ensures.sound c.in-Ok-explain_segments.ensures.sound

pub returns-clause-fault : goal.returns-clause-fault
returns-clause-fault c =
    let segments = map segment_of c.args.segments.now in
    damaged_later (terms_damage segments (query_terms c.args.query.now)) (number_damage c.args.query.now c.args.doc segments) c.in-Err-explain_segments.fault c.in-Ok.ensures.sound c.in-Err-explain_segments.ensures.fault
