use Rattle.std.proofs.Common.{◌≡◌, ◌∙◌, List, None, ap, map, subst, sym}
use Rattle.std.specs.List.{AllByRecursion}
use Rattle.ii_ranking.specs.Scores.{IsScoreFault}
use Rattle.ii_ranking.specs.Segments.{segment_of, segments_scored}
use Rattle.ii_ranking.specs.TokenScores.{tokens_scored}
use Rattle.ii_scorer.specs.TopDocs.{AreBest}
use Rattle.ii_segment_search.specs.Searcher.{AreFew, HaveFields, OpenSegmentState, SegmentsHold}
use Rattle.ii_index.specs.Statistics.{searcher_tokens}
use Rattle.ii_statistics.specs.Listed.{IsListedInEach}
use Rattle.ii_statistics.specs.Statistics.{query_terms, ranking_damage, segments_statistics}
use Rattle.ii_index.proofs.ranking.best_by.Goals as goal

pub best_of_ranked-requires-clause-fields : goal.best_of_ranked-requires-clause-fields
best_of_ranked-requires-clause-fields c =
    let same : map segment_of c.as_slice.result.now ≡ c.args.segments.now = ap (map segment_of) c.as_slice.ensures.value ∙ c.in-Ok.ensures.same in
    subst (HaveFields c.args.query.now) (sym same) c.requires.fields

pub best_of_ranked-requires-clause-few : goal.best_of_ranked-requires-clause-few
best_of_ranked-requires-clause-few c =
    let same : map segment_of c.as_slice.result.now ≡ c.args.segments.now = ap (map segment_of) c.as_slice.ensures.value ∙ c.in-Ok.ensures.same in
    subst AreFew (sym same) c.requires.few

pub returns-in-Ok-best_of_ranked-clause-best : goal.returns-in-Ok-best_of_ranked-clause-best
returns-in-Ok-best_of_ranked-clause-best c =
    let same : map segment_of c.as_slice.result.now ≡ c.args.segments.now = ap (map segment_of) c.as_slice.ensures.value ∙ c.in-Ok.ensures.same in
    subst (λ (os : List OpenSegmentState). AreBest c.args.docs.now (segments_scored (segments_statistics (searcher_tokens c.args.tokens.now) os) c.args.query.now 0 os) c.in-Ok-best_of_ranked.best.items) same c.in-Ok-best_of_ranked.ensures.best

pub returns-in-Ok-best_of_ranked-clause-listed : goal.returns-in-Ok-best_of_ranked-clause-listed
returns-in-Ok-best_of_ranked-clause-listed c =
    let same : map segment_of c.as_slice.result.now ≡ c.args.segments.now = ap (map segment_of) c.as_slice.ensures.value ∙ c.in-Ok.ensures.same in
    subst (λ (os : List OpenSegmentState). AllByRecursion (IsListedInEach os) (query_terms c.args.query.now)) same c.in-Ok-best_of_ranked.ensures.listed

pub returns-in-Ok-best_of_ranked-clause-sound : goal.returns-in-Ok-best_of_ranked-clause-sound
returns-in-Ok-best_of_ranked-clause-sound c =
    let same : map segment_of c.as_slice.result.now ≡ c.args.segments.now = ap (map segment_of) c.as_slice.ensures.value ∙ c.in-Ok.ensures.same in
    subst (λ (os : List OpenSegmentState). ranking_damage os c.args.query.now ≡ None) same c.in-Ok-best_of_ranked.ensures.sound

pub returns-in-Ok-best_of_ranked-clause-holds : goal.returns-in-Ok-best_of_ranked-clause-holds
returns-in-Ok-best_of_ranked-clause-holds c = λ entries ss hold fields.
    let same : map segment_of c.as_slice.result.now ≡ c.args.segments.now = ap (map segment_of) c.as_slice.ensures.value ∙ c.in-Ok.ensures.same in
    let given = c.in-Ok-best_of_ranked.ensures.holds entries ss (subst (λ (os : List OpenSegmentState). SegmentsHold entries os ss) (sym same) hold) fields in
    subst (λ (os : List OpenSegmentState). AreBest c.args.docs.now (tokens_scored entries (segments_statistics (searcher_tokens c.args.tokens.now) os) c.args.query.now 0 ss) c.in-Ok-best_of_ranked.best.items) same given

pub returns-clause-fault : goal.returns-clause-fault
returns-clause-fault c =
    let same : map segment_of c.as_slice.result.now ≡ c.args.segments.now = ap (map segment_of) c.as_slice.ensures.value ∙ c.in-Ok.ensures.same in
    subst (λ (os : List OpenSegmentState). IsScoreFault (ranking_damage os c.args.query.now) c.in-Err-best_of_ranked.fault) same c.in-Err-best_of_ranked.ensures.fault

pub returns-clause-holds : goal.returns-clause-holds
returns-clause-holds c = λ entries ss hold fields.
    let same : map segment_of c.as_slice.result.now ≡ c.args.segments.now = ap (map segment_of) c.as_slice.ensures.value ∙ c.in-Ok.ensures.same in
    c.in-Err-best_of_ranked.ensures.holds entries ss (subst (λ (os : List OpenSegmentState). SegmentsHold entries os ss) (sym same) hold) fields
