use Rattle.std.proofs.Common.{◌≡◌, ◌∙◌, IfErr, IfOk, List, None, OnOk, ap, map, subst, sym}
use Rattle.std.specs.List.{AllByRecursion}
use Rattle.ii_ranking.specs.Scores.{IsScoreFault}
use Rattle.ii_ranking.specs.Segments.{segment_of, segments_scored}
use Rattle.ii_segment_search.specs.Searcher.{AreFew, HaveFields, OpenSegmentState}
use Rattle.ii_index.specs.Statistics.{searcher_tokens}
use Rattle.ii_statistics.specs.Listed.{IsListedInEach}
use Rattle.ii_statistics.specs.Statistics.{query_terms, ranking_damage, segments_statistics}
use Rattle.ii_index.proofs.prepared_search.prepare_by.Goals as goal

pub prepare_ranked-requires-clause-fields : goal.prepare_ranked-requires-clause-fields
prepare_ranked-requires-clause-fields c =
    let same : map segment_of c.as_slice.result.now ≡ c.args.segments.now = ap (map segment_of) c.as_slice.ensures.value ∙ c.in-Ok.ensures.same in
    subst (HaveFields c.args.query.now) (sym same) c.requires.fields

pub prepare_ranked-requires-clause-few : goal.prepare_ranked-requires-clause-few
prepare_ranked-requires-clause-few c =
    let same : map segment_of c.as_slice.result.now ≡ c.args.segments.now = ap (map segment_of) c.as_slice.ensures.value ∙ c.in-Ok.ensures.same in
    subst AreFew (sym same) c.requires.few

pub returns-clause-scores : goal.returns-clause-scores
returns-clause-scores c =
    let same : map segment_of c.as_slice.result.now ≡ c.args.segments.now = ap (map segment_of) c.as_slice.ensures.value ∙ c.in-Ok.ensures.same in
    subst (λ (os : List OpenSegmentState). IfOk c.prepare_ranked.result (λ prepared. prepared ≡ segments_scored (segments_statistics (searcher_tokens c.args.tokens.now) os) c.args.query.now 0 os)) same c.prepare_ranked.ensures.scores

pub returns-clause-listed : goal.returns-clause-listed
returns-clause-listed c =
    let same : map segment_of c.as_slice.result.now ≡ c.args.segments.now = ap (map segment_of) c.as_slice.ensures.value ∙ c.in-Ok.ensures.same in
    subst (λ (os : List OpenSegmentState). OnOk c.prepare_ranked.result (AllByRecursion (IsListedInEach os) (query_terms c.args.query.now))) same c.prepare_ranked.ensures.listed

pub returns-clause-sound : goal.returns-clause-sound
returns-clause-sound c =
    let same : map segment_of c.as_slice.result.now ≡ c.args.segments.now = ap (map segment_of) c.as_slice.ensures.value ∙ c.in-Ok.ensures.same in
    subst (λ (os : List OpenSegmentState). OnOk c.prepare_ranked.result (ranking_damage os c.args.query.now ≡ None)) same c.prepare_ranked.ensures.sound

pub returns-clause-fault : goal.returns-clause-fault
returns-clause-fault c =
    let same : map segment_of c.as_slice.result.now ≡ c.args.segments.now = ap (map segment_of) c.as_slice.ensures.value ∙ c.in-Ok.ensures.same in
    subst (λ (os : List OpenSegmentState). IfErr c.prepare_ranked.result (IsScoreFault (ranking_damage os c.args.query.now))) same c.prepare_ranked.ensures.fault
