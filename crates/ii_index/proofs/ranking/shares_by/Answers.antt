use Rattle.std.proofs.Common.{◌≡◌, ◌∙◌, ℕ, List, None, Some, ap, map, subst, sym}
use Rattle.std.specs.List.{AllByRecursion, Contains}
use Rattle.ii_explanation.specs.Explanations.{AreSharesAt, number_damage}
use Rattle.ii_query_parser.specs.Queries.{tree_of}
use Rattle.ii_ranking.specs.Scores.{IsScoreFault, first_of}
use Rattle.ii_ranking.specs.Segments.{segment_of, segments_scored}
use Rattle.ii_ranking.specs.Shares.{share_of, total}
use Rattle.ii_segment_search.specs.Searcher.{AreFew, HaveFields, OpenSegmentState}
use Rattle.ii_index.specs.Statistics.{searcher_tokens}
use Rattle.ii_statistics.specs.Listed.{IsListedInEach}
use Rattle.ii_statistics.specs.Statistics.{query_terms, segments_statistics, terms_damage}
use Rattle.ii_index.proofs.ranking.shares_by.Goals as goal

pub shares_of_ranked-requires-clause-fields : goal.shares_of_ranked-requires-clause-fields
shares_of_ranked-requires-clause-fields c =
    let same : map segment_of c.as_slice.result.now ≡ c.args.segments.now = ap (map segment_of) c.as_slice.ensures.value ∙ c.in-Ok.ensures.same in
    subst (HaveFields c.args.query.now) (sym same) c.requires.fields

pub shares_of_ranked-requires-clause-few : goal.shares_of_ranked-requires-clause-few
shares_of_ranked-requires-clause-few c =
    let same : map segment_of c.as_slice.result.now ≡ c.args.segments.now = ap (map segment_of) c.as_slice.ensures.value ∙ c.in-Ok.ensures.same in
    subst AreFew (sym same) c.requires.few

pub returns-in-Ok-shares_of_ranked-clause-shares : goal.returns-in-Ok-shares_of_ranked-clause-shares
returns-in-Ok-shares_of_ranked-clause-shares c =
    let same : map segment_of c.as_slice.result.now ≡ c.args.segments.now = ap (map segment_of) c.as_slice.ensures.value ∙ c.in-Ok.ensures.same in
    subst (λ (os : List OpenSegmentState). AreSharesAt (segments_statistics (searcher_tokens c.args.tokens.now) os) (tree_of c.args.query.now) os c.args.doc (map share_of c.in-Ok-shares_of_ranked.shares.items)) same c.in-Ok-shares_of_ranked.ensures.shares

pub returns-in-Ok-shares_of_ranked-clause-sum : goal.returns-in-Ok-shares_of_ranked-clause-sum
returns-in-Ok-shares_of_ranked-clause-sum c = λ score scored.
    let same : map segment_of c.as_slice.result.now ≡ c.args.segments.now = ap (map segment_of) c.as_slice.ensures.value ∙ c.in-Ok.ensures.same in
    let each = subst (λ (os : List OpenSegmentState). (n : ℕ) → Contains (segments_scored (segments_statistics (searcher_tokens c.args.tokens.now) os) c.args.query.now 0 os) (n, c.args.doc) → total (map share_of c.in-Ok-shares_of_ranked.shares.items) ≡ Some n) same c.in-Ok-shares_of_ranked.ensures.sum in
    each score scored

pub returns-in-Ok-shares_of_ranked-clause-listed : goal.returns-in-Ok-shares_of_ranked-clause-listed
returns-in-Ok-shares_of_ranked-clause-listed c =
    let same : map segment_of c.as_slice.result.now ≡ c.args.segments.now = ap (map segment_of) c.as_slice.ensures.value ∙ c.in-Ok.ensures.same in
    subst (λ (os : List OpenSegmentState). AllByRecursion (IsListedInEach os) (query_terms c.args.query.now)) same c.in-Ok-shares_of_ranked.ensures.listed

pub returns-in-Ok-shares_of_ranked-clause-sound : goal.returns-in-Ok-shares_of_ranked-clause-sound
returns-in-Ok-shares_of_ranked-clause-sound c =
    let same : map segment_of c.as_slice.result.now ≡ c.args.segments.now = ap (map segment_of) c.as_slice.ensures.value ∙ c.in-Ok.ensures.same in
    subst (λ (os : List OpenSegmentState). first_of (terms_damage os (query_terms c.args.query.now)) (number_damage c.args.query.now c.args.doc os) ≡ None) same c.in-Ok-shares_of_ranked.ensures.sound

pub returns-clause-fault : goal.returns-clause-fault
returns-clause-fault c =
    let same : map segment_of c.as_slice.result.now ≡ c.args.segments.now = ap (map segment_of) c.as_slice.ensures.value ∙ c.in-Ok.ensures.same in
    subst (λ (os : List OpenSegmentState). IsScoreFault (first_of (terms_damage os (query_terms c.args.query.now)) (number_damage c.args.query.now c.args.doc os)) c.in-Err-shares_of_ranked.fault) same c.in-Err-shares_of_ranked.ensures.fault
