use Rattle.std.proofs.Common.{◌≡◌, ◌∙◌, List, ap, map, subst, sym}
use Rattle.std.specs.List.{AllByRecursion}
use Rattle.ii_base.specs.Terms.{TermState}
use Rattle.ii_ranking.specs.Scores.{IsScoreFault}
use Rattle.ii_ranking.specs.Segments.{segment_of}
use Rattle.ii_statistics.specs.Listed.{IsListedInEach, HaveField}
use Rattle.ii_statistics.specs.Statistics.{counts_of_term, query_terms, terms_damage}
use Rattle.ii_statistics.proofs.CountLemmas.{counted_same}
use Rattle.ii_statistics.proofs.ListedLemmas.{terms_known}
use Rattle.ii_statistics.proofs.statistics.statistics_of.Goals as goal

pub count_terms-requires-clause-fields : goal.count_terms-requires-clause-fields
count_terms-requires-clause-fields g c =
    let segments = map segment_of c.args.segments.now in
    let same : map (λ t. t.now) c.as_slice.result.now ≡ query_terms c.args.query.now = ap (map (λ t. t.now)) c.as_slice.ensures.value ∙ c.in-Ok.ensures.terms in
    subst (AllByRecursion (λ (t : TermState). HaveField segments t.field)) (sym same) (terms_known c.args.query.now segments c.requires.fields)

pub returns-in-Ok-count_terms-clause-same : goal.returns-in-Ok-count_terms-clause-same
returns-in-Ok-count_terms-clause-same g c =
    let segments = map segment_of c.args.segments.now in
    let by_field = g.N.FieldTokens.by_field c.args.tokens.now in
    let same : map (λ t. t.now) c.as_slice.result.now ≡ query_terms c.args.query.now = ap (map (λ t. t.now)) c.as_slice.ensures.value ∙ c.in-Ok.ensures.terms in
    counted_same by_field segments (record { num_docs = c.num_living.result; terms = c.in-Ok-count_terms.terms }) (query_terms c.args.query.now) (c.in-Ok-count_terms.ensures.counted ∙ ap (map (counts_of_term by_field segments)) same)

pub returns-in-Ok-count_terms-clause-listed : goal.returns-in-Ok-count_terms-clause-listed
returns-in-Ok-count_terms-clause-listed g c =
    let segments = map segment_of c.args.segments.now in
    let same : map (λ t. t.now) c.as_slice.result.now ≡ query_terms c.args.query.now = ap (map (λ t. t.now)) c.as_slice.ensures.value ∙ c.in-Ok.ensures.terms in
    subst (AllByRecursion (IsListedInEach segments)) same c.in-Ok-count_terms.ensures.listed

pub returns-in-Ok-count_terms-clause-sound : goal.returns-in-Ok-count_terms-clause-sound
returns-in-Ok-count_terms-clause-sound g c =
    let segments = map segment_of c.args.segments.now in
    let same : map (λ t. t.now) c.as_slice.result.now ≡ query_terms c.args.query.now = ap (map (λ t. t.now)) c.as_slice.ensures.value ∙ c.in-Ok.ensures.terms in
    ap (terms_damage segments) (sym same) ∙ c.in-Ok-count_terms.ensures.sound

pub returns-clause-fault : goal.returns-clause-fault
returns-clause-fault g c =
    let segments = map segment_of c.args.segments.now in
    let same : map (λ t. t.now) c.as_slice.result.now ≡ query_terms c.args.query.now = ap (map (λ t. t.now)) c.as_slice.ensures.value ∙ c.in-Ok.ensures.terms in
    subst (λ (terms : List TermState). IsScoreFault (terms_damage segments terms) c.in-Err-count_terms.fault) same c.in-Err-count_terms.ensures.fault
