use Rattle.std.proofs.Common.{◌≡◌, ◌∙◌, List, ap, map, subst, sym}
use Rattle.std.specs.List.{AllByRecursion}
use Rattle.ii_base.specs.Terms.{TermState}
use Rattle.ii_ranking.specs.Scores.{IsScoreFault}
use Rattle.ii_statistics.specs.Listed.{HaveField}
use Rattle.ii_statistics.specs.Statistics.{query_terms}
use Rattle.ii_statistics.proofs.ListedLemmas.{terms_known}
use Rattle.nequllpa_searching.specs.OpenedNumbers.{open_segment, tokens_damage, tokens_in_all, totals_of}
use Rattle.nequllpa_searching.proofs.field_totals.field_totals.Goals as goal

pub totals_of_terms-requires : goal.totals_of_terms-requires
totals_of_terms-requires c =
    let segments = map open_segment c.args.segments.now in
    let same : map (λ t. t.now) c.as_slice.result.now ≡ query_terms c.args.query.now = ap (map (λ t. t.now)) c.as_slice.ensures.value ∙ c.in-Ok.ensures.terms in
    subst (AllByRecursion (λ (t : TermState). HaveField segments t.field)) (sym same) (terms_known c.args.query.now segments c.requires)

pub returns-in-Ok-totals_of_terms-clause-totals : goal.returns-in-Ok-totals_of_terms-clause-totals
returns-in-Ok-totals_of_terms-clause-totals c =
    let same : map (λ t. t.now) c.as_slice.result.now ≡ query_terms c.args.query.now = ap (map (λ t. t.now)) c.as_slice.ensures.value ∙ c.in-Ok.ensures.terms in
    subst (AllByRecursion (λ (u : TermState). totals_of c.in-Ok-totals_of_terms.totals u.field ≡ tokens_in_all c.args.segments.now u.field)) same c.in-Ok-totals_of_terms.ensures.totals

pub returns-in-Ok-totals_of_terms-clause-sound : goal.returns-in-Ok-totals_of_terms-clause-sound
returns-in-Ok-totals_of_terms-clause-sound c =
    let same : map (λ t. t.now) c.as_slice.result.now ≡ query_terms c.args.query.now = ap (map (λ t. t.now)) c.as_slice.ensures.value ∙ c.in-Ok.ensures.terms in
    ap (tokens_damage c.args.segments.now) (sym same) ∙ c.in-Ok-totals_of_terms.ensures.sound

pub returns-clause-fault : goal.returns-clause-fault
returns-clause-fault c =
    let same : map (λ t. t.now) c.as_slice.result.now ≡ query_terms c.args.query.now = ap (map (λ t. t.now)) c.as_slice.ensures.value ∙ c.in-Ok.ensures.terms in
    subst (λ (terms : List TermState). IsScoreFault (tokens_damage c.args.segments.now terms) c.in-Err-totals_of_terms.fault) same c.in-Err-totals_of_terms.ensures.fault
