use Rattle.std.proofs.Common.{◌≡◌, ◌∙◌, ◌<◌, ◌^◌, List, None, ap, map, refl, string_bytes, subst, sym}
use Rattle.std.specs.List.{AllZip}
use Rattle.ii_ranking.specs.Scores.{IsScoreFault}
use Rattle.ii_ranking.specs.Segments.{segment_of, segments_scored}
use Rattle.ii_scorer.specs.TopDocs.{AreBest}
use Rattle.ii_scorer.specs.declared.top_docs.TopDocs.{TopDocs}
use Rattle.ii_segment_search.specs.Searcher.{HaveFields, OpenSegmentState, total_living}
use Rattle.ii_statistics.specs.Statistics.{query_terms, ranking_damage, segments_statistics}
use Rattle.ii_statistics.proofs.DamageLemmas.{damaged_before, damaged_later, sound_both}
use Rattle.nequllpa_searching.specs.Explained.{IsExplained}
use Rattle.nequllpa_searching.specs.OpenedNumbers.{open_segment, opened_statistics, tokens_damage, totals_of}
use Rattle.nequllpa_opening.specs.RowFormats.{is_json}
use Rattle.nequllpa_searching.proofs.RankingLemmas.{best_alike, explained_alike, may_few, may_fields}
use Rattle.nequllpa_searching.proofs.TotalsLemmas.{same_totals}
use Rattle.nequllpa_searching.proofs.ranking.best_of_segments.Goals as goal

pub field_totals-requires : goal.field_totals-requires
field_totals-requires c = may_fields c.args.query.now c.args.segments.now c.requires

pub best_by-requires-clause-fields : goal.best_by-requires-clause-fields
best_by-requires-clause-fields c =
    let same : map segment_of c.as_slice.result.now ≡ map open_segment c.args.segments.now = ap (map segment_of) c.as_slice.ensures.value ∙ c.in-Ok-sources_of.ensures.same in
    subst (HaveFields c.args.query.now) (sym same) (may_fields c.args.query.now c.args.segments.now c.requires)

pub best_by-requires-clause-few : goal.best_by-requires-clause-few
best_by-requires-clause-few c =
    let same : map segment_of c.as_slice.result.now ≡ map open_segment c.args.segments.now = ap (map segment_of) c.as_slice.ensures.value ∙ c.in-Ok-sources_of.ensures.same in
    subst (λ (os : List OpenSegmentState). total_living os < 2 ^ 32) (sym same) (may_few c.args.query.now c.args.segments.now c.requires)

pub returns-in-Err-clause-fault : goal.returns-in-Err-clause-fault
returns-in-Err-clause-fault c =
    damaged_before (tokens_damage c.args.segments.now (query_terms c.args.query.now)) (ranking_damage (map open_segment c.args.segments.now) c.args.query.now) c.in-Err.fault c.in-Err.ensures.fault

pub returns-in-Ok-best_by-clause-best : goal.returns-in-Ok-best_by-clause-best
returns-in-Ok-best_by-clause-best c =
    let os = c.args.segments.now in
    let segments = map open_segment os in
    let query = c.args.query.now in
    let same : map segment_of c.as_slice.result.now ≡ segments = ap (map segment_of) c.as_slice.ensures.value ∙ c.in-Ok-sources_of.ensures.same in
    let how : TopDocs = record { limit = c.args.how.now.limit; offset = 0 } in
    let best = c.in-Ok-best_by.best.docs.items in
    let a = totals_of c.in-Ok.totals in
    best_alike (segments_statistics a segments) (opened_statistics os) refl query (same_totals os c.in-Ok.totals (query_terms query) c.in-Ok.ensures.totals) segments how best
    (subst (λ (ss : List OpenSegmentState). AreBest how (segments_scored (segments_statistics a ss) query 0 ss) best) same c.in-Ok-best_by.ensures.best)

pub returns-in-Ok-best_by-clause-explained : goal.returns-in-Ok-best_by-clause-explained
returns-in-Ok-best_by-clause-explained c = λ wanted.
    let os = c.args.segments.now in
    let segments = map open_segment os in
    let query = c.args.query.now in
    let same : map segment_of c.as_slice.result.now ≡ segments = ap (map segment_of) c.as_slice.ensures.value ∙ c.in-Ok-sources_of.ensures.same in
    let best = c.in-Ok-best_by.best.docs.items in
    let texts = map string_bytes c.in-Ok-best_by.best.explanations.items in
    let json = is_json c.args.how.now.format in
    let a = totals_of c.in-Ok.totals in
    explained_alike (segments_statistics a segments) (opened_statistics os) refl query (same_totals os c.in-Ok.totals (query_terms query) c.in-Ok.ensures.totals) segments json c.args.schema.now best texts
    (subst (λ (ss : List OpenSegmentState). AllZip (IsExplained (segments_statistics a ss) query ss json c.args.schema.now) best texts) same (c.in-Ok-best_by.ensures.explained wanted))

pub returns-in-Ok-best_by-clause-sound : goal.returns-in-Ok-best_by-clause-sound
returns-in-Ok-best_by-clause-sound c =
    let segments = map open_segment c.args.segments.now in
    let query = c.args.query.now in
    let same : map segment_of c.as_slice.result.now ≡ segments = ap (map segment_of) c.as_slice.ensures.value ∙ c.in-Ok-sources_of.ensures.same in
    sound_both (tokens_damage c.args.segments.now (query_terms query)) (ranking_damage segments query) c.in-Ok.ensures.sound (subst (λ (ss : List OpenSegmentState). ranking_damage ss query ≡ None) same c.in-Ok-best_by.ensures.sound)

pub returns-clause-fault : goal.returns-clause-fault
returns-clause-fault c =
    let segments = map open_segment c.args.segments.now in
    let query = c.args.query.now in
    let same : map segment_of c.as_slice.result.now ≡ segments = ap (map segment_of) c.as_slice.ensures.value ∙ c.in-Ok-sources_of.ensures.same in
    damaged_later (tokens_damage c.args.segments.now (query_terms query)) (ranking_damage segments query) c.in-Err-best_by.fault c.in-Ok.ensures.sound
    (subst (λ (ss : List OpenSegmentState). IsScoreFault (ranking_damage ss query) c.in-Err-best_by.fault) same c.in-Err-best_by.ensures.fault)
