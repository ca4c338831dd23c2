use Rattle.std.proofs.Common.{◌≡◌, ◌∙◌, ◌<◌, ◌+◌, ℕ, List, Option, None, OnOk, ap, arith, drop, get_or, length, rules, subst}
use Rattle.std.proofs.lemmas.List.{drop_all}
use Rattle.std.proofs.lemmas.List.FromFn.{get_or-map-range_with_len, length-map-range_with_len}
use Rattle.ii_search.proofs.QueryLemmas.{and_deep, and_has_fields, or_deep, or_has_fields, query_at}
use Rattle.ii_ranking.specs.Combinations.{AddsToEach}
use Rattle.ii_scorer.specs.Combinations.{unless}
use Rattle.ii_ranking.specs.declared.combination.Combination.TheVariants.{Either}
use Rattle.ii_ranking.specs.Scores.{query_score, scored_in}
use Rattle.ii_ranking.proofs.QueryScoreLemmas.{added_to_none, and_not_deep, and_not_other_fields, and_not_query, any_all, combined_alike, on_ok_then, phrase_query, refused_next}
use Rattle.ii_ranking.proofs.scores.+add_scores.Goals as goal

pub add_any-returns-clause-added : goal.add_any-returns-clause-added
add_any-returns-clause-added g t c =
    let l = c.loop-query in
    let all = c.args.queries.now.items in
    let s = scored_in c.args.index.now (g.S.Bm25StatisticsProvider.statistics c.args.statistics.now) in
    any_all s c.args.index.now all (drop l.query-index all) c.args.scores.now.items l.scores.items l.invariant.adding (drop_all l.query-index all (search rules))

pub add_each-returns-in-Err-clause-fault : goal.add_each-returns-in-Err-clause-fault
add_each-returns-in-Err-clause-fault g t c =
    let l = c.loop-query in
    let all = c.args.queries.now.items in
    let inside : l.query-index < length all = search rules in
    let is : c.query-item.result ≡ get_or all l.query-index c.query-item.result = search rules in
    refused_next c.args.index.now all (drop l.query-index all) (drop (l.query-index + 1) all) c.query-item.result c.in-Err.fault l.invariant.adding.sound (query_at all l.query-index c.query-item.result inside is) c.in-Err.ensures.fault

pub add_part-combine-requires : goal.add_part-combine-requires
add_part-combine-requires g t c =
    let f = query_score (scored_in c.args.index.now (g.S.Bm25StatisticsProvider.statistics c.args.statistics.now)) c.args.query.now in
    let many = ap length c.in_ok-part.ensures.scored ∙ length-map-range_with_len f 0 c.len.result in
    search (rules, many)

pub add_part-returns-clause-added : goal.add_part-returns-clause-added
add_part-returns-clause-added g t c =
    let f = query_score (scored_in c.args.index.now (g.S.Bm25StatisticsProvider.statistics c.args.statistics.now)) c.args.query.now in
    let old = c.args.scores.now.items in
    combined_alike c.args.by (λ (doc : ℕ). get_or c.in_ok-part.part.items doc None) f old c.combine.new.scores.items
    (λ doc inside. ap (λ (row : List (Option ℕ)). get_or row doc None) c.in_ok-part.ensures.scored ∙ get_or-map-range_with_len f 0 c.len.result doc doc None (search (rules, inside)) (omega arith)) c.combine.ensures

pub add_scores-add_each-requires : goal.add_scores-add_each-requires
add_scores-add_each-requires g t c κs within =
    let deep = and_deep c.args.query.now c.in-And.queries c.in-And.is in
    let fields = and_has_fields (length c.args.index.now.readers) c.args.query.now c.in-And.queries c.in-And.is c.requires.fields in
    search (rules, deep, fields)

pub add_scores-add_any-requires : goal.add_scores-add_any-requires
add_scores-add_any-requires g t c κs within =
    let deep = or_deep c.args.query.now c.in-Or.queries c.in-Or.is in
    let fields = or_has_fields (length c.args.index.now.readers) c.args.query.now c.in-Or.queries c.in-Or.is c.requires.fields in
    search (rules, deep, fields)

pub add_scores-add_unless-requires : goal.add_scores-add_unless-requires
add_scores-add_unless-requires g t c κs within =
    let query = c.args.query.now in
    let other = c.deref-in-AndNot-2.result.now in
    let deep = and_not_deep query other c.in-AndNot.first c.in-AndNot.other c.in-AndNot.is c.deref-in-AndNot-2.ensures in
    let fields = and_not_other_fields (length c.args.index.now.readers) query other c.in-AndNot.first c.in-AndNot.other c.in-AndNot.is c.deref-in-AndNot-2.ensures c.requires.fields in
    let f = query_score (scored_in c.args.index.now (g.S.Bm25StatisticsProvider.statistics c.args.statistics.now)) c.deref-in-AndNot.result.now in
    let many = ap length c.in_ok-part-in-AndNot.ensures.scored ∙ length-map-range_with_len f 0 c.len.result in
    search (rules, deep, fields, many)

pub add_scores-returns-in-Phrase-clause-added : goal.add_scores-returns-in-Phrase-clause-added
add_scores-returns-in-Phrase-clause-added g t c =
    let s = scored_in c.args.index.now (g.S.Bm25StatisticsProvider.statistics c.args.statistics.now) in
    subst (λ (f : ℕ → Option ℕ). OnOk c.add_phrase.result (AddsToEach f c.args.scores.now.items c.add_phrase.new.scores.items))
    (phrase_query s c.args.query.now c.in-Phrase.first c.in-Phrase.others c.deref.result.now c.in-Phrase.slop c.in-Phrase.is c.deref.ensures.value) c.add_phrase.ensures.added

pub add_scores-returns-in_ok-part-in-AndNot-clause-added : goal.add_scores-returns-in_ok-part-in-AndNot-clause-added
add_scores-returns-in_ok-part-in-AndNot-clause-added g t c =
    let s = scored_in c.args.index.now (g.S.Bm25StatisticsProvider.statistics c.args.statistics.now) in
    let query = c.args.query.now in
    let one = c.deref-in-AndNot.result.now in
    let other = c.deref-in-AndNot-2.result.now in
    let part = c.in_ok-part-in-AndNot.part.items in
    let old = c.args.scores.now.items in
    let new = c.add_unless.new.scores.items in
    on_ok_then c.add_unless.result c.add_unless.ensures.added (combined_alike Either (λ (doc : ℕ). unless (get_or part doc None) (query_score s other doc)) (query_score s query) old new (λ doc inside.
    ap (λ (score : Option ℕ). unless score (query_score s other doc)) (ap (λ (row : List (Option ℕ)). get_or row doc None) c.in_ok-part-in-AndNot.ensures.scored ∙ get_or-map-range_with_len (query_score s one) 0 c.len.result doc doc None (search (rules, inside)) (omega arith))
    ∙ and_not_query s query one other c.in-AndNot.first c.in-AndNot.other c.in-AndNot.is c.deref-in-AndNot.ensures c.deref-in-AndNot-2.ensures doc))

pub scores_of-returns-in-Ok-clause-scored : goal.scores_of-returns-in-Ok-clause-scored
scores_of-returns-in-Ok-clause-scored g t c =
    added_to_none c.args.num_docs (query_score (scored_in c.args.index.now (g.S.Bm25StatisticsProvider.statistics c.args.statistics.now)) c.args.query.now) c.in_ok-scores.scores.items c.add_scores.new.scores.items c.in_ok-scores.ensures.made c.in-Ok.ensures.added
