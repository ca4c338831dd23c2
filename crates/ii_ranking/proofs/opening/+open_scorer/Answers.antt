use Rattle.std.proofs.Common.{◌≡◌, ◌<◌, ◌+◌, ℕ, Option, IfOk, drop, get_or, length, rules, subst}
use Rattle.ii_search.proofs.QueryLemmas.{and_deep, and_has_fields, or_deep, or_has_fields, query_at}
use Rattle.ii_scorer.specs.Scorers.{score_of}
use Rattle.ii_ranking.specs.Scores.{scored_in}
use Rattle.ii_ranking.proofs.QueryScoreLemmas.{phrase_query, refused_next}
use Rattle.ii_ranking.proofs.opening.+open_scorer.Goals as goal

pub open_each-returns-in-Err-clause-fault : goal.open_each-returns-in-Err-clause-fault
open_each-returns-in-Err-clause-fault g t c =
    let l = c.loop-query in
    let all = c.args.queries.now.items in
    let inside : l.query-index < length all = search rules in
    let is : c.query-item.result ≡ get_or all l.query-index c.query-item.result = search rules in
    refused_next c.args.index.now all (drop l.query-index all) (drop (l.query-index + 1) all) c.query-item.result c.in-Err.fault l.invariant.opening.sound (query_at all l.query-index c.query-item.result inside is) c.in-Err.ensures.fault

pub open_scorer-open_each-requires : goal.open_scorer-open_each-requires
open_scorer-open_each-requires g t c κs within =
    let deep = and_deep c.args.query.now c.in-And.queries c.in-And.is in
    let fields = and_has_fields (length c.args.index.now.readers) c.args.query.now c.in-And.queries c.in-And.is c.requires.fields in
    search (rules, deep, fields)

pub open_scorer-open_each-requires-in-Or : goal.open_scorer-open_each-requires-in-Or
open_scorer-open_each-requires-in-Or g t c κs within =
    let deep = or_deep c.args.query.now c.in-Or.queries c.in-Or.is in
    let fields = or_has_fields (length c.args.index.now.readers) c.args.query.now c.in-Or.queries c.in-Or.is c.requires.fields in
    search (rules, deep, fields)

pub open_scorer-returns-in-Phrase-clause-scores : goal.open_scorer-returns-in-Phrase-clause-scores
open_scorer-returns-in-Phrase-clause-scores g t c =
    let s = scored_in c.args.index.now (g.S.Bm25StatisticsProvider.statistics c.args.statistics.now) in
    subst (λ (f : ℕ → Option ℕ). IfOk c.open_phrase.result (λ scorer. (doc : ℕ) → score_of scorer doc ≡ f doc))
    (phrase_query s c.args.query.now c.in-Phrase.first c.in-Phrase.others c.deref.result.now c.in-Phrase.slop c.in-Phrase.is c.deref.ensures.value) c.open_phrase.ensures.scores
