use Rattle.std.proofs.Common.{◌≡◌, ◌∙◌, ◌<◌, ◌≤◌, List, ◌++◌, append-nil, ap, get_or, length, map, rules, sym}
use Rattle.std.proofs.lemmas.List.{drop_all}
use Rattle.ii_scorer.specs.Scorers.{ScorerState, doc_bound, score_of}
use Rattle.ii_scorer.proofs.BoundLemmas.{row_bound_at}
use Rattle.ii_scorer.proofs.PartsLemmas.{row_is}
use Rattle.ii_prepared_term.specs.PreparedParts.{prepared_parts_bound, prepared_parts_score}
use Rattle.ii_prepared_term.specs.PreparedQueries.{PreparedQueryState, lists_under, prepared_query_bound, prepared_query_score}
use Rattle.ii_prepared_term.proofs.ListOrderLemmas.{any_unread, unread_more, without_unread}
use Rattle.ii_prepared_term.proofs.PreparedQueryLemmas.{bounds_same, part_inside, rows_more}
use Rattle.ii_prepared_term.proofs.prepared_query.+scorer.Goals as goal

pub PreparedQuery::scorer-returns-clause-scores : goal.PreparedQuery::scorer-returns-clause-scores
PreparedQuery::scorer-returns-clause-scores t c = rw (← c.self.view_is) (λ doc. sym (row_is (prepared_parts_score c.self.inside.parts) (score_of c.in-Ok.scorer) (λ d. sym (c.in-Ok.ensures.scores d)) c.max_score-most.ensures.bounded.ends doc))

pub PreparedQuery::scorer-returns-clause-bounds : goal.PreparedQuery::scorer-returns-clause-bounds
PreparedQuery::scorer-returns-clause-bounds t c = rw (← c.self.view_is) (λ doc low. c.in-Ok.ensures.bounds doc low ∙ sym (row_bound_at (prepared_parts_bound c.self.inside.parts) doc low))

pub scorers_of-returns-clause-bounds : goal.scorers_of-returns-clause-bounds
scorers_of-returns-clause-bounds t c = λ doc low.
    let l = c.loop-part in
    let all = c.args.parts.now.items in
    let end : length all ≤ l.part-index = search rules in
    let bounds = map (λ (s : ScorerState). doc_bound s doc) l.scorers.items in
    bounds_same l.scorers.items all doc
    (sym (append-nil bounds) ∙ ap (λ (ps : List PreparedQueryState). bounds ++ map (λ (p : PreparedQueryState). prepared_query_bound p doc) ps) (sym (drop_all l.part-index all end)) ∙ l.invariant.bounds doc low)

pub scorers_of-scorer-requires : goal.scorers_of-scorer-requires
scorers_of-scorer-requires t c =
    let l = c.loop-part in
    let all = c.args.parts.now.items in
    let inside : l.part-index < length all = search rules in
    let is : c.part-item.result ≡ get_or all l.part-index c.part-item.result = search rules in
    let low = part_inside all l.part-index c.part-item.result inside is in
    search (rules, low)

pub scorers_of-loop-part-preserved : goal.scorers_of-loop-part-preserved
scorers_of-loop-part-preserved t c =
    let l = c.loop-part in
    let all = c.args.parts.now.items in
    let inside : l.part-index < length all = search rules in
    let is : c.part-item.result ≡ get_or all l.part-index c.part-item.result = search rules in
    record {
      scores = λ doc. rows_more (λ (s : ScorerState). score_of s doc) (λ (p : PreparedQueryState). prepared_query_score p doc) all l.part-index c.part-item.result l.scorers.items c.push.new.self.items c.in-Ok.scorer inside is (c.in-Ok.ensures.scores doc) c.in_ok-push.ensures.items (l.invariant.scores doc);
      bounds = λ doc low. rows_more (λ (s : ScorerState). doc_bound s doc) (λ (p : PreparedQueryState). prepared_query_bound p doc) all l.part-index c.part-item.result l.scorers.items c.push.new.self.items c.in-Ok.scorer inside is (c.in-Ok.ensures.bounds doc low) c.in_ok-push.ensures.items (l.invariant.bounds doc low);
      lists = unread_more all l.part-index c.part-item.result l.scorers.items c.push.new.self.items c.in-Ok.scorer inside is c.in-Ok.ensures.lists c.in_ok-push.ensures.items l.invariant.lists;
    }

pub scorer_of-returns-in-Ok-scorers_of-clause-lists : goal.scorer_of-returns-in-Ok-scorers_of-clause-lists
scorer_of-returns-in-Ok-scorers_of-clause-lists t c = rw c.in-Any.is (any_unread (lists_under c.in-Any.parts.items) c.in-Ok-scorers_of.scorers.items c.any.result c.any.ensures.lists c.in-Ok-scorers_of.ensures.lists)

pub scorer_without-returns-in-Ok-clause-lists : goal.scorer_without-returns-in-Ok-clause-lists
scorer_without-returns-in-Ok-clause-lists t c = without_unread c.args.other.now.lists c.args.first c.in-Ok.other c.without.result c.without.ensures.lists c.in-Ok.ensures.lists
