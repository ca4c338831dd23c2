use Rattle.std.proofs.Common.{◌≡◌, ◌<◌, ◌≤◌, ◌+◌, drop, get_or, length, rules}
use Rattle.std.proofs.lemmas.List.{drop_all}
use Rattle.ii_search.proofs.QueryLemmas.{and_deep, and_has_fields, or_deep, or_has_fields, query_at}
use Rattle.ii_ranking.specs.Scores.{scored_in}
use Rattle.ii_ranking.proofs.QueryScoreLemmas.{refused_next}
use Rattle.ii_prepared_term.proofs.BoundLemmas.{bounds_all, bounds_first, bounds_next}
use Rattle.ii_prepared_term.proofs.PreparedQueryLemmas.{lists_next, prepares_next}
use Rattle.ii_prepared_term.proofs.preparing.+prepare.Goals as goal

pub prepare_each-returns-in-Err-clause-fault : goal.prepare_each-returns-in-Err-clause-fault
prepare_each-returns-in-Err-clause-fault g t c =
    let l = c.loop-query in
    let all = c.args.queries.now.items in
    let inside : l.query-index < length all = search rules in
    let is : c.query-item.result ≡ get_or all l.query-index c.query-item.result = search rules in
    refused_next c.args.index.now all (drop l.query-index all) (drop (l.query-index + 1) all) c.query-item.result c.in-Err.fault l.invariant.preparing.sound (query_at all l.query-index c.query-item.result inside is) c.in-Err.ensures.fault

pub prepare-prepare_each-requires : goal.prepare-prepare_each-requires
prepare-prepare_each-requires g t c κs within =
    let deep = and_deep c.args.query.now c.in-And.queries c.in-And.is in
    let fields = and_has_fields (length c.args.index.now.readers) c.args.query.now c.in-And.queries c.in-And.is c.requires.fields in
    search (rules, deep, fields)

pub prepare-prepare_each-requires-in-Or : goal.prepare-prepare_each-requires-in-Or
prepare-prepare_each-requires-in-Or g t c κs within =
    let deep = or_deep c.args.query.now c.in-Or.queries c.in-Or.is in
    let fields = or_has_fields (length c.args.index.now.readers) c.args.query.now c.in-Or.queries c.in-Or.is c.requires.fields in
    search (rules, deep, fields)

pub prepare_each-loop-query-preserved : goal.prepare_each-loop-query-preserved
prepare_each-loop-query-preserved g t c =
    let l = c.loop-query in
    let all = c.args.queries.now.items in
    let s = scored_in c.args.index.now (g.S.Bm25StatisticsProvider.statistics c.args.statistics.now) in
    let inside : l.query-index < length all = search rules in
    let is : c.query-item.result ≡ get_or all l.query-index c.query-item.result = search rules in
    record {
      preparing = prepares_next s c.args.index.now all (drop l.query-index all) (drop (l.query-index + 1) all) c.query-item.result l.parts.items c.push.new.self.items c.in-Ok.part l.invariant.preparing (query_at all l.query-index c.query-item.result inside is) c.in-Ok.ensures.scores c.in-Ok.ensures.ends c.in-Ok.ensures.sound c.in_ok-push.ensures.items;
      bounds = λ doc low. bounds_next s all doc (drop l.query-index all) (drop (l.query-index + 1) all) c.query-item.result l.parts.items c.push.new.self.items c.in-Ok.part (query_at all l.query-index c.query-item.result inside is) (c.in-Ok.ensures.bounds doc low) c.in_ok-push.ensures.items (l.invariant.bounds doc low);
      lists = lists_next c.args.index.now all (drop l.query-index all) (drop (l.query-index + 1) all) c.query-item.result l.parts.items c.push.new.self.items c.in-Ok.part (query_at all l.query-index c.query-item.result inside is) c.in-Ok.ensures.lists c.in_ok-push.ensures.items l.invariant.lists;
    }

pub prepare_each-loop-query-init : goal.prepare_each-loop-query-init
prepare_each-loop-query-init g t c =
    let all = c.args.queries.now.items in
    let s = scored_in c.args.index.now (g.S.Bm25StatisticsProvider.statistics c.args.statistics.now) in
    record { preparing = search rules; bounds = λ doc low. bounds_first s all doc c.new-parts.result.items c.new-parts.ensures.items; lists = search rules }

pub prepare_each-returns-clause-bounds : goal.prepare_each-returns-clause-bounds
prepare_each-returns-clause-bounds g t c = λ doc low.
    let l = c.loop-query in
    let all = c.args.queries.now.items in
    let s = scored_in c.args.index.now (g.S.Bm25StatisticsProvider.statistics c.args.statistics.now) in
    let end : length all ≤ l.query-index = search rules in
    bounds_all s all doc (drop l.query-index all) l.parts.items (drop_all l.query-index all end) (l.invariant.bounds doc low)
