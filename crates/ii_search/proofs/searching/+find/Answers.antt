use Rattle.std.proofs.Common.{◌≡◌, ◌∙◌, ◌<◌, ◌+◌, ap, drop, get_or, length, rules}
use Rattle.ii_query.specs.QueryCursor.{rests}
use Rattle.ii_search.proofs.QueryLemmas.{and_deep, and_has_fields, few_meet, few_pushed, finding_next, finding_refused, or_deep, or_has_fields, query_at, rests_pushed}
use Rattle.ii_search.proofs.searching.+find.Goals as goal

pub find-find_all-requires : goal.find-find_all-requires
find-find_all-requires t c =
    let deep = and_deep c.args.query.now c.in-And.queries c.in-And.is in
    let fields = and_has_fields (length c.args.index.now.readers) c.args.query.now c.in-And.queries c.in-And.is c.requires.fields in
    search (rules, deep, fields)

pub find-find_any-requires : goal.find-find_any-requires
find-find_any-requires t c =
    let deep = or_deep c.args.query.now c.in-Or.queries c.in-Or.is in
    let fields = or_has_fields (length c.args.index.now.readers) c.args.query.now c.in-Or.queries c.in-Or.is c.requires.fields in
    search (rules, deep, fields)

pub find_all-returns-in-Ok-clause-lazy : goal.find_all-returns-in-Ok-clause-lazy
find_all-returns-in-Ok-clause-lazy t c = few_meet c.in-Ok.cursors.items c.intersection.result c.in-Ok.ensures.lazy c.intersection.ensures.work

pub find_each-returns-in-Err-clause-refused : goal.find_each-returns-in-Err-clause-refused
find_each-returns-in-Err-clause-refused t c =
    let l = c.loop-query in
    let all = c.args.queries.now.items in
    let inside : l.query-index < length all = search rules in
    let is : c.query-item.result ≡ get_or all l.query-index c.query-item.result = search rules in
    finding_refused c.args.index.now all (drop l.query-index all) (drop (l.query-index + 1) all) (rests l.cursors.items) c.query-item.result c.in-Err.fault l.invariant.finding (query_at all l.query-index c.query-item.result inside is) c.in-Err.ensures.refused

pub find_each-loop-query-preserved : goal.find_each-loop-query-preserved
find_each-loop-query-preserved t c =
    let l = c.loop-query in
    let all = c.args.queries.now.items in
    let inside : l.query-index < length all = search rules in
    let is : c.query-item.result ≡ get_or all l.query-index c.query-item.result = search rules in
    record {
      finding = finding_next c.args.index.now all (drop l.query-index all) (drop (l.query-index + 1) all) (rests l.cursors.items) (rests c.push.new.self.items) c.query-item.result c.in-Ok.cursor.rest l.invariant.finding (query_at all l.query-index c.query-item.result inside is)
          c.in-Ok.ensures.listed (ap rests c.in_ok-push.ensures.items ∙ rests_pushed l.cursors.items c.in-Ok.cursor);
      lazy = rw (c.in_ok-push.ensures.items) (few_pushed _ l.cursors.items c.in-Ok.cursor l.invariant.lazy c.in-Ok.ensures.lazy);
    }
