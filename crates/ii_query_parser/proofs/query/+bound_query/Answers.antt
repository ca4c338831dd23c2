use Rattle.std.proofs.Common.{◌<◌, ◌≤◌, length, rules}
use Rattle.ii_query_parser.proofs.BoundLemmas.{all_bounded, and_not_bounded, next_bounded, next_same, none_deeper}
use Rattle.ii_query_parser.proofs.query.+bound_query.Goals as goal

pub bound_each-bound_query-requires : goal.bound_each-bound_query-requires
bound_each-bound_query-requires t c =
    let inside : c.loop-query.query-index < length c.loop-query.queries = search rules in
    let within : c.loop-query.query-index < length c.args.queries.now = search rules in
    let same = next_same c.args.num_docs c.loop-query.query-index c.loop-query.queries c.args.queries.now c.query-item.result inside within c.loop-query.invariant in
    let deep = none_deeper c.args.queries.now c.loop-query.query-index c.query-item.result within in
    search (rules, same, deep)

pub bound_each-loop-query-preserved : goal.bound_each-loop-query-preserved
bound_each-loop-query-preserved t c =
    let inside : c.loop-query.query-index < length c.loop-query.queries = search rules in
    let within : c.loop-query.query-index < length c.args.queries.now = search rules in
    next_bounded c.args.num_docs c.loop-query.query-index c.loop-query.queries c.args.queries.now c.query-item.result c.bound_query.new.query inside within c.bound_query.ensures c.loop-query.invariant

pub bound_each-returns : goal.bound_each-returns
bound_each-returns t c =
    let done : length c.args.queries.now ≤ c.loop-query.query-index = search rules in
    all_bounded c.args.num_docs c.loop-query.query-index c.loop-query.queries c.args.queries.now done c.loop-query.invariant

pub bound_query-returns-in-AndNot : goal.bound_query-returns-in-AndNot
bound_query-returns-in-AndNot t c =
    and_not_bounded c.args.num_docs c.args.query.now c.in-AndNot.first c.in-AndNot.other _ _ c.in-AndNot.is (search (rules)) (search (rules))
