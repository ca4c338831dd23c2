use Rattle.std.proofs.Common.{◌≡◌, ◌∙◌, ◌<◌, ◌+◌, ◌++◌, ◌&&◌, List, [], Bool, ap, drop, get_or, if◌then◌else◌, length, map, nat_lt, refl, rules, sym}
use Rattle.std.proofs.Math.Bool.{and-true}
use Rattle.std.proofs.lemmas.List.{drop_all}
use Rattle.ii_search.proofs.QueryLemmas.{and_deep, and_has_fields, or_deep, or_has_fields, query_at}
use Rattle.ii_query_parser.specs.declared.query.Query.{Query}
use Rattle.ii_ranking.specs.Scores.{scored_in}
use Rattle.ii_ranking.specs.Shares.{all_have_shares, share_of, tree_shares, trees_shares}
use Rattle.ii_query_parser.specs.Queries.{tree_of, trees_of}
use Rattle.ii_ranking.proofs.GatherLemmas.{dropped_if_more, each_so_far, gathers_all, gathers_none, gathers_one, has_grown, kept_or_dropped}
use Rattle.ii_ranking.proofs.shares.+add_shares.Goals as goal

pub add_any-loop-query-init : goal.add_any-loop-query-init
add_any-loop-query-init g t c = record { gathering = gathers_none _ _ _ _ _ c.requires.fields }

pub add_any-loop-query-preserved : goal.add_any-loop-query-preserved
add_any-loop-query-preserved g t c =
    let l = c.loop-query in
    let all = c.args.queries.now.items in
    let s = scored_in c.args.index.now (g.S.Bm25StatisticsProvider.statistics c.args.statistics.now) in
    let inside : l.query-index < length all = search rules in
    let is : c.query-item.result ≡ get_or all l.query-index c.query-item.result = search rules in
    record {
      gathering = gathers_one s c.args.index.now all (drop l.query-index all) (drop (l.query-index + 1) all) c.query-item.result c.args.doc (map share_of c.args.shares.now.items) (map share_of l.shares.items) (map share_of c.add_shares.new.shares.items)
          (query_at all l.query-index c.query-item.result inside is) c.in_ok-add_shares.ensures.added c.in_ok-add_shares.ensures.sound l.invariant.gathering;
    }

pub add_any-returns-clause-added : goal.add_any-returns-clause-added
add_any-returns-clause-added g t c =
    let l = c.loop-query in
    let all = c.args.queries.now.items in
    let s = scored_in c.args.index.now (g.S.Bm25StatisticsProvider.statistics c.args.statistics.now) in
    gathers_all s c.args.index.now all (drop l.query-index all) c.args.doc (map share_of c.args.shares.now.items) (map share_of l.shares.items) (drop_all l.query-index all (search rules)) l.invariant.gathering

pub add_each-loop-query-init : goal.add_each-loop-query-init
add_each-loop-query-init g t c = record { gathering = gathers_none _ _ _ _ _ c.requires.fields; each = refl }

pub add_each-loop-query-preserved : goal.add_each-loop-query-preserved
add_each-loop-query-preserved g t c =
    let l = c.loop-query in
    let all = c.args.queries.now.items in
    let s = scored_in c.args.index.now (g.S.Bm25StatisticsProvider.statistics c.args.statistics.now) in
    let inside : l.query-index < length all = search rules in
    let is : c.query-item.result ≡ get_or all l.query-index c.query-item.result = search rules in
    let next = query_at all l.query-index c.query-item.result inside is in
    let before : c.len-before.result ≡ length l.shares.items = search rules in
    let later : c.len.result ≡ length c.add_shares.new.shares.items = search rules in
    record {
      gathering = gathers_one s c.args.index.now all (drop l.query-index all) (drop (l.query-index + 1) all) c.query-item.result c.args.doc (map share_of c.args.shares.now.items) (map share_of l.shares.items) (map share_of c.add_shares.new.shares.items)
          next c.in_ok-add_shares.ensures.added c.in_ok-add_shares.ensures.sound l.invariant.gathering;
      each = each_so_far s all (drop l.query-index all) (drop (l.query-index + 1) all) c.query-item.result c.args.doc l.each_matches (l.each_matches && nat_lt c.len-before.result c.len.result) (nat_lt c.len-before.result c.len.result) next refl
          ((λ j. nat_lt (before j) (later j)) ∙ has_grown l.shares.items c.add_shares.new.shares.items (tree_shares s (tree_of c.query-item.result) c.args.doc) c.in_ok-add_shares.ensures.added) l.invariant.each;
    }

pub add_each-returns-clause-added : goal.add_each-returns-clause-added
add_each-returns-clause-added g t c =
    let l = c.loop-query in
    let all = c.args.queries.now.items in
    let s = scored_in c.args.index.now (g.S.Bm25StatisticsProvider.statistics c.args.statistics.now) in
    let none = drop_all l.query-index all (search rules) in
    let old = c.args.shares.now.items in
    let row = trees_shares s (trees_of all) c.args.doc in
    let added = gathers_all s c.args.index.now all (drop l.query-index all) c.args.doc (map share_of old) (map share_of l.shares.items) none l.invariant.gathering in
    let each = sym (and-true l.each_matches) ∙ ap (λ (qs : List Query). l.each_matches && all_have_shares s (trees_of qs) c.args.doc) (sym none) ∙ l.invariant.each in
    kept_or_dropped old l.shares.items c.keep_if.new.shares.items c.len-start.result l.each_matches row (search rules) added c.keep_if.ensures
    ∙ ap (λ (b : Bool). map share_of old ++ (if b then row else [])) each

pub drop_excluded-returns-clause-kept : goal.drop_excluded-returns-clause-kept
drop_excluded-returns-clause-kept g t c =
    let s = scored_in c.args.index.now (g.S.Bm25StatisticsProvider.statistics c.args.statistics.now) in
    dropped_if_more c.args.shares.now.items c.add_shares.new.shares.items c.keep_if.new.shares.items c.args.start _ (tree_shares s (tree_of c.args.query.now) c.args.doc) c.requires.start c.in_ok-add_shares.ensures.added (search rules) c.keep_if.ensures

pub add_shares-add_each-requires : goal.add_shares-add_each-requires
add_shares-add_each-requires g t c κs within =
    let deep = and_deep c.args.query.now c.in-And.queries c.in-And.is in
    let fields = and_has_fields (length c.args.index.now.readers) c.args.query.now c.in-And.queries c.in-And.is c.requires.fields in
    search (rules, deep, fields)

pub add_shares-add_any-requires : goal.add_shares-add_any-requires
add_shares-add_any-requires g t c κs within =
    let deep = or_deep c.args.query.now c.in-Or.queries c.in-Or.is in
    let fields = or_has_fields (length c.args.index.now.readers) c.args.query.now c.in-Or.queries c.in-Or.is c.requires.fields in
    search (rules, deep, fields)
