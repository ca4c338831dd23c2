use Rattle.std.proofs.Common.{length}
use Rattle.ii_promises.proofs.SearchingLaws.{field_is_there, matches_as, memory_of_search}
use Rattle.ii_promises.proofs.searching.prefixes_find_what_starts_with_them.Goals as goal

pub returns-clause-found : goal.returns-clause-found
returns-clause-found c = λ schema num_docs tokens holds inside.
    let query = c.prefix-query.result in
    let fields = field_is_there (length schema) c.args.prefix.field query (c.prefix-query.ensures.fields (length schema)) inside in
    matches_as query tokens c.search-found.result _ (c.search-found.ensures.holds schema num_docs tokens holds fields (c.prefix-query.ensures.positions schema)) (c.prefix-query.ensures.matches tokens)

pub returns-clause-memory : goal.returns-clause-memory
returns-clause-memory c = λ schema num_docs tokens holds inside.
    let query = c.prefix-query.result in
    let fields = field_is_there (length schema) c.args.prefix.field query (c.prefix-query.ensures.fields (length schema)) inside in
    memory_of_search query tokens c.search-found.result (c.search-found.ensures.holds schema num_docs tokens holds fields (c.prefix-query.ensures.positions schema))
