use Rattle.std.proofs.Common.{◌∙◌, length}
use Rattle.ii_promises.proofs.PrefixTokens.{prefix_fields, prefix_follows, prefix_positions}
use Rattle.ii_promises.proofs.SearchingLaws.{matches_as, memory_of_search}
use Rattle.ii_promises.proofs.searching.phrases_with_a_prefix_find_what_starts_with_it.Goals as goal

pub search-found-requires : goal.search-found-requires
search-found-requires c =
    let last = c.with_prefix.result in
    let e = c.with_prefix.ensures in
    record { fields = c.phrase_prefix-query.ensures.fields (length c.args.index.now.readers) ∙ prefix_fields c.args.first c.args.prefix c.new.result last c.new.ensures.items e.prefix e.lower e.upper (length c.args.index.now.readers) c.requires.first c.requires.prefix }

pub returns-clause-found : goal.returns-clause-found
returns-clause-found c = λ schema num_docs tokens holds keep texts.
    let last = c.with_prefix.result in
    let e = c.with_prefix.ensures in
    let fields = c.phrase_prefix-query.ensures.fields (length schema) ∙ prefix_fields c.args.first c.args.prefix c.new.result last c.new.ensures.items e.prefix e.lower e.upper (length schema) keep.first_field keep.second_field in
    let positions = c.phrase_prefix-query.ensures.positions schema ∙ prefix_positions c.args.first c.args.prefix c.new.result last c.new.ensures.items e.prefix e.lower e.upper schema keep in
    matches_as _ tokens c.search-found.result _ (c.search-found.ensures.holds schema num_docs tokens holds fields positions)
    (λ doc. c.phrase_prefix-query.ensures.matches tokens doc ∙ prefix_follows c.args.first c.args.prefix c.new.result last c.new.ensures.items e.prefix e.lower e.upper tokens texts doc)

pub returns-clause-memory : goal.returns-clause-memory
returns-clause-memory c = λ schema num_docs tokens holds keep.
    let last = c.with_prefix.result in
    let e = c.with_prefix.ensures in
    let fields = c.phrase_prefix-query.ensures.fields (length schema) ∙ prefix_fields c.args.first c.args.prefix c.new.result last c.new.ensures.items e.prefix e.lower e.upper (length schema) keep.first_field keep.second_field in
    let positions = c.phrase_prefix-query.ensures.positions schema ∙ prefix_positions c.args.first c.args.prefix c.new.result last c.new.ensures.items e.prefix e.lower e.upper schema keep in
    memory_of_search _ tokens c.search-found.result (c.search-found.ensures.holds schema num_docs tokens holds fields positions)
