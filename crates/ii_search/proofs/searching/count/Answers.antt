use Rattle.std.proofs.Common.{sym, ◌∙◌}
use Rattle.ii_search.proofs.SameDocs.{same_length}
use Rattle.ii_search.proofs.searching.count.Goals as goal

pub returns-in-Ok-clause-listed : goal.returns-in-Ok-clause-listed
returns-in-Ok-clause-listed c = (c.in-Ok.cursor.rest, c.in-Ok.ensures.listed, c.count_including_deleted.ensures.count)

pub returns-in-Ok-clause-holds : goal.returns-in-Ok-clause-holds
returns-in-Ok-clause-holds c = λ schema num_docs tokens holds fields keeps es matched.
    let found = c.in-Ok.ensures.holds schema num_docs tokens holds fields keeps in
    c.count_including_deleted.ensures.count ∙ same_length c.in-Ok.cursor.rest es found.ascending matched.ascending (λ doc. found.exact doc ∙ sym (matched.exact doc))
