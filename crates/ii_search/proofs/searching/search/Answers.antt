use Rattle.ii_search.proofs.FoundLemmas.{found_match, memory_alone}
use Rattle.ii_search.proofs.searching.search.Goals as goal

pub returns-in-Ok-clause-holds : goal.returns-in-Ok-clause-holds
returns-in-Ok-clause-holds c = λ schema num_docs tokens holds fields keeps.
    found_match schema num_docs c.args.index.now tokens c.args.query.now c.in-Ok.cursor.rest holds fields keeps c.in-Ok.ensures.listed c.doc-first.ensures.sound

pub returns-in-Err-clause-holds : goal.returns-in-Err-clause-holds
returns-in-Err-clause-holds c = λ schema num_docs tokens holds fields keeps.
    memory_alone schema num_docs c.args.index.now tokens c.args.query.now c.in-Err.fault holds fields keeps c.in-Err.ensures.refused
