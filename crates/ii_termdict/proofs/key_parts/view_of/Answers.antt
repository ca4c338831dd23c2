use Rattle.ii_termstore.specs.TermStore.{term_store}
use Rattle.ii_termdict.specs.Dictionary.{store_after}
use Rattle.ii_termdict.proofs.DictionaryLemmas.{store_there, store_count}
use Rattle.ii_termdict.proofs.key_parts.view_of.Goals as goal

pub over-requires : goal.over-requires
over-requires c =
    rw c.store_of.ensures (store_there (term_store (store_after c.args.parts.now.num_terms c.args.parts.now.ends.now c.args.parts.now.body.now)) c.args.parts.now.num_terms c.requires.store)

pub returns-clause-count : goal.returns-clause-count
returns-clause-count c =
    store_count (term_store (store_after c.args.parts.now.num_terms c.args.parts.now.ends.now c.args.parts.now.body.now)) c.over.result c.args.parts.now.num_terms (rw (← c.store_of.ensures) c.over.ensures) c.requires.store
