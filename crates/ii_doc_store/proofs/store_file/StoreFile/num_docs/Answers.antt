use Rattle.std.proofs.Common.{◌∙◌}
use Rattle.ii_doc_store.proofs.IndexLaws.{held_count, last_end}
use Rattle.ii_doc_store.proofs.store_file.StoreFile.num_docs.Goals as goal

pub returns-in-Some-clause-value : goal.returns-in-Some-clause-value
returns-in-Some-clause-value g c = rw (← c.self.view_is) (last_end c.self.inside.checkpoints.items c.in-Some.checkpoint.now (rw c.deref.ensures.value at c.in-Some.ensures.value))

pub returns-in-Some-clause-stored : goal.returns-in-Some-clause-stored
returns-in-Some-clause-stored g c =
    let last = last_end c.self.inside.checkpoints.items c.in-Some.checkpoint.now (rw c.deref.ensures.value at c.in-Some.ensures.value) in
    rw (← c.self.view_is) (λ bytes documents known held. last ∙ held_count bytes c.self.inside.checkpoints.items documents (c.self.invariant.read bytes known) held)
