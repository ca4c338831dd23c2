use Rattle.std.proofs.Common.{List, sym, subst}
use Rattle.std.specs.List.Sorted.{IsNonDecreasingBy}
use Rattle.ii_doc_store.specs.declared.checkpoint.Checkpoint.{Checkpoint}
use Rattle.ii_doc_store.proofs.IndexLaws.{block_around, block_gives, block_kept, never_damaged, ordered_docs, ordered_range, other_block, range_of_block}
use Rattle.ii_doc_store.proofs.store_file.StoreFile.block.Goals as goal

pub block_of-place-requires-clause-order : goal.block_of-place-requires-clause-order
block_of-place-requires-clause-order g c =
    let h = c.self.invariant in
    subst (λ (cs : List Checkpoint). IsNonDecreasingBy (λ (e : Checkpoint). e.doc_end) cs) (sym c.as_slice.ensures.value) (ordered_docs h.end c.self.inside.checkpoints.items h.ordered)

pub read_file_block-requires : goal.read_file_block-requires
read_file_block-requires g c =
    let h = c.self.invariant in
    let found = rw c.as_slice.ensures.value at c.block_of-place.ensures in
    record { range = (ordered_range h.end c.self.inside.checkpoints.items c.args.doc c.block_of-place.result h.ordered found).0 }

pub returns-clause-value : goal.returns-clause-value
returns-clause-value g c =
    let found = rw c.as_slice.ensures.value at c.block_of-place.ensures in
    rw (← c.self.view_is)
    (λ bytes known. block_gives bytes c.self.inside.checkpoints.items c.args.doc c.block_of-place.result c.read_file_block.result (c.self.invariant.read bytes known) found (c.read_file_block.ensures.sound bytes known) (c.read_file_block.ensures.value bytes known))

pub returns-clause-here : goal.returns-clause-here
returns-clause-here g c =
    let h = c.self.invariant in
    let found = rw c.as_slice.ensures.value at c.block_of-place.ensures in
    block_around h.end c.self.inside.checkpoints.items c.args.doc c.block_of-place.result c.read_file_block.result h.ordered found c.read_file_block.ensures.place

pub returns-clause-damaged : goal.returns-clause-damaged
returns-clause-damaged g c =
    let found = rw c.as_slice.ensures.value at c.block_of-place.ensures in
    rw (← c.self.view_is)
    (λ bytes damage known is. let h = c.read_file_block.ensures.damaged bytes damage known is in other_block bytes c.self.inside.checkpoints.items c.args.doc c.block_of-place.result damage found h.0 h.1)

pub returns-clause-sound : goal.returns-clause-sound
returns-clause-sound g c =
    let found = rw c.as_slice.ensures.value at c.block_of-place.ensures in
    rw (← c.self.view_is)
    (λ bytes fault known sound is. c.read_file_block.ensures.memory bytes fault known sound (range_of_block bytes c.self.inside.checkpoints.items c.args.doc c.block_of-place.result (c.self.invariant.read bytes known) found).1 is)

pub returns-clause-stored : goal.returns-clause-stored
returns-clause-stored g c =
    let found = rw c.as_slice.ensures.value at c.block_of-place.ensures in
    rw (← c.self.view_is)
    (λ bytes documents known held. let index = c.self.invariant.read bytes known in
    block_kept bytes c.self.inside.checkpoints.items documents c.read_file_block.result index held
    (block_gives bytes c.self.inside.checkpoints.items c.args.doc c.block_of-place.result c.read_file_block.result index found (c.read_file_block.ensures.sound bytes known) (c.read_file_block.ensures.value bytes known)))

pub returns-clause-undamaged : goal.returns-clause-undamaged
returns-clause-undamaged g c =
    let found = rw c.as_slice.ensures.value at c.block_of-place.ensures in
    let inside = rw (← c.self.view_is) at c.requires in
    rw (← c.self.view_is)
    (λ bytes documents damage known held is. let h = c.read_file_block.ensures.damaged bytes damage known is in
    never_damaged bytes c.self.inside.checkpoints.items c.args.doc documents damage (c.self.invariant.read bytes known) inside held (other_block bytes c.self.inside.checkpoints.items c.args.doc c.block_of-place.result damage found h.0 h.1))
