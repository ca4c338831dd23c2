use Rattle.std.proofs.Common.{List, sym, subst}
use Rattle.std.specs.List.Sorted.{IsNonDecreasingBy}
use Rattle.ii_doc_store.specs.declared.checkpoint.Checkpoint.{Checkpoint}
use Rattle.ii_doc_store.proofs.IndexLaws.{block_gives, block_held, block_here, block_other, non_decreasing, range_of_block}
use Rattle.ii_doc_store.proofs.reader.StoreReader.block.Goals as goal

pub block_of-block-requires-clause-order : goal.block_of-block-requires-clause-order
block_of-block-requires-clause-order c =
    subst (λ (cs : List Checkpoint). IsNonDecreasingBy (λ (e : Checkpoint). e.doc_end) cs) (sym c.as_slice.ensures.value) (non_decreasing c.self.inside.bytes c.self.inside.checkpoints.items c.self.invariant)

pub read_block-requires : goal.read_block-requires
read_block-requires c =
    let found = rw c.as_slice.ensures.value at c.block_of-block.ensures in
    rw c.as_slice-2.ensures (record { range = range_of_block c.self.inside.bytes c.self.inside.checkpoints.items c.args.doc c.block_of-block.result c.self.invariant found })

pub returns-clause-value : goal.returns-clause-value
returns-clause-value c =
    let found = rw c.as_slice.ensures.value at c.block_of-block.ensures in
    let sound = rw c.as_slice-2.ensures at c.read_block.ensures.sound in
    let value = rw c.as_slice-2.ensures at c.read_block.ensures.value in
    rw (← c.self.view_is) (block_gives c.self.inside.bytes c.self.inside.checkpoints.items c.args.doc c.block_of-block.result c.read_block.result c.self.invariant found sound value)

pub returns-clause-here : goal.returns-clause-here
returns-clause-here c =
    let found = rw c.as_slice.ensures.value at c.block_of-block.ensures in
    let value = rw c.as_slice-2.ensures at c.read_block.ensures.value in
    block_here c.self.inside.bytes c.self.inside.checkpoints.items c.args.doc c.block_of-block.result c.read_block.result c.self.invariant found value

pub returns-clause-damaged : goal.returns-clause-damaged
returns-clause-damaged c =
    let found = rw c.as_slice.ensures.value at c.block_of-block.ensures in
    let damaged = rw c.as_slice-2.ensures at c.read_block.ensures.damaged in
    rw (← c.self.view_is) (block_other c.self.inside.bytes c.self.inside.checkpoints.items c.args.doc c.block_of-block.result c.read_block.result found damaged)

pub returns-clause-stored : goal.returns-clause-stored
returns-clause-stored c =
    let bytes = c.self.inside.bytes in
    let cs = c.self.inside.checkpoints.items in
    let found = rw c.as_slice.ensures.value at c.block_of-block.ensures in
    let sound = rw c.as_slice-2.ensures at c.read_block.ensures.sound in
    let value = rw c.as_slice-2.ensures at c.read_block.ensures.value in
    let damaged = rw c.as_slice-2.ensures at c.read_block.ensures.damaged in
    let inside = rw (← c.self.view_is) at c.requires in
    rw (← c.self.view_is)
    (λ documents held. block_held bytes cs c.args.doc documents c.read_block.result c.self.invariant inside held
    (block_gives bytes cs c.args.doc c.block_of-block.result c.read_block.result c.self.invariant found sound value) (block_other bytes cs c.args.doc c.block_of-block.result c.read_block.result found damaged))
