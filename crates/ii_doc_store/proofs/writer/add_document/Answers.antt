use Rattle.std.proofs.Common.{◌<◌, ◌≤◌, false, length, rules}
use Rattle.ii_doc_store.specs.StoreWriter.{StoreWriterState}
use Rattle.ii_doc_store.proofs.StoredLaws.{adds_block, stored_more}
use Rattle.ii_doc_store.proofs.writer.add_document.Goals as goal

pub returns-then-len-lt-BLOCK_SIZE-clause-adds : goal.returns-then-len-lt-BLOCK_SIZE-clause-adds
returns-then-len-lt-BLOCK_SIZE-clause-adds g c = λ initial ds h.
    let bytes = c.in_ok-push_record.ensures in
    let small : length c.push_record.new.block.items < 16384 = search rules in
    let s : StoreWriterState = record {
      writer = c.args.blocks.now.writer;
      base = c.args.blocks.now.base;
      index = c.args.blocks.now.index.items;
      block = c.args.blocks.now.block.items;
      num_docs = c.args.blocks.now.num_docs;
      closed = false;
    } in
    rw bytes (stored_more initial s ds c.args.document.now h c.requires.len c.requires.few (rw bytes at small))

pub returns-clause-adds : goal.returns-clause-adds
returns-clause-adds g c =
    let bytes = c.in_ok-push_record.ensures in
    let full : 16384 ≤ length c.push_record.new.block.items = search rules in
    let s : StoreWriterState = record {
      writer = c.args.blocks.now.writer;
      base = c.args.blocks.now.base;
      index = c.args.blocks.now.index.items;
      block = c.args.blocks.now.block.items;
      num_docs = c.args.blocks.now.num_docs;
      closed = false;
    } in
    adds_block c.end_block.result s _ c.args.document.now c.requires.len c.requires.few (rw bytes at full) (rw bytes at c.end_block.ensures.ends)
