use Rattle.ii_layout.proofs.PackingLemmas.{narrow}
use Rattle.ii_layout.proofs.serializer.write_block.Goals as goal

pub write_doc-requires : goal.write_doc-requires
write_doc-requires c = rw (c.compress_block_sorted.ensures.width, c.doc_ids.ensures) (narrow _ _ c.requires.docs)
