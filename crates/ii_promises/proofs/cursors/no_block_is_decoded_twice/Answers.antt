use Rattle.ii_promises.proofs.BlockLaws.{decoded_once}
use Rattle.ii_promises.proofs.cursors.no_block_is_decoded_twice.Goals as goal

pub returns-clause-docs : goal.returns-clause-docs
returns-clause-docs c = let s = c.args.cursor.now in decoded_once s.block s.doc_decodes s.doc_blocks c.doc.ensures.lazy.doc_blocks

pub returns-clause-counts : goal.returns-clause-counts
returns-clause-counts c = let s = c.args.cursor.now in decoded_once s.block s.freq_decodes s.freq_blocks c.doc.ensures.lazy.freq_blocks

pub returns-clause-all_docs : goal.returns-clause-all_docs
returns-clause-all_docs c = c.doc.ensures.lazy.doc_blocks.many

pub returns-clause-all_counts : goal.returns-clause-all_counts
returns-clause-all_counts c = c.doc.ensures.lazy.freq_blocks.many
