use Rattle.ii_promises.proofs.BlockLaws.{each_once}
use Rattle.ii_promises.proofs.cursors.filling_decodes_no_positions.Goals as goal

pub returns-clause-each_docs : goal.returns-clause-each_docs
returns-clause-each_docs c =
    let old = c.args.cursor.now in
    let new = c.fill_buffer.new.self in
    each_once old.block new.block old.doc_blocks new.doc_blocks c.fill_buffer.ensures.work.doc_blocks

pub returns-clause-each_counts : goal.returns-clause-each_counts
returns-clause-each_counts c =
    let old = c.args.cursor.now in
    let new = c.fill_buffer.new.self in
    each_once old.block new.block old.freq_blocks new.freq_blocks c.fill_buffer.ensures.work.freq_blocks
