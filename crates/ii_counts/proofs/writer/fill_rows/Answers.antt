use Rattle.std.proofs.Common.{◌∙◌, ap, arith, set}
use Rattle.std.proofs.lemmas.List.Edits.{map_over_more}
use Rattle.ii_fieldnorm.specs.Buffers.{filled}
use Rattle.ii_counts.proofs.writer.fill_rows.Goals as goal

pub loop-i-preserved : goal.loop-i-preserved
loop-i-preserved c =
    ap (set c.loop-i.rows.items c.loop-i.i) c.in_ok-fill.ensures ∙ map_over_more (filled c.args.num_docs) c.args.rows.now.items c.loop-i.rows.items c.loop-i.i c.index_mut.result.now (omega arith) c.loop-i.invariant c.index_mut.ensures.value
