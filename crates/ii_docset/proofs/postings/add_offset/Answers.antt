use Rattle.std.proofs.Common.{◌∙◌, arith}
use Rattle.ii_docset.proofs.OffsetLemmas.{raised, still_fit}
use Rattle.ii_docset.proofs.postings.add_offset.Goals as goal

pub loop-i-preserved : goal.loop-i-preserved
loop-i-preserved c =
    let l = c.loop-i in
    let size = l.auto.values in
    let low = c.loop-i-test.true in
    record { values = raised c.args.offset l.values l.i (omega arith) ∙ l.invariant.values; fits = still_fit c.args.offset l.values l.i l.invariant.fits }
