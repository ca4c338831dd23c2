use Rattle.std.proofs.lemmas.List.{append-nil}
use Rattle.ii_io.proofs.WriteSteps.{writes_then, writes_went}
use Rattle.ii_fieldnorm.proofs.serializer.write_norms.Goals as goal

pub returns-clause-written : goal.returns-clause-written
returns-clause-written g c =
    let wrote = writes_went _ _ _ c.write_all-written.result c.if-is_err.ensures.value c.write_all-written.ensures.written in
    rw (append-nil c.args.bytes.now) at (writes_then _ _ _ _ _ c.flush.result wrote c.flush.ensures.written)
