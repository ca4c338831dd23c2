use Rattle.ii_io.proofs.WriteSteps.{writes_both}
use Rattle.ii_termdict.proofs.writer.put_keys.Goals as goal

pub returns : goal.returns
returns g c =
    writes_both c.args.writer.now c.put_ends-places.new.writer c.write_all.new.self _ _ c.put_ends-places.result c.write_all.result c.if-is_err.ensures.value c.put_ends-places.ensures c.write_all.ensures.written
