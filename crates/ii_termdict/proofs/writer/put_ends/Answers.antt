use Rattle.ii_io.proofs.WriteSteps.{writes_both}
use Rattle.ii_termdict.proofs.writer.put_ends.Goals as goal

pub returns : goal.returns
returns g c =
    writes_both c.args.writer.now c.put_number-count.new.writer c.put_numbers.new.writer _ _ c.put_number-count.result c.put_numbers.result c.if-is_err.ensures.value c.put_number-count.ensures c.put_numbers.ensures
