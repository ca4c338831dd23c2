use Rattle.std.proofs.Common.{arith}
use Rattle.ii_termdict.proofs.WriterLemmas.{numbers_refused}
use Rattle.ii_termdict.proofs.writer.put_numbers.Goals as goal

pub returns-then-is_err : goal.returns-then-is_err
returns-then-is_err g c =
    numbers_refused c.args.numbers.now c.loop-n.n-index c.args.writer.now c.loop-n.writer c.put_number-put.new.writer c.put_number-put.result (omega arith) c.loop-n.invariant c.if-is_err.ensures.value c.put_number-put.ensures
