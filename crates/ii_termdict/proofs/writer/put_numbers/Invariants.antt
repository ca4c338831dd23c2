use Rattle.std.proofs.Common.{take}
use Rattle.std.specs.List.{flat_map}
use Rattle.ii_io.specs.Numbers.{le_bytes}
use Rattle.ii_io.specs.CountingWriter.{Wrote}
use Rattle.ii_termdict.proofs.writer.put_numbers.Given as goal

abbrev pub invariant-loop-n : goal.invariant-loop-n
invariant-loop-n g l = Wrote l.fn.writer l.writer (flat_map (le_bytes 8) (take l.n-index l.numbers))
