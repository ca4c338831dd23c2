use Rattle.std.proofs.Common.{take}
use Rattle.std.specs.List.{flat_map}
use Rattle.ii_io.specs.CountingWriter.{Wrote}
use Rattle.ii_io.specs.Numbers.{le_bytes}
use Rattle.ii_alive.proofs.alive_bits.write_words.Given as goal

abbrev pub invariant-loop-word : goal.invariant-loop-word
invariant-loop-word g l = Wrote l.initial.writer l.writer (flat_map (le_bytes 8) (take l.word-index l.words))
