use Rattle.std.proofs.Common.{take}
use Rattle.std.specs.List.{flat_map}
use Rattle.ii_io.specs.CountingWriter.{Wrote}
use Rattle.ii_io.specs.Composite.{place_bytes}
use Rattle.ii_io.specs.CompositeWrite.{places_until}
use Rattle.ii_io.proofs.composite_file.composite_write.write_places.Given as goal

abbrev pub invariant-loop-i : goal.invariant-loop-i
invariant-loop-i g l = Wrote l.initial.writer l.writer (flat_map place_bytes (take l.i (places_until l.starts l.end)))
