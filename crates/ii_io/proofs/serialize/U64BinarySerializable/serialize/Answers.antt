use Rattle.std.proofs.Common.{rules}
use Rattle.ii_io.specs.NumberLemmas.{bytes_low_first-le_bytes}
use Rattle.ii_io.proofs.serialize.U64BinarySerializable.serialize.Goals as goal

pub returns-clause-written : goal.returns-clause-written
returns-clause-written g c = rw (← (bytes_low_first-le_bytes 8 c.args.self.now)) (search rules)

pub returns-clause-limit : goal.returns-clause-limit
returns-clause-limit g c = rw (← (bytes_low_first-le_bytes 8 c.args.self.now)) (search rules)
