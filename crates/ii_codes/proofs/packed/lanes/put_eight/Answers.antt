use Rattle.std.proofs.Common.{◌+◌, arith}
use Rattle.std.proofs.lemmas.Simd.{take_more_put_chunk}
use Rattle.ii_codes.proofs.packed.lanes.put_eight.Goals as goal

pub returns : goal.returns
returns c = take_more_put_chunk c.args.place c.args.output.now c.args.values (c.args.place + 8) (omega arith) c.requires.room
