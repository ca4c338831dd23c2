use Rattle.std.proofs.Common.{◌≤◌, ◌∙◌, arith}
use Rattle.ii_codes.proofs.BitsLemmas.{length-low_bits}
use Rattle.ii_codes.proofs.BitLemmas.{bits_bytes-left, finish_front}
use Rattle.ii_codes.proofs.bitpacker.BitPacker.finish.Goals as goal

pub returns-clause-bytes : goal.returns-clause-bytes
returns-clause-bytes c =
    let count = c.from-count.ensures ∙ c.min.ensures in
    let few : c.from-count.result ≤ 1 = omega arith in
    let last = bits_bytes-left c.self.inside.mini_buffer_written c.self.inside.mini_buffer c.self.invariant.0 c.self.invariant.1 in
    rw (← c.self.view_is, finish_front c.from-count.result c.self.inside.mini_buffer c.args.last.now few c.requires.room, count) last

pub returns-clause-count : goal.returns-clause-count
returns-clause-count c =
    let count = c.from-count.ensures ∙ c.min.ensures in
    let small = c.self.invariant.0 in
    let size = length-low_bits c.self.inside.mini_buffer_written c.self.inside.mini_buffer in
    rw (← c.self.view_is) (rw size (omega arith))
