use Rattle.std.proofs.Common.{◌+◌, ◌/◌, ◌++◌, ◌∙◌, arith, refl, sym, length-set}
use Rattle.ii_codes.specs.Bits.{low_bits}
use Rattle.ii_codes.proofs.PackedLemmas.{entries_in-zero, entries_written}
use Rattle.ii_codes.proofs.BitsLemmas.{length-low_bits}
use Rattle.ii_codes.proofs.BitLemmas.{left_after, written_whole}
use Rattle.ii_codes.proofs.bitpacker.BitPacker.push.Goals as goal

pub loop-j-init : goal.loop-j-init
loop-j-init c = record { many = refl; written = sym (entries_in-zero 1 8 (low_bits c.self.inside.mini_buffer_written c.self.inside.mini_buffer ++ low_bits c.args.num_bits c.args.val)) }

pub loop-j-preserved : goal.loop-j-preserved
loop-j-preserved c = record {
  many = length-set _ _ _ ∙ c.loop-j.invariant.many;
  written = rw c.from.ensures (entries_written 1 8 c.loop-j.j c.byte_of_bits.result (low_bits c.self.inside.mini_buffer_written c.self.inside.mini_buffer ++ low_bits c.args.num_bits c.args.val) c.loop-j.whole
      c.loop-j.invariant.written c.byte_of_bits.ensures (omega arith));
}

pub invariant_of-self : goal.invariant_of-self
invariant_of-self c =
    let left = left_after c.self.inside.mini_buffer_written c.self.inside.mini_buffer c.args.num_bits c.args.val (c.self.inside.mini_buffer_written + c.args.num_bits) ((c.self.inside.mini_buffer_written + c.args.num_bits) / 8)
    c.byte_of_bits-self-inside.result refl refl c.byte_of_bits-self-inside.ensures in
    (omega arith, left.0)

pub returns-clause-bytes : goal.returns-clause-bytes
returns-clause-bytes c =
    rw (← c.self.view_is) (written_whole c.self.inside.mini_buffer_written c.self.inside.mini_buffer c.args.num_bits c.args.val c.loop-j.j c.from-2.result c.loop-j.whole (omega arith) (omega arith) c.loop-j.invariant.written)

pub returns-clause-left : goal.returns-clause-left
returns-clause-left c =
    let left = left_after c.self.inside.mini_buffer_written c.self.inside.mini_buffer c.args.num_bits c.args.val (c.self.inside.mini_buffer_written + c.args.num_bits) ((c.self.inside.mini_buffer_written + c.args.num_bits) / 8)
    c.byte_of_bits-self-inside.result refl refl c.byte_of_bits-self-inside.ensures in
    rw (← c.self.view_is) left.1

pub returns-clause-count : goal.returns-clause-count
returns-clause-count c =
    let size = length-low_bits c.self.inside.mini_buffer_written c.self.inside.mini_buffer in
    rw (← c.self.view_is) (rw size (omega arith))
