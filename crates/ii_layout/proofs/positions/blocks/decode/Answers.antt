use Rattle.std.proofs.Common.{arith}
use Rattle.ii_layout.proofs.PositionLemmas.{rest_asked, block_answered}
use Rattle.ii_layout.proofs.positions.blocks.decode.Goals as goal

pub uncompress_vint_unsorted_until_end-requires : goal.uncompress_vint_unsorted_until_end-requires
uncompress_vint_unsorted_until_end-requires c =
    record {
      valid = rest_asked c.args.widths.now c.args.body.now c.args.place c.args.block c.bytes_from-bytes.result.now
          (record { there = c.requires.valid; place_is = c.requires.place; bytes_are = c.bytes_from-bytes.ensures }) (omega arith);
    }

pub returns-clause-held : goal.returns-clause-held
returns-clause-held c =
    block_answered c.args.widths.now c.args.body.now c.args.place c.args.block _ c.bytes_from-bytes.result.now _ _
    (record { there = c.requires.valid; place_is = c.requires.place; bytes_are = c.bytes_from-bytes.ensures }) (omega arith) c.uncompress_block_unsorted.ensures.read c.uncompress_block_unsorted.ensures.len
