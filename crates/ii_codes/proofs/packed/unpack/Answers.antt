use Rattle.std.proofs.Common.{◌-◌, length, take, refl}
use Rattle.ii_codes.specs.Packed.{unpacked}
use Rattle.ii_codes.proofs.WindowLemmas.{unpacked-padded}
use Rattle.ii_codes.proofs.packed.unpack.Goals as goal

pub returns : goal.returns
returns c =
    let same = unpacked-padded c.args.width c.compressed_block_size-size.result (528 - length (take c.compressed_block_size-size.result c.args.bytes.now)) c.args.bytes.now
    c.padded_block.result (unpacked c.args.width c.padded_block.result) c.compressed_block_size-size.ensures c.requires.enough c.padded_block.ensures refl in
    rw (← same) c.unpack_from-2.ensures
