use Rattle.std.proofs.Common.{sym}
use Rattle.ii_layout.proofs.FrequencyLemmas.{block_fits, row_fits}
use Rattle.ii_check.proofs.LoadLemmas.{row_of_block, row_of_vints}
use Rattle.ii_check.proofs.load.decode_freqs.Goals as goal

pub returns-in-BitPacked : goal.returns-in-BitPacked
returns-in-BitPacked c =
    let read = c.uncompress_block_unsorted.ensures.read in
    rw c.in-BitPacked.is (row_of_block _ _ 1 c.args.decoder.now c.uncompress_block_unsorted.new.self read (block_fits _ _ _ _ _ (sym read)).many c.uncompress_block_unsorted.ensures.len c.uncompress_block_unsorted.ensures.decodes)

pub returns-in-VInt : goal.returns-in-VInt
returns-in-VInt c =
    let read = c.uncompress_vint_unsorted.ensures.read in
    rw c.in-VInt.is (row_of_vints _ _ 1 _ c.args.decoder.now c.uncompress_vint_unsorted.new.self read (row_fits _ _ _ _ (sym read)).many c.uncompress_vint_unsorted.ensures.len c.uncompress_vint_unsorted.ensures.padded c.uncompress_vint_unsorted.ensures.decodes)
