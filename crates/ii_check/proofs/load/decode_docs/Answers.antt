use Rattle.ii_codes.proofs.LengthLemmas.{length-sorted_block_at, length-sorted_vints_at}
use Rattle.std.proofs.Common.{sym}
use Rattle.ii_base.specs.declared.doc_id.TheConstants.{TERMINATED}
use Rattle.ii_check.proofs.LoadLemmas.{row_of_block, row_of_vints}
use Rattle.ii_check.proofs.load.decode_docs.Goals as goal

pub returns-in-BitPacked-clause-holds : goal.returns-in-BitPacked-clause-holds
returns-in-BitPacked-clause-holds c =
    let read = c.uncompress_block_sorted.ensures.read in
    rw c.in-BitPacked.is (row_of_block _ _ TERMINATED c.args.decoder.now c.uncompress_block_sorted.new.self read (length-sorted_block_at _ _ _ _ _ _ (sym read)) c.uncompress_block_sorted.ensures.len c.uncompress_block_sorted.ensures.decodes)

pub returns-in-VInt-clause-holds : goal.returns-in-VInt-clause-holds
returns-in-VInt-clause-holds c =
    let read = c.uncompress_vint_sorted.ensures.read in
    rw c.in-VInt.is (row_of_vints _ _ TERMINATED _ c.args.decoder.now c.uncompress_vint_sorted.new.self read (length-sorted_vints_at _ _ _ _ _ (sym read)) c.uncompress_vint_sorted.ensures.len c.uncompress_vint_sorted.ensures.padded c.uncompress_vint_sorted.ensures.decodes)
