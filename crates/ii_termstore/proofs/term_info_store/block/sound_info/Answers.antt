use Rattle.std.proofs.Common.{arith}
use Rattle.ii_termstore.proofs.BlockLemmas.{term_found, term_none_first, term_none_second}
use Rattle.ii_termstore.proofs.term_info_store.block.sound_info.Goals as goal

pub returns-in_default : goal.returns-in_default
returns-in_default c =
    term_none_first c.args.meta.now c.args.bits.now c.args.k (omega arith) (rw (c.postings_number.ensures, c.postings_number-2.ensures) at c.in_default.ensures)

pub returns-in_default-range_after : goal.returns-in_default-range_after
returns-in_default-range_after c =
    term_none_second c.args.meta.now c.args.bits.now c.args.k (omega arith) (rw (c.positions_number.ensures, c.positions_number-2.ensures) at c.in_default-range_after.ensures)

pub returns : goal.returns
returns c =
    rw c.doc_freq_number.ensures
    (term_found c.args.meta.now c.args.bits.now c.args.k c.in-Some.postings_range c.in-Some-range_after.positions_range (omega arith)
    (rw (c.postings_number.ensures, c.postings_number-2.ensures) at c.in-Some.ensures) (rw (c.positions_number.ensures, c.positions_number-2.ensures) at c.in-Some-range_after.ensures))
