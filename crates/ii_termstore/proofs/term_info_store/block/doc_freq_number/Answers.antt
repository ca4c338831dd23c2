use Rattle.std.proofs.Common.{length, arith}
use Rattle.ii_termstore.proofs.BlockLemmas.{term_lies, after_places}
use Rattle.ii_termstore.proofs.term_info_store.block.doc_freq_number.Goals as goal

pub number_after-requires-clause-lies : goal.number_after-requires-clause-lies
number_after-requires-clause-lies c = λ wide.
    let place = after_places c.args.meta.now c.args.k c.requires.later in
    let lies = term_lies c.args.meta.now c.args.terms (length c.args.bits.now) c.args.k c.requires.lie c.requires.later c.requires.within.0 wide in
    rw (c.term_bits.ensures, c.places_bits.ensures) (omega arith)
