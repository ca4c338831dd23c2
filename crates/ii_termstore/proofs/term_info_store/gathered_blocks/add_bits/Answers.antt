use Rattle.ii_termstore.proofs.WriterLemmas.{terms_fit}
use Rattle.ii_termstore.proofs.term_info_store.gathered_blocks.add_bits.Goals as goal

pub pack_block-count-requires-clause-fits : goal.pack_block-count-requires-clause-fits
pack_block-count-requires-clause-fits c = terms_fit c.args.meta.now c.args.others.now c.requires.fits
