use Rattle.ii_termstore.proofs.StoreLemmas.{length-stored}
use Rattle.ii_termstore.proofs.term_info_store.store_view.TermInfoStoreView.num_terms.Goals as goal

pub returns : goal.returns
returns c = rw (← c.self.view_is) (length-stored c.self.inside.parts.num_terms c.self.inside.parts.metas.now c.self.inside.parts.bits.now)
