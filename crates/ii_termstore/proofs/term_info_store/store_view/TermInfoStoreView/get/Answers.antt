use Rattle.ii_termstore.proofs.StoreLemmas.{length-stored, stored_at}
use Rattle.ii_termstore.proofs.term_info_store.store_view.TermInfoStoreView.get.Goals as goal

pub term_info_at-requires-clause-within : goal.term_info_at-requires-clause-within
term_info_at-requires-clause-within c =
    let within = rw (← c.self.view_is) at c.requires in
    rw (length-stored c.self.inside.parts.num_terms c.self.inside.parts.metas.now c.self.inside.parts.bits.now) within

pub returns : goal.returns
returns c =
    let within = rw (← c.self.view_is) at c.requires in
    let below = rw (← (length-stored c.self.inside.parts.num_terms c.self.inside.parts.metas.now c.self.inside.parts.bits.now)) at within in
    rw (← c.self.view_is) (stored_at c.self.inside.parts.num_terms c.args.term_ord c.self.inside.parts.metas.now c.self.inside.parts.bits.now c.term_info_at.result below c.term_info_at.ensures)
