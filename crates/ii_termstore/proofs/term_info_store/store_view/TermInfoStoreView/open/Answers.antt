use Rattle.ii_termstore.proofs.StoreLemmas.{no_store, store_refused, store_opened}
use Rattle.ii_termstore.proofs.term_info_store.store_view.TermInfoStoreView.open.Goals as goal

pub returns-in_default : goal.returns-in_default
returns-in_default c = no_store c.args.bytes.now c.in_default.ensures.value

pub returns-then-not-are_blocks_valid : goal.returns-then-not-are_blocks_valid
returns-then-not-are_blocks_valid c =
    store_refused c.args.bytes.now c.in-Some.parts.num_terms c.in-Some.parts.metas.now c.in-Some.parts.bits.now c.in-Some.ensures.value c.if-not-are_blocks_valid.ensures

pub returns : goal.returns
returns c =
    store_opened c.args.bytes.now c.in-Some.parts.num_terms c.in-Some.parts.metas.now c.in-Some.parts.bits.now c.in-Some.ensures.value c.if-not-are_blocks_valid.ensures
