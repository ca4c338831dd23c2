use Rattle.std.proofs.Common.{sym}
use Rattle.ii_termstore.proofs.StoreLemmas.{store_valid, store_missing, store_opened}
use Rattle.ii_termstore.proofs.term_info_store.store_view.TermInfoStoreView.over.Goals as goal

pub invariant_of-result : goal.invariant_of-result
invariant_of-result c =
    (store_valid c.args.bytes.now c.in-Some.parts.num_terms c.in-Some.parts.metas.now c.in-Some.parts.bits.now c.in-Some.ensures.value c.requires, c.in-Some.ensures.metas)

pub returns : goal.returns
returns c =
    let valid = store_valid c.args.bytes.now c.in-Some.parts.num_terms c.in-Some.parts.metas.now c.in-Some.parts.bits.now c.in-Some.ensures.value c.requires in
    sym (store_opened c.args.bytes.now c.in-Some.parts.num_terms c.in-Some.parts.metas.now c.in-Some.parts.bits.now c.in-Some.ensures.value (sym valid))

pub unreachable-requires : goal.unreachable-requires
unreachable-requires c = store_missing c.args.bytes.now c.in-None.ensures.value c.requires
