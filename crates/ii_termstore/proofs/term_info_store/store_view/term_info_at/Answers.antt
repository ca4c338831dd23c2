use Rattle.std.proofs.Common.{◌∙◌, ◌/◌, ◌%◌, sym}
use Rattle.std.proofs.lemmas.Bool.{false≢true}
use Rattle.ii_termstore.specs.TermStore.{block_info, block_terms}
use Rattle.ii_termstore.proofs.BlockLemmas.{sound-some, sound-none}
use Rattle.ii_termstore.proofs.ListLemmas.{all_at}
use Rattle.ii_termstore.proofs.StoreLemmas.{valid_block, valid_meta, block_parts, term_info_at-is, block_within, term_within}
use Rattle.ii_termstore.proofs.term_info_store.store_view.term_info_at.Goals as goal

pub unreachable-requires : goal.unreachable-requires
unreachable-requires c =
    absurd (valid_meta c.args.parts.now.metas.now c.args.parts.now.bits.now c.args.parts.now.num_terms (c.args.term_ord / 256) c.requires.valid (block_within c.args.term_ord c.args.parts.now.num_terms c.requires.within) c.in_default.ensures)

pub sound_info-requires-clause-widths : goal.sound_info-requires-clause-widths
sound_info-requires-clause-widths c =
    let block = valid_block c.args.parts.now.metas.now c.args.parts.now.bits.now c.args.parts.now.num_terms (c.args.term_ord / 256) c.in-Some.meta c.requires.valid
    (block_within c.args.term_ord c.args.parts.now.num_terms c.requires.within) c.in-Some.ensures in
    (block_parts _ _ _ block).0

pub sound_info-requires-clause-lie : goal.sound_info-requires-clause-lie
sound_info-requires-clause-lie c =
    let block = valid_block c.args.parts.now.metas.now c.args.parts.now.bits.now c.args.parts.now.num_terms (c.args.term_ord / 256) c.in-Some.meta c.requires.valid
    (block_within c.args.term_ord c.args.parts.now.num_terms c.requires.within) c.in-Some.ensures in
    rw c.count_terms-terms.ensures.value (block_parts _ _ _ block).1

pub returns : goal.returns
returns c =
    let sound = sound-some (block_info c.in-Some.meta c.args.parts.now.bits.now (c.args.term_ord % 256)) c.in-Some-sound_info.info (sym c.in-Some-sound_info.ensures) in
    sound.1 ∙ sym (term_info_at-is c.args.parts.now.metas.now c.args.parts.now.bits.now c.args.term_ord c.in-Some.meta c.in-Some.ensures)

pub unreachable-requires-in-None : goal.unreachable-requires-in-None
unreachable-requires-in-None c =
    let block = valid_block c.args.parts.now.metas.now c.args.parts.now.bits.now c.args.parts.now.num_terms (c.args.term_ord / 256) c.in-Some.meta c.requires.valid
    (block_within c.args.term_ord c.args.parts.now.num_terms c.requires.within) c.in-Some.ensures in
    let unsound = sound-none (block_info c.in-Some.meta c.args.parts.now.bits.now (c.args.term_ord % 256)) (sym c.in-None.ensures) in
    let sound = all_at _ (block_terms c.args.parts.now.num_terms (c.args.term_ord / 256)) (c.args.term_ord % 256) (term_within c.args.term_ord c.args.parts.now.num_terms c.requires.within) (block_parts _ _ _ block).2 in
    absurd (false≢true (sym unsound ∙ sound))
