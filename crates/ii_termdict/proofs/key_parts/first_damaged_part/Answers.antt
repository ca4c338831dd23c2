use Rattle.std.proofs.Common.{◌∙◌, sym}
use Rattle.ii_termdict.specs.Dictionary.{keys_of, store_after}
use Rattle.ii_termstore.specs.TermStore.{term_store}
use Rattle.ii_termdict.proofs.DictionaryLemmas.{dictionary-no_parts, dictionary-falls, dictionary-unordered, dictionary-is, length-keys_of, infos-none, infos-other, infos-ok}
use Rattle.ii_termdict.proofs.key_parts.first_damaged_part.Goals as goal

pub returns-in_default : goal.returns-in_default
returns-in_default c = dictionary-no_parts c.args.bytes.now c.in_default.ensures.value

pub returns-then-not-do_ends_rise : goal.returns-then-not-do_ends_rise
returns-then-not-do_ends_rise c =
    dictionary-falls c.args.bytes.now c.in-Some.parts.num_terms c.in-Some.parts.ends.now c.in-Some.parts.body.now c.in-Some.ensures.value c.if-not-do_ends_rise.ensures

pub returns-then-not-do_keys_ascend : goal.returns-then-not-do_keys_ascend
returns-then-not-do_keys_ascend c =
    dictionary-unordered c.args.bytes.now c.in-Some.parts.num_terms c.in-Some.parts.ends.now c.in-Some.parts.body.now c.in-Some.ensures.value c.if-not-do_ends_rise.ensures c.if-not-do_keys_ascend.ensures

pub returns-in_default-open : goal.returns-in_default-open
returns-in_default-open c =
    dictionary-is c.args.bytes.now c.in-Some.parts.num_terms c.in-Some.parts.ends.now c.in-Some.parts.body.now c.in-Some.ensures.value c.if-not-do_ends_rise.ensures c.if-not-do_keys_ascend.ensures
    ∙ infos-none (keys_of c.in-Some.parts.num_terms c.in-Some.parts.ends.now c.in-Some.parts.body.now) (term_store (store_after c.in-Some.parts.num_terms c.in-Some.parts.ends.now c.in-Some.parts.body.now)) (rw (← c.store_of-store.ensures) c.in_default-open.ensures)

pub returns-then-num_terms-parts : goal.returns-then-num_terms-parts
returns-then-num_terms-parts c =
    dictionary-is c.args.bytes.now c.in-Some.parts.num_terms c.in-Some.parts.ends.now c.in-Some.parts.body.now c.in-Some.ensures.value c.if-not-do_ends_rise.ensures c.if-not-do_keys_ascend.ensures
    ∙ infos-other (keys_of c.in-Some.parts.num_terms c.in-Some.parts.ends.now c.in-Some.parts.body.now) (term_store (store_after c.in-Some.parts.num_terms c.in-Some.parts.ends.now c.in-Some.parts.body.now)) c.in-Some-open.infos c.in-Some.parts.num_terms (rw (← c.store_of-store.ensures) c.in-Some-open.ensures)
    (length-keys_of c.in-Some.parts.num_terms c.in-Some.parts.ends.now c.in-Some.parts.body.now) (rw c.num_terms.ensures at c.if-num_terms-parts.true)

pub returns : goal.returns
returns c =
    rw (dictionary-is c.args.bytes.now c.in-Some.parts.num_terms c.in-Some.parts.ends.now c.in-Some.parts.body.now c.in-Some.ensures.value c.if-not-do_ends_rise.ensures c.if-not-do_keys_ascend.ensures)
    (infos-ok (keys_of c.in-Some.parts.num_terms c.in-Some.parts.ends.now c.in-Some.parts.body.now) (term_store (store_after c.in-Some.parts.num_terms c.in-Some.parts.ends.now c.in-Some.parts.body.now)) c.in-Some-open.infos c.in-Some.parts.num_terms (rw (← c.store_of-store.ensures) c.in-Some-open.ensures)
    (length-keys_of c.in-Some.parts.num_terms c.in-Some.parts.ends.now c.in-Some.parts.body.now) (sym c.num_terms.ensures ∙ c.if-num_terms-parts.false))
