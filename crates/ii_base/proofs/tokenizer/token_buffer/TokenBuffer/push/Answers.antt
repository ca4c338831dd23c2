use Rattle.std.proofs.Common.{OnErr, Result, Ok, Err, ℕ, ap₂, map, ◌∙◌, ◌++◌, ◌∷◌, [], List, ap, length, string_bytes}
use Rattle.ii_base.specs.TokenPlaces.{placed_word}
use Rattle.ii_base.specs.Words.{Word, seen_word}
use Rattle.ii_base.specs.declared.tokenizer.token_buffer.TokenPlace.{TokenPlace}
use Rattle.ii_base.proofs.BufferLemmas.{all_more, all_pushed, words_more, words_pushed}
use Rattle.ii_base.proofs.tokenizer.token_buffer.TokenBuffer.push.Goals as goal

added : goal.In_ok-push → TokenPlace
added c = record {
  offset_from = c.args.token.offset_from;
  offset_to = c.args.token.offset_to;
  position = c.args.token.position;
  position_length = c.args.token.position_length;
  start = length c.as_str-start.result.now;
  end = length c.as_str-end.result.now;
}

pub invariant_of-self-in_err-push : goal.invariant_of-self-in_err-push
invariant_of-self-in_err-push c =
    rw (c.in_err-push.ensures.items, c.in_ok-push_text.ensures.ok) (all_more (string_bytes c.self.inside.texts) c.args.token.text.now c.self.inside.places.items c.push_text.ensures.utf8 c.self.invariant)

on_err : {T E P : Type 0} (result : Result T E) → P → OnErr result P
on_err (Ok a) here = tt
on_err (Err e) here = here

pub returns-in_err-push-clause-err : goal.returns-in_err-push-clause-err
returns-in_err-push-clause-err c =
    on_err c.from_residual-in_err-push.result
    (ap₂ (λ (texts : List ℕ) (ps : List TokenPlace). map (placed_word texts) ps) c.in_ok-push_text.ensures.ok c.in_err-push.ensures.items
    ∙ words_more (string_bytes c.self.inside.texts) c.args.token.text.now c.self.inside.places.items c.self.invariant
    ∙ c.self.view_is)

pub invariant_of-self-2 : goal.invariant_of-self-2
unfolding added
invariant_of-self-2 c =
    all_pushed (string_bytes c.self.inside.texts) c.args.token.text.now (string_bytes c.push_text.new.texts) c.self.inside.places.items c.push.new.self.items (added c) c.in_ok-push_text.ensures.ok c.in_ok-push.ensures.items c.push_text.ensures.utf8 (ap length c.as_str-start.ensures.value) (ap length c.as_str-end.ensures.value) c.self.invariant

pub returns-clause-ok : goal.returns-clause-ok
unfolding added
returns-clause-ok c =
    words_pushed (string_bytes c.self.inside.texts) c.args.token.text.now (string_bytes c.push_text.new.texts) c.self.inside.places.items c.push.new.self.items (added c) c.in_ok-push_text.ensures.ok c.in_ok-push.ensures.items (ap length c.as_str-start.ensures.value) (ap length c.as_str-end.ensures.value) c.self.invariant
    ∙ ap (λ (ws : List Word). ws ++ seen_word c.args.token ∷ []) c.self.view_is
