use Rattle.std.proofs.Common.{◌≡◌, ◌-◌, ◌∙◌, ap, filter, map, nat_lt, rules, string_bytes, subst, sym}
use Rattle.std.specs.List.{All}
use Rattle.std.proofs.lemmas.Fn.{filter_same}
use Rattle.std.proofs.lemmas.List.Elements.{All-filter}
use Rattle.ii_base.specs.TokenPlaces.{IsPlaced, placed_word}
use Rattle.ii_base.specs.Words.{remove_long}
use Rattle.ii_base.specs.declared.tokenizer.token_buffer.TokenPlace.{TokenPlace}
use Rattle.ii_base.proofs.BufferLemmas.{short_words}
use Rattle.ii_base.proofs.tokenizer.token_buffer.TokenBuffer.remove_long.Goals as goal

pub invariant_of-self : goal.invariant_of-self
invariant_of-self c =
    let kept : c.retain.new.self.items ≡ filter (λ (p : TokenPlace). nat_lt (p.end - p.start) c.args.limit) c.self.inside.places.items = filter_same _ _ _ (λ x b f' k. search rules) _ _ c.retain.ensures.filtered in
    subst (All (IsPlaced (string_bytes c.self.inside.texts))) (sym kept) (All-filter (λ (p : TokenPlace). nat_lt (p.end - p.start) c.args.limit) (IsPlaced (string_bytes c.self.inside.texts)) c.self.inside.places.items c.self.invariant)

pub returns : goal.returns
returns c =
    let kept : c.retain.new.self.items ≡ filter (λ (p : TokenPlace). nat_lt (p.end - p.start) c.args.limit) c.self.inside.places.items = filter_same _ _ _ (λ x b f' k. search rules) _ _ c.retain.ensures.filtered in
    ap (map (placed_word (string_bytes c.self.inside.texts))) kept ∙ short_words c.args.limit (string_bytes c.self.inside.texts) c.self.inside.places.items c.self.invariant ∙ ap (remove_long c.args.limit) c.self.view_is
