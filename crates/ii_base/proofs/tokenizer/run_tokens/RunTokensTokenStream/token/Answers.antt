use Rattle.std.proofs.Common.{string_bytes, subst, sym, ap, ◌∙◌}
use Rattle.std.specs.Prelude.{IsSome}
use Rattle.std.specs.List.{slice_range}
use Rattle.ii_base.proofs.RunTokenLemmas.{run_seen}
use Rattle.ii_base.proofs.tokenizer.run_tokens.RunTokensTokenStream.token.Goals as goal

pub returns : goal.returns
returns c =
    let inside = c.self.inside in
    sym (ap (λ s. s.current) c.self.view_is)
    ∙ run_seen (string_bytes inside.text) c.range.result.now inside.run c.saturating_sub.result c.self.invariant.0 c.self.invariant.1 c.self.invariant.2
    (subst (λ s. IsSome s.current) (sym c.self.view_is) c.requires)
    (c.range.ensures.value ∙ ap (λ bs. slice_range bs inside.run.start inside.run.end) c.as_str.ensures.value) c.saturating_sub.ensures
