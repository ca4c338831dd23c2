use Rattle.std.proofs.Common.{drop, sym, ap, ◌∙◌}
use Rattle.std.proofs.lemmas.List.{drop-drop}
use Rattle.ii_base.specs.Words.{TokenListState}
use Rattle.ii_base.proofs.tokenizer.token_buffer.BufferedTokensTokenStream.advance.Goals as goal

pub returns-clause-rest : goal.returns-clause-rest
returns-clause-rest c = sym (drop-drop 1 c.self.inside.passed c.self.inside.tokens) ∙ ap (λ (s : TokenListState). drop 1 s.to_come) c.self.view_is
