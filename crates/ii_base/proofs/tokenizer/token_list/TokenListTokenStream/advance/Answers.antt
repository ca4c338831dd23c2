use Rattle.std.proofs.Common.{drop, sym, ap, ◌∙◌}
use Rattle.std.proofs.lemmas.List.{drop-drop}
use Rattle.ii_base.specs.Words.{TokenListState, words_of}
use Rattle.ii_base.proofs.tokenizer.token_list.TokenListTokenStream.advance.Goals as goal

pub returns-clause-rest : goal.returns-clause-rest
returns-clause-rest c = sym (drop-drop 1 c.self.inside.passed (words_of c.self.inside.tokens.items)) ∙ ap (λ (s : TokenListState). drop 1 s.to_come) c.self.view_is
