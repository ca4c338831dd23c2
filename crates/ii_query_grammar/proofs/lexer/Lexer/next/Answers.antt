use Rattle.std.proofs.Common.{sym, ◌∙◌}
use Rattle.ii_query_grammar.proofs.LexerLemmas.{none_left, one_left}
use Rattle.ii_query_grammar.proofs.lexer.Lexer.next.Goals as goal

pub returns-then-is_nothing : goal.returns-then-is_nothing
returns-then-is_nothing c =
    none_left c.args.self.now c.self.inside.size c.self.inside.rest.now c.after_spaces-text.result.now (sym c.self.view_is) c.after_spaces-text.ensures.rest
    (sym c.is_nothing.ensures ∙ c.if-is_nothing.true)

pub returns : goal.returns
returns c =
    one_left c.args.self.now c.self.inside.size c.self.inside.rest.now c.after_spaces-text.result.now _ _ (sym c.self.view_is) c.after_spaces-text.ensures.rest
    (sym c.is_nothing.ensures ∙ c.if-is_nothing.false) c.front.ensures.front.token_is c.front.ensures.front.rest_is
