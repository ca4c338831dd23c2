-- The trees of the grammar's values, one equation for each variant.
use Rattle.std.proofs.Common.{◌≡◌, ◌∙◌, Vec, Box, Global, sym, ap}
use Rattle.ii_query_grammar.specs.Trees.{Ast, all_of, any_of, ast_of, ast_step, everything, without}
use Rattle.ii_query_grammar.specs.declared.user_input_ast.UserInputAst.{UserInputAst}
use Rattle.ii_query_grammar.specs.declared.user_input_ast.UserInputAst.TheOpen.{UserInputAst-F}
use Rattle.ii_query_grammar.specs.declared.user_input_ast.UserInputAst.TheFolds.{fold-roll-UserInputAst}
use Rattle.ii_query_grammar.specs.declared.user_input_ast.UserInputAst.TheVariants.{All, And, AndNot, Or, rolls-All, rolls-And, rolls-AndNot, rolls-Or}
use Rattle.ii_query_parser.proofs.WordsQueryLemmas.{trees_in}

pub all_ast : ast_of All ≡ everything
all_ast = ap ast_of (sym rolls-All) ∙ fold-roll-UserInputAst Ast ast_step UserInputAst-F.All

pub and_ast : (parts : Vec UserInputAst Global) → ast_of (And parts) ≡ all_of (trees_in parts.items)
and_ast parts = ap ast_of (sym (rolls-And parts)) ∙ fold-roll-UserInputAst Ast ast_step (UserInputAst-F.And parts)

pub or_ast : (parts : Vec UserInputAst Global) → ast_of (Or parts) ≡ any_of (trees_in parts.items)
or_ast parts = ap ast_of (sym (rolls-Or parts)) ∙ fold-roll-UserInputAst Ast ast_step (UserInputAst-F.Or parts)

pub and_not_ast : (first other : Box UserInputAst Global) → ast_of (AndNot first other) ≡ without (ast_of first.value) (ast_of other.value)
and_not_ast first other = ap ast_of (sym (rolls-AndNot first other)) ∙ fold-roll-UserInputAst Ast ast_step (UserInputAst-F.AndNot first other)
