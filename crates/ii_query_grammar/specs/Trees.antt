-- Syntax trees of queries.
use Rattle.std.specs.Prelude.{ℕ, List, [], ◌∷◌, Option, map, option_map, string_bytes}
use Rattle.ii_query_grammar.specs.declared.user_input_ast.Delimiter.{Delimiter}
use Rattle.ii_query_grammar.specs.declared.user_input_ast.UserInputAst.{UserInputAst, fold-UserInputAst}
use Rattle.ii_query_grammar.specs.declared.user_input_ast.UserInputAst.TheOpen.{UserInputAst-F}
use Rattle.ii_query_grammar.specs.declared.user_input_ast.UserInputBound.{UserInputBound}
use Rattle.ii_query_grammar.specs.declared.user_input_ast.UserInputBound.TheVariants as bounds
use Rattle.ii_query_grammar.specs.declared.user_input_ast.UserInputLiteral.{UserInputLiteral}
use Rattle.ii_query_grammar.specs.declared.user_input_ast.UserInputRange.{UserInputRange}
use Rattle.ii_query_grammar.specs.declared.user_input_ast.UserInputSet.{UserInputSet}

-- a word or a phrase: the name of its field, if it has one, its text, and its delimiter
pub record Literal : Type 0 where
  pub field_name : Option (List ℕ)
  pub phrase : List ℕ
  pub delimiter : Delimiter

-- A bound of a range: none; a text that belongs to the range; a text that doesn't.
pub data Bound : Type 0 where
  unbounded : Bound
  inclusive : List ℕ → Bound
  exclusive : List ℕ → Bound

-- a range: the name of its field, and its bounds
pub record Range : Type 0 where
  pub field_name : List ℕ
  pub lower : Bound
  pub upper : Bound

-- a set: the name of its field, and its values
pub record ValueSet : Type 0 where
  pub field_name : List ℕ
  pub values : List (List ℕ)

-- A tree: all documents; a word or a phrase; a range; a set; what all parts match; what at least one matches; what the
-- first part matches and the other doesn't.
mutual
  pub data Ast : Type 0 where
    everything : Ast
    leaf : Literal → Ast
    ranged : Range → Ast
    in_set : ValueSet → Ast
    all_of : Asts → Ast
    any_of : Asts → Ast
    without : Ast → Ast → Ast

  pub data Asts : Type 0 where
    no_asts : Asts
    and_asts : Ast → Asts → Asts

-- the parts of a tree, from a list
abbrev pub asts_from : List Ast → Asts
asts_from [] = no_asts
asts_from (t ∷ ts) = and_asts t (asts_from ts)

-- the model of a literal
abbrev pub literal_of : UserInputLiteral → Literal
literal_of l = record { field_name = option_map (λ name. string_bytes name) l.field_name; phrase = string_bytes l.phrase; delimiter = l.delimiter }

-- the model of a bound
abbrev pub bound_of : UserInputBound → Bound
bound_of bounds.Unbounded = unbounded
bound_of (bounds.Inclusive text) = inclusive (string_bytes text)
bound_of (bounds.Exclusive text) = exclusive (string_bytes text)

-- the model of a range
abbrev pub range_of : UserInputRange → Range
range_of r = record { field_name = string_bytes r.field_name; lower = bound_of r.lower; upper = bound_of r.upper }

-- the model of a set
abbrev pub set_of : UserInputSet → ValueSet
set_of s = record { field_name = string_bytes s.field_name; values = map (λ value. string_bytes value) s.values.items }

-- one level of a tree, given the models of its parts
abbrev pub ast_step : UserInputAst-F Ast → Ast
ast_step UserInputAst-F.All = everything
ast_step (UserInputAst-F.Leaf l) = leaf (literal_of l)
ast_step (UserInputAst-F.Range r) = ranged (range_of r)
ast_step (UserInputAst-F.Set s) = in_set (set_of s)
ast_step (UserInputAst-F.And v) = all_of (asts_from v.items)
ast_step (UserInputAst-F.Or v) = any_of (asts_from v.items)
ast_step (UserInputAst-F.AndNot first other) = without first.value other.value

-- the model of a tree
abbrev pub ast_of : UserInputAst → Ast
ast_of = fold-UserInputAst Ast ast_step
