-- How lexemes are parsed into a tree.
use Rattle.std.specs.Prelude.{◌≡◌, ℕ, List, [], ◌∷◌, ◌++◌, Option, None, Some, Result, Ok, Err, IfErr, if◌then◌else◌, length, map, nat_lt, reverse, string_bytes, ⊤, String, Vec}
use Rattle.std.specs.declared.alloc.Global.{Global}
use Rattle.ii_query_grammar.specs.declared.group.Chain.{Chain}
use Rattle.ii_query_grammar.specs.declared.group.Group.{Group}
use Rattle.ii_query_grammar.specs.declared.group.Place.{Place}
use Rattle.ii_query_grammar.specs.declared.group.Place.TheVariants as places
use Rattle.ii_query_grammar.specs.declared.parse_error.Expected.{Expected}
use Rattle.ii_query_grammar.specs.declared.parse_error.Expected.TheVariants.{Closing, End, Excluded, Included, LessNesting, Operand, Query}
use Rattle.ii_query_grammar.specs.declared.parse_error.ParseError.{ParseError}
use Rattle.ii_query_grammar.specs.declared.parse_error.ParseError.TheVariants.{OutOfMemory, Syntax, Unsupported}
use Rattle.ii_query_grammar.specs.declared.user_input_ast.UserInputAst.{UserInputAst}
use Rattle.ii_query_grammar.specs.Lexemes.{Lexeme, SetFront, Token, and_word, asterisk, broken, closing, lexemes, literal, minus, opening, or_word, range, set_values_of, value_set}
use Rattle.ii_query_grammar.specs.Trees.{Ast, ValueSet, all_of, any_of, ast_of, asts_from, everything, in_set, leaf, ranged, without}

-- parts joined by AND: those that must match, and those that must not
pub record ChainState : Type 0 where
  pub wanted : List Ast
  pub excluded : List Ast

-- The place in a group: at the start or after an excluded part; after a chain; after an AND, or an AND and a
-- minus, that continues a chain; after an OR; after the minus of an excluded part.
pub data PlaceState : Type 0 where
  begins : PlaceState
  chained : ChainState → PlaceState
  after_and : ChainState → PlaceState
  after_and_minus : ChainState → PlaceState
  after_or : PlaceState
  after_minus : PlaceState

-- A group: the trees of its chains before the current one, its excluded parts, and the place in it.
pub record GroupState : Type 0 where
  pub wanted : List Ast
  pub excluded : List Ast
  pub place : PlaceState

-- a group without a part
abbrev pub empty : GroupState
empty = record { wanted = []; excluded = []; place = begins }

-- the tree that matches what all trees match; a single tree itself
abbrev pub all_tree : List Ast → Ast
all_tree [] = all_of (asts_from [])
all_tree (t ∷ []) = t
all_tree (t ∷ u ∷ ts) = all_of (asts_from (t ∷ u ∷ ts))

-- the tree that matches what at least one tree matches; a single tree itself
abbrev pub any_tree : List Ast → Ast
any_tree [] = any_of (asts_from [])
any_tree (t ∷ []) = t
any_tree (t ∷ u ∷ ts) = any_of (asts_from (t ∷ u ∷ ts))

-- a tree without what the excluded ones match
abbrev pub without_any : Ast → List Ast → Ast
without_any t [] = t
without_any t (e ∷ es) = without t (any_tree (e ∷ es))

-- the tree of a chain
abbrev pub chain_tree : ChainState → Ast
chain_tree c = without_any (all_tree c.wanted) c.excluded

-- a chain of one part
abbrev pub chain_of : Ast → ChainState
chain_of t = record { wanted = t ∷ []; excluded = [] }

-- a chain with one more wanted part
abbrev pub chain_and : ChainState → Ast → ChainState
chain_and c t = record { wanted = c.wanted ++ t ∷ []; excluded = c.excluded }

-- a chain with one more excluded part
abbrev pub chain_and_not : ChainState → Ast → ChainState
chain_and_not c t = record { wanted = c.wanted; excluded = c.excluded ++ t ∷ [] }

-- the trees of chains with one more
abbrev pub with_chain_tree : List Ast → ChainState → List Ast
with_chain_tree ts c = ts ++ chain_tree c ∷ []

-- a group with one more part, given the place in it
abbrev pub put_at : List Ast → List Ast → PlaceState → Ast → GroupState
put_at wanted excluded begins t = record { wanted = wanted; excluded = excluded; place = chained (chain_of t) }
put_at wanted excluded (chained c) t = record { wanted = with_chain_tree wanted c; excluded = excluded; place = chained (chain_of t) }
put_at wanted excluded (after_and c) t = record { wanted = wanted; excluded = excluded; place = chained (chain_and c t) }
put_at wanted excluded (after_and_minus c) t = record { wanted = wanted; excluded = excluded; place = chained (chain_and_not c t) }
put_at wanted excluded after_or t = record { wanted = wanted; excluded = excluded; place = chained (chain_of t) }
put_at wanted excluded after_minus t = record { wanted = wanted; excluded = excluded ++ t ∷ []; place = begins }

-- a group with one more part
abbrev pub put : GroupState → Ast → GroupState
put g t = put_at g.wanted g.excluded g.place t

-- a group after an AND, which is allowed only after a chain
abbrev pub and_at : List Ast → List Ast → PlaceState → Option GroupState
and_at wanted excluded begins = None
and_at wanted excluded (chained c) = Some (record { wanted = wanted; excluded = excluded; place = after_and c })
and_at wanted excluded (after_and c) = None
and_at wanted excluded (after_and_minus c) = None
and_at wanted excluded after_or = None
and_at wanted excluded after_minus = None

-- a group after an AND, if one is allowed here
abbrev pub put_and : GroupState → Option GroupState
put_and g = and_at g.wanted g.excluded g.place

-- a group after an OR, which is allowed only after a chain
abbrev pub or_at : List Ast → List Ast → PlaceState → Option GroupState
or_at wanted excluded begins = None
or_at wanted excluded (chained c) = Some (record { wanted = with_chain_tree wanted c; excluded = excluded; place = after_or })
or_at wanted excluded (after_and c) = None
or_at wanted excluded (after_and_minus c) = None
or_at wanted excluded after_or = None
or_at wanted excluded after_minus = None

-- a group after an OR, if one is allowed here
abbrev pub put_or : GroupState → Option GroupState
put_or g = or_at g.wanted g.excluded g.place

-- a group after a minus, which is allowed where a part is, except after an OR; an AND may come before it
abbrev pub minus_at : List Ast → List Ast → PlaceState → Option GroupState
minus_at wanted excluded begins = Some (record { wanted = wanted; excluded = excluded; place = after_minus })
minus_at wanted excluded (chained c) = Some (record { wanted = with_chain_tree wanted c; excluded = excluded; place = after_minus })
minus_at wanted excluded (after_and c) = Some (record { wanted = wanted; excluded = excluded; place = after_and_minus c })
minus_at wanted excluded (after_and_minus c) = None
minus_at wanted excluded after_or = None
minus_at wanted excluded after_minus = None

-- a group after a minus, if one is allowed here
abbrev pub put_minus : GroupState → Option GroupState
put_minus g = minus_at g.wanted g.excluded g.place

-- the wanted trees without the excluded ones, if there is a wanted one
abbrev pub whole : List Ast → List Ast → Result Ast Expected
whole [] [] = Err Query
whole [] (e ∷ es) = Err Included
whole (t ∷ ts) excluded = Ok (without_any (any_tree (t ∷ ts)) excluded)

-- the tree of a complete group, given the place in it
abbrev pub whole_at : List Ast → List Ast → PlaceState → Result Ast Expected
whole_at wanted excluded begins = whole wanted excluded
whole_at wanted excluded (chained c) = whole (with_chain_tree wanted c) excluded
whole_at wanted excluded (after_and c) = Err Operand
whole_at wanted excluded (after_and_minus c) = Err Excluded
whole_at wanted excluded after_or = Err Operand
whole_at wanted excluded after_minus = Err Excluded

-- the tree of a complete group, or what is expected
abbrev pub whole_of : GroupState → Result Ast Expected
whole_of g = whole_at g.wanted g.excluded g.place

-- how reading continues from open groups, the innermost first, and the current one
abbrev pub Reading : Type 0
Reading = List GroupState → GroupState → Result Ast ParseError

-- continues if the sign is allowed here
abbrev pub read_sign : Reading → List GroupState → ℕ → Option GroupState → Result Ast ParseError
read_sign others opened at None = Err (Syntax Operand at)
read_sign others opened at (Some group) = others opened group

-- continues with an empty group if one more may be open
abbrev pub read_opening : ℕ → Reading → List GroupState → GroupState → ℕ → Result Ast ParseError
read_opening limit others opened group at = if nat_lt (length opened) limit then others (group ∷ opened) empty else Err (Syntax LessNesting at)

-- continues with the tree of the group in the group around it
abbrev pub read_closing : Reading → List GroupState → ℕ → Result Ast Expected → Result Ast ParseError
read_closing others opened at (Err expected) = Err (Syntax expected at)
read_closing others [] at (Ok t) = Err (Syntax End at)
read_closing others (group ∷ opened) at (Ok t) = others opened (put group t)

-- reads one lexeme, then the others
abbrev pub read_one : ℕ → Reading → List GroupState → GroupState → ℕ → Lexeme → Result Ast ParseError
read_one limit others opened group at asterisk = others opened (put group everything)
read_one limit others opened group at (literal l) = others opened (put group (leaf l))
read_one limit others opened group at (range r) = others opened (put group (ranged r))
read_one limit others opened group at (value_set s) = others opened (put group (in_set s))
read_one limit others opened group at opening = read_opening limit others opened group at
read_one limit others opened group at closing = read_closing others opened at (whole_of group)
read_one limit others opened group at minus = read_sign others opened at (put_minus group)
read_one limit others opened group at and_word = read_sign others opened at (put_and group)
read_one limit others opened group at or_word = read_sign others opened at (put_or group)
read_one limit others opened group at (broken error) = Err error

-- the result at the end of a text of this length; no group may be open
abbrev pub read_end : ℕ → List GroupState → Result Ast Expected → Result Ast ParseError
read_end size opened (Err expected) = Err (Syntax expected size)
read_end size [] (Ok t) = Ok t
read_end size (group ∷ opened) (Ok t) = Err (Syntax Closing size)

-- the tree of the lexemes of a text of this length, given the open groups and the current one
abbrev pub read : ℕ → ℕ → List GroupState → GroupState → List Token → Result Ast ParseError
read limit size opened group [] = read_end size opened (whole_of group)
read limit size opened group (t ∷ ts) = read_one limit (λ outer inner. read limit size outer inner ts) opened group t.at t.lexeme

-- the tree of a text, with at most `limit` open parentheses
abbrev pub parsed : ℕ → List ℕ → Result Ast ParseError
parsed limit text = read limit (length text) [] empty (lexemes (length text) text)

-- The result is the parsed tree or error, unless an allocation failed.
abbrev pub IsReadAs : Result UserInputAst ParseError → Result Ast ParseError → Type 0
IsReadAs (Ok ast) read = read ≡ Ok (ast_of ast)
IsReadAs (Err (Syntax expected at)) read = read ≡ Err (Syntax expected at)
IsReadAs (Err (Unsupported feature at)) read = read ≡ Err (Unsupported feature at)
IsReadAs (Err OutOfMemory) read = ⊤

-- A call fails only with `OutOfMemory`.
abbrev pub OnlyMemoryRefuses : {A : Type 0} → Result A ParseError → Type 0
OnlyMemoryRefuses result = IfErr result (λ e. e ≡ OutOfMemory)

-- the model of a chain
abbrev pub chain_state : Chain → ChainState
chain_state c = record { wanted = map ast_of c.wanted.items; excluded = map ast_of c.excluded.items }

-- the model of a place
abbrev pub place_state : Place → PlaceState
place_state places.Begins = begins
place_state (places.Chained c) = chained (chain_state c)
place_state (places.AfterAnd c) = after_and (chain_state c)
place_state (places.AfterAndMinus c) = after_and_minus (chain_state c)
place_state places.AfterOr = after_or
place_state places.AfterMinus = after_minus

-- the model of a group
abbrev pub group_of : Group → GroupState
group_of g = record { wanted = map ast_of g.wanted.items; excluded = map ast_of g.excluded.items; place = place_state g.place }

-- the model of the open groups, whose list has the innermost last
abbrev pub stack_of : List Group → List GroupState
stack_of groups = reverse (map group_of groups)

-- Reading continued over a lexeme with open groups and a current one, or it failed.
abbrev pub GoesOn : Result Group ParseError → List GroupState → (Reading → Result Ast ParseError) → Type 0
GoesOn (Ok group) opened read_on = (others : Reading) → read_on others ≡ others opened (group_of group)
GoesOn (Err (Syntax expected at)) opened read_on = (others : Reading) → read_on others ≡ Err (Syntax expected at)
GoesOn (Err (Unsupported feature at)) opened read_on = (others : Reading) → read_on others ≡ Err (Unsupported feature at)
GoesOn (Err OutOfMemory) opened read_on = ⊤

-- A group's tree, or what is expected at a byte, unless an allocation failed.
abbrev pub IsWhole : ℕ → Result Ast Expected → Result UserInputAst ParseError → Type 0
IsWhole at whole (Ok ast) = whole ≡ Ok (ast_of ast)
IsWhole at whole (Err (Syntax expected place)) = (whole ≡ Err expected) × (place ≡ at)
IsWhole at whole (Err (Unsupported feature place)) = ⊥
IsWhole at whole (Err OutOfMemory) = ⊤

-- A list has a single element, or it has none or several and stays as it is.
abbrev pub IsSingle : List UserInputAst → Result UserInputAst (Vec UserInputAst Global) → Type 0
IsSingle trees (Ok t) = trees ≡ t ∷ []
IsSingle trees (Err others) = (others.items ≡ trees) × (length trees ≡ 1 → ⊥)

-- The values of a set were read, or the error is this, unless an allocation failed.
abbrev pub AreValues : Result SetFront ParseError → Result (Vec (String Global) Global) ParseError → Type 0
AreValues found (Ok values) = set_values_of found ≡ Ok (map (λ value. string_bytes value) values.items)
AreValues found (Err (Syntax expected at)) = found ≡ Err (Syntax expected at)
AreValues found (Err (Unsupported feature at)) = found ≡ Err (Unsupported feature at)
AreValues found (Err OutOfMemory) = ⊤

-- The tree of a set was made, or the error is that of its lexeme, unless an allocation failed.
abbrev pub IsSetTree : Lexeme → Result UserInputAst ParseError → Type 0
IsSetTree lexeme (Ok ast) = (s : ValueSet) × (lexeme ≡ value_set s) × (ast_of ast ≡ in_set s)
IsSetTree lexeme (Err (Syntax expected at)) = lexeme ≡ broken (Syntax expected at)
IsSetTree lexeme (Err (Unsupported feature at)) = lexeme ≡ broken (Unsupported feature at)
IsSetTree lexeme (Err OutOfMemory) = ⊤
