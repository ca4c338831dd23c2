-- The grammar: the lexemes of each tree.
use Rattle.std.specs.Prelude.{◌≡◌, ℕ, suc, List, [], ◌∷◌, ◌++◌, Ok}
use Rattle.ii_query_grammar.specs.Lexemes.{Lexeme, Token, and_word, asterisk, closing, literal, minus, opening, or_word, range, value_set}
use Rattle.ii_query_grammar.specs.Parsed.{ChainState, chain_and, chain_and_not, chain_of, whole, with_chain_tree}
use Rattle.ii_query_grammar.specs.Trees.{Ast, Literal, Range, ValueSet, everything, in_set, leaf, ranged}

-- What lexemes may form: a part; a chain of parts joined by AND; clauses, which may end with a chain, with
-- their wanted and excluded trees; a query.
pub data Kind : Type 0 where
  part : Ast → Kind
  chain : ChainState → Kind
  clauses : List Ast → List Ast → Kind
  wants : List Ast → List Ast → Kind
  query : Ast → Kind

-- a lexeme at a byte
abbrev pub token : ℕ → Lexeme → Token
token at lexeme = record { at = at; lexeme = lexeme }

-- Lexemes, at any bytes, form this kind, with a maximum number of open parentheses.
pub data Spells : ℕ → Kind → List Token → Type 0 where
  alone : {more : ℕ} (at : ℕ) (l : Literal) → Spells more (part (leaf l)) (token at (literal l) ∷ [])
  between_bounds : {more : ℕ} (at : ℕ) (r : Range) → Spells more (part (ranged r)) (token at (range r) ∷ [])
  among_values : {more : ℕ} (at : ℕ) (s : ValueSet) → Spells more (part (in_set s)) (token at (value_set s) ∷ [])
  star_alone : {more : ℕ} (at : ℕ) → Spells more (part everything) (token at asterisk ∷ [])
  in_parentheses : {more : ℕ} {t : Ast} {ls : List Token} (at end : ℕ) → Spells more (query t) ls → Spells (suc more) (part t) (token at opening ∷ (ls ++ token end closing ∷ []))
  one : {more : ℕ} {t : Ast} {ls : List Token} → Spells more (part t) ls → Spells more (chain (chain_of t)) ls
  and : {more : ℕ} {c : ChainState} {t : Ast} {ks ls : List Token} (at : ℕ) → Spells more (chain c) ks → Spells more (part t) ls → Spells more (chain (chain_and c t)) (ks ++ token at and_word ∷ ls)
  and_not : {more : ℕ} {c : ChainState} {t : Ast} {ks ls : List Token} (at next : ℕ) → Spells more (chain c) ks → Spells more (part t) ls → Spells more (chain (chain_and_not c t)) (ks ++ token at and_word ∷ token next minus ∷ ls)
  nothing : {more : ℕ} → Spells more (clauses [] []) []
  next_to : {more : ℕ} {w e : List Ast} {c : ChainState} {ks ls : List Token} → Spells more (clauses w e) ks → Spells more (chain c) ls → Spells more (wants (with_chain_tree w c) e) (ks ++ ls)
  or : {more : ℕ} {w e : List Ast} {c : ChainState} {ks ls : List Token} (at : ℕ) → Spells more (wants w e) ks → Spells more (chain c) ls → Spells more (wants (with_chain_tree w c) e) (ks ++ token at or_word ∷ ls)
  wanted : {more : ℕ} {w e : List Ast} {ls : List Token} → Spells more (wants w e) ls → Spells more (clauses w e) ls
  excluded : {more : ℕ} {w e : List Ast} {t : Ast} {ks ls : List Token} (at : ℕ) → Spells more (clauses w e) ks → Spells more (part t) ls → Spells more (clauses w (e ++ t ∷ [])) (ks ++ token at minus ∷ ls)
  all : {more : ℕ} {w e : List Ast} {t : Ast} {ls : List Token} → Spells more (clauses w e) ls → whole w e ≡ Ok t → Spells more (query t) ls
