-- Lexemes in the grammar are parsed as their tree.
use Rattle.std.proofs.Common.{◌≡◌, ◌∙◌, ℕ, suc, ◌+◌, ◌≤◌, true, List, [], ◌∷◌, ◌++◌, append_assoc, append-nil, arith, Bool, cond, length, nat_lt, Some, Ok, Err, refl, sym, ap}
use Rattle.std.specs.Prelude.{⊤}
use Rattle.std.proofs.lemmas.Bool.{lt-ltb}
use Rattle.ii_query_grammar.specs.declared.parse_error.Expected.TheVariants.{LessNesting}
use Rattle.ii_query_grammar.specs.declared.parse_error.ParseError.TheVariants.{Syntax}
use Rattle.ii_query_grammar.specs.Grammar.{Kind, Spells, all, alone, among_values, and, and_not, between_bounds, chain, clauses, excluded, in_parentheses, next_to, nothing, one, or, part, query, star_alone, token, wanted, wants}
use Rattle.ii_query_grammar.specs.Lexemes.{Token, and_word, closing, minus, opening, or_word}
use Rattle.ii_query_grammar.specs.Parsed.{ChainState, GroupState, PlaceState, after_and, after_and_minus, after_minus, after_or, begins, chain_and, chain_and_not, chain_of, chained, empty, minus_at, put, put_at, read, read_closing, read_end, read_sign, whole, whole_at, whole_of, with_chain_tree}
use Rattle.ii_query_grammar.specs.Trees.{Ast}

-- A chain may begin here.
abbrev MayBegin : PlaceState → Type 0
MayBegin begins = ⊤
MayBegin (chained c) = ⊤
MayBegin (after_and c) = ⊥
MayBegin (after_and_minus c) = ⊥
MayBegin after_or = ⊤
MayBegin after_minus = ⊥

-- the trees of the chains before one that begins here
abbrev before : List Ast → PlaceState → List Ast
before w begins = w
before w (chained c) = with_chain_tree w c
before w (after_and c) = w
before w (after_and_minus c) = w
before w after_or = w
before w after_minus = w

-- a group after a chain
abbrev with_chain : List Ast → List Ast → ChainState → GroupState
with_chain w e c = record { wanted = w; excluded = e; place = chained c }

put_begins : (w e : List Ast) (p : PlaceState) (t : Ast) → MayBegin p → put_at w e p t ≡ with_chain (before w p) e (chain_of t)
put_begins w e begins t may = refl
put_begins w e (chained c) t may = refl
put_begins w e (after_and c) t may = absurd may
put_begins w e (after_and_minus c) t may = absurd may
put_begins w e after_or t may = refl
put_begins w e after_minus t may = absurd may

-- A group has these trees and excluded parts, between two clauses.
abbrev IsBetween : List Ast → List Ast → List Ast → List Ast → PlaceState → Type 0
IsBetween w e v f begins = (v ≡ w) × (f ≡ e)
IsBetween w e v f (chained c) = (with_chain_tree v c ≡ w) × (f ≡ e)
IsBetween w e v f (after_and c) = ⊥
IsBetween w e v f (after_and_minus c) = ⊥
IsBetween w e v f after_or = ⊥
IsBetween w e v f after_minus = ⊥

may_between : (w e v f : List Ast) (p : PlaceState) → IsBetween w e v f p → MayBegin p
may_between w e v f begins is = tt
may_between w e v f (chained c) is = tt
may_between w e v f (after_and c) is = is
may_between w e v f (after_and_minus c) is = is
may_between w e v f after_or is = tt
may_between w e v f after_minus is = is

begins_between : (w e v f : List Ast) (p : PlaceState) (c : ChainState) → IsBetween w e v f p → with_chain (before v p) f c ≡ with_chain w e c
begins_between w e v f begins c is = rw (is.0, is.1) refl
begins_between w e v f (chained d) c is = rw (is.0, is.1) refl
begins_between w e v f (after_and d) c is = absurd is
begins_between w e v f (after_and_minus d) c is = absurd is
begins_between w e v f after_or c is = absurd is
begins_between w e v f after_minus c is = absurd is

minus_between : (w e v f : List Ast) (p : PlaceState) → IsBetween w e v f p → minus_at v f p ≡ Some (record { wanted = w; excluded = e; place = after_minus })
minus_between w e v f begins is = rw (is.0, is.1) refl
minus_between w e v f (chained c) is = rw (is.0, is.1) refl
minus_between w e v f (after_and c) is = absurd is
minus_between w e v f (after_and_minus c) is = absurd is
minus_between w e v f after_or is = absurd is
minus_between w e v f after_minus is = absurd is

whole_between : (w e v f : List Ast) (p : PlaceState) → IsBetween w e v f p → whole_at v f p ≡ whole w e
whole_between w e v f begins is = rw (is.0, is.1) refl
whole_between w e v f (chained c) is = rw (is.0, is.1) refl
whole_between w e v f (after_and c) is = absurd is
whole_between w e v f (after_and_minus c) is = absurd is
whole_between w e v f after_or is = absurd is
whole_between w e v f after_minus is = absurd is

-- With these open groups, `more` may still be opened.
abbrev HasRoom : ℕ → List GroupState → ℕ → Type 0
HasRoom limit opened more = length opened + more ≤ limit

-- Reading goes on over lexemes from an empty group to this one.
abbrev LeadsTo : ℕ → GroupState → List Token → Type 0
LeadsTo more g ls = (limit size : ℕ) (opened : List GroupState) (rest : List Token) → HasRoom limit opened more → read limit size opened empty (ls ++ rest) ≡ read limit size opened g rest

-- Reading goes on over lexemes that are this together.
abbrev GoesOver : ℕ → Kind → List Token → Type 0
GoesOver more (part t) ls = (limit size : ℕ) (opened : List GroupState) (g : GroupState) (rest : List Token) → HasRoom limit opened more → read limit size opened g (ls ++ rest) ≡ read limit size opened (put g t) rest
GoesOver more (chain c) ls = (limit size : ℕ) (opened : List GroupState) (g : GroupState) (rest : List Token) → HasRoom limit opened more → MayBegin g.place → read limit size opened g (ls ++ rest) ≡ read limit size opened (with_chain (before g.wanted g.place) g.excluded c) rest
GoesOver more (clauses w e) ls = (g : GroupState) × IsBetween w e g.wanted g.excluded g.place × LeadsTo more g ls
GoesOver more (wants w e) ls = (v : List Ast) × (c : ChainState) × (with_chain_tree v c ≡ w) × LeadsTo more (with_chain v e c) ls
GoesOver more (query t) ls = (g : GroupState) × (whole_of g ≡ Ok t) × LeadsTo more g ls

over_parentheses : (more : ℕ) (t : Ast) (ls : List Token) (at end : ℕ) → GoesOver more (query t) ls → GoesOver (suc more) (part t) (token at opening ∷ (ls ++ token end closing ∷ []))
over_parentheses more t ls at end (g, is, leads) = λ limit size opened outer rest room.
    let fits : nat_lt (length opened) limit ≡ true = lt-ltb (length opened) limit (omega (arith, room)) in
    let inner : HasRoom limit (outer ∷ opened) more = omega (arith, room) in
    let after = ls ++ token end closing ∷ [] in
    ap (λ (b : Bool). cond b (read limit size (outer ∷ opened) empty (after ++ rest)) (Err (Syntax LessNesting at))) fits
    ∙ ap (read limit size (outer ∷ opened) empty) (append_assoc ls (token end closing ∷ []) rest)
    ∙ leads limit size (outer ∷ opened) (token end closing ∷ rest) inner
    ∙ ap (read_closing (λ others inner. read limit size others inner rest) (outer ∷ opened) end) is

over_one : (more : ℕ) (t : Ast) (ls : List Token) → GoesOver more (part t) ls → GoesOver more (chain (chain_of t)) ls
over_one more t ls over = λ limit size opened g rest room may.
    over limit size opened g rest room ∙ ap (λ (h : GroupState). read limit size opened h rest) (put_begins g.wanted g.excluded g.place t may)

over_and : (more : ℕ) (c : ChainState) (t : Ast) (ks ls : List Token) (at : ℕ) → GoesOver more (chain c) ks → GoesOver more (part t) ls → GoesOver more (chain (chain_and c t)) (ks ++ token at and_word ∷ ls)
over_and more c t ks ls at first other = λ limit size opened g rest room may.
    ap (read limit size opened g) (append_assoc ks (token at and_word ∷ ls) rest)
    ∙ first limit size opened g (token at and_word ∷ (ls ++ rest)) room may
    ∙ other limit size opened (record { wanted = before g.wanted g.place; excluded = g.excluded; place = after_and c }) rest room

over_and_not : (more : ℕ) (c : ChainState) (t : Ast) (ks ls : List Token) (at next : ℕ) → GoesOver more (chain c) ks → GoesOver more (part t) ls → GoesOver more (chain (chain_and_not c t)) (ks ++ token at and_word ∷ token next minus ∷ ls)
over_and_not more c t ks ls at next first other = λ limit size opened g rest room may.
    ap (read limit size opened g) (append_assoc ks (token at and_word ∷ token next minus ∷ ls) rest)
    ∙ first limit size opened g (token at and_word ∷ token next minus ∷ (ls ++ rest)) room may
    ∙ other limit size opened (record { wanted = before g.wanted g.place; excluded = g.excluded; place = after_and_minus c }) rest room

-- lexemes lead on after others
leads_after : (more : ℕ) (g : GroupState) (ks ls : List Token) (h : GroupState) → LeadsTo more g ks
    → ((limit size : ℕ) (opened : List GroupState) (rest : List Token) → HasRoom limit opened more → read limit size opened g (ls ++ rest) ≡ read limit size opened h rest) → LeadsTo more h (ks ++ ls)
leads_after more g ks ls h leads over = λ limit size opened rest room.
    ap (read limit size opened empty) (append_assoc ks ls rest) ∙ leads limit size opened (ls ++ rest) room ∙ over limit size opened rest room

over_next_to : (more : ℕ) (w e : List Ast) (c : ChainState) (ks ls : List Token) → GoesOver more (clauses w e) ks → GoesOver more (chain c) ls → GoesOver more (wants (with_chain_tree w c) e) (ks ++ ls)
over_next_to more w e c ks ls (g, is, leads) other =
    let may = may_between w e g.wanted g.excluded g.place is in (
      w,
      c,
      refl,
      leads_after more g ks ls (with_chain w e c) leads (λ limit size opened rest room.
          other limit size opened g rest room may
          ∙ ap (λ (h : GroupState). read limit size opened h rest) (begins_between w e g.wanted g.excluded g.place c is)),
    )

over_or : (more : ℕ) (w e : List Ast) (c : ChainState) (ks ls : List Token) (at : ℕ) → GoesOver more (wants w e) ks → GoesOver more (chain c) ls → GoesOver more (wants (with_chain_tree w c) e) (ks ++ token at or_word ∷ ls)
over_or more w e c ks ls at (v, d, is, leads) other = (
  with_chain_tree v d,
  c,
  ap (λ (l : List Ast). with_chain_tree l c) is,
  leads_after more (with_chain v e d) ks (token at or_word ∷ ls) (with_chain (with_chain_tree v d) e c) leads (λ limit size opened rest room.
      other limit size opened (record { wanted = with_chain_tree v d; excluded = e; place = after_or }) rest room tt),
)

over_wanted : (more : ℕ) (w e : List Ast) (ls : List Token) → GoesOver more (wants w e) ls → GoesOver more (clauses w e) ls
over_wanted more w e ls (v, c, is, leads) = (with_chain v e c, (is, refl), leads)

over_excluded : (more : ℕ) (w e : List Ast) (t : Ast) (ks ls : List Token) (at : ℕ) → GoesOver more (clauses w e) ks → GoesOver more (part t) ls → GoesOver more (clauses w (e ++ t ∷ [])) (ks ++ token at minus ∷ ls)
over_excluded more w e t ks ls at (g, is, leads) other = (
  record { wanted = w; excluded = e ++ t ∷ []; place = begins },
  (refl, refl),
  leads_after more g ks (token at minus ∷ ls) (record { wanted = w; excluded = e ++ t ∷ []; place = begins }) leads (λ limit size opened rest room.
      ap (read_sign (λ others inner. read limit size others inner (ls ++ rest)) opened at) (minus_between w e g.wanted g.excluded g.place is)
      ∙ other limit size opened (record { wanted = w; excluded = e; place = after_minus }) rest room),
)

over_query : (more : ℕ) (w e : List Ast) (t : Ast) (ls : List Token) → GoesOver more (clauses w e) ls → whole w e ≡ Ok t → GoesOver more (query t) ls
over_query more w e t ls (g, is, leads) whole_is = (g, whole_between w e g.wanted g.excluded g.place is ∙ whole_is, leads)

goes_over : {more : ℕ} {k : Kind} {ls : List Token} → Spells more k ls → GoesOver more k ls
goes_over (alone {more} at l) = λ limit size opened g rest room. refl
goes_over (between_bounds {more} at r) = λ limit size opened g rest room. refl
goes_over (among_values {more} at s) = λ limit size opened g rest room. refl
goes_over (star_alone {more} at) = λ limit size opened g rest room. refl
goes_over (in_parentheses {more} {t} {ls} at end q) = over_parentheses more t ls at end (goes_over q)
goes_over (one {more} {t} {ls} p) = over_one more t ls (goes_over p)
goes_over (and {more} {c} {t} {ks} {ls} at p q) = over_and more c t ks ls at (goes_over p) (goes_over q)
goes_over (and_not {more} {c} {t} {ks} {ls} at next p q) = over_and_not more c t ks ls at next (goes_over p) (goes_over q)
goes_over (nothing {more}) = (empty, (refl, refl), λ limit size opened rest room. refl)
goes_over (next_to {more} {w} {e} {c} {ks} {ls} p q) = over_next_to more w e c ks ls (goes_over p) (goes_over q)
goes_over (or {more} {w} {e} {c} {ks} {ls} at p q) = over_or more w e c ks ls at (goes_over p) (goes_over q)
goes_over (wanted {more} {w} {e} {ls} p) = over_wanted more w e ls (goes_over p)
goes_over (excluded {more} {w} {e} {t} {ks} {ls} at p q) = over_excluded more w e t ks ls at (goes_over p) (goes_over q)
goes_over (all {more} {w} {e} {t} {ls} p is) = over_query more w e t ls (goes_over p) is

-- lexemes that are a query are read as its tree
pub reads_query : (limit size : ℕ) (t : Ast) (ls : List Token) → Spells limit (query t) ls → read limit size [] empty ls ≡ Ok t
reads_query limit size t ls spells = ends (goes_over spells)
  where
    ends : GoesOver limit (query t) ls → read limit size [] empty ls ≡ Ok t
    ends (g, is, leads) = ap (read limit size [] empty) (sym (append-nil ls)) ∙ leads limit size [] [] (omega arith) ∙ ap (read_end size []) is
