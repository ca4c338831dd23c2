-- A parsed tree is in the grammar.
use Rattle.std.proofs.Common.{◌≡◌, ◌∙◌, ℕ, zero, suc, ◌+◌, Bool, true, false, cond, List, [], ◌∷◌, ◌++◌, ◌⊎◌, inl, inr, append_assoc, append-nil, length, nat_lt, Option, None, Some, Result, Ok, Err, refl, sym, ap, subst, arith}
use Rattle.std.proofs.lemmas.Bool.{ltb-true}
use Rattle.std.proofs.lemmas.Option.{same_Some}
use Rattle.ii_query_grammar.specs.declared.parse_error.Expected.{Expected}
use Rattle.ii_query_grammar.specs.declared.parse_error.Expected.TheVariants.{LessNesting}
use Rattle.ii_query_grammar.specs.declared.parse_error.ParseError.{ParseError}
use Rattle.ii_query_grammar.specs.declared.parse_error.ParseError.TheVariants.{Syntax}
use Rattle.ii_query_grammar.specs.Grammar.{Spells, all, alone, among_values, and, and_not, between_bounds, chain, clauses, excluded, in_parentheses, next_to, nothing, one, or, part, query, star_alone, token, wanted, wants}
use Rattle.ii_query_grammar.specs.Lexemes.{Lexeme, Token, and_word, asterisk, broken, closing, literal, minus, opening, or_word, range, value_set}
use Rattle.ii_query_grammar.specs.Parsed.{ChainState, GroupState, PlaceState, after_and, after_and_minus, after_minus, after_or, and_at, begins, chained, empty, minus_at, or_at, put, put_and, put_at, put_minus, put_or, read, read_closing, read_end, read_sign, whole_at, whole_of, with_chain_tree}
use Rattle.ii_query_grammar.specs.Trees.{Ast, everything, in_set, leaf, ranged}

-- Lexemes end where a chain may begin: after clauses, or after an OR.
abbrev Ready : ℕ → List Ast → List Ast → List Token → Type 0
Ready more w e ks = Spells more (clauses w e) ks ⊎ ((js : List Token) × (at : ℕ) × (ks ≡ js ++ token at or_word ∷ []) × Spells more (wants w e) js)

-- Lexemes end with a chain.
pub record Chains (more : ℕ) (w e : List Ast) (c : ChainState) (done : List Token) : Type 0 where
  pub front : List Token
  pub last : List Token
  pub done_is : done ≡ front ++ last
  pub ready : Ready more w e front
  pub chains : Spells more (chain c) last

-- Lexemes lead to a group at this place.
abbrev StandsAt : ℕ → List Ast → List Ast → PlaceState → List Token → Type 0
StandsAt more w e begins done = Spells more (clauses w e) done
StandsAt more w e (chained c) done = Chains more w e c done
StandsAt more w e (after_and c) done = (ls : List Token) × (at : ℕ) × (done ≡ ls ++ token at and_word ∷ []) × Chains more w e c ls
StandsAt more w e (after_and_minus c) done = (ls : List Token) × (at : ℕ) × (next : ℕ) × (done ≡ ls ++ token at and_word ∷ token next minus ∷ []) × Chains more w e c ls
StandsAt more w e after_or done = (js : List Token) × (at : ℕ) × (done ≡ js ++ token at or_word ∷ []) × Spells more (wants w e) js
StandsAt more w e after_minus done = (js : List Token) × (at : ℕ) × (done ≡ js ++ token at minus ∷ []) × Spells more (clauses w e) js

abbrev Stands : ℕ → GroupState → List Token → Type 0
Stands more g done = StandsAt more g.wanted g.excluded g.place done

-- lexemes after one that is last
moved : (js : List Token) (x : Token) (ls : List Token) → (js ++ x ∷ []) ++ ls ≡ js ++ x ∷ ls
moved js x ls = append_assoc js (x ∷ []) ls

-- a chain that ends is wanted
chain_wants : (more : ℕ) (w e : List Ast) (c : ChainState) (done : List Token) → Chains more w e c done → Spells more (wants (with_chain_tree w c) e) done
chain_wants more w e c done is = by is.ready
  where
    by : Ready more w e is.front → Spells more (wants (with_chain_tree w c) e) done
    by (inl spells) = subst (λ (l : List Token). Spells more (wants (with_chain_tree w c) e) l) (sym is.done_is) (next_to spells is.chains)
    by (inr (js, at, front_is, spells)) =
        subst (λ (l : List Token). Spells more (wants (with_chain_tree w c) e) l) (sym (is.done_is ∙ ap (λ (l : List Token). l ++ is.last) front_is ∙ moved js (token at or_word) is.last))
        (or at spells is.chains)

chain_clauses : (more : ℕ) (w e : List Ast) (c : ChainState) (done : List Token) → Chains more w e c done → Spells more (clauses (with_chain_tree w c) e) done
chain_clauses more w e c done is = wanted (chain_wants more w e c done is)

-- a part after lexemes
put_stands : (more : ℕ) (w e : List Ast) (p : PlaceState) (t : Ast) (done ls : List Token) → StandsAt more w e p done → Spells more (part t) ls → Stands more (put_at w e p t) (done ++ ls)
put_stands more w e begins t done ls is spells = record { front = done; last = ls; done_is = refl; ready = inl is; chains = one spells }
put_stands more w e (chained c) t done ls is spells = record { front = done; last = ls; done_is = refl; ready = inl (chain_clauses more w e c done is); chains = one spells }
put_stands more w e (after_and c) t done ls (js, at, done_is, is) spells = record {
  front = is.front;
  last = is.last ++ token at and_word ∷ ls;
  done_is = ap (λ (l : List Token). l ++ ls) (done_is ∙ ap (λ (l : List Token). l ++ token at and_word ∷ []) is.done_is) ∙ moved (is.front ++ is.last) (token at and_word) ls ∙ append_assoc is.front is.last (token at and_word ∷ ls);
  ready = is.ready;
  chains = and at is.chains spells;
}
put_stands more w e (after_and_minus c) t done ls (js, at, next, done_is, is) spells = record {
  front = is.front;
  last = is.last ++ token at and_word ∷ token next minus ∷ ls;
  done_is = ap (λ (l : List Token). l ++ ls) (done_is ∙ ap (λ (l : List Token). l ++ token at and_word ∷ token next minus ∷ []) is.done_is) ∙ append_assoc (is.front ++ is.last) (token at and_word ∷ token next minus ∷ []) ls ∙ append_assoc is.front is.last (token at and_word ∷ token next minus ∷ ls);
  ready = is.ready;
  chains = and_not at next is.chains spells;
}
put_stands more w e after_or t done ls is spells = record { front = done; last = ls; done_is = refl; ready = inr is; chains = one spells }
put_stands more w e after_minus t done ls (js, at, done_is, is) spells =
    subst (λ (l : List Token). Spells more (clauses w (e ++ t ∷ [])) l) (sym (ap (λ (l : List Token). l ++ ls) done_is ∙ moved js (token at minus) ls)) (excluded at is spells)

-- two constructors of an option
none_is_no_some : {A : Type 0} (x : A) → None ≡ Some x → ⊥
none_is_no_some x same = absurd (cc)

-- an AND after lexemes
and_stands : (more : ℕ) (w e : List Ast) (p : PlaceState) (done : List Token) (at : ℕ) (g : GroupState) → StandsAt more w e p done → and_at w e p ≡ Some g → Stands more g (done ++ token at and_word ∷ [])
and_stands more w e begins done at g is put = absurd (none_is_no_some g put)
and_stands more w e (chained c) done at g is put = subst (λ (h : GroupState). Stands more h (done ++ token at and_word ∷ [])) (same_Some _ g put) (done, at, refl, is)
and_stands more w e (after_and c) done at g is put = absurd (none_is_no_some g put)
and_stands more w e (after_and_minus c) done at g is put = absurd (none_is_no_some g put)
and_stands more w e after_or done at g is put = absurd (none_is_no_some g put)
and_stands more w e after_minus done at g is put = absurd (none_is_no_some g put)

-- an OR after lexemes
or_stands : (more : ℕ) (w e : List Ast) (p : PlaceState) (done : List Token) (at : ℕ) (g : GroupState) → StandsAt more w e p done → or_at w e p ≡ Some g → Stands more g (done ++ token at or_word ∷ [])
or_stands more w e begins done at g is put = absurd (none_is_no_some g put)
or_stands more w e (chained c) done at g is put = subst (λ (h : GroupState). Stands more h (done ++ token at or_word ∷ [])) (same_Some _ g put) (done, at, refl, chain_wants more w e c done is)
or_stands more w e (after_and c) done at g is put = absurd (none_is_no_some g put)
or_stands more w e (after_and_minus c) done at g is put = absurd (none_is_no_some g put)
or_stands more w e after_or done at g is put = absurd (none_is_no_some g put)
or_stands more w e after_minus done at g is put = absurd (none_is_no_some g put)

-- a minus after lexemes
minus_stands : (more : ℕ) (w e : List Ast) (p : PlaceState) (done : List Token) (at : ℕ) (g : GroupState) → StandsAt more w e p done → minus_at w e p ≡ Some g → Stands more g (done ++ token at minus ∷ [])
minus_stands more w e begins done at g is put = subst (λ (h : GroupState). Stands more h (done ++ token at minus ∷ [])) (same_Some _ g put) (done, at, refl, is)
minus_stands more w e (chained c) done at g is put = subst (λ (h : GroupState). Stands more h (done ++ token at minus ∷ [])) (same_Some _ g put) (done, at, refl, chain_clauses more w e c done is)
minus_stands more w e (after_and c) done at g (ls, place, done_is, is) put =
    subst (λ (h : GroupState). Stands more h (done ++ token at minus ∷ [])) (same_Some _ g put)
    (ls, place, at, ap (λ (l : List Token). l ++ token at minus ∷ []) done_is ∙ moved ls (token place and_word) (token at minus ∷ []), is)
minus_stands more w e (after_and_minus c) done at g is put = absurd (none_is_no_some g put)
minus_stands more w e after_or done at g is put = absurd (none_is_no_some g put)
minus_stands more w e after_minus done at g is put = absurd (none_is_no_some g put)

err_is_no_ok : {A E : Type 0} (e : E) (x : A) → Err e ≡ Ok x → ⊥
err_is_no_ok e x same = absurd (cc)

abbrev read_as : Ast → Result Ast ParseError
read_as t = Ok t

ok_is : (s t : Ast) → read_as s ≡ read_as t → s ≡ t
ok_is s t same = cc

-- lexemes that may end are a query
whole_stands : (more : ℕ) (w e : List Ast) (p : PlaceState) (t : Ast) (done : List Token) → StandsAt more w e p done → whole_at w e p ≡ Ok t → Spells more (query t) done
whole_stands more w e begins t done is ends = all is ends
whole_stands more w e (chained c) t done is ends = all (chain_clauses more w e c done is) ends
whole_stands more w e (after_and c) t done is ends = absurd (err_is_no_ok _ t ends)
whole_stands more w e (after_and_minus c) t done is ends = absurd (err_is_no_ok _ t ends)
whole_stands more w e after_or t done is ends = absurd (err_is_no_ok _ t ends)
whole_stands more w e after_minus t done is ends = absurd (err_is_no_ok _ t ends)

-- Lexemes lead to open groups, innermost first, each before its parenthesis; `more` may still be opened.
abbrev AreOpen : ℕ → ℕ → List GroupState → List Token → Type 0
AreOpen limit more [] outer = (more ≡ limit) × (outer ≡ [])
AreOpen limit more (g ∷ gs) outer = (front : List Token) × (done : List Token) × (at : ℕ) × (outer ≡ (front ++ done) ++ token at opening ∷ []) × Stands (suc more) g done × AreOpen limit (suc more) gs front

-- the number of groups that may still be opened
room_of : (limit more : ℕ) (opened : List GroupState) (outer : List Token) → AreOpen limit more opened outer → more + length opened ≡ limit
room_of limit more [] outer are = omega (arith, are.0)
room_of limit more (g ∷ gs) outer (front, done, at, outer_is, stands, are) = omega (arith, room_of limit (suc more) gs front are)

-- The tree that reading the others gives is in the grammar.
abbrev Tells : ℕ → ℕ → List Token → Type 0
Tells limit size ts = (more : ℕ) (opened : List GroupState) (g : GroupState) (outer done : List Token) (t : Ast) → AreOpen limit more opened outer → Stands more g done → read limit size opened g ts ≡ Ok t → Spells limit (query t) ((outer ++ done) ++ ts)

-- one lexeme further
further : (limit : ℕ) (t : Ast) (outer done ts : List Token) (x : Token) → Spells limit (query t) ((outer ++ (done ++ x ∷ [])) ++ ts) → Spells limit (query t) ((outer ++ done) ++ x ∷ ts)
further limit t outer done ts x spells =
    subst (λ (l : List Token). Spells limit (query t) l) (ap (λ (l : List Token). l ++ ts) (sym (append_assoc outer done (x ∷ []))) ∙ moved (outer ++ done) x ts) spells

tells_sign : (limit size : ℕ) (ts : List Token) (more : ℕ) (opened : List GroupState) (outer done : List Token) (t : Ast) (at : ℕ) (lexeme : Lexeme) (o : Option GroupState) → Tells limit size ts → AreOpen limit more opened outer
    → ((g : GroupState) → o ≡ Some g → Stands more g (done ++ token at lexeme ∷ [])) → read_sign (λ others inner. read limit size others inner ts) opened at o ≡ Ok t → Spells limit (query t) ((outer ++ done) ++ token at lexeme ∷ ts)
tells_sign limit size ts more opened outer done t at lexeme None later are stands is = absurd (err_is_no_ok _ t is)
tells_sign limit size ts more opened outer done t at lexeme (Some g) later are stands is = further limit t outer done ts (token at lexeme) (later more opened g outer (done ++ token at lexeme ∷ []) t are (stands g refl) is)

tells_closing : (limit size : ℕ) (ts : List Token) (more : ℕ) (opened : List GroupState) (outer done : List Token) (t : Ast) (at : ℕ) (r : Result Ast Expected) → Tells limit size ts → AreOpen limit more opened outer
    → ((s : Ast) → r ≡ Ok s → Spells more (query s) done) → read_closing (λ others inner. read limit size others inner ts) opened at r ≡ Ok t → Spells limit (query t) ((outer ++ done) ++ token at closing ∷ ts)
tells_closing limit size ts more opened outer done t at (Err what) later are ends is = absurd (err_is_no_ok _ t is)
tells_closing limit size ts more [] outer done t at (Ok s) later are ends is = absurd (err_is_no_ok _ t is)
tells_closing limit size ts more (g ∷ opened) outer done t at (Ok s) later (front, before, place, outer_is, stands, are) ends is =
    let inner = token place opening ∷ (done ++ token at closing ∷ []) in
    let spells = later (suc more) opened (put g s) front (before ++ inner) t are (put_stands (suc more) g.wanted g.excluded g.place s before inner stands (in_parentheses place at (ends s refl))) is in
    subst (λ (l : List Token). Spells limit (query t) l) (same front before done ts (token place opening) (token at closing) outer outer_is) spells
  where
    same : (front before done ts : List Token) (x y : Token) (outer : List Token) → outer ≡ (front ++ before) ++ x ∷ [] → (front ++ (before ++ x ∷ (done ++ y ∷ []))) ++ ts ≡ (outer ++ done) ++ y ∷ ts
    same front before done ts x y outer outer_is =
        ap (λ (l : List Token). l ++ ts) (sym (append_assoc front before (x ∷ (done ++ y ∷ []))))
        ∙ append_assoc (front ++ before) (x ∷ (done ++ y ∷ [])) ts
        ∙ ap (λ (l : List Token). (front ++ before) ++ x ∷ l) (append_assoc done (y ∷ []) ts)
        ∙ sym (append_assoc (front ++ before) (x ∷ []) (done ++ y ∷ ts))
        ∙ ap (λ (l : List Token). l ++ (done ++ y ∷ ts)) (sym outer_is)
        ∙ sym (append_assoc outer done (y ∷ ts))

tells_end : (limit size more : ℕ) (opened : List GroupState) (outer done : List Token) (t : Ast) (r : Result Ast Expected) → AreOpen limit more opened outer → ((s : Ast) → r ≡ Ok s → Spells more (query s) done) → read_end size opened r ≡ Ok t → Spells limit (query t) ((outer ++ done) ++ [])
tells_end limit size more opened outer done t (Err what) are ends is = absurd (err_is_no_ok _ t is)
tells_end limit size more [] outer done t (Ok s) are ends is =
    subst (λ (l : List Token). Spells limit (query t) l) (ap (λ (l : List Token). l ++ done) (sym are.1) ∙ sym (append-nil (outer ++ done)))
    (subst (λ (n : ℕ). Spells n (query t) done) are.0 (subst (λ (u : Ast). Spells more (query u) done) (ok_is s t is) (ends s refl)))
tells_end limit size more (g ∷ opened) outer done t (Ok s) are ends is = absurd (err_is_no_ok _ t is)

-- an opening parenthesis, given whether one more is allowed
tells_opening : (limit size : ℕ) (ts : List Token) (more : ℕ) (opened : List GroupState) (g : GroupState) (outer done : List Token) (t : Ast) (at : ℕ) (fits : Bool) → Tells limit size ts → AreOpen limit more opened outer → Stands more g done
    → nat_lt (length opened) limit ≡ fits → cond fits (read limit size (g ∷ opened) empty ts) (Err (Syntax LessNesting at)) ≡ Ok t → Spells limit (query t) ((outer ++ done) ++ token at opening ∷ ts)
tells_opening limit size ts more opened g outer done t at false later are stands few is = absurd (err_is_no_ok _ t is)
tells_opening limit size ts zero opened g outer done t at true later are stands few is = absurd (omega (arith, room_of limit zero opened outer are, ltb-true (length opened) limit few))
tells_opening limit size ts (suc more) opened g outer done t at true later are stands few is =
    subst (λ (l : List Token). Spells limit (query t) l) (ap (λ (l : List Token). l ++ ts) (append-nil ((outer ++ done) ++ token at opening ∷ [])) ∙ moved (outer ++ done) (token at opening) ts)
    (later more (g ∷ opened) empty ((outer ++ done) ++ token at opening ∷ []) [] t (outer, done, at, refl, stands, are) nothing is)

-- one lexeme, by what the others give
tells_one : (limit size : ℕ) (ts : List Token) (more : ℕ) (opened : List GroupState) (g : GroupState) (outer done : List Token) (t : Ast) (at : ℕ) (lexeme : Lexeme) → Tells limit size ts → AreOpen limit more opened outer → Stands more g done
    → read limit size opened g (token at lexeme ∷ ts) ≡ Ok t → Spells limit (query t) ((outer ++ done) ++ token at lexeme ∷ ts)
tells_one limit size ts more opened g outer done t at (literal l) later are stands is =
    further limit t outer done ts (token at (literal l)) (later more opened (put g (leaf l)) outer (done ++ token at (literal l) ∷ []) t are (put_stands more g.wanted g.excluded g.place (leaf l) done (token at (literal l) ∷ []) stands (alone at l)) is)
tells_one limit size ts more opened g outer done t at (range r) later are stands is =
    further limit t outer done ts (token at (range r)) (later more opened (put g (ranged r)) outer (done ++ token at (range r) ∷ []) t are (put_stands more g.wanted g.excluded g.place (ranged r) done (token at (range r) ∷ []) stands (between_bounds at r)) is)
tells_one limit size ts more opened g outer done t at (value_set s) later are stands is =
    further limit t outer done ts (token at (value_set s)) (later more opened (put g (in_set s)) outer (done ++ token at (value_set s) ∷ []) t are (put_stands more g.wanted g.excluded g.place (in_set s) done (token at (value_set s) ∷ []) stands (among_values at s)) is)
tells_one limit size ts more opened g outer done t at asterisk later are stands is =
    further limit t outer done ts (token at asterisk) (later more opened (put g everything) outer (done ++ token at asterisk ∷ []) t are (put_stands more g.wanted g.excluded g.place everything done (token at asterisk ∷ []) stands (star_alone at)) is)
tells_one limit size ts more opened g outer done t at opening later are stands is =
    tells_opening limit size ts more opened g outer done t at (nat_lt (length opened) limit) later are stands refl is
tells_one limit size ts more opened g outer done t at closing later are stands is =
    tells_closing limit size ts more opened outer done t at (whole_of g) later are (λ s ends. whole_stands more g.wanted g.excluded g.place s done stands ends) is
tells_one limit size ts more opened g outer done t at minus later are stands is =
    tells_sign limit size ts more opened outer done t at minus (put_minus g) later are (λ h put. minus_stands more g.wanted g.excluded g.place done at h stands put) is
tells_one limit size ts more opened g outer done t at and_word later are stands is =
    tells_sign limit size ts more opened outer done t at and_word (put_and g) later are (λ h put. and_stands more g.wanted g.excluded g.place done at h stands put) is
tells_one limit size ts more opened g outer done t at or_word later are stands is =
    tells_sign limit size ts more opened outer done t at or_word (put_or g) later are (λ h put. or_stands more g.wanted g.excluded g.place done at h stands put) is
tells_one limit size ts more opened g outer done t at (broken what) later are stands is = absurd (err_is_no_ok _ t is)

tells : (limit size : ℕ) (ts : List Token) → Tells limit size ts
tells limit size [] = λ more opened g outer done t are stands is. tells_end limit size more opened outer done t (whole_of g) are (λ s ends. whole_stands more g.wanted g.excluded g.place s done stands ends) is
tells limit size (x ∷ ts) = λ more opened g outer done t are stands is. tells_one limit size ts more opened g outer done t x.at x.lexeme (tells limit size ts) are stands is

-- lexemes that are read as a tree are a query
pub spells_query : (limit size : ℕ) (t : Ast) (ls : List Token) → read limit size [] empty ls ≡ Ok t → Spells limit (query t) ls
spells_query limit size t ls is = tells limit size ls limit [] empty [] [] t (refl, refl) nothing is
