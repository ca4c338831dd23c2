-- What a bounded query matches, and what stays of it.
use Rattle.std.proofs.Common.{◌≡◌, ◌∙◌, ℕ, ◌+◌, ◌<◌, ◌≤◌, Bool, true, false, ◌&&◌, ◌||◌, not, List, [], ◌∷◌, ◌++◌, append-nil, length, get_or, take, drop, refl, sym, ap, arith, Box, Global}
use Rattle.std.specs.Prelude.{map, min, nat_lt}
use Rattle.std.proofs.lemmas.Bool.{le-ltb, lt-ltb, ltb-false, ltb-true}
use Rattle.std.proofs.Math.ListN.{set}
use Rattle.std.proofs.lemmas.List.{drop-drop, drop-set-lt, drop_all, get_or-drop, get_or-map, length-map, map-set, take_all}
use Rattle.std.proofs.lemmas.List.Edits.{map_over_more}
use Rattle.ii_base.specs.Terms.{TermState}
use Rattle.ii_base.specs.declared.doc_id.TheConstants.{TERMINATED}
use Rattle.ii_definitions.specs.Tokens.{IndexToken}
use Rattle.ii_query_parser.specs.declared.query.PhraseTerm.{PhraseTerm}
use denote.Param.Weighed.{at_most, most}
use Rattle.ii_query_parser.specs.declared.query.Query.{Query, size-Query}
use Rattle.ii_query_parser.specs.declared.query.Query.TheVariants.{AndNot}
use Rattle.ii_query_parser.proofs.QueryLemmas.{and_not_tree}
use Rattle.ii_query_parser.specs.Bounded.{bounded, each_bounded}
use Rattle.ii_query_parser.specs.Queries.{QueryTree, QueryTrees, all_below, all_match, any_matches, any_of, each_of, has_tree, hold_for_all, holds_for_all, no_tree, nothing, one_phrase, one_phrase_prefix, one_range, one_term, tree, tree_matches, tree_of, trees_from, without}

-- a number below n is below the smaller of two others exactly if it is below the smaller of one of them
below_least : (doc n m t : ℕ) → doc < n → nat_lt doc (min (min m n) t) ≡ nat_lt doc (min m t)
below_least doc n m t lt = by_side (nat_lt doc (min m t)) refl
  where
    by_side : (b : Bool) → nat_lt doc (min m t) ≡ b → nat_lt doc (min (min m n) t) ≡ b
    by_side true is = let below = ltb-true doc (min m t) is in lt-ltb doc (min (min m n) t) (omega (arith, below))
    by_side false is = let above = ltb-false doc (min m t) is in le-ltb doc (min (min m n) t) (omega (arith, above))

mutual
  pub same_below : (n : ℕ) (q : QueryTree) (ts : List IndexToken) (doc : ℕ) → doc < n → tree_matches (bounded n q) ts doc ≡ tree_matches q ts doc
  same_below n nothing ts doc lt = refl
  same_below n (all_below m) ts doc lt = below_least doc n m TERMINATED lt
  same_below n (one_term term) ts doc lt = refl
  same_below n (one_phrase first others slop) ts doc lt = refl
  same_below n (one_phrase_prefix phrase) ts doc lt = refl
  same_below n (one_range range) ts doc lt = refl
  same_below n (each_of qs) ts doc lt = ap (λ (b : Bool). b && all_match (each_bounded n qs) ts doc) (has_as_many n qs) ∙ ap (λ (b : Bool). has_tree qs && b) (all_same n qs ts doc lt)
  same_below n (any_of qs) ts doc lt = any_same n qs ts doc lt
  same_below n (without first other) ts doc lt = ap (λ (b : Bool). b && not (tree_matches (bounded n other) ts doc)) (same_below n first ts doc lt) ∙ ap (λ (b : Bool). tree_matches first ts doc && not b) (same_below n other ts doc lt)

  has_as_many : (n : ℕ) (qs : QueryTrees) → has_tree (each_bounded n qs) ≡ has_tree qs
  has_as_many n no_tree = refl
  has_as_many n (tree q qs) = refl

  all_same : (n : ℕ) (qs : QueryTrees) (ts : List IndexToken) (doc : ℕ) → doc < n → all_match (each_bounded n qs) ts doc ≡ all_match qs ts doc
  all_same n no_tree ts doc lt = refl
  all_same n (tree q qs) ts doc lt = ap (λ (b : Bool). b && all_match (each_bounded n qs) ts doc) (same_below n q ts doc lt) ∙ ap (λ (b : Bool). tree_matches q ts doc && b) (all_same n qs ts doc lt)

  any_same : (n : ℕ) (qs : QueryTrees) (ts : List IndexToken) (doc : ℕ) → doc < n → any_matches (each_bounded n qs) ts doc ≡ any_matches qs ts doc
  any_same n no_tree ts doc lt = refl
  any_same n (tree q qs) ts doc lt = ap (λ (b : Bool). b || any_matches (each_bounded n qs) ts doc) (same_below n q ts doc lt) ∙ ap (λ (b : Bool). tree_matches q ts doc || b) (any_same n qs ts doc lt)

mutual
  pub bounded_holds : (of_term : TermState → Bool) (of_phrase : TermState → List PhraseTerm → Bool) (n : ℕ) (q : QueryTree) → holds_for_all of_term of_phrase (bounded n q) ≡ holds_for_all of_term of_phrase q
  bounded_holds of_term of_phrase n nothing = refl
  bounded_holds of_term of_phrase n (all_below m) = refl
  bounded_holds of_term of_phrase n (one_term term) = refl
  bounded_holds of_term of_phrase n (one_phrase first others slop) = refl
  bounded_holds of_term of_phrase n (one_phrase_prefix phrase) = refl
  bounded_holds of_term of_phrase n (one_range range) = refl
  bounded_holds of_term of_phrase n (each_of qs) = each_bounded_holds of_term of_phrase n qs
  bounded_holds of_term of_phrase n (any_of qs) = each_bounded_holds of_term of_phrase n qs
  bounded_holds of_term of_phrase n (without first other) =
      ap (λ (b : Bool). b && holds_for_all of_term of_phrase (bounded n other)) (bounded_holds of_term of_phrase n first) ∙ ap (λ (b : Bool). holds_for_all of_term of_phrase first && b) (bounded_holds of_term of_phrase n other)

  each_bounded_holds : (of_term : TermState → Bool) (of_phrase : TermState → List PhraseTerm → Bool) (n : ℕ) (qs : QueryTrees) → hold_for_all of_term of_phrase (each_bounded n qs) ≡ hold_for_all of_term of_phrase qs
  each_bounded_holds of_term of_phrase n no_tree = refl
  each_bounded_holds of_term of_phrase n (tree q qs) =
      ap (λ (b : Bool). b && hold_for_all of_term of_phrase (each_bounded n qs)) (bounded_holds of_term of_phrase n q) ∙ ap (λ (b : Bool). holds_for_all of_term of_phrase q && b) (each_bounded_holds of_term of_phrase n qs)

-- the trees of a list, each bounded
pub each_tree_bounded : (n : ℕ) (qs : List QueryTree) → trees_from (map (bounded n) qs) ≡ each_bounded n (trees_from qs)
each_tree_bounded n [] = refl
each_tree_bounded n (q ∷ qs) = ap (tree (bounded n q)) (each_tree_bounded n qs)

-- The first i of some queries are bounded, the others are as they were.
pub record AreBounded (n i : ℕ) (now old : List Query) : Type 0 where
  pub first : map tree_of now ≡ map (bounded n) (take i (map tree_of old)) ++ drop i (map tree_of old)
  pub rest : drop i now ≡ drop i old

-- one more query is bounded
pub next_bounded : (n i : ℕ) (now old : List Query) (d q : Query) → i < length now → i < length old → tree_of q ≡ bounded n (tree_of (get_or now i d)) → AreBounded n i now old → AreBounded n (i + 1) (set now i q) old
next_bounded n i now old d q inside lt changed so_far = record {
  first =
      let x = tree_of (get_or now i d) in
      let within : i < length (map tree_of old) = omega (arith, length-map old tree_of) in
      map-set tree_of now i q ∙ ap (set (map tree_of now) i) changed ∙ map_over_more (bounded n) (map tree_of old) (map tree_of now) i x within so_far.first (sym (get_or-map tree_of now i d x inside));
  rest = drop-set-lt (i + 1) now i q (omega arith) ∙ sym (drop-drop 1 i now) ∙ ap (drop 1) so_far.rest ∙ drop-drop 1 i old;
}

-- the next query is still as it was
pub next_same : (n i : ℕ) (now old : List Query) (d : Query) → i < length now → i < length old → AreBounded n i now old → get_or now i d ≡ get_or old i d
next_same n i now old d inside lt so_far =
    let here : i + 0 ≡ i = omega arith in
    ap (λ (k : ℕ). get_or now k d) (sym here) ∙ sym (get_or-drop i now 0 d) ∙ ap (λ (qs : List Query). get_or qs 0 d) so_far.rest ∙ get_or-drop i old 0 d ∙ ap (λ (k : ℕ). get_or old k d) here

-- a query of some isn't deeper than all of them
pub none_deeper : (qs : List Query) (i : ℕ) (d : Query) → i < length qs → size-Query (get_or qs i d) ≤ most size-Query qs
none_deeper qs i d within = at_most size-Query qs i d within

-- one query without another one is bounded
pub and_not_bounded : (n : ℕ) (query : Query) (first other one two : Box Query Global) → query ≡ AndNot first other → tree_of one.value ≡ bounded n (tree_of first.value) → tree_of two.value ≡ bounded n (tree_of other.value)
    → tree_of (AndNot one two) ≡ bounded n (tree_of query)
and_not_bounded n query first other one two is of_first of_other =
    and_not_tree one two ∙ ap (λ (t : QueryTree). without t (tree_of two.value)) of_first ∙ ap (without (bounded n (tree_of first.value))) of_other
    ∙ ap (bounded n) (sym (and_not_tree first other) ∙ ap tree_of (sym is))

-- all queries are bounded
pub all_bounded : (n i : ℕ) (now old : List Query) → length old ≤ i → AreBounded n i now old → trees_from (map tree_of now) ≡ each_bounded n (trees_from (map tree_of old))
all_bounded n i now old past so_far =
    let ts = map tree_of old in
    let few : length ts ≤ i = omega (arith, length-map old tree_of) in
    let same : map tree_of now ≡ map (bounded n) ts = so_far.first ∙ ap (λ (us : List QueryTree). map (bounded n) us ++ drop i ts) (take_all i ts few) ∙ ap (λ (us : List QueryTree). map (bounded n) ts ++ us) (drop_all i ts few) ∙ append-nil (map (bounded n) ts) in
    ap trees_from same ∙ each_tree_bounded n ts
