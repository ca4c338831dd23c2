-- The terms of a query, one equation for each variant.
use Rattle.std.proofs.Common.{◌≡◌, ◌∙◌, ℕ, ◌<◌, true, List, [], ◌∷◌, ◌++◌, Vec, Box, Global, ap, flat_map, map, refl}
use Rattle.std.specs.List.{AllByRecursion, list_all}
use Rattle.std.specs.Prelude.{nat_lt}
use Rattle.std.proofs.lemmas.Bool.{and_parts, ltb-true}
use Rattle.ii_base.specs.Terms.{TermState}
use Rattle.ii_definitions.proofs.ListLaws.{all_both}
use Rattle.ii_query_parser.specs.declared.phrase_prefix.PhrasePrefix.{PhrasePrefix}
use Rattle.ii_query_parser.specs.declared.query.PhraseTerm.{PhraseTerm}
use Rattle.ii_query_parser.specs.declared.query.Query.{Query}
use Rattle.ii_query_parser.specs.declared.term_range.TermRange.{TermRange}
use Rattle.ii_query_parser.specs.declared.query.Query.TheVariants.{Empty, All, Term, Phrase, PhrasePrefix as WithPrefix, Range, And, Or, AndNot}
use Rattle.ii_query_parser.specs.Queries as queries
use Rattle.ii_query_parser.specs.Queries.{QueryTree, QueryTrees, has_fields, hold_for_all, holds_for_all, is_within, phrase_is_within, tree_of, trees_of}
use Rattle.ii_query_parser.proofs.QueryLemmas.{all_tree, and_not_tree, and_tree, nothing_tree, or_tree, phrase_prefix_tree, phrase_tree, range_tree, term_tree}
use Rattle.ii_statistics.specs.Statistics.{query_terms, tree_terms, trees_terms}

all_terms : (queries : List Query) → trees_terms (trees_of queries) ≡ flat_map query_terms queries
all_terms [] = refl
all_terms (q ∷ qs) = ap (λ (ts : List TermState). query_terms q ++ ts) (all_terms qs)

pub terms_of_nothing : query_terms Empty ≡ []
terms_of_nothing = ap tree_terms nothing_tree

pub terms_of_all : (n : ℕ) → query_terms (All n) ≡ []
terms_of_all n = ap tree_terms (all_tree n)

pub terms_of_term : (term : TermState) → query_terms (Term term) ≡ term ∷ []
terms_of_term term = ap tree_terms (term_tree term)

pub terms_of_phrase : (first : TermState) (others : Vec PhraseTerm Global) (slop : ℕ) → query_terms (Phrase first others slop) ≡ first ∷ map (λ (o : PhraseTerm). o.term) others.items
terms_of_phrase first others slop = ap tree_terms (phrase_tree first others slop)

pub terms_of_phrase_prefix : (phrase : PhrasePrefix) → query_terms (WithPrefix phrase) ≡ []
terms_of_phrase_prefix phrase = ap tree_terms (phrase_prefix_tree phrase)

pub terms_of_range : (range : TermRange) → query_terms (Range range) ≡ []
terms_of_range range = ap tree_terms (range_tree range)

pub terms_of_and : (queries : Vec Query Global) → query_terms (And queries) ≡ flat_map query_terms queries.items
terms_of_and queries = ap tree_terms (and_tree queries) ∙ all_terms queries.items

pub terms_of_or : (queries : Vec Query Global) → query_terms (Or queries) ≡ flat_map query_terms queries.items
terms_of_or queries = ap tree_terms (or_tree queries) ∙ all_terms queries.items

pub terms_of_and_not : (first other : Box Query Global) → query_terms (AndNot first other) ≡ query_terms first.value ++ query_terms other.value
terms_of_and_not first other = ap tree_terms (and_not_tree first other)

-- ---- fields of terms
module _ (n : ℕ) where
  -- The field of a term is one of the first n.
  abbrev pub IsBelow : TermState → Type 0
  IsBelow t = t.field < n

  others_below : (others : List PhraseTerm) → list_all (λ (o : PhraseTerm). nat_lt o.term.field n) others ≡ true → AllByRecursion IsBelow (map (λ (o : PhraseTerm). o.term) others)
  others_below [] is = tt
  others_below (o ∷ os) is =
      let h = and_parts (nat_lt o.term.field n) (list_all (λ (p : PhraseTerm). nat_lt p.term.field n) os) is in
      (ltb-true o.term.field n h.0, others_below os h.1)

  mutual
    tree_below : (q : QueryTree) → holds_for_all (is_within n) (phrase_is_within n) q ≡ true → AllByRecursion IsBelow (tree_terms q)
    tree_below queries.nothing is = tt
    tree_below (queries.all_below m) is = tt
    tree_below (queries.one_term term) is = (ltb-true term.field n is, tt)
    tree_below (queries.one_phrase first others slop) is =
        let h = and_parts (nat_lt first.field n) (list_all (λ (o : PhraseTerm). nat_lt o.term.field n) others) is in
        (ltb-true first.field n h.0, others_below others h.1)
    tree_below (queries.one_phrase_prefix phrase) is = tt
    tree_below (queries.one_range range) is = tt
    tree_below (queries.each_of qs) is = trees_below qs is
    tree_below (queries.any_of qs) is = trees_below qs is
    tree_below (queries.without first other) is =
        let h = and_parts (holds_for_all (is_within n) (phrase_is_within n) first) (holds_for_all (is_within n) (phrase_is_within n) other) is in
        all_both IsBelow (tree_terms first) (tree_terms other) (tree_below first h.0) (tree_below other h.1)

    trees_below : (qs : QueryTrees) → hold_for_all (is_within n) (phrase_is_within n) qs ≡ true → AllByRecursion IsBelow (trees_terms qs)
    trees_below queries.no_tree is = tt
    trees_below (queries.tree q qs) is =
        let h = and_parts (holds_for_all (is_within n) (phrase_is_within n) q) (hold_for_all (is_within n) (phrase_is_within n) qs) is in
        all_both IsBelow (tree_terms q) (trees_terms qs) (tree_below q h.0) (trees_below qs h.1)

  -- the fields of a query's terms are those of an index
  pub terms_below : (query : Query) → has_fields n query ≡ true → AllByRecursion (λ (t : TermState). t.field < n) (query_terms query)
  terms_below query is = tree_below (tree_of query) is
