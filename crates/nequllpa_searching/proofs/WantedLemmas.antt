-- The terms that a query wants, one equation for each variant.
use Rattle.std.proofs.Common.{◌≡◌, ◌∙◌, ℕ, List, [], ◌∷◌, ◌++◌, Vec, Box, Global, ap, flat_map, map, refl}
use Rattle.ii_base.specs.Terms.{TermState}
use Rattle.ii_query_parser.specs.declared.phrase_prefix.PhrasePrefix.{PhrasePrefix}
use Rattle.ii_query_parser.specs.declared.query.PhraseTerm.{PhraseTerm}
use Rattle.ii_query_parser.specs.declared.query.Query.{Query}
use Rattle.ii_query_parser.specs.declared.term_range.TermRange.{TermRange}
use Rattle.ii_query_parser.specs.declared.query.Query.TheVariants.{Empty, All, Term, Phrase, PhrasePrefix as WithPrefix, Range, And, Or, AndNot}
use Rattle.ii_query_parser.specs.Queries.{trees_of}
use Rattle.ii_query_parser.proofs.QueryLemmas.{all_tree, and_not_tree, and_tree, nothing_tree, or_tree, phrase_prefix_tree, phrase_tree, range_tree, term_tree}
use Rattle.nequllpa_searching.specs.Finding.{tree_terms, trees_terms, wanted_terms}

all_wanted : (queries : List Query) → trees_terms (trees_of queries) ≡ flat_map wanted_terms queries
all_wanted [] = refl
all_wanted (q ∷ qs) = ap (λ (ts : List TermState). wanted_terms q ++ ts) (all_wanted qs)

pub wanted_of_nothing : wanted_terms Empty ≡ []
wanted_of_nothing = ap tree_terms nothing_tree

pub wanted_of_all : (n : ℕ) → wanted_terms (All n) ≡ []
wanted_of_all n = ap tree_terms (all_tree n)

pub wanted_of_term : (term : TermState) → wanted_terms (Term term) ≡ term ∷ []
wanted_of_term term = ap tree_terms (term_tree term)

pub wanted_of_phrase : (first : TermState) (others : Vec PhraseTerm Global) (slop : ℕ) → wanted_terms (Phrase first others slop) ≡ first ∷ map (λ (o : PhraseTerm). o.term) others.items
wanted_of_phrase first others slop = ap tree_terms (phrase_tree first others slop)

pub wanted_of_phrase_prefix : (phrase : PhrasePrefix) → wanted_terms (WithPrefix phrase) ≡ phrase.first ∷ map (λ (o : PhraseTerm). o.term) phrase.others.items
wanted_of_phrase_prefix phrase = ap tree_terms (phrase_prefix_tree phrase)

pub wanted_of_range : (range : TermRange) → wanted_terms (Range range) ≡ []
wanted_of_range range = ap tree_terms (range_tree range)

pub wanted_of_and : (queries : Vec Query Global) → wanted_terms (And queries) ≡ flat_map wanted_terms queries.items
wanted_of_and queries = ap tree_terms (and_tree queries) ∙ all_wanted queries.items

pub wanted_of_or : (queries : Vec Query Global) → wanted_terms (Or queries) ≡ flat_map wanted_terms queries.items
wanted_of_or queries = ap tree_terms (or_tree queries) ∙ all_wanted queries.items

pub wanted_of_and_not : (first other : Box Query Global) → wanted_terms (AndNot first other) ≡ wanted_terms first.value
wanted_of_and_not first other = ap tree_terms (and_not_tree first other)
