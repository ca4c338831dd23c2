-- The terms and the ranges of a query, one equation for each variant.
use Rattle.std.proofs.Common.{◌≡◌, ◌∙◌, ℕ, List, [], ◌∷◌, ◌++◌, Vec, Box, Global, ap, flat_map, refl}
use Rattle.ii_base.specs.Terms.{TermState}
use Rattle.ii_base.specs.declared.schema.index_record_option.IndexRecordOption.TheVariants.{Basic, WithFreqsAndPositions}
use Rattle.ii_query_parser.specs.declared.phrase_prefix.PhrasePrefix.{PhrasePrefix}
use Rattle.ii_query_parser.specs.declared.query.PhraseTerm.{PhraseTerm}
use Rattle.ii_query_parser.specs.declared.query.Query.{Query}
use Rattle.ii_query_parser.specs.declared.term_range.TermRange.{TermRange}
use Rattle.ii_query_parser.specs.declared.query.Query.TheVariants.{Empty, All, Term, Phrase, PhrasePrefix as WithPrefix, Range, And, Or, AndNot}
use Rattle.ii_query_parser.specs.Queries.{trees_of}
use Rattle.ii_query_parser.proofs.QueryLemmas.{all_tree, and_not_tree, and_tree, nothing_tree, or_tree, phrase_prefix_tree, phrase_tree, range_tree, term_tree}
use Rattle.ii_warmup.specs.QueryTerms.{QueryRangeState, QueryTermState, docs_only, phrase_requests, query_ranges, requested_terms, tree_ranges, tree_terms, trees_ranges, trees_terms, with_positions}

all_terms : (queries : List Query) → trees_terms (trees_of queries) ≡ flat_map requested_terms queries
all_terms [] = refl
all_terms (q ∷ qs) = ap (λ (ts : List QueryTermState). requested_terms q ++ ts) (all_terms qs)

all_ranges : (queries : List Query) → trees_ranges (trees_of queries) ≡ flat_map query_ranges queries
all_ranges [] = refl
all_ranges (q ∷ qs) = ap (λ (rs : List QueryRangeState). query_ranges q ++ rs) (all_ranges qs)

pub terms_of_nothing : requested_terms Empty ≡ []
terms_of_nothing = ap tree_terms nothing_tree

pub terms_of_all : (n : ℕ) → requested_terms (All n) ≡ []
terms_of_all n = ap tree_terms (all_tree n)

pub terms_of_term : (term : TermState) → requested_terms (Term term) ≡ docs_only term ∷ []
terms_of_term term = ap tree_terms (term_tree term)

pub terms_of_phrase : (first : TermState) (others : Vec PhraseTerm Global) (slop : ℕ) → requested_terms (Phrase first others slop) ≡ with_positions first ∷ phrase_requests others.items
terms_of_phrase first others slop = ap tree_terms (phrase_tree first others slop)

pub terms_of_phrase_prefix : (phrase : PhrasePrefix) → requested_terms (WithPrefix phrase) ≡ with_positions phrase.first ∷ phrase_requests phrase.others.items
terms_of_phrase_prefix phrase = ap tree_terms (phrase_prefix_tree phrase)

pub terms_of_range : (range : TermRange) → requested_terms (Range range) ≡ []
terms_of_range range = ap tree_terms (range_tree range)

pub terms_of_and : (queries : Vec Query Global) → requested_terms (And queries) ≡ flat_map requested_terms queries.items
terms_of_and queries = ap tree_terms (and_tree queries) ∙ all_terms queries.items

pub terms_of_or : (queries : Vec Query Global) → requested_terms (Or queries) ≡ flat_map requested_terms queries.items
terms_of_or queries = ap tree_terms (or_tree queries) ∙ all_terms queries.items

pub terms_of_and_not : (first other : Box Query Global) → requested_terms (AndNot first other) ≡ requested_terms first.value ++ requested_terms other.value
terms_of_and_not first other = ap tree_terms (and_not_tree first other)

pub ranges_of_nothing : query_ranges Empty ≡ []
ranges_of_nothing = ap tree_ranges nothing_tree

pub ranges_of_all : (n : ℕ) → query_ranges (All n) ≡ []
ranges_of_all n = ap tree_ranges (all_tree n)

pub ranges_of_term : (term : TermState) → query_ranges (Term term) ≡ []
ranges_of_term term = ap tree_ranges (term_tree term)

pub ranges_of_phrase : (first : TermState) (others : Vec PhraseTerm Global) (slop : ℕ) → query_ranges (Phrase first others slop) ≡ []
ranges_of_phrase first others slop = ap tree_ranges (phrase_tree first others slop)

pub ranges_of_phrase_prefix : (phrase : PhrasePrefix) → query_ranges (WithPrefix phrase) ≡ record { range = phrase.last; option = WithFreqsAndPositions } ∷ []
ranges_of_phrase_prefix phrase = ap tree_ranges (phrase_prefix_tree phrase)

pub ranges_of_range : (range : TermRange) → query_ranges (Range range) ≡ record { range = range; option = Basic } ∷ []
ranges_of_range range = ap tree_ranges (range_tree range)

pub ranges_of_and : (queries : Vec Query Global) → query_ranges (And queries) ≡ flat_map query_ranges queries.items
ranges_of_and queries = ap tree_ranges (and_tree queries) ∙ all_ranges queries.items

pub ranges_of_or : (queries : Vec Query Global) → query_ranges (Or queries) ≡ flat_map query_ranges queries.items
ranges_of_or queries = ap tree_ranges (or_tree queries) ∙ all_ranges queries.items

pub ranges_of_and_not : (first other : Box Query Global) → query_ranges (AndNot first other) ≡ query_ranges first.value ++ query_ranges other.value
ranges_of_and_not first other = ap tree_ranges (and_not_tree first other)
