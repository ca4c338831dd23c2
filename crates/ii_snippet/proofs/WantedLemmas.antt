-- What a query wants, one equation for each variant.
use Rattle.std.proofs.Common.{◌≡◌, ◌∙◌, ℕ, List, [], ◌∷◌, ◌++◌, Vec, Box, Global, ap, flat_map, map, refl}
use Rattle.ii_base.specs.Terms.{TermState}
use Rattle.ii_query_parser.specs.declared.phrase_prefix.PhrasePrefix.{PhrasePrefix}
use Rattle.ii_query_parser.specs.declared.query.PhraseTerm.{PhraseTerm}
use Rattle.ii_query_parser.specs.declared.query.Query.{Query}
use Rattle.ii_query_parser.specs.declared.term_range.TermRange.{TermRange}
use Rattle.ii_query_parser.specs.declared.query.Query.TheVariants.{Empty, All, Term, Phrase, PhrasePrefix as WithPrefix, Range, And, Or, AndNot}
use Rattle.ii_query_parser.specs.Queries.{trees_of}
use Rattle.ii_query_parser.proofs.QueryLemmas.{all_tree, and_not_tree, and_tree, nothing_tree, or_tree, phrase_prefix_tree, phrase_tree, range_tree, term_tree}
use Rattle.ii_snippet.specs.Wanted.{Wanted, one_word, query_wants, tree_wants, trees_want, words_of_range}

all_wanted : (queries : List Query) → trees_want (trees_of queries) ≡ flat_map query_wants queries
all_wanted [] = refl
all_wanted (q ∷ qs) = ap (λ (ws : List Wanted). query_wants q ++ ws) (all_wanted qs)

pub nothing_wanted : query_wants Empty ≡ []
nothing_wanted = ap tree_wants nothing_tree

pub wanted_by_all : (n : ℕ) → query_wants (All n) ≡ []
wanted_by_all n = ap tree_wants (all_tree n)

pub wanted_by_term : (term : TermState) → query_wants (Term term) ≡ one_word term ∷ []
wanted_by_term term = ap tree_wants (term_tree term)

pub wanted_by_phrase : (first : TermState) (others : Vec PhraseTerm Global) (slop : ℕ) → query_wants (Phrase first others slop) ≡ one_word first ∷ map (λ (o : PhraseTerm). one_word o.term) others.items
wanted_by_phrase first others slop = ap tree_wants (phrase_tree first others slop)

pub wanted_by_phrase_prefix : (phrase : PhrasePrefix) → query_wants (WithPrefix phrase) ≡ (one_word phrase.first ∷ map (λ (o : PhraseTerm). one_word o.term) phrase.others.items) ++ words_of_range phrase.last ∷ []
wanted_by_phrase_prefix phrase = ap tree_wants (phrase_prefix_tree phrase)

pub wanted_by_range : (range : TermRange) → query_wants (Range range) ≡ words_of_range range ∷ []
wanted_by_range range = ap tree_wants (range_tree range)

pub wanted_by_and : (queries : Vec Query Global) → query_wants (And queries) ≡ flat_map query_wants queries.items
wanted_by_and queries = ap tree_wants (and_tree queries) ∙ all_wanted queries.items

pub wanted_by_or : (queries : Vec Query Global) → query_wants (Or queries) ≡ flat_map query_wants queries.items
wanted_by_or queries = ap tree_wants (or_tree queries) ∙ all_wanted queries.items

pub wanted_by_and_not : (first other : Box Query Global) → query_wants (AndNot first other) ≡ query_wants first.value
wanted_by_and_not first other = ap tree_wants (and_not_tree first other)
