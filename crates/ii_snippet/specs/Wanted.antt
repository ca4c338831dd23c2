-- Which words of a text a query wants.
use Rattle.std.specs.Prelude.{ℕ, ◌==◌, ◌&&◌, ◌++◌, Bool, List, [], ◌∷◌, bytes_eq, map}
use Rattle.std.specs.List.{position}
use Rattle.ii_base.specs.Terms.{TermState}
use Rattle.ii_base.specs.Words.{Word}
use Rattle.ii_query_parser.specs.Queries.{QueryTree, QueryTrees, all_below, any_of, each_of, no_tree, nothing, one_phrase, one_phrase_prefix, one_range, one_term, tree, tree_of, without}
use Rattle.ii_query_parser.specs.Ranges.{in_range}
use Rattle.ii_query_parser.specs.declared.query.PhraseTerm.{PhraseTerm}
use Rattle.ii_query_parser.specs.declared.query.Query.{Query}
use Rattle.ii_query_parser.specs.declared.term_range.TermRange.{TermRange}
use Rattle.ii_snippet.specs.declared.wanted.WantedWord.{WantedWord}
use Rattle.ii_snippet.specs.declared.wanted.WantedWord.TheVariants as wanted
use Rattle.ii_snippet.specs.declared.windows.SnippetToken.{SnippetToken}

-- What a query wants: the word of a term, or each word of a range.
pub data Wanted : Type 0 where
  one_word : TermState → Wanted
  words_of_range : TermRange → Wanted

-- the model of a wanted word
abbrev pub wanted_of : WantedWord → Wanted
wanted_of (wanted.Term term) = one_word term.now
wanted_of (wanted.Range range) = words_of_range range.now

-- What a query wants, in its order, without what it excludes.
abbrev mutual
  pub tree_wants : QueryTree → List Wanted
  tree_wants nothing = []
  tree_wants (all_below n) = []
  tree_wants (one_term term) = one_word term ∷ []
  tree_wants (one_phrase first others slop) = one_word first ∷ map (λ (o : PhraseTerm). one_word o.term) others
  tree_wants (one_phrase_prefix phrase) = (one_word phrase.first ∷ map (λ (o : PhraseTerm). one_word o.term) phrase.others.items) ++ words_of_range phrase.last ∷ []
  tree_wants (one_range range) = words_of_range range ∷ []
  tree_wants (each_of qs) = trees_want qs
  tree_wants (any_of qs) = trees_want qs
  tree_wants (without first other) = tree_wants first

  pub trees_want : QueryTrees → List Wanted
  trees_want no_tree = []
  trees_want (tree q qs) = tree_wants q ++ trees_want qs

-- what a query wants
abbrev pub query_wants : Query → List Wanted
query_wants query = tree_wants (tree_of query)

-- whether a word of a field is wanted
abbrev pub is_word : ℕ → List ℕ → Wanted → Bool
is_word field key (one_word term) = (term.field == field) && bytes_eq term.value key
is_word field key (words_of_range range) = (range.prefix.field == field) && in_range range key

-- a token of a text of a field, and the first wanted word that it is
abbrev pub snippet_token : List Wanted → ℕ → Word → SnippetToken
snippet_token ws field w = record { offset_from = w.offset_from; offset_to = w.offset_to; wanted = position (is_word field w.text) ws }
