-- The terms and the ranges of terms that a query reads of an index.
use Rattle.std.specs.Prelude.{ℕ, Bool, List, [], ◌∷◌, ◌++◌, ◌==◌, ◌&&◌, ◌||◌, not, Option, None, Some, bytes_eq, if◌then◌else◌, map}
use Rattle.std.specs.List.{list_any}
use Rattle.ii_base.specs.Options.{has_positions}
use Rattle.ii_base.specs.Terms.{TermState}
use Rattle.ii_base.specs.declared.schema.index_record_option.IndexRecordOption.{IndexRecordOption}
use Rattle.ii_base.specs.declared.schema.index_record_option.IndexRecordOption.TheVariants.{Basic, WithFreqsAndPositions}
use Rattle.ii_query_parser.specs.declared.query.PhraseTerm.{PhraseTerm}
use Rattle.ii_query_parser.specs.declared.query.Query.{Query}
use Rattle.ii_query_parser.specs.declared.term_range.TermRange.{TermRange}
use Rattle.ii_query_parser.specs.Queries.{QueryTree, QueryTrees, all_below, any_of, each_of, no_tree, nothing, one_phrase, one_phrase_prefix, one_range, one_term, tree, tree_of, without}
use Rattle.ii_query_parser.specs.Ranges.{in_range}
use Rattle.ii_warmup.specs.declared.terms.QueryRange.{QueryRange}
use Rattle.ii_warmup.specs.declared.terms.QueryTerm.{QueryTerm}

-- a term of a query, and what the query requests of its postings
pub record QueryTermState : Type 0 where
  pub term : TermState
  pub option : IndexRecordOption

-- a range of a query, and what the query requests of the postings of its terms
pub record QueryRangeState : Type 0 where
  pub range : TermRange
  pub option : IndexRecordOption

-- a term whose documents alone are requested
abbrev pub docs_only : TermState → QueryTermState
docs_only term = record { term = term; option = Basic }

-- a term whose positions are requested
abbrev pub with_positions : TermState → QueryTermState
with_positions term = record { term = term; option = WithFreqsAndPositions }

-- the terms of a phrase after the first one
abbrev pub phrase_requests : List PhraseTerm → List QueryTermState
phrase_requests others = map (λ (o : PhraseTerm). with_positions o.term) others

-- The terms of a query, in its order, without those of its ranges.
abbrev mutual
  pub tree_terms : QueryTree → List QueryTermState
  tree_terms nothing = []
  tree_terms (all_below n) = []
  tree_terms (one_term term) = docs_only term ∷ []
  tree_terms (one_phrase first others slop) = with_positions first ∷ phrase_requests others
  tree_terms (one_phrase_prefix phrase) = with_positions phrase.first ∷ phrase_requests phrase.others.items
  tree_terms (one_range range) = []
  tree_terms (each_of qs) = trees_terms qs
  tree_terms (any_of qs) = trees_terms qs
  tree_terms (without first other) = tree_terms first ++ tree_terms other

  pub trees_terms : QueryTrees → List QueryTermState
  trees_terms no_tree = []
  trees_terms (tree q qs) = tree_terms q ++ trees_terms qs

-- The ranges of a query, in its order; the last term of a phrase may be one.
abbrev mutual
  pub tree_ranges : QueryTree → List QueryRangeState
  tree_ranges nothing = []
  tree_ranges (all_below n) = []
  tree_ranges (one_term term) = []
  tree_ranges (one_phrase first others slop) = []
  tree_ranges (one_phrase_prefix phrase) = record { range = phrase.last; option = WithFreqsAndPositions } ∷ []
  tree_ranges (one_range range) = record { range = range; option = Basic } ∷ []
  tree_ranges (each_of qs) = trees_ranges qs
  tree_ranges (any_of qs) = trees_ranges qs
  tree_ranges (without first other) = tree_ranges first ++ tree_ranges other

  pub trees_ranges : QueryTrees → List QueryRangeState
  trees_ranges no_tree = []
  trees_ranges (tree q qs) = tree_ranges q ++ trees_ranges qs

-- the terms of a program's query
abbrev pub requested_terms : Query → List QueryTermState
requested_terms query = tree_terms (tree_of query)

-- the ranges of a program's query
abbrev pub query_ranges : Query → List QueryRangeState
query_ranges query = tree_ranges (tree_of query)

-- the model of a term of a query
abbrev pub term_view : QueryTerm → QueryTermState
term_view t = record { term = t.term.now; option = t.option }

-- the model of a range of a query
abbrev pub range_view : QueryRange → QueryRangeState
range_view r = record { range = r.range.now; option = r.option }

-- whether what is requested of a list has all that an option reads of it: its positions, if the option has them
abbrev pub serves : IndexRecordOption → IndexRecordOption → Bool
serves option requested = not (has_positions option) || has_positions requested

-- whether a term or a range of a query has a key of a field, and requests what an option reads
abbrev pub names_key : IndexRecordOption → List QueryTermState → List QueryRangeState → ℕ → List ℕ → Bool
names_key option terms ranges field key =
    list_any (λ (t : QueryTermState). serves option t.option && (t.term.field == field) && bytes_eq t.term.value key) terms
    || list_any (λ (r : QueryRangeState). serves option r.option && (r.range.prefix.field == field) && in_range r.range key) ranges

-- whether a term or a range of a query is of a field
abbrev pub names_field : List QueryTermState → List QueryRangeState → ℕ → Bool
names_field terms ranges field = list_any (λ (t : QueryTermState). t.term.field == field) terms || list_any (λ (r : QueryRangeState). r.range.prefix.field == field) ranges

-- what terms and ranges request of a key's postings: its positions, or its documents alone, or nothing
abbrev pub requested_of : List QueryTermState → List QueryRangeState → ℕ → List ℕ → Option IndexRecordOption
requested_of terms ranges field key =
    if names_key WithFreqsAndPositions terms ranges field key then Some WithFreqsAndPositions
    else if names_key Basic terms ranges field key then Some Basic
    else None

-- the same, of a program's terms and ranges
abbrev pub requests_of : List QueryTerm → List QueryRange → ℕ → List ℕ → Option IndexRecordOption
requests_of terms ranges field = requested_of (map term_view terms) (map range_view ranges) field
