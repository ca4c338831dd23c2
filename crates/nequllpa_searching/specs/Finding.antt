-- What a search finds: documents, and the positions of the query's terms in them.
use Rattle.std.specs.Prelude.{ℕ, Bool, List, [], ◌∷◌, ◌++◌, filter, map, take, Option, Result, Ok}
use Rattle.std.specs.Option.{option_map}
use Rattle.ii_io.specs.Parts.{◌>>=◌}
use Rattle.ii_io.specs.declared.faults.Part.{Part}
use Rattle.ii_base.specs.Entries.{docs_of}
use Rattle.ii_base.specs.Terms.{TermState}
use Rattle.ii_base.specs.declared.schema.index_record_option.IndexRecordOption.TheVariants.{WithFreqsAndPositions}
use Rattle.ii_reader.specs.OpenIndex.{OpenIndexState, all_or_first}
use Rattle.ii_query_parser.specs.declared.query.PhraseTerm.{PhraseTerm}
use Rattle.ii_query_parser.specs.declared.query.Query.{Query}
use Rattle.ii_query_parser.specs.Queries.{QueryTree, QueryTrees, all_below, any_of, each_of, no_tree, nothing, one_phrase, one_phrase_prefix, one_range, one_term, tree, tree_of, without}
use Rattle.ii_segments.specs.Segments.{is_living}
use Rattle.ii_search.specs.Found.{docs_of_term, found_in}
use Rattle.nequllpa_searching.specs.Positions.{positions_in_doc}
use Rattle.nequllpa_searching.specs.declared.finding.FoundPlaces.{FoundPlaces}
use Rattle.nequllpa_searching.specs.declared.finding.TermPositions.{TermPositions}

-- The terms that a query wants, in its order, without those that it excludes and those of ranges.
abbrev mutual
  pub tree_terms : QueryTree → List TermState
  tree_terms nothing = []
  tree_terms (all_below n) = []
  tree_terms (one_term term) = term ∷ []
  tree_terms (one_phrase first others slop) = first ∷ map (λ (o : PhraseTerm). o.term) others
  tree_terms (one_phrase_prefix phrase) = phrase.first ∷ map (λ (o : PhraseTerm). o.term) phrase.others.items
  tree_terms (one_range range) = []
  tree_terms (each_of qs) = trees_terms qs
  tree_terms (any_of qs) = trees_terms qs
  tree_terms (without first other) = tree_terms first

  pub trees_terms : QueryTrees → List TermState
  trees_terms no_tree = []
  trees_terms (tree q qs) = tree_terms q ++ trees_terms qs

-- the terms that a query wants
abbrev pub wanted_terms : Query → List TermState
wanted_terms query = tree_terms (tree_of query)

-- the positions of a term in each of some documents, or the first corrupt part of its list
abbrev pub term_places : OpenIndexState → List ℕ → TermState → Result (List (Option (List ℕ))) Part
term_places index docs term = do
  es ← docs_of_term WithFreqsAndPositions index term
  Ok (map (positions_in_doc es) docs)

-- the first `limit` living documents that match a query, or the first corrupt part
abbrev pub first_docs : OpenIndexState → List Bool → Query → ℕ → Result (List ℕ) Part
first_docs index alive query limit = do
  es ← found_in index query
  Ok (take limit (filter (is_living alive) (docs_of es)))

-- documents, and for each term its positions in each of them
pub record FoundState : Type 0 where
  pub docs : List ℕ
  pub places : List (List (Option (List ℕ)))

-- what a search finds, or the first corrupt part
abbrev pub found_places : OpenIndexState → List Bool → Query → ℕ → Result FoundState Part
found_places index alive query limit = do
  docs ← first_docs index alive query limit
  places ← all_or_first (map (term_places index docs) (wanted_terms query))
  Ok (record { docs = docs; places = places })

-- the model of a term's positions
abbrev pub places_view : TermPositions → List (Option (List ℕ))
places_view p = map (option_map (λ v. v.items)) p.positions.items

-- the model of a search's result
abbrev pub found_view : FoundPlaces → FoundState
found_view f = record { docs = f.docs.items; places = map places_view f.places.items }
