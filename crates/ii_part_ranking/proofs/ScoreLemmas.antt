-- What a document scores depends on the terms, the norms of their fields, and the ranges of a query alone.
use Rattle.std.proofs.Common.{◌≡◌, ◌∙◌, ℕ, List, [], ◌∷◌, Option, None, Some, if◌then◌else◌, map, refl, subst, sym, ap}
use Rattle.std.specs.List.{AllByRecursion}
use Rattle.std.specs.Option.{option_map}
use Rattle.ii_io.specs.Composite.{body_of}
use Rattle.ii_base.specs.Entries.{Entry}
use Rattle.ii_base.specs.Terms.{TermState}
use Rattle.ii_base.specs.declared.schema.index_record_option.IndexRecordOption.{IndexRecordOption}
use Rattle.ii_base.specs.declared.schema.index_record_option.IndexRecordOption.TheVariants.{Basic, WithFreqs}
use Rattle.ii_bm25.specs.Bm25.{bm25_score, bm25_weight}
use Rattle.ii_bm25.specs.Statistics.{Statistics, idfs_of}
use Rattle.ii_bm25.specs.declared.bm25.TheConstants.{SCORE_ONE}
use Rattle.ii_definitions.proofs.ListLaws.{all_after, all_before}
use Rattle.ii_docset.specs.Intersection.{has_doc}
use Rattle.ii_query_parser.specs.declared.phrase_prefix.PhrasePrefix.{PhrasePrefix}
use Rattle.ii_query_parser.specs.declared.query.PhraseTerm.{PhraseTerm}
use Rattle.ii_query_parser.specs.declared.query.Query.{Query}
use Rattle.ii_query_parser.specs.declared.query.Query.TheVariants.{Range, PhrasePrefix as WithPrefix}
use Rattle.ii_query_parser.specs.declared.term_range.TermRange.{TermRange}
use Rattle.ii_query_parser.specs.Queries as queries
use Rattle.ii_query_parser.specs.Queries.{QueryTree, QueryTrees, tree_of}
use Rattle.ii_query_parser.proofs.QueryLemmas.{phrase_prefix_tree, range_tree}
use Rattle.ii_ranking.specs.Scores.{damage_of, entry_at, first_of, if_occurs, norm_id_in, norms_damage, opened_or_none, parts_damage, parts_of, phrase_count, phrase_damage, phrase_score, scored_in, term_score, tree_damage, tree_score, tree_scores, trees_damage}
use Rattle.ii_reader.specs.OpenIndex.{OpenIndexState}
use Rattle.ii_scorer.specs.Combinations.{any_of, each_of, unless}
use Rattle.ii_search.specs.Found.{docs_of_term, tree_found}
use Rattle.ii_warmup.specs.QueryTerms.{QueryTermState, phrase_requests, tree_ranges, tree_terms, trees_ranges, trees_terms, with_positions}
use Rattle.ii_warmup.specs.SameFor.{SameRange, SameTerm}
use Rattle.ii_warmup.proofs.FoundLemmas.{found_as_there}

module _ (index other : OpenIndexState) where
  -- Two indexes have the same documents of a term, as far as the query requests them, the same counts of it, and the same norms of its field.
  pub record IsSameTerm (t : QueryTermState) : Type 0 where
    pub documents : SameTerm index other t
    pub counts : docs_of_term WithFreqs index t.term ≡ docs_of_term WithFreqs other t.term
    pub norms : body_of t.term.field index.fieldnorms ≡ body_of t.term.field other.fieldnorms

  -- what a part of a query finds
  part_found : (query : Query) (q : QueryTree) → tree_of query ≡ q → AllByRecursion (SameTerm index other) (tree_terms q) → AllByRecursion (SameRange index other) (tree_ranges q) → tree_found index q ≡ tree_found other q
  part_found query q is terms ranges =
      let here = subst (λ (r : QueryTree). AllByRecursion (SameTerm index other) (tree_terms r)) (sym is) terms in
      let there = subst (λ (r : QueryTree). AllByRecursion (SameRange index other) (tree_ranges r)) (sym is) ranges in
      ap (tree_found index) (sym is) ∙ found_as_there query index other (record { terms = here; ranges = there }) ∙ ap (tree_found other) is

  -- the documents of terms, without their counts and norms
  documents_same : (ts : List QueryTermState) → AllByRecursion IsSameTerm ts → AllByRecursion (SameTerm index other) ts
  documents_same [] same = tt
  documents_same (t ∷ ts) same = (same.0.documents, documents_same ts same.1)

  prefix_found : (phrase : PhrasePrefix) → AllByRecursion IsSameTerm (tree_terms (queries.one_phrase_prefix phrase)) → AllByRecursion (SameRange index other) (tree_ranges (queries.one_phrase_prefix phrase))
      → tree_found index (queries.one_phrase_prefix phrase) ≡ tree_found other (queries.one_phrase_prefix phrase)
  prefix_found phrase terms ranges = part_found (WithPrefix phrase) (queries.one_phrase_prefix phrase) (phrase_prefix_tree phrase) (documents_same (tree_terms (queries.one_phrase_prefix phrase)) terms) ranges

  range_found : (range : TermRange) → AllByRecursion (SameRange index other) (tree_ranges (queries.one_range range)) → tree_found index (queries.one_range range) ≡ tree_found other (queries.one_range range)
  range_found range ranges = part_found (Range range) (queries.one_range range) (range_tree range) tt ranges

  -- the first damage of the other terms of a phrase
  same_parts_damage : (others : List PhraseTerm) → AllByRecursion IsSameTerm (phrase_requests others) → parts_damage index others ≡ parts_damage other others
  same_parts_damage [] same = refl
  same_parts_damage (o ∷ os) same =
      let documents = same.0.documents in
      let later = same_parts_damage os same.1 in
      λ j. first_of (damage_of (documents j)) (later j)

  same_phrase_damage : (first : TermState) (others : List PhraseTerm) → AllByRecursion IsSameTerm (with_positions first ∷ phrase_requests others) → phrase_damage index first others ≡ phrase_damage other first others
  same_phrase_damage first others same =
      let documents = same.0.documents in
      let later = same_parts_damage others same.1 in
      let norms = same.0.norms in
      λ j. first_of (damage_of (documents j)) (first_of (later j) (norms_damage (norms j)))

  -- the first damage of what scores need
  mutual
    pub same_damage : (q : QueryTree) → AllByRecursion IsSameTerm (tree_terms q) → AllByRecursion (SameRange index other) (tree_ranges q) → tree_damage index q ≡ tree_damage other q
    same_damage queries.nothing terms ranges = refl
    same_damage (queries.all_below n) terms ranges = refl
    same_damage (queries.one_term term) terms ranges =
        let counts = terms.0.counts in
        let norms = terms.0.norms in
        λ j. first_of (damage_of (counts j)) (norms_damage (norms j))
    same_damage (queries.one_phrase first others slop) terms ranges = same_phrase_damage first others terms
    same_damage (queries.one_phrase_prefix phrase) terms ranges = ap damage_of (prefix_found phrase terms ranges)
    same_damage (queries.one_range range) terms ranges = ap damage_of (range_found range ranges)
    same_damage (queries.each_of qs) terms ranges = same_damages qs terms ranges
    same_damage (queries.any_of qs) terms ranges = same_damages qs terms ranges
    same_damage (queries.without first second) terms ranges =
        let here = same_damage first (all_before IsSameTerm (tree_terms first) (tree_terms second) terms) (all_before (SameRange index other) (tree_ranges first) (tree_ranges second) ranges) in
        let there = same_damage second (all_after IsSameTerm (tree_terms first) (tree_terms second) terms) (all_after (SameRange index other) (tree_ranges first) (tree_ranges second) ranges) in
        λ j. first_of (here j) (there j)

    same_damages : (qs : QueryTrees) → AllByRecursion IsSameTerm (trees_terms qs) → AllByRecursion (SameRange index other) (trees_ranges qs) → trees_damage index qs ≡ trees_damage other qs
    same_damages queries.no_tree terms ranges = refl
    same_damages (queries.tree q qs) terms ranges =
        let here = same_damage q (all_before IsSameTerm (tree_terms q) (trees_terms qs) terms) (all_before (SameRange index other) (tree_ranges q) (trees_ranges qs) ranges) in
        let there = same_damages qs (all_after IsSameTerm (tree_terms q) (trees_terms qs) terms) (all_after (SameRange index other) (tree_ranges q) (trees_ranges qs) ranges) in
        λ j. first_of (here j) (there j)

  module _ (s : Statistics) (doc : ℕ) where
    -- what a count of terms of a field scores, given the norms of the field
    abbrev score_with : List TermState → ℕ → Option (List ℕ) → ℕ → ℕ
    score_with terms field norms count = bm25_score (bm25_weight (idfs_of s terms) s.num_docs (s.num_tokens field)) (norm_id_in norms doc) count

    -- the other terms of a phrase
    same_parts : (others : List PhraseTerm) → AllByRecursion IsSameTerm (phrase_requests others) → parts_of (scored_in index s) others ≡ parts_of (scored_in other s) others
    same_parts [] same = refl
    same_parts (o ∷ os) same =
        let documents = same.0.documents in
        let later = same_parts os same.1 in
        λ j. record { distance = o.distance; rest = opened_or_none (documents j) } ∷ later j

    same_term : (term : TermState) (option : IndexRecordOption) → IsSameTerm (record { term = term; option = option }) → term_score (scored_in index s) term doc ≡ term_score (scored_in other s) term doc
    same_term term option same =
        let counts = same.counts in
        let norms = same.norms in
        λ j. option_map (λ (e : Entry). score_with (term ∷ []) term.field (norms j) e.term_freq) (entry_at (opened_or_none (counts j)) doc)

    same_phrase : (first : TermState) (others : List PhraseTerm) (slop : ℕ) → AllByRecursion IsSameTerm (with_positions first ∷ phrase_requests others) → phrase_score (scored_in index s) first others slop doc ≡ phrase_score (scored_in other s) first others slop doc
    same_phrase first others slop same =
        let documents = same.0.documents in
        let norms = same.0.norms in
        let parts = same_parts others same.1 in
        λ j. if_occurs (score_with (first ∷ map (λ (o : PhraseTerm). o.term) others) first.field (norms j)) (phrase_count slop (opened_or_none (documents j)) (parts j) doc)

    -- what a document scores
    mutual
      pub same_score : (q : QueryTree) → AllByRecursion IsSameTerm (tree_terms q) → AllByRecursion (SameRange index other) (tree_ranges q) → tree_score (scored_in index s) q doc ≡ tree_score (scored_in other s) q doc
      same_score queries.nothing terms ranges = refl
      same_score (queries.all_below n) terms ranges = refl
      same_score (queries.one_term term) terms ranges = same_term term Basic terms.0
      same_score (queries.one_phrase first others slop) terms ranges = same_phrase first others slop terms
      same_score (queries.one_phrase_prefix phrase) terms ranges =
          let found = prefix_found phrase terms ranges in
          λ j. if has_doc (opened_or_none (found j)) doc then Some SCORE_ONE else None
      same_score (queries.one_range range) terms ranges =
          let found = range_found range ranges in
          λ j. if has_doc (opened_or_none (found j)) doc then Some SCORE_ONE else None
      same_score (queries.each_of qs) terms ranges = ap each_of (same_scores qs terms ranges)
      same_score (queries.any_of qs) terms ranges = ap any_of (same_scores qs terms ranges)
      same_score (queries.without first second) terms ranges =
          let here = same_score first (all_before IsSameTerm (tree_terms first) (tree_terms second) terms) (all_before (SameRange index other) (tree_ranges first) (tree_ranges second) ranges) in
          let there = same_score second (all_after IsSameTerm (tree_terms first) (tree_terms second) terms) (all_after (SameRange index other) (tree_ranges first) (tree_ranges second) ranges) in
          λ j. unless (here j) (there j)

      same_scores : (qs : QueryTrees) → AllByRecursion IsSameTerm (trees_terms qs) → AllByRecursion (SameRange index other) (trees_ranges qs) → tree_scores (scored_in index s) qs doc ≡ tree_scores (scored_in other s) qs doc
      same_scores queries.no_tree terms ranges = refl
      same_scores (queries.tree q qs) terms ranges =
          let here = same_score q (all_before IsSameTerm (tree_terms q) (trees_terms qs) terms) (all_before (SameRange index other) (tree_ranges q) (trees_ranges qs) ranges) in
          let there = same_scores qs (all_after IsSameTerm (tree_terms q) (trees_terms qs) terms) (all_after (SameRange index other) (tree_ranges q) (trees_ranges qs) ranges) in
          λ j. here j ∷ there j
