-- The scores of a query by numbers that are the same for its terms.
use Rattle.std.proofs.Common.{◌≡◌, ◌∙◌, ℕ, ◌+◌, ◌-◌, ◌^◌, ◌&&◌, List, [], ◌∷◌, ◌++◌, ap, if◌then◌else◌, map, min, refl}
use Rattle.std.specs.List.{AllByRecursion, sum}
use Rattle.std.specs.Option.{option_map, option_to_list}
use Rattle.ii_alive.specs.Alive.{num_living}
use Rattle.ii_base.specs.Entries.{Entry}
use Rattle.ii_base.specs.Schema.{SchemaEntry}
use Rattle.ii_base.specs.Terms.{TermState}
use Rattle.ii_base.specs.declared.schema.index_record_option.IndexRecordOption.TheVariants.{WithFreqs, WithFreqsAndPositions}
use Rattle.ii_bm25.specs.Bm25.{bm25_score, bm25_weight, idf, weight}
use Rattle.ii_bm25.specs.Statistics.{Statistics, idf_of, idfs_of}
use Rattle.ii_definitions.proofs.ListLaws.{all_after, all_before}
use Rattle.ii_query_parser.specs.declared.query.PhraseTerm.{PhraseTerm}
use Rattle.ii_query_parser.specs.declared.query.Query.{Query}
use Rattle.ii_query_parser.specs.Queries as queries
use Rattle.ii_query_parser.specs.Queries.{QueryTree, QueryTrees, tree_of}
use Rattle.ii_scorer.specs.Combinations.{any_of, each_of, unless}
use Rattle.ii_ranking.specs.Scores.{Scored, entry_at, if_occurs, parts_of, phrase_count, phrase_score, query_score, scored_by_tokens, scored_in, term_score, tree_score, tree_scores}
use Rattle.ii_ranking.specs.Segments.{segment_scored, segments_scored}
use Rattle.ii_ranking.specs.Shares.{ShareState, all_have_shares, has_shares, share_if_occurs, tree_shares, trees_shares}
use Rattle.ii_ranking.specs.TokenScores.{token_score, tokens_scored}
use Rattle.ii_segment_search.specs.Searcher.{OpenSegmentState}
use Rattle.ii_segments.specs.Segments.{Segment}
use Rattle.ii_statistics.specs.Statistics.{AreSameFor, query_terms, tree_terms, trees_terms}

-- numbers that are the same as others, which are the same as third ones
pub same_then : (a b c : Statistics) (ts : List TermState) → AllByRecursion (AreSameFor a b) ts → AllByRecursion (AreSameFor b c) ts → AllByRecursion (AreSameFor a c) ts
same_then a b c [] first second = tt
same_then a b c (t ∷ ts) first second =
    (record { num_tokens = first.0.num_tokens ∙ second.0.num_tokens; doc_freq = first.0.doc_freq ∙ second.0.doc_freq }, same_then a b c ts first.1 second.1)

-- what a count scores, given the numbers that its weight is made of, and the norm id of the document
abbrev score_with : ℕ → ℕ → ℕ → ℕ → ℕ → ℕ
score_with idfs num_docs num_tokens id count = bm25_score (bm25_weight idfs num_docs num_tokens) id count

-- the share of a count, given the numbers that its weight is made of, and the norm id of the document
abbrev share_with : QueryTree → ℕ → ℕ → ℕ → ℕ → ℕ → ShareState
share_with part idfs num_docs num_tokens id count = record { part = part; weight = weight idfs; count = count; norm_id = id; score = score_with idfs num_docs num_tokens id count }

module _ (x : Scored) (a b : Statistics) (docs : a.num_docs ≡ b.num_docs) where
  abbrev by_numbers : Statistics → Scored
  by_numbers s = record x { statistics = s }

  same_idfs : (ts : List TermState) → AllByRecursion (AreSameFor a b) ts → map (idf_of a) ts ≡ map (idf_of b) ts
  same_idfs [] same = refl
  same_idfs (t ∷ ts) same =
      let freq = same.0.doc_freq in
      let later = same_idfs ts same.1 in
      λ j. idf (freq j) (docs j) ∷ later j

  same_sum : (ts : List TermState) → AllByRecursion (AreSameFor a b) ts → idfs_of a ts ≡ idfs_of b ts
  same_sum ts same = ap (λ (row : List ℕ). min (2 ^ 64 - 1) (sum row)) (same_idfs ts same)

  module _ (doc : ℕ) where
    same_term : (term : TermState) → AreSameFor a b term → term_score (by_numbers a) term doc ≡ term_score (by_numbers b) term doc
    same_term term same =
        let idfs = same_sum (term ∷ []) (same, tt) in
        let tokens = same.num_tokens in
        λ j. option_map (λ (e : Entry). score_with (idfs j) (docs j) (tokens j) (x.norm_id term.field doc) e.term_freq) (entry_at (x.entries WithFreqs term) doc)

    same_phrase : (first : TermState) (others : List PhraseTerm) (slop : ℕ) → AllByRecursion (AreSameFor a b) (first ∷ map (λ (o : PhraseTerm). o.term) others) → phrase_score (by_numbers a) first others slop doc ≡ phrase_score (by_numbers b) first others slop doc
    same_phrase first others slop same =
        let idfs = same_sum (first ∷ map (λ (o : PhraseTerm). o.term) others) same in
        let tokens = same.0.num_tokens in
        λ j. if_occurs (score_with (idfs j) (docs j) (tokens j) (x.norm_id first.field doc)) (phrase_count slop (x.entries WithFreqsAndPositions first) (parts_of x others) doc)

    mutual
      same_tree : (q : QueryTree) → AllByRecursion (AreSameFor a b) (tree_terms q) → tree_score (by_numbers a) q doc ≡ tree_score (by_numbers b) q doc
      same_tree queries.nothing same = refl
      same_tree (queries.all_below m) same = refl
      same_tree (queries.one_term term) same = same_term term same.0
      same_tree (queries.one_phrase first others slop) same = same_phrase first others slop same
      same_tree (queries.one_phrase_prefix phrase) same = refl
      same_tree (queries.one_range range) same = refl
      same_tree (queries.each_of qs) same = ap each_of (same_trees qs same)
      same_tree (queries.any_of qs) same = ap any_of (same_trees qs same)
      same_tree (queries.without first other) same =
          let here = all_before (AreSameFor a b) (tree_terms first) (tree_terms other) same in
          let there = all_after (AreSameFor a b) (tree_terms first) (tree_terms other) same in
          λ j. unless (same_tree first here j) (same_tree other there j)

      same_trees : (qs : QueryTrees) → AllByRecursion (AreSameFor a b) (trees_terms qs) → tree_scores (by_numbers a) qs doc ≡ tree_scores (by_numbers b) qs doc
      same_trees queries.no_tree same = refl
      same_trees (queries.tree q qs) same =
          let here = all_before (AreSameFor a b) (tree_terms q) (trees_terms qs) same in
          let there = all_after (AreSameFor a b) (tree_terms q) (trees_terms qs) same in
          λ j. same_tree q here j ∷ same_trees qs there j

    -- what the score of a document is made of
    same_term_shares : (term : TermState) → AreSameFor a b term → tree_shares (by_numbers a) (queries.one_term term) doc ≡ tree_shares (by_numbers b) (queries.one_term term) doc
    same_term_shares term same =
        let idfs = same_sum (term ∷ []) (same, tt) in
        let tokens = same.num_tokens in
        λ j. option_to_list (option_map (λ (e : Entry). share_with (queries.one_term term) (idfs j) (docs j) (tokens j) (x.norm_id term.field doc) e.term_freq) (entry_at (x.entries WithFreqs term) doc))

    same_phrase_shares : (first : TermState) (others : List PhraseTerm) (slop : ℕ) → AllByRecursion (AreSameFor a b) (first ∷ map (λ (o : PhraseTerm). o.term) others)
        → tree_shares (by_numbers a) (queries.one_phrase first others slop) doc ≡ tree_shares (by_numbers b) (queries.one_phrase first others slop) doc
    same_phrase_shares first others slop same =
        let idfs = same_sum (first ∷ map (λ (o : PhraseTerm). o.term) others) same in
        let tokens = same.0.num_tokens in
        λ j. option_to_list
        (share_if_occurs (share_with (queries.one_phrase first others slop) (idfs j) (docs j) (tokens j) (x.norm_id first.field doc)) (phrase_count slop (x.entries WithFreqsAndPositions first) (parts_of x others) doc))

    mutual
      same_shares : (q : QueryTree) → AllByRecursion (AreSameFor a b) (tree_terms q) → tree_shares (by_numbers a) q doc ≡ tree_shares (by_numbers b) q doc
      same_shares queries.nothing same = refl
      same_shares (queries.all_below m) same = refl
      same_shares (queries.one_term term) same = same_term_shares term same.0
      same_shares (queries.one_phrase first others slop) same = same_phrase_shares first others slop same
      same_shares (queries.one_phrase_prefix phrase) same = refl
      same_shares (queries.one_range range) same = refl
      same_shares (queries.each_of qs) same =
          let all = all_same_shares qs same in
          let shares = same_trees_shares qs same in
          λ j. if all j then shares j else []
      same_shares (queries.any_of qs) same = same_trees_shares qs same
      same_shares (queries.without first other) same =
          let here = same_shares first (all_before (AreSameFor a b) (tree_terms first) (tree_terms other) same) in
          let there = same_shares other (all_after (AreSameFor a b) (tree_terms first) (tree_terms other) same) in
          λ j. if has_shares (there j) then [] else here j

      same_trees_shares : (qs : QueryTrees) → AllByRecursion (AreSameFor a b) (trees_terms qs) → trees_shares (by_numbers a) qs doc ≡ trees_shares (by_numbers b) qs doc
      same_trees_shares queries.no_tree same = refl
      same_trees_shares (queries.tree q qs) same =
          let here = same_shares q (all_before (AreSameFor a b) (tree_terms q) (trees_terms qs) same) in
          let there = same_trees_shares qs (all_after (AreSameFor a b) (tree_terms q) (trees_terms qs) same) in
          λ j. here j ++ there j

      all_same_shares : (qs : QueryTrees) → AllByRecursion (AreSameFor a b) (trees_terms qs) → all_have_shares (by_numbers a) qs doc ≡ all_have_shares (by_numbers b) qs doc
      all_same_shares queries.no_tree same = refl
      all_same_shares (queries.tree q qs) same =
          let here = same_shares q (all_before (AreSameFor a b) (tree_terms q) (trees_terms qs) same) in
          let there = all_same_shares qs (all_after (AreSameFor a b) (tree_terms q) (trees_terms qs) same) in
          λ j. has_shares (here j) && there j

    -- what a document scores
    same_query : (query : Query) → AllByRecursion (AreSameFor a b) (query_terms query) → query_score (by_numbers a) query doc ≡ query_score (by_numbers b) query doc
    same_query query same = same_tree (tree_of query) same

module _ (a b : Statistics) (docs : a.num_docs ≡ b.num_docs) (query : Query) (same : AllByRecursion (AreSameFor a b) (query_terms query)) where
  -- the documents of open segments score the same
  pub same_segments : (base : ℕ) (opened : List OpenSegmentState) → segments_scored a query base opened ≡ segments_scored b query base opened
  same_segments base [] = refl
  same_segments base (o ∷ os) =
      let first : (doc : ℕ) → query_score (scored_in o.index a) query doc ≡ query_score (scored_in o.index b) query doc = λ doc. same_query (scored_in o.index a) a b docs doc query same in
      let later = same_segments (base + num_living o.alive) os in
      λ j. segment_scored base o.alive (λ (doc : ℕ). first doc j) ++ later j

  -- and by the tokens of segments
  pub same_tokens : (schema : List SchemaEntry) (base : ℕ) (ss : List Segment) → tokens_scored schema a query base ss ≡ tokens_scored schema b query base ss
  same_tokens schema base [] = refl
  same_tokens schema base (s ∷ ss) =
      let first : (doc : ℕ) → token_score schema s.tokens a query doc ≡ token_score schema s.tokens b query doc = λ doc. same_query (scored_by_tokens schema s.tokens a) a b docs doc query same in
      let later = same_tokens schema (base + num_living s.alive) ss in
      λ j. segment_scored base s.alive (λ (doc : ℕ). first doc j) ++ later j

  -- the score of a document of a segment is made of the same shares
  pub same_shares_in : (o : OpenSegmentState) (doc : ℕ) → tree_shares (scored_in o.index a) (tree_of query) doc ≡ tree_shares (scored_in o.index b) (tree_of query) doc
  same_shares_in o doc = same_shares (scored_in o.index a) a b docs doc (tree_of query) same
