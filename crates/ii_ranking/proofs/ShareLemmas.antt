-- Laws of the shares of a document's score.
use Rattle.std.proofs.Common.{◌≡◌, ◌∙◌, ℕ, ◌==◌, ◌++◌, Bool, true, false, ◌&&◌, List, [], ◌∷◌, Option, None, Some, append_assoc, if◌then◌else◌, is_some, map, nat_lt, min, refl, sym, ap}
use Rattle.std.specs.List.{fold}
use Rattle.std.specs.Option.{option_map, option_to_list}
use Rattle.std.proofs.lemmas.List.{append-nil, map-append}
use Rattle.ii_base.specs.Entries.{Entry}
use Rattle.ii_base.specs.declared.doc_id.TheConstants.{TERMINATED}
use Rattle.ii_base.specs.declared.schema.index_record_option.IndexRecordOption.TheVariants.{WithFreqs, WithFreqsAndPositions}
use Rattle.ii_bm25.specs.declared.bm25.TheConstants.{SCORE_ONE}
use Rattle.ii_query_parser.specs.declared.query.PhraseTerm.{PhraseTerm}
use Rattle.ii_query_parser.specs.Queries as queries
use Rattle.ii_query_parser.specs.Queries.{QueryTree, QueryTrees}
use Rattle.ii_scorer.specs.Combinations.{add, any_of, both, each_of, either, unless}
use Rattle.ii_ranking.specs.Scores.{Scored, entry_at, if_occurs, parts_of, phrase_count, score_by, tree_score, tree_scores}
use Rattle.ii_ranking.specs.Shares.{ScoredHaveShares, ShareState, SharesAddUp, all_have_shares, constant_share, has_shares, share_by, share_if_occurs, total, tree_shares, trees_shares}
use Rattle.ii_scorer.proofs.SumLemmas.{add_grouped, either_first}

-- sums one after the other
sum_from : (a b : ℕ) (ns : List ℕ) → fold add (add a b) ns ≡ add a (fold add b ns)
sum_from a b [] = refl
sum_from a b (n ∷ ns) = ap (λ (m : ℕ). fold add m ns) (add_grouped a b n) ∙ sum_from a (add b n) ns

sum_append : (a b : ℕ) (ms ns : List ℕ) → fold add a (ms ++ b ∷ ns) ≡ add (fold add a ms) (fold add b ns)
sum_append a b [] ns = sum_from a b ns
sum_append a b (m ∷ ms) ns = sum_append (add a m) b ms ns

total_append : (xs ys : List ShareState) → total (xs ++ ys) ≡ either (total xs) (total ys)
total_append [] ys = refl
total_append (x ∷ xs) [] = ap total (append-nil (x ∷ xs))
total_append (x ∷ xs) (y ∷ ys) =
    ap (λ (n : ℕ). Some n) (ap (fold add x.score) (map-append (λ (s : ShareState). s.score) xs (y ∷ ys)) ∙ sum_append x.score y.score (map (λ (s : ShareState). s.score) xs) (map (λ (s : ShareState). s.score) ys))

-- the shares of two parts, of which both have to match
abbrev joined : List ShareState → List ShareState → List ShareState
joined xs ys = if has_shares xs && has_shares ys then xs ++ ys else []

both_total : (xs ys : List ShareState) → both (total xs) (total ys) ≡ total (joined xs ys)
both_total [] ys = refl
both_total (x ∷ xs) [] = refl
both_total (x ∷ xs) (y ∷ ys) = sym (total_append (x ∷ xs) (y ∷ ys))

joined_grouped : (xs ys more : List ShareState) (all : Bool) → (if has_shares (joined xs ys) && all then joined xs ys ++ more else []) ≡ (if has_shares xs && (has_shares ys && all) then xs ++ (ys ++ more) else [])
joined_grouped [] ys more all = refl
joined_grouped (x ∷ xs) [] more all = refl
joined_grouped (x ∷ xs) (y ∷ ys) more all = ap (λ (row : List ShareState). if all then row else []) (append_assoc (x ∷ xs) (y ∷ ys) more)

-- those of one part, unless the other one matches
unless_total : (xs ys : List ShareState) → unless (total xs) (total ys) ≡ total (if has_shares ys then [] else xs)
unless_total xs [] = refl
unless_total xs (y ∷ ys) = refl

-- the score of a single share
constant_total : (part : QueryTree) (matches : Bool) → (if matches then Some SCORE_ONE else None) ≡ total (option_to_list (constant_share part matches))
constant_total part true = refl
constant_total part false = refl

entry_total : (score_of : ℕ → ℕ) (share : ℕ → ShareState) → ((count : ℕ) → score_of count ≡ (share count).score) → (found : Option Entry)
    → option_map (λ (e : Entry). score_of e.term_freq) found ≡ total (option_to_list (option_map (λ (e : Entry). share e.term_freq) found))
entry_total score_of share same None = refl
entry_total score_of share same (Some e) = ap (λ (n : ℕ). Some n) (same e.term_freq)

count_total : (score_of : ℕ → ℕ) (share : ℕ → ShareState) → ((count : ℕ) → score_of count ≡ (share count).score) → (count : ℕ)
    → if_occurs score_of count ≡ total (option_to_list (share_if_occurs share count))
count_total score_of share same count = by (count == 0)
  where
    by : (none : Bool) → (if none then None else Some (score_of count)) ≡ total (option_to_list (if none then None else Some (share count)))
    by true = refl
    by false = ap (λ (n : ℕ). Some n) (same count)

mutual
  pub shares_add_up : SharesAddUp
  shares_add_up s queries.nothing doc = refl
  shares_add_up s (queries.all_below n) doc = constant_total (queries.all_below n) (nat_lt doc (min n TERMINATED))
  shares_add_up s (queries.one_term term) doc =
      entry_total (score_by s (term ∷ []) term.field doc) (share_by s (queries.one_term term) (term ∷ []) term.field doc) (λ count. refl) (entry_at (s.entries WithFreqs term) doc)
  shares_add_up s (queries.one_phrase first others slop) doc =
      let terms = first ∷ map (λ (o : PhraseTerm). o.term) others in
      count_total (score_by s terms first.field doc) (share_by s (queries.one_phrase first others slop) terms first.field doc) (λ count. refl) (phrase_count slop (s.entries WithFreqsAndPositions first) (parts_of s others) doc)
  shares_add_up s (queries.one_phrase_prefix phrase) doc = constant_total (queries.one_phrase_prefix phrase) (s.has_phrase_in phrase doc)
  shares_add_up s (queries.one_range range) doc = constant_total (queries.one_range range) (s.has_in range doc)
  shares_add_up s (queries.each_of qs) doc = each_adds_up s qs doc
  shares_add_up s (queries.any_of qs) doc = any_adds_up s qs doc
  shares_add_up s (queries.without first other) doc =
      (λ j. unless (shares_add_up s first doc j) (shares_add_up s other doc j)) ∙ unless_total (tree_shares s first doc) (tree_shares s other doc)

  any_adds_up : (s : Scored) (qs : QueryTrees) (doc : ℕ) → any_of (tree_scores s qs doc) ≡ total (trees_shares s qs doc)
  any_adds_up s queries.no_tree doc = refl
  any_adds_up s (queries.tree q qs) doc =
      either_first (tree_score s q doc) (tree_scores s qs doc) ∙ (λ j. either (shares_add_up s q doc j) (any_adds_up s qs doc j)) ∙ sym (total_append (tree_shares s q doc) (trees_shares s qs doc))

  each_adds_up : (s : Scored) (qs : QueryTrees) (doc : ℕ) → each_of (tree_scores s qs doc) ≡ total (if all_have_shares s qs doc then trees_shares s qs doc else [])
  each_adds_up s queries.no_tree doc = refl
  each_adds_up s (queries.tree q qs) doc = ap (λ (score : Option ℕ). fold both score (tree_scores s qs doc)) (shares_add_up s q doc) ∙ rest_adds_up s qs doc (tree_shares s q doc)

  rest_adds_up : (s : Scored) (qs : QueryTrees) (doc : ℕ) (xs : List ShareState)
      → fold both (total xs) (tree_scores s qs doc) ≡ total (if has_shares xs && all_have_shares s qs doc then xs ++ trees_shares s qs doc else [])
  rest_adds_up s queries.no_tree doc [] = refl
  rest_adds_up s queries.no_tree doc (x ∷ xs) = ap total (sym (append-nil (x ∷ xs)))
  rest_adds_up s (queries.tree q qs) doc xs =
      let row = tree_shares s q doc in
      ap (λ (score : Option ℕ). fold both (both (total xs) score) (tree_scores s qs doc)) (shares_add_up s q doc)
      ∙ ap (λ (score : Option ℕ). fold both score (tree_scores s qs doc)) (both_total xs row)
      ∙ rest_adds_up s qs doc (joined xs row)
      ∙ ap total (joined_grouped xs row (trees_shares s qs doc) (all_have_shares s qs doc))

-- there are shares exactly if there is a sum
pub scored_have_shares : ScoredHaveShares
scored_have_shares s q doc = some_total (tree_shares s q doc) ∙ ap is_some (sym (shares_add_up s q doc))
  where
    some_total : (shares : List ShareState) → has_shares shares ≡ is_some (total shares)
    some_total [] = refl
    some_total (share ∷ shares) = refl
