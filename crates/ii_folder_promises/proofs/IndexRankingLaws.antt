-- The best documents of an index that was committed.
use Rattle.std.proofs.Common.{◌≡◌, ◌∙◌, ℕ, ◌<◌, ◌≤◌, true, List, [], ◌∷◌, Option, None, Some, Vec, Global, IfSome, Result, Ok, ap, filter, get_or, is_some, length, min, subst, sym}
use Rattle.std.specs.Prelude.{◌⊎◌}
use Rattle.std.specs.List.{All, Contains, range_with_len}
use Rattle.std.proofs.lemmas.List.Elements.{filter_agree}
use Rattle.ii_base.specs.Schema.{SchemaEntry}
use Rattle.ii_definitions.specs.Tokens.{IndexToken}
use Rattle.ii_io.specs.declared.faults.Fault.{Fault}
use Rattle.ii_index.specs.Ranking.{SearcherHolds}
use Rattle.ii_index.specs.Searching.{SearcherState}
use Rattle.ii_index.specs.Statistics.{token_statistics}
use Rattle.ii_query_parser.specs.declared.query.Query.{Query}
use Rattle.ii_query_parser.specs.Queries.{keeps_positions, matches}
use Rattle.ii_query_parser.specs.QueryTexts.{AnalyzedFields, MeansTextBy, text_matches_by}
use Rattle.ii_ranking.specs.TokenCounts.{AreOrdered}
use Rattle.ii_ranking.specs.TokenScores.{token_score}
use Rattle.ii_scorer.specs.TopDocs.{AreBest, scored_docs}
use Rattle.ii_ranking.proofs.MatchLaws.{matches_score}
use Rattle.ii_folder_promises.proofs.RankingLaws.{best_greatest, best_in_order, best_many, best_scored}
use Rattle.ii_folder_promises.proofs.SegmentRankingLaws.{all_ordered}

-- These are the best documents of n, by their tokens, and at most so many.
abbrev pub AreBestOf : List SchemaEntry → ℕ → List IndexToken → Query → ℕ → List (ℕ × ℕ) → Type 0
AreBestOf entries n ts query limit best = AreBest (record { limit = limit; offset = 0 }) (scored_docs n (token_score entries ts (token_statistics n ts) query)) best

-- an answer
abbrev ok : Vec (ℕ × ℕ) Global → Result (Vec (ℕ × ℕ) Global) Fault
ok best = Ok best

module _ (entries : List SchemaEntry) (n : ℕ) (ts : List IndexToken) (query : Query) (limit : ℕ) where
  pub some_scored : (r : Option (Vec (ℕ × ℕ) Global)) → IfSome r (λ best. AreBestOf entries n ts query limit best.items)
      → IfSome r (λ best. All (λ (b : ℕ × ℕ). (b.1 < n) × (token_score entries ts (token_statistics n ts) query b.1 ≡ Some b.0)) best.items)
  some_scored None are = tt
  some_scored (Some best) are = best_scored limit n (token_score entries ts (token_statistics n ts) query) best.items are

  pub some_many : AreOrdered ts → keeps_positions entries query ≡ true → (r : Option (Vec (ℕ × ℕ) Global)) → IfSome r (λ best. AreBestOf entries n ts query limit best.items)
      → IfSome r (λ best. length best.items ≡ min limit (length (filter (matches query ts) (range_with_len 0 n))))
  some_many ordered keeps None are = tt
  some_many ordered keeps (Some best) are =
      best_many limit n (token_score entries ts (token_statistics n ts) query) best.items are
      ∙ ap (λ (docs : List ℕ). min limit (length docs))
      (filter_agree (λ (doc : ℕ). is_some (token_score entries ts (token_statistics n ts) query doc)) (matches query ts) (λ doc. matches_score entries ts (token_statistics n ts) query doc ordered keeps) (range_with_len 0 n))

  -- they match
  pub some_matching : AreOrdered ts → keeps_positions entries query ≡ true → (r : Option (Vec (ℕ × ℕ) Global)) → IfSome r (λ best. AreBestOf entries n ts query limit best.items)
      → IfSome r (λ best. All (λ (b : ℕ × ℕ). matches query ts b.1 ≡ true) best.items)
  some_matching ordered keeps None are = tt
  some_matching ordered keeps (Some best) are =
      let scored = best_scored limit n (token_score entries ts (token_statistics n ts) query) best.items are in
      λ k d within. sym (matches_score entries ts (token_statistics n ts) query (get_or best.items k d).1 ordered keeps) ∙ ap is_some (scored k d within).1

  -- those of a text
  pub text_many : (q : AnalyzedFields) (text : List ℕ) → MeansTextBy q text query → AreOrdered ts → keeps_positions entries query ≡ true → (r : Option (Vec (ℕ × ℕ) Global)) → IfSome r (λ best. AreBestOf entries n ts query limit best.items)
      → IfSome r (λ best. length best.items ≡ min limit (length (filter (text_matches_by q text ts) (range_with_len 0 n))))
  text_many q text means ordered keeps None are = tt
  text_many q text means ordered keeps (Some best) are =
      some_many ordered keeps (Some best) are
      ∙ ap (λ (docs : List ℕ). min limit (length docs)) (filter_agree (matches query ts) (text_matches_by q text ts) (λ doc. means.exact ts doc) (range_with_len 0 n))

  pub text_matching : (q : AnalyzedFields) (text : List ℕ) → MeansTextBy q text query → AreOrdered ts → keeps_positions entries query ≡ true → (r : Option (Vec (ℕ × ℕ) Global)) → IfSome r (λ best. AreBestOf entries n ts query limit best.items)
      → IfSome r (λ best. All (λ (b : ℕ × ℕ). text_matches_by q text ts b.1 ≡ true) best.items)
  text_matching q text means ordered keeps None are = tt
  text_matching q text means ordered keeps (Some best) are = λ k d within. sym (means.exact ts (get_or best.items k d).1) ∙ some_matching ordered keeps (Some best) are k d within

  pub some_in_order : (r : Option (Vec (ℕ × ℕ) Global)) → IfSome r (λ best. AreBestOf entries n ts query limit best.items)
      → IfSome r (λ best. (i j : ℕ) → i ≤ j → j < length best.items → (get_or best.items j (0, 0)).0 ≤ (get_or best.items i (0, 0)).0)
  some_in_order None are = tt
  some_in_order (Some best) are = best_in_order limit (scored_docs n (token_score entries ts (token_statistics n ts) query)) (ok best) are

  pub some_greatest : (r : Option (Vec (ℕ × ℕ) Global)) → IfSome r (λ best. AreBestOf entries n ts query limit best.items)
      → IfSome r (λ best. (doc score : ℕ) → doc < n → token_score entries ts (token_statistics n ts) query doc ≡ Some score → Contains best.items (score, doc) ⊎ All (λ (b : ℕ × ℕ). score ≤ b.0) best.items)
  some_greatest None are = tt
  some_greatest (Some best) are = λ doc score below is. best_greatest limit n (token_score entries ts (token_statistics n ts) query) best.items are doc score below is

-- the tokens of an index that open segments hold are in the order of its documents
pub tokens_ordered : (entries : List SchemaEntry) (s : SearcherState) (n : ℕ) (ts : List IndexToken) → SearcherHolds entries s n ts → AreOrdered ts
tokens_ordered entries s n ts h = subst AreOrdered h.have.tokens (all_ordered entries s.segments h.segments h.hold)
