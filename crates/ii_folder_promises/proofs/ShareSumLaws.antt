-- Laws of the sum of a document's shares.
use Rattle.std.proofs.Common.{◌≡◌, ◌∙◌, ℕ, ◌+◌, ◌-◌, ◌^◌, ◌<◌, List, [], ◌∷◌, Option, None, Some, drop, get_or, length, map, min, refl, subst, sym, ap, arith}
use Rattle.std.specs.List.{All, Contains, fold, range_with_len, sum_by}
use Rattle.std.specs.Option.{unwrap_or}
use Rattle.std.proofs.lemmas.List.Elements.{All-contains_itself, All-drop, All-take}
use Rattle.std.proofs.lemmas.List.FromFn.{get_or-map-range_with_len}
use Rattle.std.proofs.lemmas.List.Sorted.{All-permutation}
use Rattle.ii_bm25.specs.Statistics.{Statistics}
use Rattle.ii_query_parser.specs.declared.query.Query.{Query}
use Rattle.ii_query_parser.specs.Queries.{tree_of}
use Rattle.ii_reader.specs.OpenIndex.{OpenIndexState}
use Rattle.ii_ranking.specs.declared.shares.Share.{Share}
use Rattle.ii_scorer.specs.Combinations.{add}
use Rattle.ii_ranking.specs.Scores.{query_score, scored_in}
use Rattle.ii_ranking.specs.Shares.{ShareState, SharesAddUp, share_of, total, tree_shares}
use Rattle.ii_scorer.specs.TopDocs.{AreBest}
use Rattle.ii_scorer.specs.declared.top_docs.TopDocs.{TopDocs}

-- a sum is cut once, or after each summand
cut_again : (a n : ℕ) → add (min (2 ^ 64 - 1) a) n ≡ min (2 ^ 64 - 1) (a + n)
cut_again a n = omega arith

summed : (a : ℕ) (shares : List Share) → fold add (min (2 ^ 64 - 1) a) (map (λ (s : ShareState). s.score) (map share_of shares)) ≡ min (2 ^ 64 - 1) (fold (λ (n : ℕ) (s : Share). n + s.score) a shares)
summed a [] = refl
summed a (s ∷ ss) = ap (λ (n : ℕ). fold add n (map (λ (t : ShareState). t.score) (map share_of ss))) (cut_again a s.score) ∙ summed (a + s.score) ss

-- a score of any size is that sum, cut in the same way
pub total_cut : (shares : List Share) (score : ℕ) → Some score ≡ total (map share_of shares) → min (2 ^ 64 - 1) score ≡ min (2 ^ 64 - 1) (sum_by (λ (s : Share). s.score) shares)
total_cut [] score is = absurd (cc)
total_cut (s ∷ []) score is = let same : score ≡ s.score = ap (λ (found : Option ℕ). unwrap_or found 0) is in omega (arith, same)
total_cut (s ∷ t ∷ ss) score is =
    let first : add s.score t.score ≡ min (2 ^ 64 - 1) (0 + s.score + t.score) = omega arith in
    let same : score ≡ min (2 ^ 64 - 1) (sum_by (λ (u : Share). u.score) (s ∷ t ∷ ss)) =
    ap (λ (found : Option ℕ). unwrap_or found 0) is ∙ ap (λ (n : ℕ). fold add n (map (λ (u : ShareState). u.score) (map share_of ss))) first ∙ summed (0 + s.score + t.score) ss in
    omega (arith, same)

-- the score of a document is the sum of its shares; a score has 64 bits
pub total_summed : (shares : List Share) (score : ℕ) → score < 2 ^ 64 → Some score ≡ total (map share_of shares) → score ≡ min (2 ^ 64 - 1) (sum_by (λ (s : Share). s.score) shares)
total_summed shares score few is = let cut = total_cut shares score is in omega (arith, few, cut)

-- no score, no shares
pub none_summed : (shares : List Share) → None ≡ total (map share_of shares) → 0 ≡ min (2 ^ 64 - 1) (sum_by (λ (s : Share). s.score) shares)
none_summed [] is = refl
none_summed (s ∷ ss) is = absurd (cc)

-- the score of a document, among those of the first documents, by its shares
pub score_read : (index : OpenIndexState) (st : Statistics) (query : Query) (num_docs doc : ℕ) (scores : List (Option ℕ)) (shares : List Share) (score : Option ℕ) → SharesAddUp → doc < num_docs → score ≡ get_or scores doc score
    → scores ≡ map (query_score (scored_in index st) query) (range_with_len 0 num_docs) → map share_of shares ≡ tree_shares (scored_in index st) (tree_of query) doc → score ≡ total (map share_of shares)
score_read index st query num_docs doc scores shares score law below read scored explained =
    read ∙ ap (λ (row : List (Option ℕ)). get_or row doc score) scored ∙ get_or-map-range_with_len (query_score (scored_in index st) query) 0 num_docs doc doc score below (omega arith)
    ∙ law (scored_in index st) (tree_of query) doc ∙ ap total (sym explained)

-- each of the best documents has its score
pub best_has_score : (docs : TopDocs) (scored best : List (ℕ × ℕ)) (place : ℕ) (one : ℕ × ℕ) → AreBest docs scored best → place < length best → one ≡ get_or best place one → Contains scored one
best_has_score docs scored best place one b inside is =
    let each : All (Contains scored) best =
    subst (All (Contains scored)) (sym b.best_are) (All-take (Contains scored) docs.limit (drop docs.offset b.ranked)
    (All-drop (Contains scored) docs.offset b.ranked (All-permutation (Contains scored) scored b.ranked b.are_ranked.same (All-contains_itself scored)))) in
    subst (Contains scored) (sym is) (each place one inside)
