use Rattle.std.proofs.Common.{◌*◌, ◌^◌, ◌<◌, ◌≤◌, ℕ, rules, subst}
use Rattle.ii_bm25.specs.Bm25.{bm25_score}
use Rattle.ii_query.specs.Phrase.{parts_in}
use Rattle.ii_ranking.specs.LeafScorers.{score_by_phrase}
use Rattle.ii_ranking.specs.NormIds.{id_among}
use Rattle.ii_ranking.specs.Scores.{phrase_count}
use Rattle.ii_ranking.proofs.LeafLemmas.{leaf_bounded, occurs_up_to}
use Rattle.ii_ranking.proofs.phrase_scorer.PhraseScorerScorer.max_score.Goals as goal

pub returns-clause-bounded : goal.returns-clause-bounded
returns-clause-bounded c =
    let s = c.args.self.now in
    let most = s.weight.weight * 2 ^ 16 in
    let few : most < 2 ^ 64 = search rules in
    leaf_bounded (score_by_phrase s) most few (λ doc. occurs_up_to (λ (count : ℕ). bm25_score s.weight (id_among s.norms doc) count) most (phrase_count s.slop s.first.part.rest (parts_in s.others.items) doc) (λ count. subst (λ (m : ℕ). bm25_score s.weight (id_among s.norms doc) count ≤ m) c.max_score.ensures.value (c.max_score.ensures.bounds (id_among s.norms doc) count)))
