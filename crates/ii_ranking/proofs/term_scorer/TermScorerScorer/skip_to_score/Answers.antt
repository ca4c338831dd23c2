use Rattle.std.proofs.Common.{◌*◌, ◌^◌, ℕ, refl, subst, sym}
use Rattle.ii_scorer.specs.Scorers.{KeepsFrom}
use Rattle.ii_ranking.specs.LeafScorers.{leaf_of, term_state}
use Rattle.ii_ranking.specs.Scores.{entry_at}
use Rattle.ii_ranking.specs.TermWeights.{SkipsLess, TermWeightState, score_by_entry}
use Rattle.ii_ranking.proofs.LeafLemmas.{entry_row, leaf_skips, leaf_went}
use Rattle.ii_ranking.proofs.term_scorer.TermScorerScorer.skip_to_score.Goals as goal

pub returns-clause-next : goal.returns-clause-next
returns-clause-next c =
    let s = c.args.self.now in
    let next = c.go_to_score.result in
    let new = c.go_to_score.new.cursor.rest in
    let went = subst (λ (w : TermWeightState). SkipsLess (score_by_entry w) c.args.target c.args.least next s.cursor.rest new) c.least_term_freq-freq.ensures.same c.go_to_score.ensures in
    leaf_skips _ (entry_row (score_by_entry s.by) (λ doc. refl)) (s.by.weight.weight * 2 ^ 16) c.args.target c.args.least next s.cursor.rest new went.low went.current went.rest went.sound.ascending went.passed

pub returns-clause-kept : goal.returns-clause-kept
returns-clause-kept c =
    let s = c.args.self.now in
    let next = c.go_to_score.result in
    let new = c.go_to_score.new.cursor.rest in
    subst (λ (w : TermWeightState). KeepsFrom next (term_state s) (leaf_of (λ (doc : ℕ). score_by_entry w doc (entry_at new doc)) (w.weight.weight * 2 ^ 16))) (sym c.least_term_freq-freq.ensures.same)
    (leaf_went _ (entry_row (score_by_entry s.by) (λ doc. refl)) (s.by.weight.weight * 2 ^ 16) next s.cursor.rest new c.go_to_score.ensures.rest)
