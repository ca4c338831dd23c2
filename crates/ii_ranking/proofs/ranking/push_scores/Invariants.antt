use Rattle.std.proofs.Common.{ℕ, ◌≡◌, ◌++◌, List, None, get_or}
use Rattle.ii_scorer.specs.TopDocs.{scored_docs}
use Rattle.ii_scorer.specs.TopNComputer.{KeepsBest}
use Rattle.ii_ranking.proofs.ranking.push_scores.Given as goal

abbrev pub invariant-loop-place : goal.invariant-loop-place
invariant-loop-place l = record {
  kept : (scored : List (ℕ × ℕ)) → KeepsBest scored l.initial.computer → KeepsBest (scored ++ scored_docs l.place (λ (doc : ℕ). get_or l.scores.items doc None)) l.computer;
  wanted : l.computer.top_n ≡ l.initial.computer.top_n;
}
