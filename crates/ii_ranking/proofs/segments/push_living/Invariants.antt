use Rattle.std.proofs.Common.{ℕ, ◌≡◌, ◌++◌, List}
use Rattle.ii_ranking.specs.Segments.{living_row}
use Rattle.ii_scorer.specs.TopNComputer.{KeepsBest}
use Rattle.ii_ranking.proofs.segments.push_living.Given as goal

abbrev pub invariant-loop-doc : goal.invariant-loop-doc
invariant-loop-doc l = record {
  kept : (scored : List (ℕ × ℕ)) → KeepsBest scored l.initial.computer → KeepsBest (scored ++ living_row l.base l.alive l.doc l.scores.items) l.computer;
  wanted : l.computer.top_n ≡ l.initial.computer.top_n;
}
