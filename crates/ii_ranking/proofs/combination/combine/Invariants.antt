use Rattle.std.proofs.Common.{ℕ, None, get_or}
use Rattle.ii_ranking.proofs.CombinationLemmas.{IsCombining}
use Rattle.ii_ranking.proofs.combination.combine.Given as goal

abbrev pub invariant-loop-doc : goal.invariant-loop-doc
invariant-loop-doc l = record { combining : IsCombining l.by (λ (doc : ℕ). get_or l.others.items doc None) l.doc l.initial.scores.items l.scores.items }
