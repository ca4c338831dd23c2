use Rattle.std.proofs.Common.{ℕ, None, Some, if◌then◌else◌, min, nat_lt}
use Rattle.ii_base.specs.declared.doc_id.TheConstants.{TERMINATED}
use Rattle.ii_bm25.specs.declared.bm25.TheConstants.{SCORE_ONE}
use Rattle.ii_ranking.specs.declared.combination.Combination.TheVariants.{Either}
use Rattle.ii_ranking.proofs.CombinationLemmas.{IsCombining}
use Rattle.ii_ranking.proofs.combination.add_all.Given as goal

abbrev pub invariant-loop-doc : goal.invariant-loop-doc
invariant-loop-doc l = record { combining : IsCombining Either (λ (doc : ℕ). if nat_lt doc (min l.fn.limit TERMINATED) then Some SCORE_ONE else None) l.doc l.initial.scores.items l.scores.items }
