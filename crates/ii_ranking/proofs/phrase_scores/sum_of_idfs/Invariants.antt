use Rattle.std.proofs.Common.{◌∷◌, ◌+◌, map}
use Rattle.ii_query_parser.specs.declared.query.PhraseTerm.{PhraseTerm}
use Rattle.ii_bm25.proofs.SumLemmas.{IsSumming}
use Rattle.ii_ranking.proofs.phrase_scores.sum_of_idfs.Given as goal

abbrev pub invariant-loop-place : goal.invariant-loop-place
invariant-loop-place g l = IsSumming (g.S.Bm25StatisticsProvider.statistics l.statistics) (l.first ∷ map (λ (o : PhraseTerm). o.term) l.others) l.idfs (l.place + 1)
