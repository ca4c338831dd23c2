use Rattle.ii_bm25.proofs.SumLemmas.{IsSumming}
use Rattle.ii_bm25.proofs.bm25.Bm25Weight.for_terms.Given as goal

abbrev pub invariant-loop-place : goal.invariant-loop-place
invariant-loop-place g l = IsSumming (g.S.Bm25StatisticsProvider.statistics l.statistics) l.terms l.idfs l.place
