use Rattle.std.proofs.Common.{◌∙◌, arith, sym}
use Rattle.ii_statistics.proofs.CountLemmas.{freq_here, freq_later}
use Rattle.ii_statistics.proofs.statistics.QueryStatisticsBm25StatisticsProvider.doc_freq.Goals as goal

pub returns-then-same_term : goal.returns-then-same_term
returns-then-same_term c =
    sym (freq_here c.args.self.now.terms.items c.loop-place.place c.index-counts.result.now (omega (arith, c.loop-place-test.true, c.len-place-end.ensures)) c.index-counts.ensures c.args.term.now.field c.args.term.now.value
    (sym c.same_term.ensures ∙ c.if-same_term.true)) ∙ c.loop-place.invariant

pub loop-place-preserved : goal.loop-place-preserved
loop-place-preserved c =
    freq_later c.args.self.now.terms.items c.loop-place.place c.index-counts.result.now (omega (arith, c.loop-place-test.true, c.len-place-end.ensures)) c.index-counts.ensures c.args.term.now.field c.args.term.now.value
    (sym c.same_term.ensures ∙ c.if-same_term.false) ∙ c.loop-place.invariant
