use Rattle.std.proofs.Common.{◌∙◌, arith, sym}
use Rattle.ii_statistics.proofs.CountLemmas.{tokens_here, tokens_later}
use Rattle.ii_statistics.proofs.statistics.QueryStatisticsBm25StatisticsProvider.total_num_tokens.Goals as goal

pub returns-then-is_of : goal.returns-then-is_of
returns-then-is_of c =
    sym (tokens_here c.args.self.now.terms.items c.loop-place.place c.index-counts.result.now (omega (arith, c.loop-place-test.true, c.len-place-end.ensures)) c.index-counts.ensures c.args.field
    (sym c.is_of.ensures ∙ c.if-is_of.true)) ∙ c.loop-place.invariant

pub loop-place-preserved : goal.loop-place-preserved
loop-place-preserved c =
    tokens_later c.args.self.now.terms.items c.loop-place.place c.index-counts.result.now (omega (arith, c.loop-place-test.true, c.len-place-end.ensures)) c.index-counts.ensures c.args.field
    (sym c.is_of.ensures ∙ c.if-is_of.false) ∙ c.loop-place.invariant
