use Rattle.std.proofs.Common.{◌∙◌, ◌+◌, ◌-◌, ◌^◌, ℕ, min, ap}
use Rattle.ii_bm25.specs.Bm25.{idf}
use Rattle.ii_bm25.proofs.SumLemmas.{summed_all, summed_more, summed_none}
use Rattle.ii_bm25.proofs.bm25.Bm25Weight.for_terms.Goals as goal

pub loop-place-init : goal.loop-place-init
loop-place-init g c = summed_none (g.S.Bm25StatisticsProvider.statistics c.args.statistics.now) c.args.terms.now

pub loop-place-preserved : goal.loop-place-preserved
loop-place-preserved g c =
    let s = g.S.Bm25StatisticsProvider.statistics c.args.statistics.now in
    let own = c.idf.ensures.value ∙ ap (λ (n : ℕ). idf n c.total_num_docs-num_docs.result) c.doc_freq.ensures ∙ ap (idf (s.doc_freq c.index-terms-place.result.field c.index-terms-place.result.value)) c.total_num_docs-num_docs.ensures in
    summed_more s c.args.terms.now c.loop-place.idfs c.loop-place.place c.saturating_add-idfs.result c.index-terms-place.result c.loop-place-test.true c.index-terms-place.is c.loop-place.invariant
    (c.saturating_add-idfs.ensures ∙ ap (λ (n : ℕ). min (c.loop-place.idfs + n) (2 ^ 64 - 1)) own) c.saturating_add-idfs.type_inv

pub returns-clause-made : goal.returns-clause-made
returns-clause-made g c =
    let s = g.S.Bm25StatisticsProvider.statistics c.args.statistics.now in
    let sum = summed_all s c.args.terms.now c.loop-place.idfs c.loop-place.place c.loop-place-test.false c.loop-place.invariant in
    rw (← sum, ← c.total_num_docs-num_docs.ensures, ← c.total_num_tokens-num_tokens.ensures) c.new.ensures.made
