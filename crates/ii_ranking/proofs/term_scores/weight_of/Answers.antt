use Rattle.std.proofs.Common.{◌≡◌, ◌∙◌, ◌∷◌, [], ℕ, ap, arith, refl}
use Rattle.ii_bm25.specs.Bm25.{idf}
use Rattle.ii_bm25.specs.Statistics.{idf_of}
use Rattle.ii_bm25.proofs.SumLemmas.{summed_all, summed_more, summed_none}
use Rattle.ii_ranking.proofs.term_scores.weight_of.Goals as goal

pub returns-clause-made : goal.returns-clause-made
returns-clause-made g c =
    let s = g.S.Bm25StatisticsProvider.statistics c.args.statistics.now in
    let t = c.args.term.now in
    let own : c.idf-idf.result ≡ idf_of s t = c.idf-idf.ensures.value ∙ ap (λ (n : ℕ). idf n c.total_num_docs-num_docs.result) c.doc_freq.ensures ∙ ap (idf (s.doc_freq t.field t.value)) c.total_num_docs-num_docs.ensures in
    let few = c.idf-idf.type_inv in
    let sum = summed_all s (t ∷ []) c.idf-idf.result 1 (omega arith) (summed_more s (t ∷ []) 0 0 c.idf-idf.result t (omega arith) refl (summed_none s (t ∷ [])) (omega arith) few) in
    let tokens : c.total_num_tokens-num_tokens.result ≡ s.num_tokens t.field = c.total_num_tokens-num_tokens.ensures ∙ ap s.num_tokens c.field.ensures in
    rw (← sum, ← c.total_num_docs-num_docs.ensures, ← tokens) c.new.ensures.made
