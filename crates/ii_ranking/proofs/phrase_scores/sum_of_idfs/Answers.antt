use Rattle.std.proofs.Common.{◌≡◌, ◌∙◌, ◌+◌, ◌-◌, ◌^◌, ◌∷◌, ℕ, ap, arith, get_or, map, min, refl, sym}
use Rattle.std.proofs.lemmas.List.{get_or-map, length-map}
use Rattle.ii_query_parser.specs.declared.query.PhraseTerm.{PhraseTerm}
use Rattle.ii_bm25.specs.Bm25.{idf}
use Rattle.ii_bm25.specs.Statistics.{idf_of}
use Rattle.ii_bm25.proofs.SumLemmas.{summed_all, summed_more, summed_none}
use Rattle.ii_ranking.proofs.ScoreLemmas.{get_or_after}
use Rattle.ii_ranking.proofs.phrase_scores.sum_of_idfs.Goals as goal

pub loop-place-init : goal.loop-place-init
loop-place-init g c =
    let s = g.S.Bm25StatisticsProvider.statistics c.args.statistics.now in
    let t = c.args.first.now in
    let terms = t ∷ map (λ (o : PhraseTerm). o.term) c.args.others.now in
    let few = c.idf-idfs.type_inv in
    let own : c.idf-idfs.result ≡ idf_of s t = c.idf-idfs.ensures.value ∙ ap (λ (n : ℕ). idf n c.args.num_docs) c.doc_freq.ensures ∙ ap (idf (s.doc_freq t.field t.value)) c.requires in
    summed_more s terms 0 0 c.idf-idfs.result t (omega arith) refl (summed_none s terms) (omega arith) few

pub loop-place-preserved : goal.loop-place-preserved
loop-place-preserved g c =
    let s = g.S.Bm25StatisticsProvider.statistics c.args.statistics.now in
    let l = c.loop-place in
    let others = c.args.others.now in
    let terms = c.args.first.now ∷ map (λ (o : PhraseTerm). o.term) others in
    let o = c.index-others-place.result in
    let many = length-map others (λ (p : PhraseTerm). p.term) in
    let inside = c.loop-place-test.true in
    let few = c.saturating_add-idfs.type_inv in
    let below = l.invariant.below in
    let at : o.term ≡ get_or terms (l.place + 1) o.term = sym (get_or_after c.args.first.now (map (λ (p : PhraseTerm). p.term) others) l.place o.term ∙ get_or-map (λ (p : PhraseTerm). p.term) others l.place o o.term inside ∙ ap (λ (p : PhraseTerm). p.term) (sym c.index-others-place.is)) in
    let own : c.idf.result ≡ idf_of s o.term = c.idf.ensures.value ∙ ap (λ (n : ℕ). idf n c.args.num_docs) (c.doc_freq-in-loop-place.ensures ∙ ap (λ (p : PhraseTerm). s.doc_freq p.term.field p.term.value) (sym c.index-others-place.is)) ∙ ap (idf (s.doc_freq o.term.field o.term.value)) c.requires in
    summed_more s terms l.idfs (l.place + 1) c.saturating_add-idfs.result o.term (omega arith) at l.invariant (c.saturating_add-idfs.ensures ∙ ap (λ (n : ℕ). min (l.idfs + n) (2 ^ 64 - 1)) own) few

pub returns : goal.returns
returns g c =
    let s = g.S.Bm25StatisticsProvider.statistics c.args.statistics.now in
    let l = c.loop-place in
    let others = c.args.others.now in
    let terms = c.args.first.now ∷ map (λ (o : PhraseTerm). o.term) others in
    let many = length-map others (λ (o : PhraseTerm). o.term) in
    let over = c.loop-place-test.false in
    summed_all s terms l.idfs (l.place + 1) (omega arith) l.invariant
