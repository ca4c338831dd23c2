use Rattle.std.proofs.Common.{ℕ, Option, refl}
use Rattle.ii_base.specs.Entries.{Entry}
use Rattle.ii_bm25.specs.Bm25.{bm25_score}
use Rattle.ii_query.specs.Phrase.{parts_in}
use Rattle.ii_ranking.specs.NormIds.{id_among}
use Rattle.ii_ranking.proofs.LeafLemmas.{entry_row, phrase_opened, row_ends}
use Rattle.ii_ranking.proofs.PhraseScoreLemmas.{starts_score}
use Rattle.ii_ranking.proofs.phrase_scorer.PhraseScorer.open.Goals as goal

pub returns-clause-scores : goal.returns-clause-scores
returns-clause-scores g c =
    let st = g.S.Bm25StatisticsProvider.statistics c.args.statistics.now in
    rw c.new-first.ensures.rest
    (phrase_opened c.args.index.now st c.args.first.now c.args.others.now c.args.slop c.in_ok-cursor.cursor.rest (parts_in c.in_ok-parts.parts.items) c.in_ok-norms.norms c.in_ok-norms.weight c.in_ok-cursor.ensures.listed (c.in_ok-parts.ensures.listed st) c.in_ok-norms.ensures.norms c.in_ok-norms.ensures.weight)

pub returns-clause-ends : goal.returns-clause-ends
returns-clause-ends g c =
    let norms = c.in_ok-norms.norms in
    let w = c.in_ok-norms.weight in
    row_ends _ (entry_row (λ (doc : ℕ) (found : Option Entry). starts_score c.args.slop (bm25_score w (id_among norms doc)) (parts_in c.in_ok-parts.parts.items) found) (λ doc. refl)) c.new-first.result.part.rest c.doc-doc.ensures.sound.ascending
