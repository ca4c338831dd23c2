use Rattle.std.proofs.Common.{◌≡◌, ◌∙◌, ℕ, Option, ap, refl, subst, sym}
use Rattle.std.specs.Option.{option_map}
use Rattle.ii_io.specs.Composite.{body_of}
use Rattle.ii_base.specs.Entries.{Entry}
use Rattle.ii_bm25.specs.Bm25.{bm25_score}
use Rattle.ii_fieldnorm.specs.Readers.{norms_of_ids}
use Rattle.ii_ranking.specs.NormIds.{id_among}
use Rattle.ii_ranking.specs.Scores.{entry_at, scored_in, term_score}
use Rattle.ii_ranking.specs.TermWeights.{TermWeightState, score_by_entry}
use Rattle.ii_ranking.proofs.LeafLemmas.{entry_row, row_ends, term_opened}
use Rattle.ii_ranking.proofs.term_scorer.TermScorer.open.Goals as goal

pub returns-clause-scores : goal.returns-clause-scores
returns-clause-scores g c =
    subst (λ (w : TermWeightState). (doc : ℕ) → score_by_entry w doc (entry_at c.in_ok-cursor.cursor.rest doc) ≡ term_score (scored_in c.args.index.now (g.S.Bm25StatisticsProvider.statistics c.args.statistics.now)) c.args.term.now doc) (sym c.new-by.ensures)
    (term_opened c.args.index.now (g.S.Bm25StatisticsProvider.statistics c.args.statistics.now) c.args.term.now c.in_ok-cursor.cursor.rest c.in_ok-norms.norms c.in_ok-weight.weight c.in_ok-cursor.ensures.listed (c.in_ok-norms.ensures.found ∙ ap (λ (field : ℕ). option_map norms_of_ids (body_of field c.args.index.now.fieldnorms)) c.field.ensures) c.in_ok-weight.ensures.made)

pub returns-clause-ends : goal.returns-clause-ends
returns-clause-ends g c =
    let norms = c.new-by.result.norms in
    let w = c.new-by.result.weight in
    row_ends _ (entry_row (λ (doc : ℕ) (found : Option Entry). option_map (λ (e : Entry). bm25_score w (id_among norms doc) e.term_freq) found) (λ doc. refl)) c.in_ok-cursor.cursor.rest c.doc-first.ensures.sound.ascending

pub returns-clause-sound : goal.returns-clause-sound
returns-clause-sound g c = rw (c.in_ok-cursor.ensures.listed, ← c.field.ensures) c.in_ok-norms.ensures.sound
