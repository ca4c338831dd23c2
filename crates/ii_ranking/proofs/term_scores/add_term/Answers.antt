use Rattle.std.proofs.Common.{◌∙◌, ℕ, ap}
use Rattle.std.specs.Option.{option_map}
use Rattle.ii_fieldnorm.specs.Readers.{norms_of_ids}
use Rattle.ii_io.specs.Composite.{body_of}
use Rattle.ii_ranking.proofs.ScoreLemmas.{term_adds}
use Rattle.ii_ranking.proofs.term_scores.add_term.Goals as goal

pub returns-clause-added : goal.returns-clause-added
returns-clause-added g c =
    let index = c.args.index.now in
    let term = c.args.term.now in
    let st = g.S.Bm25StatisticsProvider.statistics c.args.statistics.now in
    let norms = c.in_ok-norms.ensures.found ∙ ap (λ (field : ℕ). option_map norms_of_ids (body_of field index.fieldnorms)) c.field.ensures in
    term_adds index st term c.in_ok-cursor.cursor.rest c.in_ok-weight.weight c.args.scores.now.items c.add_entries.new.scores.items c.in_ok-cursor.ensures.listed c.in_ok-weight.ensures.made (c.add_entries.ensures (body_of term.field index.fieldnorms) norms)

pub returns-clause-sound : goal.returns-clause-sound
returns-clause-sound g c = rw (c.in_ok-cursor.ensures.listed, ← c.field.ensures) c.in_ok-norms.ensures.sound
