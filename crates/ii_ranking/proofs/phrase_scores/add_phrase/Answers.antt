use Rattle.std.proofs.Common.{ℕ, Option, subst}
use Rattle.ii_io.specs.Composite.{body_of}
use Rattle.ii_query.specs.Phrase.{parts_in}
use Rattle.ii_ranking.specs.Combinations.{AddsToEach}
use Rattle.ii_ranking.proofs.ScoreLemmas.{phrase_same}
use Rattle.ii_ranking.proofs.phrase_scores.add_phrase.Goals as goal

pub returns-clause-added : goal.returns-clause-added
returns-clause-added g c =
    let index = c.args.index.now in
    let first = c.args.first.now in
    let st = g.S.Bm25StatisticsProvider.statistics c.args.statistics.now in
    let same = phrase_same index st first c.args.others.now c.args.slop c.in_ok-cursor.cursor.rest (parts_in c.in_ok-parts.parts.items) c.in_ok-norms.weight c.in_ok-cursor.ensures.listed (c.in_ok-parts.ensures.listed st) c.in_ok-norms.ensures.weight in
    subst (λ (f : ℕ → Option ℕ). AddsToEach f c.args.scores.now.items c.add_starts.new.scores.items) (λ j doc. same doc j) (rw c.new-first.ensures.rest at c.add_starts.ensures (body_of first.field index.fieldnorms) c.in_ok-norms.ensures.norms)
