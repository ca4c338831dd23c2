use Rattle.std.proofs.Common.{◌≡◌, ◌∙◌, List, None, ap, map, string_bytes, subst}
use Rattle.std.specs.Prelude.{IfErr, IfOk, OnOk}
use Rattle.ii_ranking.specs.Scores.{IsScoreFault}
use Rattle.ii_scorer.specs.TopDocs.{AreBest}
use Rattle.nequllpa_searching.specs.Explained.{AreExplained}
use Rattle.nequllpa_searching.specs.OpenedNumbers.{best_damage, opened_scored, rankable}
use Rattle.nequllpa_opening.specs.RowFormats.{is_json}
use Rattle.nequllpa_opening.specs.declared.opened.Opened.{Opened}
use Rattle.nequllpa_searching.proofs.ranking.best_docs.Goals as goal

pub returns-clause-best : goal.returns-clause-best
returns-clause-best c =
    let same : c.rankable-segments.result.now ≡ rankable c.args.query.now c.args.opened.now.segments.items = c.rankable-segments.ensures.ranked ∙ ap (rankable c.args.query.now) c.segments.ensures in
    subst (λ (os : List Opened). IfOk c.best_of_segments.result (λ best. AreBest (record { limit = c.args.how.now.limit; offset = 0 }) (opened_scored os c.args.query.now) best.docs.items)) same c.best_of_segments.ensures.best

pub returns-clause-explained : goal.returns-clause-explained
returns-clause-explained c = λ wanted.
    let same : c.rankable-segments.result.now ≡ rankable c.args.query.now c.args.opened.now.segments.items = c.rankable-segments.ensures.ranked ∙ ap (rankable c.args.query.now) c.segments.ensures in
    let given = rw c.schema.ensures at c.best_of_segments.ensures.explained wanted in
    subst (λ (os : List Opened). IfOk c.best_of_segments.result (λ best. AreExplained os c.args.query.now (is_json c.args.how.now.format) c.args.opened.now.schema best.docs.items (map string_bytes best.explanations.items))) same given

pub returns-clause-sound : goal.returns-clause-sound
returns-clause-sound c =
    let same : c.rankable-segments.result.now ≡ rankable c.args.query.now c.args.opened.now.segments.items = c.rankable-segments.ensures.ranked ∙ ap (rankable c.args.query.now) c.segments.ensures in
    subst (λ (os : List Opened). OnOk c.best_of_segments.result (best_damage os c.args.query.now ≡ None)) same c.best_of_segments.ensures.sound

pub returns-clause-fault : goal.returns-clause-fault
returns-clause-fault c =
    let same : c.rankable-segments.result.now ≡ rankable c.args.query.now c.args.opened.now.segments.items = c.rankable-segments.ensures.ranked ∙ ap (rankable c.args.query.now) c.segments.ensures in
    subst (λ (os : List Opened). IfErr c.best_of_segments.result (IsScoreFault (best_damage os c.args.query.now))) same c.best_of_segments.ensures.fault
