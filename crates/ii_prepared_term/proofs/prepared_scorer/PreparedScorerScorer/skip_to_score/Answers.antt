use Rattle.std.proofs.Common.{◌∙◌, [], ◌∷◌, arith, inr}
use Rattle.ii_scorer.proofs.BoundLemmas.{row_reached, row_reads}
use Rattle.ii_prepared_term.specs.PreparedScorers.{PreparedScorerState, prepared_list}
use Rattle.ii_prepared_term.specs.PreparedTerms.{prepared_bound}
use Rattle.ii_prepared_term.proofs.PreparedLemmas.{passes_next, still_scores}
use Rattle.ii_prepared_term.proofs.ReadLemmas.{still_scorer}
use Rattle.ii_prepared_term.proofs.prepared_scorer.PreparedScorerScorer.skip_to_score.Goals as goal

pub invariant_of-self : goal.invariant_of-self
invariant_of-self c =
    let s : PreparedScorerState = record { term = c.self.inside.term.now; cursor = c.self.inside.cursor } in
    let went = c.go_to_score.ensures.went in
    let low = went.kept in
    let end = went.up_to in
    (c.go_to_score.ensures.same ∙ c.self.invariant.0, still_scorer s went.dropped c.go_to_score.new.cursor c.self.invariant.1 (omega (arith, low, end)) went.rest went.sound c.go_to_score.ensures.work.many)

pub returns-clause-next : goal.returns-clause-next
returns-clause-next c =
    rw (← c.self.view_is) (let s : PreparedScorerState = record { term = c.self.inside.term.now; cursor = c.self.inside.cursor } in
    let went = c.go_to_score.ensures.went in
    passes_next s c.args.target c.args.least c.go_to_score.result c.self.invariant.1.prepared went.low went.up_to went.passed)

pub returns-clause-kept : goal.returns-clause-kept
returns-clause-kept c =
    rw (← c.self.view_is) (let went = c.go_to_score.ensures.went in
    still_scores c.self.inside.term.now c.self.inside.cursor c.go_to_score.new.cursor went.dropped c.go_to_score.result went.kept went.rest)

pub returns-clause-reached : goal.returns-clause-reached
returns-clause-reached c =
    rw (← c.self.view_is) (let s : PreparedScorerState = record { term = c.self.inside.term.now; cursor = c.self.inside.cursor } in
    row_reached c.go_to_score.result c.args.least (prepared_bound s.term) (prepared_list s ∷ []) (λ low. inr (c.go_to_score.ensures.reached low)))

pub returns-clause-work : goal.returns-clause-work
returns-clause-work c =
    rw (← c.self.view_is) (let s : PreparedScorerState = record { term = c.self.inside.term.now; cursor = c.self.inside.cursor } in
    row_reads c.args.target c.args.least c.go_to_score.result (prepared_bound s.term) (prepared_list s ∷ []) (prepared_list (record s { cursor = c.go_to_score.new.cursor }) ∷ []) (c.go_to_score.ensures.work.reads _ c.self.invariant.1.list, tt))
