use Rattle.std.proofs.Common.{◌≡◌, ◌∙◌, ℕ, arith}
use Rattle.ii_prepared_term.specs.PreparedScorers.{PreparedScorerState, prepared_list}
use Rattle.ii_prepared_term.proofs.PreparedLemmas.{goes_next, passed_by, passes_next, still_scores}
use Rattle.ii_prepared_term.proofs.ReadLemmas.{still_scorer}
use Rattle.ii_scorer.proofs.BlockListLaws.{reads_none}
use Rattle.ii_prepared_term.proofs.prepared_scorer.PreparedScorerScorer.seek_with_score.Goals as goal

pub returns-then-first-target-clause-next : goal.returns-then-first-target-clause-next
returns-then-first-target-clause-next c =
    rw (← c.self.view_is) (let s : PreparedScorerState = record { term = c.self.inside.term.now; cursor = c.self.inside.cursor } in
    let is = c.self.invariant.1.prepared in
    let f = c.first_reaching-first.ensures in
    passes_next s c.args.target c.args.least c.first_reaching-first.result is f.first.low f.up_to (passed_by s.term.by s.term.shares c.args.least c.args.target c.first_reaching-first.result s.cursor.rest is.sound is.bounds f.first))

pub returns-then-first-target-clause-work : goal.returns-then-first-target-clause-work
returns-then-first-target-clause-work c =
    rw (← c.self.view_is) (let s : PreparedScorerState = record { term = c.self.inside.term.now; cursor = c.self.inside.cursor } in
    (reads_none (λ (from : ℕ). from ≡ c.args.target) (prepared_list s), tt))

pub invariant_of-self-2 : goal.invariant_of-self-2
invariant_of-self-2 c =
    let s : PreparedScorerState = record { term = c.self.inside.term.now; cursor = c.self.inside.cursor } in
    let went = c.go_to.ensures.went in
    let kept = went.kept in
    let end = c.requires in
    (c.first_reaching-first.ensures.same ∙ c.self.invariant.0, still_scorer s went.dropped c.go_to.new.cursor c.self.invariant.1 (omega (arith, kept, end)) went.rest went.sound c.go_to.ensures.work.many)

pub returns-clause-next : goal.returns-clause-next
returns-clause-next c =
    rw (← c.self.view_is) (let s : PreparedScorerState = record { term = c.self.inside.term.now; cursor = c.self.inside.cursor } in
    goes_next s c.args.target c.args.least c.go_to.result c.go_to.new.cursor.rest c.self.invariant.1.prepared c.go_to.ensures.went)

pub returns-clause-kept : goal.returns-clause-kept
returns-clause-kept c =
    rw (← c.self.view_is) (let went = c.go_to.ensures.went in
    still_scores c.self.inside.term.now c.self.inside.cursor c.go_to.new.cursor went.dropped c.args.target went.kept went.rest)

pub returns-clause-work : goal.returns-clause-work
returns-clause-work c = rw (← c.self.view_is) (c.go_to.ensures.work.reads _ c.self.invariant.1.list, tt)
