use Rattle.std.proofs.Common.{ℕ, arith, subst}
use Rattle.ii_prepared_term.specs.PreparedScorers.{PreparedScorerState}
use Rattle.ii_prepared_term.specs.PreparedTerms.{GoesTo}
use Rattle.ii_prepared_term.proofs.PreparedLemmas.{scores_here, scores_none, still_scores}
use Rattle.ii_prepared_term.proofs.ReadLemmas.{still_scorer}
use Rattle.ii_prepared_term.proofs.prepared_scorer.PreparedScorerScorer.score_at.Goals as goal

pub invariant_of-self : goal.invariant_of-self
invariant_of-self c =
    let s : PreparedScorerState = record { term = c.self.inside.term.now; cursor = c.self.inside.cursor } in
    let went = c.go_to.ensures.went in
    let kept = went.kept in
    let end = c.requires in
    (c.self.invariant.0, still_scorer s went.dropped c.go_to.new.cursor c.self.invariant.1 (omega (arith, kept, end)) went.rest went.sound c.go_to.ensures.work.many)

pub invariant_of-self-2 : goal.invariant_of-self-2
invariant_of-self-2 c =
    let s : PreparedScorerState = record { term = c.self.inside.term.now; cursor = c.self.inside.cursor } in
    let went = c.go_to.ensures.went in
    let kept = went.kept in
    let end = c.requires in
    (c.self.invariant.0, still_scorer s went.dropped c.go_to.new.cursor c.self.invariant.1 (omega (arith, kept, end)) went.rest went.sound c.go_to.ensures.work.many)

pub returns-then-go_to-doc-clause-score : goal.returns-then-go_to-doc-clause-score
returns-then-go_to-doc-clause-score c =
    rw (← c.self.view_is) (let s : PreparedScorerState = record { term = c.self.inside.term.now; cursor = c.self.inside.cursor } in
    scores_none s c.args.doc c.args.least c.go_to.result c.go_to.new.cursor.rest c.requires c.go_to.ensures.went c.if-go_to-doc.true)

pub returns-then-go_to-doc-clause-kept : goal.returns-then-go_to-doc-clause-kept
returns-then-go_to-doc-clause-kept c =
    rw (← c.self.view_is) (let went = c.go_to.ensures.went in
    still_scores c.self.inside.term.now c.self.inside.cursor c.go_to.new.cursor went.dropped c.args.doc went.kept went.rest)

pub returns-then-go_to-doc-clause-work : goal.returns-then-go_to-doc-clause-work
returns-then-go_to-doc-clause-work c = rw (← c.self.view_is) (c.go_to.ensures.work.reads _ c.self.invariant.1.list, tt)

pub returns-clause-score : goal.returns-clause-score
returns-clause-score c =
    rw (← c.self.view_is) (let s : PreparedScorerState = record { term = c.self.inside.term.now; cursor = c.self.inside.cursor } in
    let went = subst (λ (next : ℕ). GoesTo c.args.doc next s.cursor.rest c.go_to.new.cursor.rest) c.if-go_to-doc.false c.go_to.ensures.went in
    scores_here s c.args.doc c.args.least c.term_freq.result c.score-score.result c.go_to.new.cursor.rest c.if_at_least.result c.requires went c.term_freq.ensures.entry c.score-score.ensures c.if_at_least.ensures)

pub returns-clause-kept : goal.returns-clause-kept
returns-clause-kept c =
    rw (← c.self.view_is) (let went = c.go_to.ensures.went in
    still_scores c.self.inside.term.now c.self.inside.cursor c.go_to.new.cursor went.dropped c.args.doc went.kept went.rest)

pub returns-clause-work : goal.returns-clause-work
returns-clause-work c = rw (← c.self.view_is) (c.go_to.ensures.work.reads _ c.self.invariant.1.list, tt)
