use Rattle.std.proofs.Common.{◌+◌, List, [], ◌∷◌, ◌++◌, ap, ◌∙◌, arith, rules}
use Rattle.ii_docset.specs.declared.calls.CursorAnswer.{CursorAnswer}
use Rattle.ii_docset.proofs.WalkLemmas.{asked_part, counts_part, left_after, not_all, spent_next, told_all, told_first, walks_on}
use Rattle.ii_docset.proofs.walking.walk.Goals as goal

pub loop-call-preserved : goal.loop-call-preserved
loop-call-preserved g c =
    let walking = c.loop-call.invariant in
    let kept = c.keep.ensures ∙ ap (λ (answers : List CursorAnswer). answers ++ c.in-Ok-make_call.answer ∷ []) c.reserve.ensures.items in
    let told = rw walking.1 at c.in-Ok-make_call.ensures.ok in
    let next = walks_on c.args.calls.now _ _ c.loop-call.call-index _ c.loop-call.answers.items _ _ _ walking.0 (search rules) told c.in-Ok-make_call.ensures.rest in
    (rw kept next, search rules, spent_next (λ k m. g.P.Postings.spent k m c.args.cursor.now c.make_call.new.cursor) c.args.calls.now _ _ c.loop-call.call-index _ _ _ (search rules) walking.1 walking.0.rest_is (g.met.P.Postings.spent_on _ _ _ _ _ _ _ walking.2 c.make_call.ensures.work))

pub returns-in_default-clause-work : goal.returns-in_default-clause-work
returns-in_default-clause-work g c = g.met.P.Postings.spent_more _ _ _ _ _ _ (asked_part c.loop-call.call-index c.args.calls.now) (counts_part c.loop-call.call-index c.args.calls.now _ _) c.loop-call.invariant.2

pub returns-in_default-make_call-clause-work : goal.returns-in_default-make_call-clause-work
returns-in_default-make_call-clause-work g c =
    let walking = c.loop-call.invariant in
    let i = c.loop-call.call-index in
    let next = spent_next (λ k m. g.P.Postings.spent k m c.args.cursor.now c.make_call.new.cursor) c.args.calls.now _ _ i _ _ _ (search rules) walking.1 walking.0.rest_is (g.met.P.Postings.spent_on _ _ _ _ _ _ _ walking.2 c.make_call.ensures.work) in
    g.met.P.Postings.spent_more _ _ _ _ _ _ (asked_part (i + 1) c.args.calls.now) (counts_part (i + 1) c.args.calls.now _ _) next

pub returns-clause-work : goal.returns-clause-work
returns-clause-work g c = g.met.P.Postings.spent_more _ _ _ _ _ _ (asked_part c.loop-call.call-index c.args.calls.now) (counts_part c.loop-call.call-index c.args.calls.now _ _) c.loop-call.invariant.2

pub returns-in_default-clause-beginning : goal.returns-in_default-clause-beginning
returns-in_default-clause-beginning g c = rw c.reserve.ensures.items (told_first c.args.calls.now _ _ c.loop-call.call-index c.loop-call.answers.items _ c.loop-call.invariant.0)

pub returns-in_default-make_call-clause-beginning : goal.returns-in_default-make_call-clause-beginning
returns-in_default-make_call-clause-beginning g c = rw c.reserve.ensures.items (told_first c.args.calls.now _ _ c.loop-call.call-index c.loop-call.answers.items _ c.loop-call.invariant.0)

pub returns-clause-answers : goal.returns-clause-answers
returns-clause-answers g c _ = told_all c.args.calls.now _ _ c.loop-call.call-index c.loop-call.answers.items _ c.loop-call.invariant.0 (omega arith)

pub returns-clause-beginning : goal.returns-clause-beginning
returns-clause-beginning g c = told_first c.args.calls.now _ _ c.loop-call.call-index c.loop-call.answers.items _ c.loop-call.invariant.0

pub returns-in_default-clause-left : goal.returns-in_default-clause-left
returns-in_default-clause-left g c = rw c.reserve.ensures.items (left_after c.args.calls.now _ _ c.loop-call.call-index c.loop-call.answers.items _ c.loop-call.invariant.0)

pub returns-in_default-make_call-clause-left : goal.returns-in_default-make_call-clause-left
returns-in_default-make_call-clause-left g c =
    rw (c.reserve.ensures.items, c.in_default-make_call.ensures.stays) (left_after c.args.calls.now _ _ c.loop-call.call-index c.loop-call.answers.items _ c.loop-call.invariant.0)

pub returns-clause-left : goal.returns-clause-left
returns-clause-left g c = left_after c.args.calls.now _ _ c.loop-call.call-index c.loop-call.answers.items _ c.loop-call.invariant.0

pub returns-in_default-clause-complete : goal.returns-in_default-clause-complete
returns-in_default-clause-complete g c = rw c.reserve.ensures.items (not_all c.args.calls.now c.loop-call.call-index c.loop-call.answers.items c.loop-call.invariant.0.many (search rules))

pub returns-in_default-make_call-clause-complete : goal.returns-in_default-make_call-clause-complete
returns-in_default-make_call-clause-complete g c = rw c.reserve.ensures.items (not_all c.args.calls.now c.loop-call.call-index c.loop-call.answers.items c.loop-call.invariant.0.many (search rules))
