use Rattle.std.proofs.Common.{◌≡◌, take}
use Rattle.ii_docset.specs.Calls.{counts_asked, num_asked}
use Rattle.ii_docset.proofs.WalkLemmas.{IsWalking}
use Rattle.ii_docset.proofs.walking.walk.Given as goal

abbrev pub invariant-loop-call : goal.invariant-loop-call
invariant-loop-call g l =
    let one = g.P.DocSet.always_one in
    let rest = g.P.DocSet.rest in
    IsWalking l.calls (one l.fn.cursor) (rest l.fn.cursor) l.call-index l.answers.items (rest l.cursor)
    × (one l.cursor ≡ one l.fn.cursor) × g.P.Postings.spent (num_asked (take l.call-index l.calls)) (counts_asked (take l.call-index l.calls) (one l.fn.cursor) (rest l.fn.cursor)) l.fn.cursor l.cursor
