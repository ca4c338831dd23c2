use Rattle.std.proofs.Common.{◌≡◌, ◌+◌, ◌≤◌, ap, arith, length, rules, sym, ◌∙◌}
use Rattle.ii_docset.specs.Cursor.{doc_at}
use Rattle.ii_query.specs.Combined.{StandsAt, union_of}
use Rattle.ii_query.specs.QueryCursor.{WentTo, rest_of, rests}
use Rattle.ii_query.proofs.HintLemmas.{from_doc_short, stands_within}
use Rattle.ii_query.proofs.UnionLemmas.{next_from, nothing_next}
use Rattle.ii_query.specs.WorkLaws.{none_went}
use Rattle.ii_query.proofs.PartsLemmas.{union_from, union_next, work_under}
use Rattle.std.specs.List.{AllZip}
use Rattle.ii_query.proofs.WorkLemmas.{all_beside}
use Rattle.ii_query.proofs.query_cursor.QueryCursorDocSet.advance.Goals as goal

pub returns-then-doc-ge-TERMINATED-clause-rest : goal.returns-then-doc-ge-TERMINATED-clause-rest
returns-then-doc-ge-TERMINATED-clause-rest g c =
    nothing_next c.args.self.now.rest c.current-doc.result c.current-doc.ensures.sound c.current-doc.ensures.doc c.if-doc-ge-TERMINATED.true

pub returns-clause-rest : goal.returns-clause-rest
returns-clause-rest g c =
    let es = rest_of g.T.DocSet.rest c.self.inside.parts in
    let here : c.current-doc.result ≡ doc_at es = search rules in
    rw (← c.self.view_is) (c.go_on.ensures.rest ∙ sym (next_from c.current-doc.result es c.self.invariant.sound.ascending here c.if-doc-ge-TERMINATED.false))

pub returns-then-doc-ge-TERMINATED-clause-work : goal.returns-then-doc-ge-TERMINATED-clause-work
returns-then-doc-ge-TERMINATED-clause-work g c = none_went g.T.DocSet.went g.met.T.DocSet.went_nowhere c.args.self.now.cursors

pub returns-in-Union-clause-rest : goal.returns-in-Union-clause-rest
returns-in-Union-clause-rest g c =
    let cs = c.in-Union.parts.items in
    let at : StandsAt c.current-doc.result (union_of (rests cs)) = search rules in
    rw (← c.self.view_is, c.in-Union.is) (union_next g.T.DocSet.went c.current-doc.result cs c.go_to_each-next.new.parts.items at c.if-doc-ge-TERMINATED.false c.go_to_each-next.ensures.went)

pub returns-in-Union-clause-work : goal.returns-in-Union-clause-work
returns-in-Union-clause-work g c =
    rw (← c.self.view_is, c.in-Union.is)
    (work_under g.T.DocSet.went (WentTo g.T.DocSet.went (c.current-doc.result + 1)) (λ o n w. w.work) c.in-Union.parts.items c.go_to_each-next.new.parts.items c.go_to_each-next.ensures.went)

pub returns-in-Either-clause-work : goal.returns-in-Either-clause-work
returns-in-Either-clause-work g c =
    let first : AllZip g.T.DocSet.went c.in-Either.first.value.cursors c.pass_either-next.new.first.cursors = search rules in
    let other : AllZip g.T.DocSet.went c.in-Either.other.value.cursors c.pass_either-next.new.other.cursors = search rules in
    rw (← c.self.view_is, c.in-Either.is)
    (all_beside g.T.DocSet.went c.in-Either.first.value.cursors c.in-Either.other.value.cursors c.pass_either-next.new.first.cursors c.pass_either-next.new.other.cursors first other)

pub invariant_of-self-in-Union : goal.invariant_of-self-in-Union
invariant_of-self-in-Union g c =
    let cs = c.in-Union.parts.items in
    let news = c.go_to_each-next.new.parts.items in
    let low : length (union_of (rests cs)) ≤ c.self.inside.hint = rw (c.in-Union.is) at c.self.invariant.enough in
    let few = from_doc_short (c.current-doc.result + 1) (union_of (rests cs)) in
    let long = ap length (union_from g.T.DocSet.went (c.current-doc.result + 1) cs news c.go_to_each-next.ensures.went) in
    stands_within c.go_to_each-next.result c.self.inside.hint (union_of (rests news)) c.go_to_each-next.ensures.at (omega (arith, low, few, long))
