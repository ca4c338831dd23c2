use Rattle.std.proofs.Common.{◌≡◌, ℕ, ap, arith, length, rules}
use Rattle.std.specs.Prelude.{not}
use Rattle.std.specs.List.{AllZip}
use Rattle.ii_docset.specs.Intersection.{has_doc}
use Rattle.ii_query.specs.Combined.{without}
use Rattle.ii_query.proofs.HintLemmas.{picked_short, stands_within}
use Rattle.ii_query.proofs.PickedLemmas.{picked_at}
use Rattle.ii_query.proofs.WorkLemmas.{all_beside}
use Rattle.ii_query.proofs.query_cursor.QueryCursor.without.Goals as goal

pub returns-clause-work : goal.returns-clause-work
returns-clause-work g c =
    let one : AllZip g.T.DocSet.went c.args.first.cursors c.leave_out-doc.new.first.cursors = search rules in
    let two : AllZip g.T.DocSet.went c.args.other.cursors c.leave_out-doc.new.other.cursors = search rules in
    all_beside g.T.DocSet.went c.args.first.cursors c.args.other.cursors c.leave_out-doc.new.first.cursors c.leave_out-doc.new.other.cursors one two

pub invariant_of-result : goal.invariant_of-result
invariant_of-result g c =
    let first = c.leave_out-doc.new.first.rest in
    let holds = λ (d : ℕ). not (has_doc c.leave_out-doc.new.other.rest d) in
    let met : without first c.leave_out-doc.new.other.rest ≡ without c.args.first.rest c.args.other.rest = search rules in
    let few = picked_short (λ (d : ℕ). not (has_doc c.args.other.rest d)) c.args.first.rest in
    let low = c.bound-hint.ensures.enough in
    let long = ap length met in
    stands_within c.leave_out-doc.result c.bound-hint.result (without first c.leave_out-doc.new.other.rest) (picked_at holds first c.leave_out-doc.result c.leave_out-doc.ensures.at c.leave_out-doc.ensures.doc) (omega (arith, few, low, long))
