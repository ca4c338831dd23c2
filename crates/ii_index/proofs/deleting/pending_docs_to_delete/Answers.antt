use Rattle.std.proofs.Common.{◌≡◌, ◌+◌, [], ap, arith, inr, length, min}
use Rattle.std.proofs.lemmas.List.{nil_from_length}
use Rattle.ii_segment_store.specs.Contents.{segment_contents}
use Rattle.ii_index.proofs.ReachLemmas.{next_holds, pending_ended, pending_next}
use Rattle.ii_index.proofs.deleting.pending_docs_to_delete.Goals as goal

pub loop-segment-preserved : goal.loop-segment-preserved
loop-segment-preserved c =
    let next : c.saturating_add-base.result ≡ min 4294967295 (c.loop-segment.base + length c.in-Some.segment.alive) = omega (arith, c.saturating_add-base.ensures, c.num_docs.ensures, ap length c.alive.view_is) in
    pending_next c.args.schema.now c.args.deletes.now c.args.segments.items c.loop-segment.yielded c.loop-segment.segment-iterator.rest.items c.next.new.self.rest.items c.loop-segment.base c.saturating_add-base.result c.loop-segment.all.items c.push.new.self.items c.in-Some.segment c.in-Ok.docs
    c.in-Some.ensures.steps.0 c.in_ok-push.ensures.items next (c.in-Ok.ensures.reached c.in-Some.segment.alive) c.loop-segment.invariant

pub returns-clause-docs : goal.returns-clause-docs
returns-clause-docs c = λ ss written few.
    let rest = c.loop-segment.segment-iterator.rest in
    let none : rest.items ≡ [] = nil_from_length rest.items (omega (arith, rest.ok, c.in-None.ensures.steps.0)) in
    pending_ended c.args.schema.now c.args.deletes.now c.args.segments.items c.loop-segment.yielded rest.items c.loop-segment.base c.loop-segment.all.items ss none written few c.loop-segment.invariant

pub returns-in-Err-clause-fault : goal.returns-in-Err-clause-fault
returns-in-Err-clause-fault c = λ ss written.
    let held = next_holds c.args.schema.now c.args.deletes.now c.args.segments.items c.loop-segment.yielded c.loop-segment.segment-iterator.rest.items c.next.new.self.rest.items c.loop-segment.base c.loop-segment.all.items c.in-Some.segment ss c.in-Some.ensures.steps.0 written c.loop-segment.invariant in
    inr (segment_contents c.in-Some.segment, held.0, held.1, c.loop-segment.base, c.in-Err.ensures.err c.in-Some.segment.alive)
