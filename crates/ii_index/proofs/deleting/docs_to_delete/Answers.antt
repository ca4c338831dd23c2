use Rattle.std.proofs.Common.{◌≡◌, ◌∙◌, [], List, ℕ, ap, arith, inr, length, map}
use Rattle.std.specs.Prelude.{Vec, slice_get}
use Rattle.std.specs.declared.alloc.Global.{Global}
use Rattle.std.proofs.lemmas.List.{nil_from_length}
use Rattle.ii_segment_store.specs.Contents.{segment_contents}
use Rattle.ii_index.proofs.ReachLemmas.{deleting_ended, deleting_next, next_place}
use Rattle.ii_index.proofs.deleting.docs_to_delete.Goals as goal

pub loop-segment-preserved : goal.loop-segment-preserved
loop-segment-preserved c =
    deleting_next c.args.schema.now c.args.deletes.now c.args.segments.items c.loop-segment.yielded c.loop-segment.segment-iterator.rest.items c.next.new.self.rest.items c.loop-segment.all.items c.push.new.self.items c.in-Some.segment c.in-Ok.docs
    c.in-Some.ensures.steps.0 c.in_ok-push.ensures.items c.in-Ok.ensures.docs c.loop-segment.invariant

pub returns-clause-docs : goal.returns-clause-docs
returns-clause-docs c =
    let rest = c.loop-segment.segment-iterator.rest in
    let none : rest.items ≡ [] = nil_from_length rest.items (omega (arith, rest.ok, c.in-None.ensures.steps.0)) in
    deleting_ended c.args.schema.now c.args.deletes.now c.args.segments.items c.loop-segment.yielded rest.items c.loop-segment.all.items none c.loop-segment.invariant

pub returns-in-Err-clause-fault : goal.returns-in-Err-clause-fault
returns-in-Err-clause-fault c =
    let here = next_place c.args.schema.now c.args.deletes.now c.args.segments.items c.loop-segment.yielded c.loop-segment.segment-iterator.rest.items c.next.new.self.rest.items c.loop-segment.all.items c.in-Some.segment c.in-Some.ensures.steps.0 c.loop-segment.invariant in
    inr (length c.as_slice-place.result.now, segment_contents c.in-Some.segment, ap (λ (ls : List (Vec ℕ Global)). slice_get (map segment_contents c.args.segments.items) (length ls)) c.as_slice-place.ensures.value ∙ here, c.in-Err.ensures.fault)
