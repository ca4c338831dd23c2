use Rattle.std.proofs.Common.{◌∙◌, ◌++◌, List, Option, ap, length, subst, sym, IfSome}
use Rattle.std.specs.List.{AllByRecursion}
use Rattle.ii_block_file.specs.declared.block_file.BlockFile.{BlockFile}
use Rattle.ii_block_file.specs.ListedFile.{HasKnownBytes}
use Rattle.ii_segment_store.specs.declared.segment_source.SegmentSource.{SegmentSource}
use Rattle.ii_segment_store.specs.Sources.{HasKnownStore}
use Rattle.nequllpa_merging.specs.StoredDocuments.{KnowsStore}
use Rattle.nequllpa_merging.proofs.LoopLemmas.{all_at, all_more, opening_goes_on, opening_refused}
use Rattle.nequllpa_merging.proofs.MergedLemmas.{stored_goes_on, stored_same}
use Rattle.nequllpa_merging.proofs.opening.open_segments.Goals as goal

pub loop-segment-preserved : goal.loop-segment-preserved
loop-segment-preserved g c =
    let bytes = g.F.ReadAt.bytes in
    let x = c.in-Some.segment in
    let y = c.in-Ok.open in
    let before = c.loop-segment.opened.items in
    record {
      opening = opening_goes_on bytes c.args.schema.now c.args.segments.items c.loop-segment.yielded c.loop-segment.segment-iterator.rest.items c.next.new.self.rest.items before c.push.new.self.items x y c.in-Some.ensures.steps.0 c.in_ok-push.ensures.items
          c.in-Ok.ensures.ok c.loop-segment.invariant.opening;
      stored = stored_goes_on bytes c.loop-segment.yielded before c.push.new.self.items x y c.in_ok-push.ensures.items (stored_same bytes x y c.in-Ok.ensures.stored) c.loop-segment.invariant.stored;
      known = λ all.
          let taken = subst (AllByRecursion (HasKnownStore bytes)) (sym c.loop-segment.invariant.opening.whole ∙ ap (λ (r : List (SegmentSource _)). c.loop-segment.yielded ++ r) c.in-Some.ensures.steps.0) all in
          let one = all_at (HasKnownStore bytes) c.loop-segment.yielded x c.next.new.self.rest.items taken in
          let own = subst (λ (o : Option (BlockFile _)). IfSome o (HasKnownBytes bytes)) (sym c.in-Ok.ensures.stored.0) one in
          subst (AllByRecursion (KnowsStore bytes)) (sym c.in_ok-push.ensures.items) (all_more (KnowsStore bytes) before y (c.loop-segment.invariant.known all) own);
    }

pub returns-in-Err-clause-fault : goal.returns-in-Err-clause-fault
returns-in-Err-clause-fault g c =
    opening_refused g.F.ReadAt.bytes c.args.schema.now c.args.segments.items c.loop-segment.yielded c.loop-segment.segment-iterator.rest.items c.next.new.self.rest.items c.loop-segment.opened.items c.in-Some.segment (length c.as_slice-place.result.now) c.in-Err.fault
    c.segment_fault.result c.in-Some.ensures.steps.0 (ap length c.as_slice-place.ensures.value) c.in-Err.ensures.err c.segment_fault.ensures.damaged c.segment_fault.ensures.memory c.loop-segment.invariant.opening
