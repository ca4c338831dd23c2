use Rattle.std.proofs.Common.{subst, sym, take}
use Rattle.std.proofs.lemmas.List.{take_more}
use Rattle.ii_store.specs.IndexMeta.{meta_view}
use Rattle.ii_store.proofs.CollectLaws.{IsCollecting, collecting_goes_on, counted_more}
use Rattle.ii_store.proofs.collect.remove_garbage.Goals as goal

pub loop-name-preserved : goal.loop-name-preserved
loop-name-preserved g c =
    let d = g.D.Directory in
    let m = meta_view c.args.meta.now in
    let i = c.loop-name.name-index in
    let names = c.args.names.now in
    record {
      counted = counted_more m names i _ c.loop-name.removed c.in_ok-count.count c.loop-name-test.true c.loop-name.invariant.counted c.in_ok-count.ensures.count;
      still = λ may. c.loop-name.invariant.still (c.remove_unlisted.ensures.obeys.still may);
      collecting = λ known.
          let so_far = c.loop-name.invariant.collecting known in
          subst (λ ns. IsCollecting d.moment d.left_since d.is_known d.seen m ns c.args.directory.now c.remove_unlisted.new.directory) (sym (take_more names i _ c.loop-name-test.true))
          (collecting_goes_on d.moment d.left_since d.is_known d.seen m (take i names) _ c.args.directory.now c.loop-name.directory c.remove_unlisted.new.directory so_far
          (c.in_ok-count.ensures.known so_far.known) (c.in_ok-count.ensures.removed so_far.known) (c.in_ok-count.ensures.time so_far.known));
    }
