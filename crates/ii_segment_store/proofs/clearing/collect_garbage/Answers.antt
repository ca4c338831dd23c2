use Rattle.std.proofs.Common.{inl}
use Rattle.ii_directory.proofs.Elapsing.{elapses_implies}
use Rattle.ii_store.specs.Collect.{KeepsOthers}
use Rattle.ii_store.specs.IndexMeta.{meta_view}
use Rattle.ii_segment_store.specs.Commits.{HoldsOldOr}
use Rattle.ii_segment_store.specs.Contents.{index_contents}
use Rattle.ii_segment_store.proofs.ClearLaws.{garbage_same}
use Rattle.ii_segment_store.proofs.CommitLaws.{holds_none, leaves_index}
use Rattle.ii_segment_store.proofs.clearing.collect_garbage.Goals as goal

pub returns-in-Err-clause-leaves_same : goal.returns-in-Err-clause-leaves_same
returns-in-Err-clause-leaves_same g c = λ known.
    let d = g.D.Directory in
    let old = c.args.directory.now in
    let wanted = index_contents (d.seen old) in
    leaves_index d.moment d.left_since d.seen old (λ f left. g.met.D.Directory.only_now old f known left) old wanted (holds_none d.moment d.left_since d.seen old wanted)

pub returns-in-Ok-collect-clause-same : goal.returns-in-Ok-collect-clause-same
returns-in-Ok-collect-clause-same g c = λ known.
    let d = g.D.Directory in
    let m = meta_view c.in-Ok.list in
    garbage_same m (d.seen c.args.directory.now) (d.seen c.collect.new.directory) (c.in-Ok.ensures.answers known) (c.in-Ok-collect.ensures.keeps known m (c.in-Ok.ensures.answers known))

pub returns-in-Ok-collect-clause-leaves_same : goal.returns-in-Ok-collect-clause-leaves_same
returns-in-Ok-collect-clause-leaves_same g c = λ known.
    let d = g.D.Directory in
    let old = c.args.directory.now in
    let new = c.collect.new.directory in
    let m = meta_view c.in-Ok.list in
    let time = elapses_implies d.moment d.left_since old new (KeepsOthers m (d.seen old)) (HoldsOldOr (index_contents (d.seen old)) (d.seen old)) (c.collect.ensures.leaves_others known m (c.in-Ok.ensures.answers known))
    (λ f kept. inl (garbage_same m (d.seen old) f (c.in-Ok.ensures.answers known) kept)) in
    leaves_index d.moment d.left_since d.seen old (λ f left. g.met.D.Directory.only_now old f known left) new (index_contents (d.seen old)) time

pub returns-in-Err-collect-clause-leaves_same : goal.returns-in-Err-collect-clause-leaves_same
returns-in-Err-collect-clause-leaves_same g c = λ known.
    let d = g.D.Directory in
    let old = c.args.directory.now in
    let new = c.collect.new.directory in
    let m = meta_view c.in-Ok.list in
    let time = elapses_implies d.moment d.left_since old new (KeepsOthers m (d.seen old)) (HoldsOldOr (index_contents (d.seen old)) (d.seen old)) (c.collect.ensures.leaves_others known m (c.in-Ok.ensures.answers known))
    (λ f kept. inl (garbage_same m (d.seen old) f (c.in-Ok.ensures.answers known) kept)) in
    leaves_index d.moment d.left_since d.seen old (λ f left. g.met.D.Directory.only_now old f known left) new (index_contents (d.seen old)) time
