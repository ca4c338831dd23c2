use Rattle.std.proofs.Common.{inl}
use Rattle.ii_store.specs.IndexMeta.{meta_view}
use Rattle.ii_directory.proofs.Elapsing.{elapses_implies}
use Rattle.ii_segment_store.specs.Commits.{HoldsOldOr, KeepsButSlots}
use Rattle.ii_segment_store.specs.Contents.{index_contents}
use Rattle.ii_segment_store.proofs.ClearLaws.{slots_same}
use Rattle.ii_segment_store.proofs.CommitLaws.{holds_none, leaves_index}
use Rattle.ii_segment_store.proofs.clearing.remove_slots.Goals as goal

pub returns-in-Err-clause-leaves_same : goal.returns-in-Err-clause-leaves_same
returns-in-Err-clause-leaves_same g c = λ known.
    let d = g.D.Directory in
    let old = c.args.directory.now in
    let wanted = index_contents (d.seen old) in
    leaves_index d.moment d.left_since d.seen old (λ f left. g.met.D.Directory.only_now old f known left) old wanted (holds_none d.moment d.left_since d.seen old wanted)

pub returns-in-Ok-remove_both-clause-same : goal.returns-in-Ok-remove_both-clause-same
returns-in-Ok-remove_both-clause-same g c = λ known.
    let d = g.D.Directory in
    slots_same (meta_view c.in-Ok.list) (d.seen c.args.directory.now) (d.seen c.remove_both.new.directory) (c.in-Ok.ensures.answers known) (c.in-Ok-remove_both.ensures.keeps known)

pub returns-in-Ok-remove_both-clause-leaves_same : goal.returns-in-Ok-remove_both-clause-leaves_same
returns-in-Ok-remove_both-clause-leaves_same g c = λ known.
    let d = g.D.Directory in
    let old = c.args.directory.now in
    let new = c.remove_both.new.directory in
    let time = elapses_implies d.moment d.left_since old new (KeepsButSlots (d.seen old)) (HoldsOldOr (index_contents (d.seen old)) (d.seen old)) (c.remove_both.ensures.time known)
    (λ f kept. inl (slots_same (meta_view c.in-Ok.list) (d.seen old) f (c.in-Ok.ensures.answers known) kept)) in
    leaves_index d.moment d.left_since d.seen old (λ f left. g.met.D.Directory.only_now old f known left) new (index_contents (d.seen old)) time

pub returns-in-Err-remove_both-clause-leaves_same : goal.returns-in-Err-remove_both-clause-leaves_same
returns-in-Err-remove_both-clause-leaves_same g c = λ known.
    let d = g.D.Directory in
    let old = c.args.directory.now in
    let new = c.remove_both.new.directory in
    let time = elapses_implies d.moment d.left_since old new (KeepsButSlots (d.seen old)) (HoldsOldOr (index_contents (d.seen old)) (d.seen old)) (c.remove_both.ensures.time known)
    (λ f kept. inl (slots_same (meta_view c.in-Ok.list) (d.seen old) f (c.in-Ok.ensures.answers known) kept)) in
    leaves_index d.moment d.left_since d.seen old (λ f left. g.met.D.Directory.only_now old f known left) new (index_contents (d.seen old)) time
