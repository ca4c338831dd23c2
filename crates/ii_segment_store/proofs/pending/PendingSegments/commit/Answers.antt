use Rattle.std.proofs.Common.{◌≡◌, subst}
use Rattle.ii_directory.proofs.Elapsing.{elapses_implies}
use Rattle.ii_store.specs.IndexMeta.{MetaState, meta_view}
use Rattle.ii_store.specs.Segments.{MayBeReplaced}
use Rattle.ii_segment_store.specs.Commits.{HoldsOldOr, LeavesOneIndex}
use Rattle.ii_segment_store.specs.Contents.{index_contents, list_contents}
use Rattle.ii_segment_store.proofs.CommitLaws.{holds_none, leaves_index}
use Rattle.ii_segment_store.proofs.ListLaws.{replaced_contents, replaced_or_not}
use Rattle.ii_segment_store.proofs.pending.PendingSegments.commit.Goals as goal

pub returns-then-not-is_valid-clause-leaves_one : goal.returns-then-not-is_valid-clause-leaves_one
returns-then-not-is_valid-clause-leaves_one g c = λ known.
    let d = g.D.Directory in
    let old = c.args.directory.now in
    let wanted = list_contents c.args.self (d.seen old) in
    leaves_index d.moment d.left_since d.seen old (λ f left. g.met.D.Directory.only_now old f known left) old wanted (holds_none d.moment d.left_since d.seen old wanted)

pub returns-in-Ok-clause-committed : goal.returns-in-Ok-clause-committed
returns-in-Ok-clause-committed g c = λ known.
    let d = g.D.Directory in
    let old = d.seen c.args.directory.now in
    let new = d.seen c.replace_list.new.directory in
    let m = meta_view c.self.inside.list in
    subst (λ (l : MetaState). index_contents new ≡ list_contents l old) c.self.view_is (replaced_contents m m.generation old new (c.in-Ok.ensures.listed known) (c.in-Ok.ensures.keeps known))

pub returns-in-Ok-clause-leaves_one : goal.returns-in-Ok-clause-leaves_one
returns-in-Ok-clause-leaves_one g c = λ known.
    let d = g.D.Directory in
    let old = c.args.directory.now in
    let new = c.replace_list.new.directory in
    let m = meta_view c.self.inside.list in
    let time = elapses_implies d.moment d.left_since old new (MayBeReplaced m (d.seen old)) (HoldsOldOr (list_contents m (d.seen old)) (d.seen old)) (c.replace_list.ensures.time known) (λ f may. replaced_or_not m m.generation (d.seen old) f may) in
    subst (λ (l : MetaState). LeavesOneIndex d.moment d.left_since d.seen old new (list_contents l (d.seen old))) c.self.view_is
    (leaves_index d.moment d.left_since d.seen old (λ f left. g.met.D.Directory.only_now old f known left) new (list_contents m (d.seen old)) time)

pub returns-clause-leaves_one : goal.returns-clause-leaves_one
returns-clause-leaves_one g c = λ known.
    let d = g.D.Directory in
    let old = c.args.directory.now in
    let new = c.replace_list.new.directory in
    let m = meta_view c.self.inside.list in
    let time = elapses_implies d.moment d.left_since old new (MayBeReplaced m (d.seen old)) (HoldsOldOr (list_contents m (d.seen old)) (d.seen old)) (c.replace_list.ensures.time known) (λ f may. replaced_or_not m m.generation (d.seen old) f may) in
    subst (λ (l : MetaState). LeavesOneIndex d.moment d.left_since d.seen old new (list_contents l (d.seen old))) c.self.view_is
    (leaves_index d.moment d.left_since d.seen old (λ f left. g.met.D.Directory.only_now old f known left) new (list_contents m (d.seen old)) time)
