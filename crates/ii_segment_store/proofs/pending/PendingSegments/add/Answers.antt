use Rattle.std.proofs.Common.{◌≡◌, ◌∙◌, ap, refl, subst, sym}
use Rattle.ii_store.specs.IndexMeta.{MetaState, meta_view}
use Rattle.ii_segment_store.specs.Commits.{HaveIdsBelow, KeepsButSegment, LeavesOneIndex}
use Rattle.ii_segment_store.specs.Contents.{files_contents, index_contents, list_contents, with_segment}
use Rattle.ii_segment_store.specs.Pending.{FollowsFlags, IsPending, with_listed}
use Rattle.ii_segment_store.proofs.CommitLaws.{holds_none, leaves_index}
use Rattle.ii_segment_store.proofs.PendingLaws.{stays_following, stays_pending, written_contents, written_same, written_time}
use Rattle.ii_segment_store.proofs.pending.PendingSegments.add.Goals as goal

pub returns-in-Err-clause-leaves_same : goal.returns-in-Err-clause-leaves_same
returns-in-Err-clause-leaves_same g c = λ known pending.
    let d = g.D.Directory in
    let old = c.args.directory.now in
    let wanted = index_contents (d.seen old) in
    leaves_index d.moment d.left_since d.seen old (λ f left. g.met.D.Directory.only_now old f known left) old wanted (holds_none d.moment d.left_since d.seen old wanted)

pub returns-in_err-tables-clause-leaves_same : goal.returns-in_err-tables-clause-leaves_same
returns-in_err-tables-clause-leaves_same g c = λ known pending.
    let d = g.D.Directory in
    let old = c.args.directory.now in
    let wanted = index_contents (d.seen old) in
    leaves_index d.moment d.left_since d.seen old (λ f left. g.met.D.Directory.only_now old f known left) old wanted (holds_none d.moment d.left_since d.seen old wanted)

pub returns-in_err-listed-clause-leaves_same : goal.returns-in_err-listed-clause-leaves_same
returns-in_err-listed-clause-leaves_same g c = λ known pending.
    let d = g.D.Directory in
    let old = c.args.directory.now in
    let wanted = index_contents (d.seen old) in
    leaves_index d.moment d.left_since d.seen old (λ f left. g.met.D.Directory.only_now old f known left) old wanted (holds_none d.moment d.left_since d.seen old wanted)

pub returns-in-Ok-write_segment-clause-holds : goal.returns-in-Ok-write_segment-clause-holds
returns-in-Ok-write_segment-clause-holds g c = λ known.
    let d = g.D.Directory in
    let old = d.seen c.args.directory.now in
    let new = d.seen c.write_segment.new.directory in
    let m = meta_view c.self.inside.list in
    let s = files_contents c.args.segment.now in
    let written = c.in-Ok-write_segment.ensures in
    subst (λ (l : MetaState). HaveIdsBelow l.next_segment_id l.segments → list_contents (meta_view c.in-Ok.list) new ≡ with_segment s (list_contents l old)) c.self.view_is
    (λ below. subst (λ (n : MetaState). list_contents n new ≡ with_segment s (list_contents m old)) (sym (c.in-Ok.ensures.next ∙ ap (with_listed m) c.in_ok-listed.ensures)) (written_contents m s old new (written.keeps known) below refl (written.there known)))

pub returns-in-Ok-write_segment-clause-pending : goal.returns-in-Ok-write_segment-clause-pending
returns-in-Ok-write_segment-clause-pending g c = λ known.
    let d = g.D.Directory in
    let old = d.seen c.args.directory.now in
    let new = d.seen c.write_segment.new.directory in
    let m = meta_view c.self.inside.list in
    let s = files_contents c.args.segment.now in
    subst (λ (l : MetaState). IsPending l old → IsPending (meta_view c.in-Ok.list) new) c.self.view_is
    (λ pending. subst (λ (n : MetaState). IsPending n new) (sym (c.in-Ok.ensures.next ∙ ap (with_listed m) c.in_ok-listed.ensures)) (stays_pending m s old new (c.in-Ok-write_segment.ensures.keeps known) pending))

pub returns-in-Ok-write_segment-clause-same : goal.returns-in-Ok-write_segment-clause-same
returns-in-Ok-write_segment-clause-same g c = λ known.
    let d = g.D.Directory in
    let old = d.seen c.args.directory.now in
    let new = d.seen c.write_segment.new.directory in
    let m = meta_view c.self.inside.list in
    subst (λ (l : MetaState). IsPending l old → index_contents new ≡ index_contents old) c.self.view_is
    (λ pending. written_same m (files_contents c.args.segment.now) old new (c.in-Ok-write_segment.ensures.keeps known) pending)

pub returns-in-Ok-write_segment-clause-keeps : goal.returns-in-Ok-write_segment-clause-keeps
returns-in-Ok-write_segment-clause-keeps g c = λ known.
    let d = g.D.Directory in
    subst (λ (l : MetaState). KeepsButSegment l.next_segment_id (d.seen c.args.directory.now) (d.seen c.write_segment.new.directory)) c.self.view_is (c.in-Ok-write_segment.ensures.keeps known)

pub returns-in-Ok-write_segment-clause-leaves_same : goal.returns-in-Ok-write_segment-clause-leaves_same
returns-in-Ok-write_segment-clause-leaves_same g c = λ known.
    let d = g.D.Directory in
    let old = c.args.directory.now in
    let new = c.write_segment.new.directory in
    let m = meta_view c.self.inside.list in
    let wanted = index_contents (d.seen old) in
    subst (λ (l : MetaState). IsPending l (d.seen old) → LeavesOneIndex d.moment d.left_since d.seen old new wanted) c.self.view_is
    (λ pending. leaves_index d.moment d.left_since d.seen old (λ f left. g.met.D.Directory.only_now old f known left) new wanted
    (written_time d.moment d.left_since d.seen old new new m (files_contents c.args.segment.now) pending (c.write_segment.ensures.time known)))

pub returns-clause-leaves_same : goal.returns-clause-leaves_same
returns-clause-leaves_same g c = λ known.
    let d = g.D.Directory in
    let old = c.args.directory.now in
    let new = c.write_segment.new.directory in
    let m = meta_view c.self.inside.list in
    let wanted = index_contents (d.seen old) in
    subst (λ (l : MetaState). IsPending l (d.seen old) → LeavesOneIndex d.moment d.left_since d.seen old new wanted) c.self.view_is
    (λ pending. leaves_index d.moment d.left_since d.seen old (λ f left. g.met.D.Directory.only_now old f known left) new wanted
    (written_time d.moment d.left_since d.seen old new new m (files_contents c.args.segment.now) pending (c.write_segment.ensures.time known)))

pub returns-in-Ok-write_segment-clause-follows : goal.returns-in-Ok-write_segment-clause-follows
returns-in-Ok-write_segment-clause-follows g c = λ known.
    let d = g.D.Directory in
    let old = d.seen c.args.directory.now in
    let new = d.seen c.write_segment.new.directory in
    let m = meta_view c.self.inside.list in
    let s = files_contents c.args.segment.now in
    subst (λ (l : MetaState). FollowsFlags l old → FollowsFlags (meta_view c.in-Ok.list) new) c.self.view_is
    (λ follows. subst (λ (n : MetaState). FollowsFlags n new) (sym (c.in-Ok.ensures.next ∙ ap (with_listed m) c.in_ok-listed.ensures)) (stays_following m s old new (c.in-Ok-write_segment.ensures.keeps known) follows))
