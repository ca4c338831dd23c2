use Rattle.std.proofs.Common.{◌≡◌, subst}
use Rattle.ii_store.specs.IndexMeta.{MetaState, meta_view}
use Rattle.ii_segment_store.specs.Commits.{LeavesOneIndex}
use Rattle.ii_segment_store.specs.Contents.{index_contents}
use Rattle.ii_segment_store.specs.Pending.{FollowsFlags}
use Rattle.ii_segment_store.proofs.CommitLaws.{holds_none, leaves_index}
use Rattle.ii_segment_store.proofs.PendingLaws.{followed_index, following_time}
use Rattle.ii_segment_store.proofs.pending.PendingSegments.delete.Goals as goal

pub returns-in-Some-clause-leaves_same : goal.returns-in-Some-clause-leaves_same
returns-in-Some-clause-leaves_same g c = λ known follows.
    let d = g.D.Directory in
    let old = c.args.directory.now in
    let wanted = index_contents (d.seen old) in
    leaves_index d.moment d.left_since d.seen old (λ f left. g.met.D.Directory.only_now old f known left) old wanted (holds_none d.moment d.left_since d.seen old wanted)

pub returns-in-Ok-clause-same : goal.returns-in-Ok-clause-same
returns-in-Ok-clause-same g c = λ known.
    let d = g.D.Directory in
    let old = d.seen c.args.directory.now in
    let new = d.seen c.write_deletes.new.directory in
    let m = meta_view c.self.inside.list in
    subst (λ (l : MetaState). FollowsFlags l old → index_contents new ≡ index_contents old) c.self.view_is (λ follows. followed_index m old new follows (c.in-Ok.ensures.keeps known))

pub returns-in-Ok-clause-leaves_same : goal.returns-in-Ok-clause-leaves_same
returns-in-Ok-clause-leaves_same g c = λ known.
    let d = g.D.Directory in
    let old = c.args.directory.now in
    let new = c.write_deletes.new.directory in
    let m = meta_view c.self.inside.list in
    let wanted = index_contents (d.seen old) in
    subst (λ (l : MetaState). FollowsFlags l (d.seen old) → LeavesOneIndex d.moment d.left_since d.seen old new wanted) c.self.view_is
    (λ follows. leaves_index d.moment d.left_since d.seen old (λ f left. g.met.D.Directory.only_now old f known left) new wanted
    (following_time d.moment d.left_since d.seen old new new m follows (c.write_deletes.ensures.time known)))

pub returns-in-Err-clause-leaves_same : goal.returns-in-Err-clause-leaves_same
returns-in-Err-clause-leaves_same g c = λ known.
    let d = g.D.Directory in
    let old = c.args.directory.now in
    let new = c.write_deletes.new.directory in
    let m = meta_view c.self.inside.list in
    let wanted = index_contents (d.seen old) in
    subst (λ (l : MetaState). FollowsFlags l (d.seen old) → LeavesOneIndex d.moment d.left_since d.seen old new wanted) c.self.view_is
    (λ follows. leaves_index d.moment d.left_since d.seen old (λ f left. g.met.D.Directory.only_now old f known left) new wanted
    (following_time d.moment d.left_since d.seen old new new m follows (c.write_deletes.ensures.time known)))
