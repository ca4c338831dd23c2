use Rattle.std.proofs.Common.{◌≡◌, ◌∙◌, ap, refl, subst, sym}
use Rattle.ii_store.specs.IndexMeta.{MetaState, meta_view}
use Rattle.ii_segment_store.specs.Commits.{HaveIdsBelow, LeavesOneIndex}
use Rattle.ii_segment_store.specs.Contents.{index_contents, list_contents, with_segment}
use Rattle.ii_segment_store.specs.NewSegments.{new_contents}
use Rattle.ii_segment_store.specs.Pending.{IsPending, with_listed}
use Rattle.ii_segment_store.proofs.CommitLaws.{leaves_index}
use Rattle.ii_segment_store.proofs.PendingLaws.{written_contents, written_same, written_time}
use Rattle.ii_segment_store.proofs.pending.PendingSegments.add_new.Goals as goal

pub returns-in-Ok-with_listed-clause-holds : goal.returns-in-Ok-with_listed-clause-holds
returns-in-Ok-with_listed-clause-holds g c = λ known.
    let d = g.D.Directory in
    let old = d.seen c.args.directory.now in
    let new = d.seen c.finish_segment.new.directory in
    let m = meta_view c.self.inside.list in
    let s = new_contents c.args.segment in
    let written = c.in-Ok.ensures in
    subst (λ (l : MetaState). HaveIdsBelow l.next_segment_id l.segments → list_contents (meta_view c.in-Ok-with_listed.list) new ≡ with_segment s (list_contents l old)) c.self.view_is
    (λ below. subst (λ (n : MetaState). list_contents n new ≡ with_segment s (list_contents m old)) (sym (c.in-Ok-with_listed.ensures.next ∙ ap (with_listed m) (c.in-Ok.ensures.listed known))) (written_contents m s old new (written.keeps known) below refl (written.there known)))

pub returns-in-Ok-with_listed-clause-same : goal.returns-in-Ok-with_listed-clause-same
returns-in-Ok-with_listed-clause-same g c = λ known.
    let d = g.D.Directory in
    let old = d.seen c.args.directory.now in
    let new = d.seen c.finish_segment.new.directory in
    let m = meta_view c.self.inside.list in
    subst (λ (l : MetaState). IsPending l old → index_contents new ≡ index_contents old) c.self.view_is
    (λ pending. written_same m (new_contents c.args.segment) old new (c.in-Ok.ensures.keeps known) pending)

pub returns-in-Ok-with_listed-clause-leaves_same : goal.returns-in-Ok-with_listed-clause-leaves_same
returns-in-Ok-with_listed-clause-leaves_same g c = λ known.
    let d = g.D.Directory in
    let old = c.args.directory.now in
    let new = c.finish_segment.new.directory in
    let m = meta_view c.self.inside.list in
    let wanted = index_contents (d.seen old) in
    subst (λ (l : MetaState). IsPending l (d.seen old) → LeavesOneIndex d.moment d.left_since d.seen old new wanted) c.self.view_is
    (λ pending. leaves_index d.moment d.left_since d.seen old (λ f left. g.met.D.Directory.only_now old f known left) new wanted
    (written_time d.moment d.left_since d.seen old new new m (new_contents c.args.segment) pending (c.finish_segment.ensures.time known)))

pub returns-in-Err-clause-leaves_same : goal.returns-in-Err-clause-leaves_same
returns-in-Err-clause-leaves_same g c = λ known.
    let d = g.D.Directory in
    let old = c.args.directory.now in
    let new = c.finish_segment.new.directory in
    let m = meta_view c.self.inside.list in
    let wanted = index_contents (d.seen old) in
    subst (λ (l : MetaState). IsPending l (d.seen old) → LeavesOneIndex d.moment d.left_since d.seen old new wanted) c.self.view_is
    (λ pending. leaves_index d.moment d.left_since d.seen old (λ f left. g.met.D.Directory.only_now old f known left) new wanted
    (written_time d.moment d.left_since d.seen old new new m (new_contents c.args.segment) pending (c.finish_segment.ensures.time known)))

pub returns-in-Err-with_listed-clause-leaves_same : goal.returns-in-Err-with_listed-clause-leaves_same
returns-in-Err-with_listed-clause-leaves_same g c = λ known.
    let d = g.D.Directory in
    let old = c.args.directory.now in
    let new = c.finish_segment.new.directory in
    let m = meta_view c.self.inside.list in
    let wanted = index_contents (d.seen old) in
    subst (λ (l : MetaState). IsPending l (d.seen old) → LeavesOneIndex d.moment d.left_since d.seen old new wanted) c.self.view_is
    (λ pending. leaves_index d.moment d.left_since d.seen old (λ f left. g.met.D.Directory.only_now old f known left) new wanted
    (written_time d.moment d.left_since d.seen old new new m (new_contents c.args.segment) pending (c.finish_segment.ensures.time known)))
