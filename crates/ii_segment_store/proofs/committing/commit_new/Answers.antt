use Rattle.std.proofs.Common.{◌≡◌, ◌∙◌, Result, ap, subst, sym}
use Rattle.std.specs.Prelude.{OnOk}
use Rattle.ii_store.specs.declared.faults.IndexFault.{IndexFault}
use Rattle.ii_store.specs.IndexMeta.{MetaState, meta_view}
use Rattle.ii_segment_store.specs.Commits.{HaveIdsBelow}
use Rattle.ii_segment_store.specs.Contents.{IndexContents, index_contents, list_contents, with_segment}
use Rattle.ii_segment_store.specs.NewSegments.{new_contents}
use Rattle.ii_segment_store.specs.Pending.{IsPending, begun}
use Rattle.ii_segment_store.proofs.PendingLaws.{begun_same, pending_time}
use Rattle.ii_segment_store.proofs.committing.commit_new.Goals as goal

pub returns-in-Ok-add_new-clause-committed : goal.returns-in-Ok-add_new-clause-committed
returns-in-Ok-add_new-clause-committed g c = λ known below.
    let d = g.D.Directory in
    let m = meta_view c.args.list in
    let s = new_contents c.args.segment in
    let old = d.seen c.args.directory.now in
    let new = d.seen c.commit.new.directory in
    let is = c.in-Ok.ensures.list in
    let below_next = subst (λ (l : MetaState). HaveIdsBelow l.next_segment_id l.segments) (sym is) below in
    let holds = c.in-Ok-add_new.ensures.holds known below_next ∙ ap (λ (l : MetaState). with_segment s (list_contents l old)) is ∙ ap (with_segment s) (begun_same m old) in
    subst (λ (r : Result IndexContents IndexFault). OnOk c.commit.result (index_contents new ≡ r)) holds (c.commit.ensures.committed (c.in-Ok-add_new.ensures.known known))

pub returns-in-Ok-add_new-clause-time : goal.returns-in-Ok-add_new-clause-time
returns-in-Ok-add_new-clause-time g c = λ known fresh below.
    let d = g.D.Directory in
    let m = meta_view c.args.list in
    let s = new_contents c.args.segment in
    let old = c.args.directory.now in
    let mid = c.add_new.new.directory in
    let new = c.commit.new.directory in
    let is = c.in-Ok.ensures.list in
    let next : IsPending (begun m) (d.seen old) = record { fresh = fresh; below = below } in
    let pending = subst (λ (l : MetaState). IsPending l (d.seen old)) (sym is) next in
    let holds = c.in-Ok-add_new.ensures.holds known pending.below ∙ ap (λ (l : MetaState). with_segment s (list_contents l (d.seen old))) is ∙ ap (with_segment s) (begun_same m (d.seen old)) in
    pending_time d.moment d.left_since d.seen old mid new (with_segment s (list_contents m (d.seen old))) (list_contents c.in-Ok-add_new.pending (d.seen mid)) (c.in-Ok-add_new.ensures.same known pending) holds
    (c.add_new.ensures.leaves_same known pending).time (c.commit.ensures.leaves_one (c.in-Ok-add_new.ensures.known known)).time
