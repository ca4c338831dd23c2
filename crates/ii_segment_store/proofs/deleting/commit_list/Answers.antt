use Rattle.std.proofs.Common.{◌≡◌, ◌∙◌, Result, ap, subst}
use Rattle.std.specs.Prelude.{OnOk}
use Rattle.ii_directory.specs.Directory.{Elapses}
use Rattle.ii_store.specs.declared.faults.IndexFault.{IndexFault}
use Rattle.ii_store.specs.IndexMeta.{MetaState, meta_view}
use Rattle.ii_segment_store.specs.Commits.{HoldsOldOr}
use Rattle.ii_segment_store.specs.Contents.{IndexContents, index_contents, list_contents}
use Rattle.ii_segment_store.proofs.PendingLaws.{begun_same}
use Rattle.ii_segment_store.proofs.deleting.commit_list.Goals as goal

pub returns-in-Ok-clause-committed : goal.returns-in-Ok-clause-committed
returns-in-Ok-clause-committed g c = λ known.
    let d = g.D.Directory in
    let old = d.seen c.args.directory.now in
    let new = d.seen c.commit.new.directory in
    let holds = ap (λ (l : MetaState). list_contents l old) c.in-Ok.ensures.list ∙ begun_same (meta_view c.args.list) old in
    subst (λ (r : Result IndexContents IndexFault). OnOk c.commit.result (index_contents new ≡ r)) holds (c.commit.ensures.committed known)

pub returns-in-Ok-clause-time : goal.returns-in-Ok-clause-time
returns-in-Ok-clause-time g c = λ known.
    let d = g.D.Directory in
    let old = c.args.directory.now in
    let new = c.commit.new.directory in
    let holds = ap (λ (l : MetaState). list_contents l (d.seen old)) c.in-Ok.ensures.list ∙ begun_same (meta_view c.args.list) (d.seen old) in
    subst (λ (r : Result IndexContents IndexFault). Elapses (d.moment old) (d.moment new) (d.left_since old) (d.left_since new) (HoldsOldOr r (d.seen old))) holds (c.commit.ensures.leaves_one known).time
