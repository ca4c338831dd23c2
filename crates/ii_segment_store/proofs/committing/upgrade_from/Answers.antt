use Rattle.std.proofs.Common.{◌≡◌, subst, Result}
use Rattle.std.specs.Prelude.{OnOk, map}
use Rattle.ii_store.specs.declared.faults.IndexFault.{IndexFault}
use Rattle.ii_directory.specs.Directory.{Elapses}
use Rattle.ii_store.specs.Index.{view}
use Rattle.ii_store.specs.IndexMeta.{segment_view}
use Rattle.ii_segment_store.specs.Commits.{HaveIdsBelow, HoldsOldOr}
use Rattle.ii_segment_store.specs.Contents.{IndexContents, index_contents}
use Rattle.ii_segment_store.proofs.CommitLaws.{first_fresh, first_same}
use Rattle.ii_segment_store.proofs.committing.upgrade_from.Goals as goal

pub returns-clause-same : goal.returns-clause-same
returns-clause-same g c = λ known.
    let d = g.D.Directory in
    let i = view c.args.index in
    let below : HaveIdsBelow 0 (map segment_view c.new.result.items) = rw c.new.ensures.items tt in
    let old = d.seen c.args.directory.now in
    let new = d.seen c.commit_segment-committed.new.directory in
    let same = first_same c.new.result.items i old c.new.ensures.items (c.requires known) in
    subst (λ (r : Result IndexContents IndexFault). OnOk c.commit_segment-committed.result (index_contents new ≡ r)) same (c.commit_segment-committed.ensures.committed known below)

pub returns-clause-time : goal.returns-clause-time
returns-clause-time g c = λ known.
    let d = g.D.Directory in
    let i = view c.args.index in
    let below : HaveIdsBelow 0 (map segment_view c.new.result.items) = rw c.new.ensures.items tt in
    let old = c.args.directory.now in
    let new = c.commit_segment-committed.new.directory in
    let same = first_same c.new.result.items i (d.seen old) c.new.ensures.items (c.requires known) in
    subst (λ (r : Result IndexContents IndexFault). Elapses (d.moment old) (d.moment new) (d.left_since old) (d.left_since new) (HoldsOldOr r (d.seen old))) same (c.commit_segment-committed.ensures.time known (first_fresh (view c.args.index) (d.seen old) 0 (c.requires known)) below)
