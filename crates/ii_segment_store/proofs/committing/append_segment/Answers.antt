use Rattle.std.proofs.Common.{◌≡◌, subst, sym, Result}
use Rattle.std.specs.Prelude.{OnOk}
use Rattle.ii_store.specs.declared.faults.IndexFault.{IndexFault}
use Rattle.ii_directory.specs.declared.name.Name.TheVariants.{Meta}
use Rattle.ii_directory.specs.Directory.{Elapses}
use Rattle.ii_store.specs.IndexMeta.{meta_view}
use Rattle.ii_segment_store.specs.Commits.{HoldsOldOr}
use Rattle.ii_segment_store.specs.Contents.{IndexContents, index_contents, files_contents, with_segment}
use Rattle.ii_segment_store.proofs.CommitLaws.{fresh_id, holds_none, leaves_index, listed_below, listed_contents}
use Rattle.ii_segment_store.proofs.committing.append_segment.Goals as goal

pub returns-in-Err-clause-leaves_one : goal.returns-in-Err-clause-leaves_one
returns-in-Err-clause-leaves_one g c = λ known.
    let d = g.D.Directory in
    let old = c.args.directory.now in
    let wanted = with_segment (files_contents c.args.segment.now) (index_contents (d.seen old)) in
    leaves_index d.moment d.left_since d.seen old (λ f left. g.met.D.Directory.only_now old f known left) old wanted (holds_none d.moment d.left_since d.seen old wanted)

pub returns-clause-appended : goal.returns-clause-appended
returns-clause-appended g c = λ known.
    let d = g.D.Directory in
    let old = d.seen c.args.directory.now in
    let new = d.seen c.commit_segment.new.directory in
    let s = files_contents c.args.segment.now in
    subst (λ (r : Result IndexContents IndexFault). OnOk c.commit_segment.result (index_contents new ≡ with_segment s r)) (sym (listed_contents (meta_view c.in-Ok.list) old (c.in-Ok.ensures.answers known))) (c.commit_segment.ensures.committed known (listed_below (old Meta) (meta_view c.in-Ok.list) (c.in-Ok.ensures.answers known)))

pub returns-clause-leaves_one : goal.returns-clause-leaves_one
returns-clause-leaves_one g c = λ known.
    let d = g.D.Directory in
    let old = c.args.directory.now in
    let new = c.commit_segment.new.directory in
    let s = files_contents c.args.segment.now in
    let same = sym (listed_contents (meta_view c.in-Ok.list) (d.seen old) (c.in-Ok.ensures.answers known)) in
    let time = subst (λ (r : Result IndexContents IndexFault). Elapses (d.moment old) (d.moment new) (d.left_since old) (d.left_since new) (HoldsOldOr (with_segment s r) (d.seen old))) same (c.commit_segment.ensures.time known (fresh_id (meta_view c.in-Ok.list) (d.seen old) (c.in-Ok.ensures.answers known)) (listed_below (d.seen old Meta) (meta_view c.in-Ok.list) (c.in-Ok.ensures.answers known))) in
    leaves_index d.moment d.left_since d.seen old (λ f left. g.met.D.Directory.only_now old f known left) new (with_segment s (index_contents (d.seen old))) time
