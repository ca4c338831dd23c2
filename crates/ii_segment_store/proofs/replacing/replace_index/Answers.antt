use Rattle.std.proofs.Common.{◌≡◌, subst, sym, Ok, Result}
use Rattle.std.specs.Prelude.{OnOk}
use Rattle.ii_store.specs.declared.faults.IndexFault.{IndexFault}
use Rattle.ii_directory.specs.declared.name.Name.TheVariants.{Meta}
use Rattle.ii_directory.specs.Directory.{Elapses}
use Rattle.ii_store.specs.IndexMeta.{MetaState}
use Rattle.ii_store.specs.Segments.{list_in}
use Rattle.ii_segment_store.specs.Commits.{HaveIdsBelow, HoldsOldOr, IsFresh, index_of_segment}
use Rattle.ii_segment_store.specs.Contents.{IndexContents, files_contents, index_contents, list_contents, with_segment}
use Rattle.ii_segment_store.proofs.CommitLaws.{emptied_below, emptied_contents, emptied_fresh, holds_none, leaves_index}
use Rattle.ii_segment_store.proofs.replacing.replace_index.Goals as goal

pub returns-in-Ok-clause-replaced : goal.returns-in-Ok-clause-replaced
returns-in-Ok-clause-replaced g c = λ known.
    let d = g.D.Directory in
    let old = d.seen c.args.directory.now in
    let new = d.seen c.commit_segment.new.directory in
    let schema = c.args.schema.items in
    let found = list_in (old Meta) in
    let s = files_contents c.args.segment.now in
    let below = subst (λ (m : MetaState). HaveIdsBelow m.next_segment_id m.segments) (sym (c.in-Ok.ensures.list known)) (emptied_below schema found) in
    let done = subst (λ (m : MetaState). OnOk c.commit_segment.result (index_contents new ≡ with_segment s (list_contents m old))) (c.in-Ok.ensures.list known) (c.commit_segment.ensures.committed known below) in
    subst (λ (r : Result IndexContents IndexFault). OnOk c.commit_segment.result (index_contents new ≡ r)) (emptied_contents schema found s old) done

pub returns-in-Ok-clause-leaves_one : goal.returns-in-Ok-clause-leaves_one
returns-in-Ok-clause-leaves_one g c = λ known.
    let d = g.D.Directory in
    let old = c.args.directory.now in
    let new = c.commit_segment.new.directory in
    let schema = c.args.schema.items in
    let found = list_in (d.seen old Meta) in
    let s = files_contents c.args.segment.now in
    let fresh = subst (λ (m : MetaState). IsFresh m.next_segment_id (d.seen old)) (sym (c.in-Ok.ensures.list known)) (emptied_fresh schema (d.seen old)) in
    let below = subst (λ (m : MetaState). HaveIdsBelow m.next_segment_id m.segments) (sym (c.in-Ok.ensures.list known)) (emptied_below schema found) in
    let left : MetaState → Type 0 = λ (m : MetaState). Elapses (d.moment old) (d.moment new) (d.left_since old) (d.left_since new) (HoldsOldOr (with_segment s (list_contents m (d.seen old))) (d.seen old)) in
    let time = subst left (c.in-Ok.ensures.list known) (c.commit_segment.ensures.time known fresh below) in
    let wanted = subst (λ (r : Result IndexContents IndexFault). Elapses (d.moment old) (d.moment new) (d.left_since old) (d.left_since new) (HoldsOldOr r (d.seen old))) (emptied_contents schema found s (d.seen old)) time in
    leaves_index d.moment d.left_since d.seen old (λ f left. g.met.D.Directory.only_now old f known left) new (Ok (index_of_segment schema s)) wanted

pub returns-in-Err-clause-leaves_one : goal.returns-in-Err-clause-leaves_one
returns-in-Err-clause-leaves_one g c = λ known.
    let d = g.D.Directory in
    let old = c.args.directory.now in
    let wanted = Ok (index_of_segment c.args.schema.items (files_contents c.args.segment.now)) in
    leaves_index d.moment d.left_since d.seen old (λ f left. g.met.D.Directory.only_now old f known left) old wanted (holds_none d.moment d.left_since d.seen old wanted)
