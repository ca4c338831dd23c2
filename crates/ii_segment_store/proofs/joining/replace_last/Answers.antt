use Rattle.std.proofs.Common.{◌≡◌, subst, sym, Result}
use Rattle.std.specs.Prelude.{OnOk}
use Rattle.ii_store.specs.declared.faults.IndexFault.{IndexFault}
use Rattle.ii_directory.specs.declared.name.Name.TheVariants.{Meta}
use Rattle.ii_directory.specs.Directory.{Elapses}
use Rattle.ii_store.specs.IndexMeta.{MetaState, meta_view}
use Rattle.ii_segment_store.specs.Commits.{HaveIdsBelow, HoldsOldOr, IsFresh}
use Rattle.ii_segment_store.specs.Contents.{IndexContents, index_contents, list_contents, with_segment}
use Rattle.ii_segment_store.specs.NewSegments.{new_contents}
use Rattle.ii_segment_store.specs.Joins.{first_contents}
use Rattle.ii_segment_store.proofs.CommitLaws.{fresh_id, holds_none, leaves_index, listed_below}
use Rattle.ii_segment_store.proofs.JoinLaws.{first_below, first_is}
use Rattle.ii_segment_store.proofs.joining.replace_last.Goals as goal

pub returns-in-Err-clause-leaves_one : goal.returns-in-Err-clause-leaves_one
returns-in-Err-clause-leaves_one g c = λ known.
    let d = g.D.Directory in
    let old = c.args.directory.now in
    let wanted = with_segment (new_contents c.args.segment) (first_contents c.args.first (d.seen old)) in
    leaves_index d.moment d.left_since d.seen old (λ f left. g.met.D.Directory.only_now old f known left) old wanted (holds_none d.moment d.left_since d.seen old wanted)

pub returns-clause-replaced : goal.returns-clause-replaced
returns-clause-replaced g c = λ known.
    let d = g.D.Directory in
    let old = d.seen c.args.directory.now in
    let new = d.seen c.commit_new.new.directory in
    let s = new_contents c.args.segment in
    let m = meta_view c.in-Ok.list in
    let listed = c.in-Ok.ensures.answers known in
    let below = subst (λ (l : MetaState). HaveIdsBelow l.next_segment_id l.segments) (sym c.first_listed-list.ensures) (first_below c.args.first m.next_segment_id m.segments (listed_below (old Meta) m listed)) in
    let done = subst (λ (l : MetaState). OnOk c.commit_new.result (index_contents new ≡ with_segment s (list_contents l old))) c.first_listed-list.ensures (c.commit_new.ensures.committed known below) in
    subst (λ (r : Result IndexContents IndexFault). OnOk c.commit_new.result (index_contents new ≡ with_segment s r)) (sym (first_is c.args.first old m listed)) done

pub returns-clause-leaves_one : goal.returns-clause-leaves_one
returns-clause-leaves_one g c = λ known.
    let d = g.D.Directory in
    let old = c.args.directory.now in
    let new = c.commit_new.new.directory in
    let s = new_contents c.args.segment in
    let m = meta_view c.in-Ok.list in
    let listed = c.in-Ok.ensures.answers known in
    let below = subst (λ (l : MetaState). HaveIdsBelow l.next_segment_id l.segments) (sym c.first_listed-list.ensures) (first_below c.args.first m.next_segment_id m.segments (listed_below (d.seen old Meta) m listed)) in
    let fresh = subst (λ (l : MetaState). IsFresh l.next_segment_id (d.seen old)) (sym c.first_listed-list.ensures) (fresh_id m (d.seen old) listed) in
    let left : MetaState → Type 0 = λ (l : MetaState). Elapses (d.moment old) (d.moment new) (d.left_since old) (d.left_since new) (HoldsOldOr (with_segment s (list_contents l (d.seen old))) (d.seen old)) in
    let time = subst left c.first_listed-list.ensures (c.commit_new.ensures.time known fresh below) in
    let wanted = subst (λ (r : Result IndexContents IndexFault). Elapses (d.moment old) (d.moment new) (d.left_since old) (d.left_since new) (HoldsOldOr (with_segment s r) (d.seen old))) (sym (first_is c.args.first (d.seen old) m listed)) time in
    leaves_index d.moment d.left_since d.seen old (λ f left. g.met.D.Directory.only_now old f known left) new (with_segment s (first_contents c.args.first (d.seen old))) wanted
