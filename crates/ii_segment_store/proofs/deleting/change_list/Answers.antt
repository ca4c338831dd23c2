use Rattle.std.proofs.Common.{◌≡◌, ◌∙◌, ℕ, None, Some, ap, map, subst, sym}
use Rattle.ii_directory.specs.declared.name.Name.TheVariants.{Meta}
use Rattle.ii_store.specs.IndexMeta.{meta_view}
use Rattle.ii_directory.proofs.Elapsing.{at_ok}
use Rattle.ii_segment_store.specs.Changes.{changed_index, index_without, latest_generation}
use Rattle.ii_segment_store.specs.Commits.{IsFresh}
use Rattle.ii_segment_store.specs.Contents.{files_contents, index_contents, list_contents, with_segment}
use Rattle.ii_segment_store.proofs.CommitLaws.{fresh_id, listed_below, listed_contents}
use Rattle.ii_segment_store.proofs.ListLaws.{change_time, flagged_below, flags_time, older_meta}
use Rattle.ii_segment_store.proofs.deleting.change_list.Goals as goal

pub returns-in-Err-clause-time : goal.returns-in-Err-clause-time
returns-in-Err-clause-time g c = λ known.
    let d = g.D.Directory in
    flags_time d.moment d.left_since d.seen c.args.directory.now c.write_deletes.new.directory c.write_deletes.new.directory (meta_view c.args.list) _ (c.requires.listed known) (c.write_deletes.ensures.time known)

pub returns-in-Some-clause-changed : goal.returns-in-Some-clause-changed
returns-in-Some-clause-changed g c = λ known.
    let d = g.D.Directory in
    let m = meta_view c.args.list in
    let deleted = map (λ v. v.items) c.args.deleted.now in
    let s = files_contents c.in-Some.segment.now in
    let old = d.seen c.args.directory.now in
    let mid = d.seen c.write_deletes.new.directory in
    let new = d.seen c.commit_segment.new.directory in
    let listed = c.requires.listed known in
    let held : list_contents (meta_view c.in-Ok.changed) mid ≡ index_without deleted (index_contents old) = c.in-Ok.ensures.contents known ∙ ap (index_without deleted) (sym (listed_contents m old listed)) in
    let below = flagged_below deleted m (meta_view c.in-Ok.changed) old (c.in-Ok.ensures.flagged known) (listed_below (old Meta) m listed) in
    rw c.in-Some.is (at_ok (index_contents new ≡ with_segment s (list_contents (meta_view c.in-Ok.changed) mid)) (index_contents new ≡ changed_index deleted (Some s) (index_contents old)) c.commit_segment.result
    (λ is. is ∙ ap (with_segment s) held) (c.commit_segment.ensures.committed (c.in-Ok.ensures.known known) below))

pub returns-in-Some-clause-time : goal.returns-in-Some-clause-time
returns-in-Some-clause-time g c = λ known.
    let d = g.D.Directory in
    let m = meta_view c.args.list in
    let n = meta_view c.in-Ok.changed in
    let deleted = map (λ v. v.items) c.args.deleted.now in
    let s = files_contents c.in-Some.segment.now in
    let old = c.args.directory.now in
    let mid = c.write_deletes.new.directory in
    let listed = c.requires.listed known in
    let held : list_contents n (d.seen mid) ≡ index_without deleted (index_contents (d.seen old)) = c.in-Ok.ensures.contents known ∙ ap (index_without deleted) (sym (listed_contents m (d.seen old) listed)) in
    let flagged = c.in-Ok.ensures.flagged known in
    let keeps = c.in-Ok.ensures.keeps known in
    let fresh : IsFresh n.next_segment_id (d.seen mid) = subst (λ (next : ℕ). IsFresh next (d.seen mid)) (sym flagged.next_segment_id) (fresh_id m (d.seen mid) (older_meta (latest_generation m.segments) m (d.seen old) (d.seen mid) listed keeps)) in
    let below = flagged_below deleted m n (d.seen old) flagged (listed_below (d.seen old Meta) m listed) in
    rw c.in-Some.is (change_time d.moment d.left_since d.seen old mid c.commit_segment.new.directory m (changed_index deleted (Some s) (index_contents (d.seen old))) (with_segment s (list_contents n (d.seen mid))) listed keeps (ap (with_segment s) held)
    (c.write_deletes.ensures.time known) (c.commit_segment.ensures.time (c.in-Ok.ensures.known known) fresh below))

pub returns-in-None-clause-changed : goal.returns-in-None-clause-changed
returns-in-None-clause-changed g c = λ known.
    let d = g.D.Directory in
    let m = meta_view c.args.list in
    let deleted = map (λ v. v.items) c.args.deleted.now in
    let old = d.seen c.args.directory.now in
    let mid = d.seen c.write_deletes.new.directory in
    let new = d.seen c.commit_list.new.directory in
    let held : list_contents (meta_view c.in-Ok.changed) mid ≡ index_without deleted (index_contents old) = c.in-Ok.ensures.contents known ∙ ap (index_without deleted) (sym (listed_contents m old (c.requires.listed known))) in
    rw c.in-None.is (at_ok (index_contents new ≡ list_contents (meta_view c.in-Ok.changed) mid) (index_contents new ≡ changed_index deleted None (index_contents old)) c.commit_list.result
    (λ is. is ∙ held) (c.commit_list.ensures.committed (c.in-Ok.ensures.known known)))

pub returns-in-None-clause-time : goal.returns-in-None-clause-time
returns-in-None-clause-time g c = λ known.
    let d = g.D.Directory in
    let m = meta_view c.args.list in
    let n = meta_view c.in-Ok.changed in
    let deleted = map (λ v. v.items) c.args.deleted.now in
    let old = c.args.directory.now in
    let mid = c.write_deletes.new.directory in
    let listed = c.requires.listed known in
    let held : list_contents n (d.seen mid) ≡ index_without deleted (index_contents (d.seen old)) = c.in-Ok.ensures.contents known ∙ ap (index_without deleted) (sym (listed_contents m (d.seen old) listed)) in
    rw c.in-None.is (change_time d.moment d.left_since d.seen old mid c.commit_list.new.directory m (changed_index deleted None (index_contents (d.seen old))) (list_contents n (d.seen mid)) listed (c.in-Ok.ensures.keeps known) held
    (c.write_deletes.ensures.time known) (c.commit_list.ensures.time (c.in-Ok.ensures.known known)))
