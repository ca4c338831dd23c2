use Rattle.std.proofs.Common.{◌≡◌, ◌∙◌, ◌≤◌, ◌++◌, List, ℕ, ap, arith, drop, inl, inr, map, subst, sym}
use Rattle.std.specs.Prelude.{Vec}
use Rattle.std.specs.List.{AllZip}
use Rattle.std.proofs.lemmas.Result.{IfErr-weaker, on_ok_weaker}
use Rattle.std.specs.declared.alloc.Global.{Global}
use Rattle.ii_base.specs.Schema.{SchemaEntry}
use Rattle.ii_base.specs.declared.doc_id.TheConstants.{TERMINATED}
use Rattle.ii_segment_store.specs.Changes.{index_without}
use Rattle.ii_segment_store.specs.Contents.{all_contents, contents_view, index_contents, list_contents, segment_contents}
use Rattle.ii_segment_store.specs.Pending.{FollowsFlags}
use Rattle.ii_segment_store.proofs.CommitLaws.{leaves_index}
use Rattle.ii_segment_store.proofs.PendingLaws.{pending_time}
use Rattle.ii_segments.specs.Segments.{num_docs_of}
use Rattle.ii_store.specs.IndexMeta.{MetaState}
use Rattle.ii_index.specs.Deletes.{AreDeletedOf, ArePendingDeleted}
use Rattle.ii_index.specs.Faults.{IsListError, IsPendingReachFault}
use Rattle.ii_index.specs.Pending.{AreWrittenSegments}
use Rattle.ii_index.proofs.CommitLemmas.{add_fault, all_changed, all_or_not, delete_fault, list_fault, load_fault, loaded_listed, loaded_written}
use Rattle.ii_index.proofs.IndexLemmas.{left_holds, same_files_hold}
use Rattle.ii_index.proofs.PendingLemmas.{flushed_contents}
use Rattle.ii_index.proofs.committing.delete_and_add.Goals as goal

abbrev items : Vec ℕ Global → List ℕ
items v = v.items

pub returns-in-Err-docs_to_delete-clause-fault : goal.returns-in-Err-docs_to_delete-clause-fault
returns-in-Err-docs_to_delete-clause-fault g c = λ known k us pending.
    delete_fault c.in-Err-docs_to_delete.fault c.args.schema.now c.args.flushed c.args.documents c.args.deletes.now (g.D.Directory.seen c.args.directory.now) (contents_view c.in-Ok.stored) c.schema.result.now c.schema.ensures (c.in-Ok.ensures.answers known)
    c.in-Err-docs_to_delete.ensures.fault

pub returns-in-Err-flush_last-clause-fault : goal.returns-in-Err-flush_last-clause-fault
returns-in-Err-flush_last-clause-fault g c = λ known k us pending.
    add_fault c.in-Err-flush_last.fault c.args.schema.now c.args.flushed c.args.documents c.args.deletes.now (g.D.Directory.seen c.args.directory.now) (c.in-Err-flush_last.ensures.fault known)

pub returns-in-Err-clause-leaves_one : goal.returns-in-Err-clause-leaves_one
returns-in-Err-clause-leaves_one g c = λ known k us pending n ts h files left.
    inl (same_files_hold c.args.schema.now.schema (g.D.Directory.seen c.args.directory.now) files n ts (g.met.D.Directory.only_now c.args.directory.now files known left) h)

pub returns-in-Err-docs_to_delete-clause-leaves_one : goal.returns-in-Err-docs_to_delete-clause-leaves_one
returns-in-Err-docs_to_delete-clause-leaves_one g c = λ known k us pending n ts h files left.
    inl (same_files_hold c.args.schema.now.schema (g.D.Directory.seen c.args.directory.now) files n ts (g.met.D.Directory.only_now c.args.directory.now files known left) h)

pub returns-in-Err-flush_last-clause-leaves_one : goal.returns-in-Err-flush_last-clause-leaves_one
returns-in-Err-flush_last-clause-leaves_one g c = λ known k us pending n ts h files left.
    inl (left_holds c.args.schema.now.schema (g.D.Directory.seen c.args.directory.now) files n ts ((c.flush_last.ensures.leaves_same known k us pending).each files left) h)

pub returns-in-Err-load-clause-leaves_one : goal.returns-in-Err-load-clause-leaves_one
returns-in-Err-load-clause-leaves_one g c = λ known k us pending n ts h files left.
    inl (left_holds c.args.schema.now.schema (g.D.Directory.seen c.args.directory.now) files n ts ((c.flush_last.ensures.leaves_same known k us pending).each files left) h)

pub returns-in-Err-pending_docs_to_delete-clause-leaves_one : goal.returns-in-Err-pending_docs_to_delete-clause-leaves_one
returns-in-Err-pending_docs_to_delete-clause-leaves_one g c = λ known k us pending n ts h files left.
    inl (left_holds c.args.schema.now.schema (g.D.Directory.seen c.args.directory.now) files n ts ((c.flush_last.ensures.leaves_same known k us pending).each files left) h)

pub returns-in-Err-load-clause-fault : goal.returns-in-Err-load-clause-fault
returns-in-Err-load-clause-fault g c = λ known k us pending.
    let d = g.D.Directory in
    let entries = c.args.schema.now.schema in
    let mid = c.flush_last.new.directory in
    let read = c.in-Ok.ensures.answers known in
    let w = c.in-Ok-flush_last.ensures.written known k us pending in
    let x = c.in-Ok-flush_last.flushed in
    let same = c.in-Ok-flush_last.ensures.same known k us pending in
    load_fault c.in-Err-load.fault (all_contents (drop x.first x.list.segments) (d.seen mid)) w.flushed.contents (index_contents (d.seen c.args.directory.now)) (flushed_contents entries (d.seen mid) x w.segments (contents_view c.in-Ok.stored) w.flushed (same ∙ read))
    (c.in-Err-load.ensures.answers (c.in-Ok-flush_last.ensures.known known))

pub returns-in-Err-pending_docs_to_delete-clause-fault : goal.returns-in-Err-pending_docs_to_delete-clause-fault
returns-in-Err-pending_docs_to_delete-clause-fault g c = λ known k us pending.
    let d = g.D.Directory in
    let entries = c.args.schema.now.schema in
    let deletes = c.args.deletes.now in
    let old = c.args.directory.now in
    let mid = c.flush_last.new.directory in
    let stored = contents_view c.in-Ok.stored in
    let read = c.in-Ok.ensures.answers known in
    let w = c.in-Ok-flush_last.ensures.written known k us pending in
    let x = c.in-Ok-flush_last.flushed in
    let same = c.in-Ok-flush_last.ensures.same known k us pending in
    let found = map segment_contents c.in-Ok-load.segments.items in
    let answers = c.in-Ok-load.ensures.answers (c.in-Ok-flush_last.ensures.known known) in
    let written = loaded_written entries deletes (d.seen old) (d.seen mid) stored x k us w read same found answers in
    let why = c.in-Err-pending_docs_to_delete.ensures.fault w.segments (subst (λ (es : List SchemaEntry). AreWrittenSegments es found w.segments) (sym c.schema-2.ensures) written) in
    inr (subst (λ (es : List SchemaEntry). IsPendingReachFault es deletes c.in-Err-pending_docs_to_delete.fault) c.schema-2.ensures why)

pub returns-clause-changed : goal.returns-clause-changed
returns-clause-changed g c = λ known k us pending n ts h.
    let d = g.D.Directory in
    let entries = c.args.schema.now.schema in
    let deletes = c.args.deletes.now in
    let old = c.args.directory.now in
    let mid = c.flush_last.new.directory in
    let stored = contents_view c.in-Ok.stored in
    let read = c.in-Ok.ensures.answers known in
    let w = c.in-Ok-flush_last.ensures.written known k us pending in
    let x = c.in-Ok-flush_last.flushed in
    let same = c.in-Ok-flush_last.ensures.same known k us pending in
    let found = map segment_contents c.in-Ok-load.segments.items in
    let answers = c.in-Ok-load.ensures.answers (c.in-Ok-flush_last.ensures.known known) in
    let gone = map items c.in-Ok-docs_to_delete.deleted.items in
    let more = map items c.in-Ok-pending_docs_to_delete.pending.items in
    let each = subst (λ (es : List SchemaEntry). AllZip (AreDeletedOf es deletes) stored.segments gone) c.schema.ensures c.in-Ok-docs_to_delete.ensures.docs in
    let written = loaded_written entries deletes (d.seen old) (d.seen mid) stored x k us w read same found answers in
    let few : num_docs_of w.segments ≤ TERMINATED = omega (arith, w.flushed.num_docs, c.in-Ok-flush_last.ensures.many, c.requires.room) in
    let reached = subst (λ (es : List SchemaEntry). ArePendingDeleted es deletes 0 found more) c.schema-2.ensures
    (c.in-Ok-pending_docs_to_delete.ensures.docs w.segments (subst (λ (es : List SchemaEntry). AreWrittenSegments es found w.segments) (sym c.schema-2.ensures) written) few) in
    let follows = subst (λ (m : MetaState). FollowsFlags m (d.seen mid)) (sym c.into_list.ensures) w.flushed.follows in
    let list_is : index_without (gone ++ more) (list_contents c.into_list.result (d.seen mid)) ≡ index_without (gone ++ more) (list_contents x.list (d.seen mid)) = ap (λ (m : MetaState). index_without (gone ++ more) (list_contents m (d.seen mid))) c.into_list.ensures in
    on_ok_weaker c.commit_list.result (λ result. all_changed entries deletes (d.seen old) (d.seen mid) stored x k us w read same found answers gone more each reached n ts h (d.seen c.commit_list.new.directory) (result ∙ list_is))
    (c.commit_list.ensures.changed (c.in-Ok-flush_last.ensures.known known))

pub returns-clause-leaves_one : goal.returns-clause-leaves_one
returns-clause-leaves_one g c = λ known k us pending n ts h files left.
    let d = g.D.Directory in
    let entries = c.args.schema.now.schema in
    let deletes = c.args.deletes.now in
    let old = c.args.directory.now in
    let mid = c.flush_last.new.directory in
    let stored = contents_view c.in-Ok.stored in
    let read = c.in-Ok.ensures.answers known in
    let w = c.in-Ok-flush_last.ensures.written known k us pending in
    let x = c.in-Ok-flush_last.flushed in
    let same = c.in-Ok-flush_last.ensures.same known k us pending in
    let found = map segment_contents c.in-Ok-load.segments.items in
    let answers = c.in-Ok-load.ensures.answers (c.in-Ok-flush_last.ensures.known known) in
    let gone = map items c.in-Ok-docs_to_delete.deleted.items in
    let more = map items c.in-Ok-pending_docs_to_delete.pending.items in
    let each = subst (λ (es : List SchemaEntry). AllZip (AreDeletedOf es deletes) stored.segments gone) c.schema.ensures c.in-Ok-docs_to_delete.ensures.docs in
    let written = loaded_written entries deletes (d.seen old) (d.seen mid) stored x k us w read same found answers in
    let few : num_docs_of w.segments ≤ TERMINATED = omega (arith, w.flushed.num_docs, c.in-Ok-flush_last.ensures.many, c.requires.room) in
    let reached = subst (λ (es : List SchemaEntry). ArePendingDeleted es deletes 0 found more) c.schema-2.ensures
    (c.in-Ok-pending_docs_to_delete.ensures.docs w.segments (subst (λ (es : List SchemaEntry). AreWrittenSegments es found w.segments) (sym c.schema-2.ensures) written) few) in
    let follows = subst (λ (m : MetaState). FollowsFlags m (d.seen mid)) (sym c.into_list.ensures) w.flushed.follows in
    let list_is : index_without (gone ++ more) (list_contents c.into_list.result (d.seen mid)) ≡ index_without (gone ++ more) (list_contents x.list (d.seen mid)) = ap (λ (m : MetaState). index_without (gone ++ more) (list_contents m (d.seen mid))) c.into_list.ensures in
    let new = c.commit_list.new.directory in
    let wanted = index_without (gone ++ more) (list_contents x.list (d.seen mid)) in
    let time = pending_time d.moment d.left_since d.seen old mid new wanted (index_without (gone ++ more) (list_contents c.into_list.result (d.seen mid))) same list_is (c.flush_last.ensures.leaves_same known k us pending).time
    (c.commit_list.ensures.leaves_one (c.in-Ok-flush_last.ensures.known known) follows).time in
    let one = leaves_index d.moment d.left_since d.seen old (λ f gone. g.met.D.Directory.only_now old f known gone) new wanted time in
    all_or_not entries deletes (d.seen old) (d.seen mid) stored x k us w read same found answers gone more each reached n ts h files (one.each files left)

pub returns-clause-fault : goal.returns-clause-fault
returns-clause-fault g c = λ known k us pending.
    let d = g.D.Directory in
    let entries = c.args.schema.now.schema in
    let deletes = c.args.deletes.now in
    let old = c.args.directory.now in
    let mid = c.flush_last.new.directory in
    let stored = contents_view c.in-Ok.stored in
    let read = c.in-Ok.ensures.answers known in
    let w = c.in-Ok-flush_last.ensures.written known k us pending in
    let x = c.in-Ok-flush_last.flushed in
    let same = c.in-Ok-flush_last.ensures.same known k us pending in
    let found = map segment_contents c.in-Ok-load.segments.items in
    let answers = c.in-Ok-load.ensures.answers (c.in-Ok-flush_last.ensures.known known) in
    let gone = map items c.in-Ok-docs_to_delete.deleted.items in
    let more = map items c.in-Ok-pending_docs_to_delete.pending.items in
    let each = subst (λ (es : List SchemaEntry). AllZip (AreDeletedOf es deletes) stored.segments gone) c.schema.ensures c.in-Ok-docs_to_delete.ensures.docs in
    let written = loaded_written entries deletes (d.seen old) (d.seen mid) stored x k us w read same found answers in
    let few : num_docs_of w.segments ≤ TERMINATED = omega (arith, w.flushed.num_docs, c.in-Ok-flush_last.ensures.many, c.requires.room) in
    let reached = subst (λ (es : List SchemaEntry). ArePendingDeleted es deletes 0 found more) c.schema-2.ensures
    (c.in-Ok-pending_docs_to_delete.ensures.docs w.segments (subst (λ (es : List SchemaEntry). AreWrittenSegments es found w.segments) (sym c.schema-2.ensures) written) few) in
    let follows = subst (λ (m : MetaState). FollowsFlags m (d.seen mid)) (sym c.into_list.ensures) w.flushed.follows in
    let list_is : index_without (gone ++ more) (list_contents c.into_list.result (d.seen mid)) ≡ index_without (gone ++ more) (list_contents x.list (d.seen mid)) = ap (λ (m : MetaState). index_without (gone ++ more) (list_contents m (d.seen mid))) c.into_list.ensures in
    IfErr-weaker c.commit_list.result _ _ (λ e why. list_fault e c.args.schema.now c.args.flushed c.args.documents deletes (d.seen old) (d.seen mid) stored x.list found gone more read (c.in-Ok-flush_last.ensures.list known) (same ∙ read)
    (loaded_listed entries deletes (d.seen old) (d.seen mid) stored x k us w read same found answers) each reached (subst (λ (m : MetaState). IsListError e (gone ++ more) m (d.seen mid)) c.into_list.ensures why))
    (c.commit_list.ensures.fault (c.in-Ok-flush_last.ensures.known known))
