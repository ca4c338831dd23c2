use Rattle.std.proofs.Common.{◌≡◌, ◌∙◌, None, ap, arith, inl, subst}
use Rattle.std.specs.Prelude.{Option}
use Rattle.ii_segment_store.specs.Contents.{index_contents, list_contents}
use Rattle.ii_segment_store.proofs.CommitLaws.{leaves_index}
use Rattle.ii_segment_store.proofs.PendingLaws.{pending_time}
use Rattle.ii_store.specs.IndexMeta.{MetaState}
use Rattle.ii_index.specs.Index.{FlushedState}
use Rattle.ii_index.specs.Pending.{ArePending, with_segments}
use Rattle.ii_index.proofs.IndexLemmas.{left_holds, same_files_hold}
use Rattle.ii_index.proofs.PendingLemmas.{none_written, nothing_added, segments_added, segments_or_not}
use Rattle.ii_index.proofs.committing.add_documents.Goals as goal

pub returns-then-num_docs-eq0-clause-added : goal.returns-then-num_docs-eq0-clause-added
returns-then-num_docs-eq0-clause-added g c = λ known k us pending n ts h.
    let s = c.args.schema.now in
    let files = g.D.Directory.seen c.args.directory.now in
    let none : c.args.documents.num_docs ≡ 0 = omega (arith, c.num_docs.ensures.number) in
    let nothing : c.args.flushed ≡ None = none_written c.args.flushed c.is_none.result c.is_none.ensures c.if-is_none.true in
    nothing_added s.schema n k ts us s files c.args.documents none (subst (λ (x : Option FlushedState). ArePending s files x c.args.documents k us) nothing pending) h

pub returns-then-num_docs-eq0-clause-leaves_one : goal.returns-then-num_docs-eq0-clause-leaves_one
returns-then-num_docs-eq0-clause-leaves_one g c = λ known k us pending n ts h files left.
    inl (same_files_hold c.args.schema.now.schema (g.D.Directory.seen c.args.directory.now) files n ts (g.met.D.Directory.only_now c.args.directory.now files known left) h)

pub returns-in-Err-clause-leaves_one : goal.returns-in-Err-clause-leaves_one
returns-in-Err-clause-leaves_one g c = λ known k us pending n ts h files left.
    inl (left_holds c.args.schema.now.schema (g.D.Directory.seen c.args.directory.now) files n ts ((c.flush_last.ensures.leaves_same known k us pending).each files left) h)

pub returns-in-Ok-commit-clause-added : goal.returns-in-Ok-commit-clause-added
returns-in-Ok-commit-clause-added g c = λ known k us pending n ts h.
    let d = g.D.Directory in
    let entries = c.args.schema.now.schema in
    let old = c.args.directory.now in
    let mid = c.flush_last.new.directory in
    let new = c.commit.new.directory in
    let w = c.in-Ok.ensures.written known k us pending in
    let contents = w.flushed.contents in
    let wanted = with_segments contents (index_contents (d.seen old)) in
    let listed = list_contents c.into_list.result (d.seen mid) in
    let is : listed ≡ wanted = ap (λ (m : MetaState). list_contents m (d.seen mid)) c.into_list.ensures ∙ w.flushed.read ∙ ap (with_segments contents) (c.in-Ok.ensures.same known k us pending) in
    segments_added entries n k ts us (d.seen old) (d.seen new) contents w.segments (c.in-Ok-commit.ensures.committed (c.in-Ok.ensures.known known) ∙ is) w.flushed.written w.have h

pub returns-in-Ok-commit-clause-leaves_one : goal.returns-in-Ok-commit-clause-leaves_one
returns-in-Ok-commit-clause-leaves_one g c = λ known k us pending n ts h files left.
    let d = g.D.Directory in
    let entries = c.args.schema.now.schema in
    let old = c.args.directory.now in
    let mid = c.flush_last.new.directory in
    let new = c.commit.new.directory in
    let w = c.in-Ok.ensures.written known k us pending in
    let contents = w.flushed.contents in
    let wanted = with_segments contents (index_contents (d.seen old)) in
    let listed = list_contents c.into_list.result (d.seen mid) in
    let is : listed ≡ wanted = ap (λ (m : MetaState). list_contents m (d.seen mid)) c.into_list.ensures ∙ w.flushed.read ∙ ap (with_segments contents) (c.in-Ok.ensures.same known k us pending) in
    let time = pending_time d.moment d.left_since d.seen old mid new wanted listed (c.in-Ok.ensures.same known k us pending) is (c.flush_last.ensures.leaves_same known k us pending).time (c.commit.ensures.leaves_one (c.in-Ok.ensures.known known)).time in
    let each = leaves_index d.moment d.left_since d.seen old (λ f gone. g.met.D.Directory.only_now old f known gone) new wanted time in
    segments_or_not entries n k ts us (d.seen old) files contents w.segments (each.each files left) w.flushed.written w.have h

pub returns-in-Err-commit-clause-leaves_one : goal.returns-in-Err-commit-clause-leaves_one
returns-in-Err-commit-clause-leaves_one g c = λ known k us pending n ts h files left.
    let d = g.D.Directory in
    let entries = c.args.schema.now.schema in
    let old = c.args.directory.now in
    let mid = c.flush_last.new.directory in
    let new = c.commit.new.directory in
    let w = c.in-Ok.ensures.written known k us pending in
    let contents = w.flushed.contents in
    let wanted = with_segments contents (index_contents (d.seen old)) in
    let listed = list_contents c.into_list.result (d.seen mid) in
    let is : listed ≡ wanted = ap (λ (m : MetaState). list_contents m (d.seen mid)) c.into_list.ensures ∙ w.flushed.read ∙ ap (with_segments contents) (c.in-Ok.ensures.same known k us pending) in
    let time = pending_time d.moment d.left_since d.seen old mid new wanted listed (c.in-Ok.ensures.same known k us pending) is (c.flush_last.ensures.leaves_same known k us pending).time (c.commit.ensures.leaves_one (c.in-Ok.ensures.known known)).time in
    let each = leaves_index d.moment d.left_since d.seen old (λ f gone. g.met.D.Directory.only_now old f known gone) new wanted time in
    segments_or_not entries n k ts us (d.seen old) files contents w.segments (each.each files left) w.flushed.written w.have h
