use Rattle.std.proofs.Common.{rules, sym, ap, ◌∙◌, Ok, Err, Some, None}
use Rattle.std.proofs.lemmas.Result.{err_from_is_err_and}
use Rattle.ii_recorder.specs.AnyRecorder.{any_state}
use Rattle.ii_recorder.specs.Recorded.{RecorderState, begun}
use Rattle.ii_postings_writer.specs.IndexingContext.{new_recorder, recorded_at}
use Rattle.ii_postings_writer.proofs.TermIndexLemmas.{ends_under, found_or_new, is_inserted, is_recorded, whole_keys, on_ok, recorder_under}
use Rattle.ii_postings_writer.proofs.RecorderSteps.{has_pending, last_below, opened_same, opened_then, recorded_in, recorded_refusal}
use Rattle.ii_postings_writer.proofs.postings_writer.TermRecorders.record.Goals as goal

pub record_position-requires : goal.record_position-requires
record_position-requires c =
    let found = recorder_under c.self.inside.recorders c.args.self.now c.args.term.now (Some c.in-Some.recorder.now) c.self.view_is c.in-Some.ensures.value in
    has_pending c.args.doc (any_state c.in-Some.recorder.now) (ends_under c.args.doc c.args.self.now c.args.term.now c.in-Some.recorder.now found c.requires.ends)

pub returns-then-current_doc-doc-clause-ok : goal.returns-then-current_doc-doc-clause-ok
returns-then-current_doc-doc-clause-ok c =
    let was = any_state c.in-Some.recorder.now in
    let found = recorder_under c.self.inside.recorders c.args.self.now c.args.term.now (Some c.in-Some.recorder.now) c.self.view_is c.in-Some.ensures.value in
    let ends = ends_under c.args.doc c.args.self.now c.args.term.now c.in-Some.recorder.now found c.requires.ends in
    let old = sym (found_or_new c.args.option c.args.self.now c.args.term.now (Some c.in-Some.recorder.now) found) in
    let opened = sym (opened_same c.args.doc was ends (sym c.current_doc.ensures ∙ c.if-current_doc-doc.true)) in
    on_ok c.record_position.result _ _
    (λ state.
    is_recorded c.args.option c.args.doc c.args.position c.args.term.now c.self.inside.recorders (c.get_mut.follows.lender c.record_position.new.self) c.record_position.new.self c.args.self.now
    ((c.get_mut.follows.holds c.record_position.new.self).3 (search rules)) c.self.view_is (recorded_in c.args.doc c.args.position was was (any_state c.record_position.new.self) opened state ∙ ap (recorded_at c.args.doc c.args.position) old))
    c.record_position.ensures.ok

pub returns-then-current_doc-doc-clause-refused : goal.returns-then-current_doc-doc-clause-refused
returns-then-current_doc-doc-clause-refused c =
    let was = any_state c.in-Some.recorder.now in
    let found = recorder_under c.self.inside.recorders c.args.self.now c.args.term.now (Some c.in-Some.recorder.now) c.self.view_is c.in-Some.ensures.value in
    let ends = ends_under c.args.doc c.args.self.now c.args.term.now c.in-Some.recorder.now found c.requires.ends in
    let opened = sym (opened_same c.args.doc was ends (sym c.current_doc.ensures ∙ c.if-current_doc-doc.true)) in
    rw (found_or_new c.args.option c.args.self.now c.args.term.now (Some c.in-Some.recorder.now) found)
    (recorded_refusal c.args.doc c.args.position was was c.record_position.result opened c.record_position.ensures.faults)

pub close_doc-requires : goal.close_doc-requires
close_doc-requires c =
    let found = recorder_under c.self.inside.recorders c.args.self.now c.args.term.now (Some c.in-Some.recorder.now) c.self.view_is c.in-Some.ensures.value in
    has_pending c.args.doc (any_state c.in-Some.recorder.now) (ends_under c.args.doc c.args.self.now c.args.term.now c.in-Some.recorder.now found c.requires.ends)

pub new_doc-requires-clause-above : goal.new_doc-requires-clause-above
new_doc-requires-clause-above c =
    let found = recorder_under c.self.inside.recorders c.args.self.now c.args.term.now (Some c.in-Some.recorder.now) c.self.view_is c.in-Some.ensures.value in
    let ends = ends_under c.args.doc c.args.self.now c.args.term.now c.in-Some.recorder.now found c.requires.ends in
    rw c.in_ok-close_doc-in-Some.ensures.ok (last_below c.args.doc (any_state c.in-Some.recorder.now) ends (λ same. c.if-current_doc-doc.false (c.current_doc.ensures ∙ same)))

pub returns-in_ok-new_doc-in-Some-clause-ok : goal.returns-in_ok-new_doc-in-Some-clause-ok
returns-in_ok-new_doc-in-Some-clause-ok c =
    let was = any_state c.in-Some.recorder.now in
    let found = recorder_under c.self.inside.recorders c.args.self.now c.args.term.now (Some c.in-Some.recorder.now) c.self.view_is c.in-Some.ensures.value in
    let ends = ends_under c.args.doc c.args.self.now c.args.term.now c.in-Some.recorder.now found c.requires.ends in
    let old = sym (found_or_new c.args.option c.args.self.now c.args.term.now (Some c.in-Some.recorder.now) found) in
    let opened = opened_then c.args.doc was (any_state c.close_doc.new.self) (any_state c.new_doc.new.self) ends (λ same. c.if-current_doc-doc.false (c.current_doc.ensures ∙ same)) c.in_ok-close_doc-in-Some.ensures.ok c.in_ok-new_doc-in-Some.ensures.ok in
    on_ok c.record_position-in-Some.result _ _
    (λ state.
    is_recorded c.args.option c.args.doc c.args.position c.args.term.now c.self.inside.recorders (c.get_mut.follows.lender c.record_position-in-Some.new.self) c.record_position-in-Some.new.self c.args.self.now
    ((c.get_mut.follows.holds c.record_position-in-Some.new.self).3 (search rules)) c.self.view_is (recorded_in c.args.doc c.args.position was (any_state c.new_doc.new.self) (any_state c.record_position-in-Some.new.self) opened state ∙ ap (recorded_at c.args.doc c.args.position) old))
    c.record_position-in-Some.ensures.ok

pub returns-in_ok-new_doc-in-Some-clause-refused : goal.returns-in_ok-new_doc-in-Some-clause-refused
returns-in_ok-new_doc-in-Some-clause-refused c =
    let was = any_state c.in-Some.recorder.now in
    let found = recorder_under c.self.inside.recorders c.args.self.now c.args.term.now (Some c.in-Some.recorder.now) c.self.view_is c.in-Some.ensures.value in
    let ends = ends_under c.args.doc c.args.self.now c.args.term.now c.in-Some.recorder.now found c.requires.ends in
    let opened = opened_then c.args.doc was (any_state c.close_doc.new.self) (any_state c.new_doc.new.self) ends (λ same. c.if-current_doc-doc.false (c.current_doc.ensures ∙ same)) c.in_ok-close_doc-in-Some.ensures.ok c.in_ok-new_doc-in-Some.ensures.ok in
    rw (found_or_new c.args.option c.args.self.now c.args.term.now (Some c.in-Some.recorder.now) found)
    (recorded_refusal c.args.doc c.args.position was (any_state c.new_doc.new.self) c.record_position-in-Some.result opened c.record_position-in-Some.ensures.faults)

pub returns-in_err-record_position-in-None-clause-refused : goal.returns-in_err-record_position-in-None-clause-refused
returns-in_err-record_position-in-None-clause-refused c =
    let absent = recorder_under c.self.inside.recorders c.args.self.now c.args.term.now None c.self.view_is c.in-None.ensures.value in
    let p = err_from_is_err_and c.from_residual-in_err-record_position-in-None.result c.from_residual-in_err-record_position-in-None.ensures.1 in
    let opened = c.in_ok-new_doc-in-None.ensures.ok ∙ ap (λ (q : RecorderState). record q { pending = Some (begun q.option c.args.doc) }) c.new-recorder.ensures in
    rw (p.1, p.2, found_or_new c.args.option c.args.self.now c.args.term.now None absent)
    (recorded_refusal c.args.doc c.args.position (new_recorder c.args.option) (any_state c.new_doc-in-None.new.self) (Err c.in_err-record_position-in-None.field-0.0) opened c.in_err-record_position-in-None.ensures.faults)

pub invariant_of-self-in-None : goal.invariant_of-self-in-None
invariant_of-self-in-None c =
    whole_keys c.get_mut.follows.lender-at-none c.insert.new.self c.in_ok-key-in-None.key c.record_position-in-None.new.self c.in_ok-insert-in-None.ensures.entries (rw c.get_mut.follows.holds-at-none c.self.invariant) (rw c.in_ok-key-in-None.ensures.ok c.requires.term)

pub returns-in_ok-insert-in-None-clause-ok : goal.returns-in_ok-insert-in-None-clause-ok
returns-in_ok-insert-in-None-clause-ok c =
    let absent = recorder_under c.self.inside.recorders c.args.self.now c.args.term.now None c.self.view_is c.in-None.ensures.value in
    let opened = c.in_ok-new_doc-in-None.ensures.ok ∙ ap (λ (q : RecorderState). record q { pending = Some (begun q.option c.args.doc) }) c.new-recorder.ensures in
    let recorded = recorded_in c.args.doc c.args.position (new_recorder c.args.option) (any_state c.new_doc-in-None.new.self) (any_state c.record_position-in-None.new.self) opened c.in_ok-record_position-in-None.ensures.ok in
    is_inserted c.args.option c.args.doc c.args.position c.args.term.now c.get_mut.follows.lender-at-none c.insert.new.self c.in_ok-key-in-None.key c.record_position-in-None.new.self c.args.self.now
    c.in_ok-insert-in-None.ensures.updates c.in_ok-key-in-None.ensures.ok (rw c.get_mut.follows.holds-at-none c.self.view_is) absent recorded

pub returns-in_ok-insert-in-None-clause-refused : goal.returns-in_ok-insert-in-None-clause-refused
returns-in_ok-insert-in-None-clause-refused c =
    let absent = recorder_under c.self.inside.recorders c.args.self.now c.args.term.now None c.self.view_is c.in-None.ensures.value in
    let opened = c.in_ok-new_doc-in-None.ensures.ok ∙ ap (λ (q : RecorderState). record q { pending = Some (begun q.option c.args.doc) }) c.new-recorder.ensures in
    rw (found_or_new c.args.option c.args.self.now c.args.term.now None absent)
    (recorded_refusal c.args.doc c.args.position (new_recorder c.args.option) (any_state c.new_doc-in-None.new.self) (Ok tt) opened c.in_ok-record_position-in-None.ensures.faults)
