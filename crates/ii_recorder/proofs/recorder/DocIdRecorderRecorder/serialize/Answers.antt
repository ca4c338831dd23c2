use Rattle.std.proofs.Common.{◌≡◌, List, [], ◌∷◌, map, arith, refl, subst, sym, ap, ◌∙◌}
use Rattle.ii_codes.specs.Sums.{running_sums}
use Rattle.ii_base.specs.Entries.{Entry, document}
use Rattle.ii_base.specs.declared.schema.index_record_option.IndexRecordOption.TheVariants.{Basic}
use Rattle.ii_base.specs.declared.schema.index_record_option.IndexRecordOption.{IndexRecordOption}
use Rattle.ii_recorder.specs.Gathered.{docs_state}
use Rattle.ii_recorder.specs.Pushed.{MayPush, Pushes}
use Rattle.ii_recorder.specs.Recorded.{RecorderState, entries_of_recorder}
use Rattle.ii_recorder.specs.VintRows.{numbers}
use Rattle.ii_recorder.proofs.PushLemmas.{IsPushing, pushing_may, pushing_next, pushing_none, pushing_refused, pushes_one}
use Rattle.ii_recorder.proofs.StateLemmas.{docs_are}
use Rattle.ii_recorder.proofs.recorder.DocIdRecorderRecorder.serialize.Given as given
use Rattle.ii_recorder.proofs.recorder.DocIdRecorderRecorder.serialize.Goals as goal

-- the next document may be added
may_push : (g : given.Over) (c : goal.After-write_doc-arg-in-Some-2-1 g) → MayPush Basic c.loop-doc.serializer.index.now (document c.in-Some.doc ∷ [])
may_push g c =
    let all = entries_of_recorder c.args.self.now in
    let option = ap (λ (r : RecorderState). r.option) c.self.view_is in
    let may = subst (λ (o : IndexRecordOption). MayPush o c.args.serializer.now.index.now all) (sym option) c.requires in
    pushing_may Basic c.args.serializer.now.index.now c.loop-doc.serializer.index.now all (map document c.loop-doc.docs) (document c.in-Some.doc) (map document c.next.new.self)
    c.loop-doc.invariant.3 (ap (map document) c.in-Some.ensures.steps) may

pub write_doc-pushed-requires-clause-ascending : goal.write_doc-pushed-requires-clause-ascending
write_doc-pushed-requires-clause-ascending g c opened = (may_push g c).ascending opened

pub write_doc-pushed-requires-clause-counted : goal.write_doc-pushed-requires-clause-counted
write_doc-pushed-requires-clause-counted g c opened has = ((may_push g c).counted opened has).0

pub write_doc-pushed-requires-clause-covered : goal.write_doc-pushed-requires-clause-covered
write_doc-pushed-requires-clause-covered g c opened = ((may_push g c).covered opened).0

pub loop-doc-init : goal.loop-doc-init
loop-doc-init g c =
    let s = c.args.serializer.now.index.now in
    let docs : map document c.new-docs.result ≡ entries_of_recorder (docs_state c.self.inside.deltas.items c.self.inside.is_open) = ap (map document) (c.new-docs.ensures ∙ ap (running_sums 0) (c.new.ensures ∙ ap numbers c.as_slice.ensures))
    ∙ sym (docs_are c.self.inside.deltas.items c.self.inside.last c.self.inside.is_open c.self.invariant) in
    let none = pushing_none Basic s (map document c.new-docs.result) c.check_open-checked.result c.check_open-checked.ensures (sym c.is_err.ensures.value ∙ c.if-is_err.false) in
    (tt, tt, refl, subst (λ (es : List Entry). IsPushing Basic s s es (map document c.new-docs.result)) (docs ∙ ap entries_of_recorder c.self.view_is) none)

pub returns-then-is_err-2-clause-pushes : goal.returns-then-is_err-2-clause-pushes
returns-then-is_err-2-clause-pushes g c =
    let e = c.write_doc-pushed.ensures in
    let pushed = pushes_one Basic c.loop-doc.serializer.index.now c.write_doc-pushed.new.self.index.now (document c.in-Some.doc) 0 [] c.write_doc-pushed.result refl refl (omega arith) e.ok e.ends e.limit e.only in
    let all = entries_of_recorder c.args.self.now in
    let refused = sym c.if-is_err-2.true ∙ c.is_err-in-Some.ensures.value in
    let option = ap (λ (r : RecorderState). r.option) c.self.view_is in
    subst (λ (o : IndexRecordOption). Pushes o c.args.serializer.now.index.now c.write_doc-pushed.new.self.index.now all c.write_doc-pushed.result) option
    (pushing_refused Basic c.args.serializer.now.index.now c.loop-doc.serializer.index.now c.write_doc-pushed.new.self.index.now all (map document c.loop-doc.docs) (document c.in-Some.doc) (map document c.next.new.self)
    c.write_doc-pushed.result c.loop-doc.invariant.3 (ap (map document) c.in-Some.ensures.steps) refused pushed)

pub loop-doc-preserved : goal.loop-doc-preserved
loop-doc-preserved g c =
    let e = c.write_doc-pushed.ensures in
    let pushed = pushes_one Basic c.loop-doc.serializer.index.now c.write_doc-pushed.new.self.index.now (document c.in-Some.doc) 0 [] c.write_doc-pushed.result refl refl (omega arith) e.ok e.ends e.limit e.only in
    let all = entries_of_recorder c.args.self.now in
    let went = sym c.if-is_err-2.false ∙ c.is_err-in-Some.ensures.value in
    let next = pushing_next Basic c.args.serializer.now.index.now c.loop-doc.serializer.index.now c.write_doc-pushed.new.self.index.now all (map document c.loop-doc.docs) (document c.in-Some.doc) (map document c.next.new.self)
    c.write_doc-pushed.result c.loop-doc.invariant.3 (ap (map document) c.in-Some.ensures.steps) went pushed in
    (tt, tt, c.write_doc-pushed.ensures.same_reference ∙ c.loop-doc.invariant.2, next)
