use Rattle.std.proofs.Common.{◌∙◌, ◌≤◌, List, ℕ, length, take, take_all, add-one, refl, sym, subst, arith, slice_index_or}
use Rattle.std.proofs.lemmas.Option.{slice_get-get_or}
use Rattle.ii_fieldnorm.specs.Buffers.{recorded, recorded_buffers}
use Rattle.ii_indexing.specs.declared.open_documents.OpenDocument.{OpenDocument}
use Rattle.ii_indexing.specs.OpenDocuments.{AreClosed, empty_document}
use Rattle.ii_indexing.proofs.NormFileLaws.{may_close, one_closed}
use Rattle.ii_indexing.proofs.StoredLaws.{norms_kept}
use Rattle.ii_indexing.proofs.open_documents.close_documents.Goals as goal

pub loop-place-init : goal.loop-place-init
loop-place-init c = (λ field. refl, refl)

pub record-requires : goal.record-requires
record-requires c =
    let ds = c.args.documents.now in
    let k = c.loop-place.place in
    let d = slice_index_or ds k (empty_document 0) in
    rw c.from_field_id-field.ensures (may_close ds c.args.norms.now c.loop-place.norms k d (slice_get-get_or ds k (empty_document 0) c.loop-place-test.true) c.loop-place.invariant.0 c.requires.behind)

pub loop-place-preserved : goal.loop-place-preserved
loop-place-preserved c =
    let ds = c.args.documents.now in
    let k = c.loop-place.place in
    let d = slice_index_or ds k (empty_document 0) in
    let at = slice_get-get_or ds k (empty_document 0) c.loop-place-test.true in
    rw (c.in_ok-record.ensures.ok, c.from_field_id-field.ensures) (
      subst (λ (n : ℕ). AreClosed (take n ds) c.args.norms.now (recorded_buffers k d.doc d.norm c.loop-place.norms)) (sym (add-one k)) (one_closed ds c.args.norms.now c.loop-place.norms k d at c.loop-place.invariant.0),
      norms_kept c.loop-place.norms k (recorded d.doc d.norm) ∙ c.loop-place.invariant.1,
    )

pub returns-clause-ok : goal.returns-clause-ok
returns-clause-ok c =
    let ds = c.args.documents.now in
    let k = c.loop-place.place in
    let past : length ds ≤ k = grind (arith, c.loop-place-test.false) in
    subst (λ (xs : List OpenDocument). AreClosed xs c.args.norms.now c.loop-place.norms) (take_all k ds past) c.loop-place.invariant.0

pub returns-clause-norms : goal.returns-clause-norms
returns-clause-norms c = c.loop-place.invariant.1
