use Rattle.std.proofs.Common.{◌≡◌, ◌<◌, sym, ap, ◌∙◌, subst, arith, Some, length, get_or}
use Rattle.std.specs.Prelude.{slice_get}
use Rattle.ii_fieldnorm.specs.Buffers.{recorded, recorded_buffers}
use Rattle.ii_indexing.specs.OpenDocuments.{OpenDocumentsState, ReachTo, TellsAll, empty_document, with_norms}
use Rattle.ii_indexing.proofs.DocumentLaws.{opened_behind, opened_reach, opened_tells}
use Rattle.ii_indexing.proofs.StoreLaws.{set_same}
use Rattle.ii_indexing.proofs.StoredLaws.{norms_kept}
use Rattle.ii_indexing.proofs.open_documents.OpenDocuments.open.Goals as goal
use Rattle.ii_postings_writer.proofs.ByFieldLemmas.{got_at}

pub invariant_of-self-2 : goal.invariant_of-self-2
invariant_of-self-2 c =
    let s : OpenDocumentsState = record { documents = c.self.inside.documents.items; norms = c.self.inside.norms } in
    let last = c.index-last.result.now in
    let known : c.args.field < length s.documents = subst (λ (q : OpenDocumentsState). c.args.field < length q.documents) (sym c.self.view_is) c.requires.known in
    let found : slice_get s.documents c.args.field ≡ Some last = got_at s.documents c.args.field last known (c.index-last.ensures ∙ ap (λ i. get_or s.documents i last) c.field_id-index.ensures) in
    let reach = subst (λ (q : OpenDocumentsState). ReachTo c.args.doc q) (sym c.self.view_is) c.requires.reach in
    let above : last.doc < c.args.doc = grind (arith, c.if-last-doc.false, reach c.args.field last found) in
    rw (c.in_ok-record.ensures.ok, c.field_id-index.ensures) (opened_behind s c.args.field c.args.doc last found above c.self.invariant)

pub returns-clause-found : goal.returns-clause-found
returns-clause-found c =
    let s : OpenDocumentsState = record { documents = c.self.inside.documents.items; norms = c.self.inside.norms } in
    let last = c.index-last.result.now in
    let known : c.args.field < length s.documents = subst (λ (q : OpenDocumentsState). c.args.field < length q.documents) (sym c.self.view_is) c.requires.known in
    let found : slice_get s.documents c.args.field ≡ Some last = got_at s.documents c.args.field last known (c.index-last.ensures ∙ ap (λ i. get_or s.documents i last) c.field_id-index.ensures) in
    rw c.field_id-index.ensures (set_same s.documents c.args.field last (empty_document c.args.doc) found)

pub returns-clause-told : goal.returns-clause-told
returns-clause-told c ps ts h =
    let s : OpenDocumentsState = record { documents = c.self.inside.documents.items; norms = c.self.inside.norms } in
    let last = c.index-last.result.now in
    let known : c.args.field < length s.documents = subst (λ (q : OpenDocumentsState). c.args.field < length q.documents) (sym c.self.view_is) c.requires.known in
    let found : slice_get s.documents c.args.field ≡ Some last = got_at s.documents c.args.field last known (c.index-last.ensures ∙ ap (λ i. get_or s.documents i last) c.field_id-index.ensures) in
    let reach = subst (λ (q : OpenDocumentsState). ReachTo c.args.doc q) (sym c.self.view_is) c.requires.reach in
    let above : last.doc < c.args.doc = grind (arith, c.if-last-doc.false, reach c.args.field last found) in
    let old = subst (λ (q : OpenDocumentsState). TellsAll ps ts q) (sym c.self.view_is) h in
    rw (c.in_ok-record.ensures.ok, c.field_id-index.ensures) (opened_tells ps ts s c.args.field c.args.doc last found above c.self.invariant old)

pub returns-clause-reach : goal.returns-clause-reach
returns-clause-reach c =
    let s : OpenDocumentsState = record { documents = c.self.inside.documents.items; norms = c.self.inside.norms } in
    let last = c.index-last.result.now in
    let reach = subst (λ (q : OpenDocumentsState). ReachTo c.args.doc q) (sym c.self.view_is) c.requires.reach in
    rw c.field_id-index.ensures (opened_reach s c.args.field c.args.doc last reach)

pub returns-clause-norms : goal.returns-clause-norms
returns-clause-norms c =
    let last = c.index-last.result.now in
    rw c.in_ok-record.ensures.ok
    (subst (λ (q : OpenDocumentsState). with_norms (recorded_buffers c.args.field last.doc last.norm c.self.inside.norms) ≡ with_norms q.norms) c.self.view_is (norms_kept c.self.inside.norms c.args.field (recorded last.doc last.norm)))
