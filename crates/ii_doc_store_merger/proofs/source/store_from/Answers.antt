use Rattle.std.proofs.Common.{◌≡◌, ◌∙◌, Err, Result, ap, refl, subst}
use Rattle.std.specs.Prelude.{IsTrue, OnErr}
use Rattle.ii_doc_store.specs.declared.faults.StoreWriteFault.{StoreWriteFault}
use Rattle.ii_doc_store.specs.StoreReader.{document_of_read}
use Rattle.ii_doc_store.specs.StoreWriter.{OfLimit, stored_bytes}
use Rattle.ii_doc_store_merger.specs.declared.faults.StoreMergeFault.TheVariants.{Damaged, DocumentLen, NumDocs}
use Rattle.ii_doc_store_merger.specs.StoreSources.{IsDocumentFault}
use Rattle.ii_doc_store_merger.proofs.WriterLemmas.{stored_document, stored_fault, stored_part, stores_nothing}
use Rattle.ii_doc_store_merger.proofs.source.store_from.Goals as goal

pub returns-in-Err-clause-more : goal.returns-in-Err-clause-more
returns-in-Err-clause-more g c = stores_nothing c.args.writer.now c.args.writer.now (Damaged c.args.place c.in-Err.damage) refl (λ e. absurd (cc)) (λ sound. absurd (sound tt))

pub returns-in-Ok-store-clause-more : goal.returns-in-Ok-store-clause-more
returns-in-Ok-store-clause-more g c =
    stored_document c.args.writer.now c.store.new.self (stored_bytes c.args.writer.now.block c.in-Ok.document.now) c.store.result c.requires.«open» c.store.ensures.written c.in-Ok-store.is

pub returns-in-Err-Output-clause-more : goal.returns-in-Err-Output-clause-more
returns-in-Err-Output-clause-more g c =
    let arm = c.in-Err-Output in
    stored_part c.args.writer.now c.store.new.self (stored_bytes c.args.writer.now.block c.in-Ok.document.now) c.store.result c.requires.«open» c.store.ensures.written arm.fault (arm.is ∙ ap (λ (e : StoreWriteFault). Err e) arm.field-0-is) c.store.ensures.closed

pub returns-in-Err-Output-clause-fault : goal.returns-in-Err-Output-clause-fault
returns-in-Err-Output-clause-fault g c =
    let arm = c.in-Err-Output in
    stored_fault c.args.writer.now c.store.new.self (stored_bytes c.args.writer.now.block c.in-Ok.document.now) c.store.result c.requires.«open» c.store.ensures.written
    (IsDocumentFault c.args.writer.now.num_docs c.args.place (document_of_read c.args.block.now c.args.doc)) arm.fault (arm.is ∙ ap (λ (e : StoreWriteFault). Err e) arm.field-0-is) (λ known. known)

pub returns-in-Err-DocumentLen-clause-more : goal.returns-in-Err-DocumentLen-clause-more
returns-in-Err-DocumentLen-clause-more g c =
    let arm = c.in-Err-DocumentLen in
    let old = c.args.writer.now in
    let new = c.store.new.self in
    let is = arm.is ∙ ap (λ (e : StoreWriteFault). Err e) arm.field-0-is in
    let same = subst (λ (r : Result (Unit {0}) StoreWriteFault). OfLimit r (new.writer ≡ old.writer)) is c.store.ensures.limits in
    let closed = subst (λ (r : Result (Unit {0}) StoreWriteFault). OnErr r (IsTrue new.closed)) is c.store.ensures.closed in
    stores_nothing old new (DocumentLen c.args.place) same (λ e. absurd (cc)) (λ sound. closed)

pub returns-in-Err-NumDocs-clause-more : goal.returns-in-Err-NumDocs-clause-more
returns-in-Err-NumDocs-clause-more g c =
    let arm = c.in-Err-NumDocs in
    let old = c.args.writer.now in
    let new = c.store.new.self in
    let is = arm.is ∙ ap (λ (e : StoreWriteFault). Err e) arm.field-0-is in
    let same = subst (λ (r : Result (Unit {0}) StoreWriteFault). OfLimit r (new.writer ≡ old.writer)) is c.store.ensures.limits in
    let closed = subst (λ (r : Result (Unit {0}) StoreWriteFault). OnErr r (IsTrue new.closed)) is c.store.ensures.closed in
    stores_nothing old new NumDocs same (λ e. absurd (cc)) (λ sound. closed)
