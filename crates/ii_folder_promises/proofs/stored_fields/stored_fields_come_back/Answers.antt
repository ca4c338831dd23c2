use Rattle.std.proofs.Common.{◌≡◌, ◌∙◌, ◌<◌, ℕ, false, List, [], ◌∷◌, Some, arith, length, subst, sym}
use Rattle.ii_doc_store.specs.StoreReader.{HoldsDocuments}
use Rattle.ii_documents.specs.Records.{IsRecordBy}
use Rattle.ii_schema_text.specs.Stored.{stored_names}
use Rattle.ii_segment_store.specs.Contents.{files_contents}
use Rattle.ii_folder_promises.proofs.StoredFieldsLaws.{has_last, record_without_line, same_fault, store_holds}
use Rattle.ii_folder_promises.proofs.stored_fields.stored_fields_come_back.Goals as goal

pub returns-in-Ok-line_of-clause-fields : goal.returns-in-Ok-line_of-clause-fields
returns-in-Ok-line_of-clause-fields g c =
    let s = files_contents c.in-Ok.segment in
    let last = has_last s _ c.in-Ok-load_segments.loaded (sym (c.in-Ok-append_segment.ensures.appended c.requires.known) ∙ c.in-Ok-load_segments.ensures.answers (c.in-Ok-append_segment.ensures.known c.requires.known)) in
    let file : Some c.in-Some.store.items ≡ s.store = c.in-Some.ensures last.0 s last.1 in
    let kept = c.in-Ok.ensures.stored in
    let holds : HoldsDocuments c.in-Ok-from_vec.bytes (kept.0 ∷ []) = subst (λ (bs : List ℕ). HoldsDocuments bs (kept.0 ∷ [])) (sym c.in-Ok-from_vec.ensures.ok) (store_holds s.store c.in-Some.store.items kept.0 (sym file) kept.2) in
    let first : 0 < length (kept.0 ∷ []) = omega arith in
    let same : c.in-Ok-line_of.found.items ≡ kept.0 = c.in-Ok-line_of.ensures.same (kept.0 ∷ []) holds first in
    subst (λ (r : List ℕ). IsRecordBy false (stored_names c.args.stored.fields c.args.schema) c.args.line.now r) (sym same) (record_without_line c.args.stored c.args.schema c.args.line.now kept.0 c.requires.members kept.1)

pub returns-clause-there : goal.returns-clause-there
returns-clause-there g c =
    let s = files_contents c.in-Ok.segment in
    let last = has_last s _ c.in-Ok-load_segments.loaded (sym (c.in-Ok-append_segment.ensures.appended c.requires.known) ∙ c.in-Ok-load_segments.ensures.answers (c.in-Ok-append_segment.ensures.known c.requires.known)) in
    let file : Some c.in-Some.store.items ≡ s.store = c.in-Some.ensures last.0 s last.1 in
    let kept = c.in-Ok.ensures.stored in
    let holds : HoldsDocuments c.in-Ok-from_vec.bytes (kept.0 ∷ []) = subst (λ (bs : List ℕ). HoldsDocuments bs (kept.0 ∷ [])) (sym c.in-Ok-from_vec.ensures.ok) (store_holds s.store c.in-Some.store.items kept.0 (sym file) kept.2) in
    let first : 0 < length (kept.0 ∷ []) = omega arith in
    λ is. c.in-Err-line_of.ensures.there (kept.0 ∷ []) holds first (same_fault c.in-Err-line_of.fault _ is)
