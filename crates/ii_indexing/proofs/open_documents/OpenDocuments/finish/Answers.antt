use Rattle.std.proofs.Common.{◌≡◌, ◌<◌, ◌^◌, ◌∙◌, Bool, List, ℕ, Some, None, length, map, sym, ap, subst}
use Rattle.std.specs.Prelude.{if◌then◌else◌}
use Rattle.ii_io.specs.Composite.{composite, written_composite}
use Rattle.ii_base.specs.Schema.{SchemaEntry, keeps_norms}
use Rattle.ii_fieldnorm.specs.Buffers.{Buffers, filled_buffers, norm_bodies}
use Rattle.ii_definitions.specs.Tokens.{IndexToken, Piece}
use Rattle.ii_indexing.specs.OpenDocuments.{AreClosed, OpenDocumentsState, TellsAll, with_norms}
use Rattle.ii_indexing.specs.declared.open_documents.OpenDocument.{OpenDocument}
use Rattle.ii_postings_writer.proofs.SortedLemmas.{if_both}
use Rattle.ii_definitions.specs.Norms.{HoldNorms, norm_ids}
use Rattle.ii_indexing.proofs.FinishLaws.{norm_at}
use Rattle.ii_indexing.proofs.NormFileLaws.{closed_buffers, few_filled, file_small, holds_norms, with_filled}
use Rattle.ii_indexing.proofs.open_documents.OpenDocuments.finish.Goals as goal

pub norms_file-requires-clause-few : goal.norms_file-requires-clause-few
norms_file-requires-clause-few c =
    let few = subst (λ (q : OpenDocumentsState). length q.norms < 2 ^ 32) (sym c.self.view_is) c.requires.few in
    rw c.in_ok-fill_up_to_max_doc.ensures.ok (few_filled c.args.num_docs c.self.inside.norms c.close_documents.new.norms c.in_ok-close_documents.ensures.norms few).1

pub norms_file-requires-clause-small : goal.norms_file-requires-clause-small
norms_file-requires-clause-small c =
    let few = subst (λ (q : OpenDocumentsState). length q.norms < 2 ^ 32) (sym c.self.view_is) c.requires.few in
    rw c.in_ok-fill_up_to_max_doc.ensures.ok
    (file_small c.args.num_docs c.close_documents.new.norms c.requires.docs (few_filled c.args.num_docs c.self.inside.norms c.close_documents.new.norms c.in_ok-close_documents.ensures.norms few).0)

pub returns-clause-holds : goal.returns-clause-holds
returns-clause-holds c =
    let s : OpenDocumentsState = record { documents = c.self.inside.documents.items; norms = c.self.inside.norms } in
    let closed = c.close_documents.new.norms in
    let n = c.args.num_docs in
    let filled = filled_buffers n closed in
    let same = subst (λ (q : OpenDocumentsState). length q.documents ≡ length q.norms) (sym c.self.view_is) c.requires.fields in
    let closes = subst (λ (ds : List OpenDocument). AreClosed ds s.norms closed) c.deref.ensures.value c.in_ok-close_documents.ensures.ok in
    let now = c.in_ok-fill_up_to_max_doc.ensures.ok in
    if_both c.norms_file.result (λ (bytes : List ℕ). bytes ≡ written_composite (norm_bodies c.fill_up_to_max_doc.new.self)) (λ (bytes : List ℕ). composite bytes ≡ Some (norm_bodies c.fill_up_to_max_doc.new.self))
    (λ (bytes : List ℕ). (entries : List SchemaEntry) (ps : List Piece) (ts : List IndexToken) → with_norms c.args.self.norms ≡ map keeps_norms entries → TellsAll ps ts c.args.self → HoldNorms entries n bytes ts)
    (λ bytes written reads entries ps ts keep told.
    let kept = subst (λ (q : OpenDocumentsState). with_norms q.norms ≡ map keeps_norms entries) (sym c.self.view_is) keep in
    let tells = subst (TellsAll ps ts) (sym c.self.view_is) told in
    holds_norms filled entries n bytes ts (with_filled n closed ∙ c.in_ok-close_documents.ensures.norms ∙ kept)
    (λ field. closed_buffers s closed n ps ts same c.self.invariant tells closes field ∙ ap (λ (b : Bool). if b then Some (norm_ids n field ts) else None) (norm_at s.norms entries field kept))
    (written ∙ ap (λ (bs : Buffers). written_composite (norm_bodies bs)) now) (reads ∙ ap (λ (bs : Buffers). Some (norm_bodies bs)) now))
    c.norms_file.ensures.written c.norms_file.ensures.reads
