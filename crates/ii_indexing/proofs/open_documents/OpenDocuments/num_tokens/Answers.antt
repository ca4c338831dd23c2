use Rattle.std.proofs.Common.{◌≡◌, ◌<◌, ◌≤◌, sym, ap, ◌∙◌, subst, refl, Some, length, get_or}
use Rattle.std.specs.Prelude.{slice_get}
use Rattle.std.proofs.lemmas.Bool.{eq-eqb, ne_eqb}
use Rattle.ii_indexing.specs.OpenDocuments.{OpenDocumentsState, ReachTo, TellsAll, document_at}
use Rattle.ii_indexing.proofs.open_documents.OpenDocuments.num_tokens.Goals as goal
use Rattle.ii_postings_writer.proofs.ByFieldLemmas.{got_at}

pub returns-then-last-doc : goal.returns-then-last-doc
returns-then-last-doc c ps ts h =
    let s : OpenDocumentsState = record { documents = c.self.inside.documents.items; norms = c.self.inside.norms } in
    let last = c.index-last.result.now in
    let known : c.args.field < length s.documents = subst (λ (q : OpenDocumentsState). c.args.field < length q.documents) (sym c.self.view_is) c.requires.known in
    let found : slice_get s.documents c.args.field ≡ Some last = got_at s.documents c.args.field last known (c.index-last.ensures ∙ ap (λ i. get_or s.documents i last) c.field_id.ensures) in
    let reach = subst (λ (q : OpenDocumentsState). ReachTo c.args.doc q) (sym c.self.view_is) c.requires.reach in
    let tells = subst (λ (q : OpenDocumentsState). TellsAll ps ts q) (sym c.self.view_is) h in
    let same : (document_at c.args.doc last).norm ≡ last.norm = rw (eq-eqb last.doc c.args.doc c.if-last-doc.true) refl in
    sym ((tells c.args.field last found).count c.args.doc (reach c.args.field last found) ∙ same)

pub returns-else-last-doc : goal.returns-else-last-doc
returns-else-last-doc c ps ts h =
    let s : OpenDocumentsState = record { documents = c.self.inside.documents.items; norms = c.self.inside.norms } in
    let last = c.index-last.result.now in
    let known : c.args.field < length s.documents = subst (λ (q : OpenDocumentsState). c.args.field < length q.documents) (sym c.self.view_is) c.requires.known in
    let found : slice_get s.documents c.args.field ≡ Some last = got_at s.documents c.args.field last known (c.index-last.ensures ∙ ap (λ i. get_or s.documents i last) c.field_id.ensures) in
    let reach = subst (λ (q : OpenDocumentsState). ReachTo c.args.doc q) (sym c.self.view_is) c.requires.reach in
    let tells = subst (λ (q : OpenDocumentsState). TellsAll ps ts q) (sym c.self.view_is) h in
    let none : (document_at c.args.doc last).norm ≡ 0 = rw (ne_eqb last.doc c.args.doc c.if-last-doc.false) refl in
    sym ((tells c.args.field last found).count c.args.doc (reach c.args.field last found) ∙ none)
