use Rattle.std.proofs.Common.{◌≡◌, [], Some, Err, sym, ap, ◌∙◌, subst, map, ⊎_elim}
use Rattle.std.proofs.lemmas.Result.{err_from_is_err_and}
use Rattle.ii_io.specs.Composite.{composite}
use Rattle.ii_io.specs.declared.faults.Fault.{Fault}
use Rattle.ii_base.specs.Schema.{keeps_norms}
use Rattle.ii_definitions.specs.Tokens.{tokens_after}
use Rattle.ii_indexing.specs.Indexer.{IndexedFieldsState, StoresPieces}
use Rattle.ii_definitions.specs.Norms.{norm_file}
use Rattle.ii_indexing.specs.OpenDocuments.{TellsAll, with_norms}
use Rattle.ii_indexing.proofs.FinishLaws.{counted_bodies, none_of, short_bodies}
use Rattle.ii_indexing.proofs.indexed_fields.IndexedFields.finish.Goals as goal

pub returns-in_err-readers-clause-only : goal.returns-in_err-readers-clause-only
returns-in_err-readers-clause-only c =
    let p = err_from_is_err_and c.from_residual-in_err-readers.result c.from_residual-in_err-readers.ensures.1 in
    let st = subst (λ (s : IndexedFieldsState). StoresPieces c.args.schema.now s c.requires.some.pieces) (sym c.self.view_is) c.requires.some.stored.pieces in
    let same = subst (λ (s : IndexedFieldsState). with_norms s.opened.norms ≡ map keeps_norms c.args.schema.now) (sym c.self.view_is) c.requires.norms in
    let ts = tokens_after [] c.requires.some.pieces in
    let held = c.in_ok-norms.ensures.holds c.args.schema.now c.requires.some.pieces ts same st.documents in
    let bodies = norm_file c.args.schema.now c.args.num_docs ts in
    let file : composite c.in_ok-clone.field-0 ≡ Some bodies = ap composite c.in_ok-clone.ensures.cases ∙ held.opened in
    rw (p.1, p.2) (⊎_elim (λ memory. memory) (λ damaged. absurd (none_of c.in_ok-clone.field-0 bodies file (c.in_err-readers.ensures.damaged (ap (λ (f : Fault). Err f) damaged)))) c.in_err-readers.ensures.only)

pub returns-clause-norms : goal.returns-clause-norms
returns-clause-norms c ps ts told =
    let same = subst (λ (s : IndexedFieldsState). with_norms s.opened.norms ≡ map keeps_norms c.args.schema.now) (sym c.self.view_is) c.requires.norms in
    let tells = subst (λ (s : IndexedFieldsState). TellsAll ps ts s.opened) (sym c.self.view_is) told in
    c.in_ok-norms.ensures.holds c.args.schema.now ps ts same tells

pub returns-clause-short : goal.returns-clause-short
returns-clause-short c =
    let ts = tokens_after [] c.requires.some.pieces in
    let st = subst (λ (s : IndexedFieldsState). StoresPieces c.args.schema.now s c.requires.some.pieces) (sym c.self.view_is) c.requires.some.stored.pieces in
    let same = subst (λ (s : IndexedFieldsState). with_norms s.opened.norms ≡ map keeps_norms c.args.schema.now) (sym c.self.view_is) c.requires.norms in
    let held = c.in_ok-norms.ensures.holds c.args.schema.now c.requires.some.pieces ts same st.documents in
    short_bodies c.args.schema.now c.args.num_docs c.in_ok-norms.norms ts c.in_ok-readers.readers c.requires.docs held (sym (ap composite c.in_ok-clone.ensures.cases) ∙ c.in_ok-readers.ensures.opened)

pub returns-clause-many : goal.returns-clause-many
returns-clause-many c =
    let ts = tokens_after [] c.requires.some.pieces in
    let st = subst (λ (s : IndexedFieldsState). StoresPieces c.args.schema.now s c.requires.some.pieces) (sym c.self.view_is) c.requires.some.stored.pieces in
    let same = subst (λ (s : IndexedFieldsState). with_norms s.opened.norms ≡ map keeps_norms c.args.schema.now) (sym c.self.view_is) c.requires.norms in
    let held = c.in_ok-norms.ensures.holds c.args.schema.now c.requires.some.pieces ts same st.documents in
    counted_bodies c.args.schema.now c.args.num_docs c.in_ok-norms.norms ts c.in_ok-readers.readers held (sym (ap composite c.in_ok-clone.ensures.cases) ∙ c.in_ok-readers.ensures.opened)

pub returns-clause-read : goal.returns-clause-read
returns-clause-read c = sym (ap composite c.in_ok-clone.ensures.cases) ∙ c.in_ok-readers.ensures.opened
