use Rattle.std.proofs.Common.{◌∙◌, List, ℕ, sym, ap, subst}
use Rattle.std.proofs.lemmas.Result.{err_from_is_err_and}
use Rattle.std.specs.Prelude.{OnOk}
use Rattle.ii_base.specs.Values.{json_key, typed_key}
use Rattle.ii_definitions.specs.Fields.{option_of}
use Rattle.ii_definitions.specs.Tokens.{value_at}
use Rattle.ii_json.specs.Paths.{with_path}
use Rattle.ii_postings_writer.specs.ResolvedTerms.{held_value}
use Rattle.ii_indexing.specs.IndexedTerms.{IndexedTermsState}
use Rattle.ii_indexing.specs.Indexer.{EndsAt, IndexedFieldsState, StoresAll}
use Rattle.ii_indexing.proofs.CallLaws.{HeldRefused, ValueHeld}
use Rattle.ii_indexing.proofs.FieldLists.{takes_number_known}
use Rattle.ii_indexing.proofs.KnownLaws.{ends_known, known_stored, leaf_stored, path_refused, value_alike, value_leaf_cause}
use Rattle.ii_postings_writer.proofs.TermIndexLemmas.{on_both}
use Rattle.ii_indexing.proofs.indexed_fields.IndexedFields.index_number_at.Goals as goal

pub index_value-requires-clause-ends : goal.index_value-requires-clause-ends
index_value-requires-clause-ends c =
    let s : IndexedFieldsState = record { indexed = c.self.inside.terms; opened = c.self.inside.documents; paths = c.self.inside.paths } in
    ends_known s c.path_id.new.self c.args.doc (with_path c.self.inside.terms.paths c.args.path.now) c.in_ok-path_id.ensures.known (subst (EndsAt c.args.doc) (sym c.self.view_is) c.requires.ends)

pub returns-clause-stored : goal.returns-clause-stored
returns-clause-stored c =
    let s : IndexedFieldsState = record { indexed = c.self.inside.terms; opened = c.self.inside.documents; paths = c.self.inside.paths } in
    let mid : IndexedFieldsState = record s { indexed = c.path_id.new.self } in
    let new = c.index_value.new.self in
    let path = c.args.path.now in
    let typed = typed_key c.args.value_type c.args.number in
    let key = json_key path typed in
    let value = value_at c.args.doc c.args.field key in
    let held = c.held_number-held.ensures ∙ ap (λ (id : ℕ). held_value id typed) c.in_ok-path_id.ensures.ok in
    let told = subst (λ (l : List ℕ). OnOk c.index_value.result (ValueHeld mid new c.args.doc c.args.field l)) held c.index_value.ensures.stored in
    on_both c.index_value.result _ _ _
    (λ h same entries ps takes stored.
    let st = subst (λ (q : IndexedFieldsState). StoresAll entries q ps) (sym c.self.view_is) stored in
    leaf_stored entries s new ps path value (value_alike path c.args.doc c.args.field key) (same ∙ ap (λ (i : IndexedTermsState). i.paths) c.in_ok-path_id.ensures.known) st
    (h entries ps key (takes_number_known entries s.indexed c.path_id.new.self c.args.field takes path c.args.value_type c.args.number c.requires.path c.requires.number c.in_ok-path_id.ensures.known)
    (known_stored entries s c.path_id.new.self ps path c.in_ok-path_id.ensures.known c.requires.path c.in_ok-path_id.ensures.refused c.path_id.ensures.distinct st.pieces)))
    told c.index_value.ensures.same_paths

pub returns-in_err-path_id-clause-refused : goal.returns-in_err-path_id-clause-refused
returns-in_err-path_id-clause-refused c entries ps takes stored =
    let st = subst (λ (q : IndexedFieldsState). StoresAll entries q ps) (sym c.self.view_is) stored in
    let p = err_from_is_err_and c.from_residual.result c.from_residual.ensures.1 in
    rw (p.1, p.2) (path_refused (option_of entries c.args.field) ps c.self.inside.terms.paths c.args.path.now (value_at c.args.doc c.args.field (json_key c.args.path.now (typed_key c.args.value_type c.args.number))) _ st.known c.in_err-path_id.ensures.refused)

pub returns-clause-refused : goal.returns-clause-refused
returns-clause-refused c entries ps takes stored =
    let s : IndexedFieldsState = record { indexed = c.self.inside.terms; opened = c.self.inside.documents; paths = c.self.inside.paths } in
    let mid : IndexedFieldsState = record s { indexed = c.path_id.new.self } in
    let path = c.args.path.now in
    let typed = typed_key c.args.value_type c.args.number in
    let key = json_key path typed in
    let held = c.held_number-held.ensures ∙ ap (λ (id : ℕ). held_value id typed) c.in_ok-path_id.ensures.ok in
    let st = subst (λ (q : IndexedFieldsState). StoresAll entries q ps) (sym c.self.view_is) stored in
    let told = subst (λ (l : List ℕ). HeldRefused mid c.index_value.result c.args.doc c.args.field l) held c.index_value.ensures.refused in
    value_leaf_cause (option_of entries c.args.field) ps s.indexed.paths path c.args.doc c.args.field key c.index_value.result st.known c.in_ok-path_id.ensures.refused
    (told entries ps key (takes_number_known entries s.indexed c.path_id.new.self c.args.field takes path c.args.value_type c.args.number c.requires.path c.requires.number c.in_ok-path_id.ensures.known)
    (known_stored entries s c.path_id.new.self ps path c.in_ok-path_id.ensures.known c.requires.path c.in_ok-path_id.ensures.refused c.path_id.ensures.distinct st.pieces))
