use Rattle.std.proofs.Common.{◌∙◌, sym, ap, subst}
use Rattle.std.proofs.lemmas.Result.{err_from_is_err_and}
use Rattle.ii_definitions.specs.Fields.{option_of}
use Rattle.ii_definitions.specs.Tokens.{text_at}
use Rattle.ii_json.specs.Paths.{with_path}
use Rattle.ii_indexing.specs.IndexedTerms.{IndexedTermsState}
use Rattle.ii_indexing.specs.Indexer.{EndsAt, IndexedFieldsState, StoresAll}
use Rattle.ii_indexing.specs.OpenPaths.{text_prefix}
use Rattle.ii_indexing.proofs.FieldLists.{known_by}
use Rattle.ii_indexing.proofs.KnownLaws.{ends_known, known_stored, leaf_stored, path_refused, text_alike, text_leaf_cause}
use Rattle.ii_postings_writer.proofs.TermIndexLemmas.{on_both}
use Rattle.ii_indexing.proofs.indexed_fields.IndexedFields.index_text_at.Goals as goal

pub index_words_at-requires-clause-ends : goal.index_words_at-requires-clause-ends
index_words_at-requires-clause-ends g c =
    let s : IndexedFieldsState = record { indexed = c.self.inside.terms; opened = c.self.inside.documents; paths = c.self.inside.paths } in
    ends_known s c.path_id.new.self c.args.doc (with_path c.self.inside.terms.paths c.args.path.now) c.in_ok-path_id.ensures.known (subst (EndsAt c.args.doc) (sym c.self.view_is) c.requires.ends)

pub returns-clause-stored : goal.returns-clause-stored
returns-clause-stored g c =
    let s : IndexedFieldsState = record { indexed = c.self.inside.terms; opened = c.self.inside.documents; paths = c.self.inside.paths } in
    let new = c.index_words_at.new.self in
    let words = g.S.TokenStream.to_come c.args.tokens.now in
    let path = c.args.path.now in
    let text = text_at c.args.doc c.args.field (text_prefix path) words in
    on_both c.index_words_at.result _ _ _
    (λ h same entries ps takes stored.
    let st = subst (λ (q : IndexedFieldsState). StoresAll entries q ps) (sym c.self.view_is) stored in
    leaf_stored entries s new ps path text (text_alike path c.args.doc c.args.field (text_prefix path) words) (same ∙ ap (λ (i : IndexedTermsState). i.paths) c.in_ok-path_id.ensures.known) st
    (h entries ps path takes (known_by s.indexed c.path_id.new.self path c.in_ok-path_id.path_id c.requires.path c.in_ok-path_id.ensures.known c.in_ok-path_id.ensures.ok)
    (known_stored entries s c.path_id.new.self ps path c.in_ok-path_id.ensures.known c.requires.path c.in_ok-path_id.ensures.refused c.path_id.ensures.distinct st.pieces)))
    c.index_words_at.ensures.stored c.index_words_at.ensures.same_paths

pub returns-in_err-path_id-clause-refused : goal.returns-in_err-path_id-clause-refused
returns-in_err-path_id-clause-refused g c entries ps takes stored =
    let st = subst (λ (q : IndexedFieldsState). StoresAll entries q ps) (sym c.self.view_is) stored in
    let p = err_from_is_err_and c.from_residual.result c.from_residual.ensures.1 in
    rw (p.1, p.2) (path_refused (option_of entries c.args.field) ps c.self.inside.terms.paths c.args.path.now (text_at c.args.doc c.args.field (text_prefix c.args.path.now) (g.S.TokenStream.to_come c.args.tokens.now)) _ st.known c.in_err-path_id.ensures.refused)

pub returns-clause-refused : goal.returns-clause-refused
returns-clause-refused g c entries ps takes stored =
    let s : IndexedFieldsState = record { indexed = c.self.inside.terms; opened = c.self.inside.documents; paths = c.self.inside.paths } in
    let words = g.S.TokenStream.to_come c.args.tokens.now in
    let path = c.args.path.now in
    let st = subst (λ (q : IndexedFieldsState). StoresAll entries q ps) (sym c.self.view_is) stored in
    text_leaf_cause (option_of entries c.args.field) ps s.indexed.paths path c.args.doc c.args.field (text_prefix path) words c.index_words_at.result st.known c.in_ok-path_id.ensures.refused
    (c.index_words_at.ensures.refused entries ps path takes (known_by s.indexed c.path_id.new.self path c.in_ok-path_id.path_id c.requires.path c.in_ok-path_id.ensures.known c.in_ok-path_id.ensures.ok)
    (known_stored entries s c.path_id.new.self ps path c.in_ok-path_id.ensures.known c.requires.path c.in_ok-path_id.ensures.refused c.path_id.ensures.distinct st.pieces))
