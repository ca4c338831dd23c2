use Rattle.std.proofs.Common.{[], ◌++◌, ◌∷◌, List, ℕ, sym, ◌∙◌, subst, refl}
use Rattle.std.proofs.lemmas.List.{length-set}
use Rattle.std.proofs.lemmas.Result.{err_from_is_err_and}
use Rattle.ii_definitions.specs.Tokens.{tokens_after, value_at}
use Rattle.ii_indexing.specs.IndexedTerms.{TakesValue}
use Rattle.ii_indexing.specs.Indexer.{EndsAt, IndexedFieldsState, StoresPieces}
use Rattle.ii_indexing.specs.OpenPaths.{TellAllPaths}
use Rattle.ii_indexing.specs.declared.open_documents.OpenDocument.{OpenDocument}
use Rattle.ii_indexing.proofs.PathLaws.{paths_kept, value_has_none}
use Rattle.ii_indexing.proofs.PieceLaws.{reach_put, value_added}
use Rattle.ii_indexing.proofs.indexed_fields.IndexedFields.index_value.Goals as goal

pub returns-in_err-index_value-clause-refused : goal.returns-in_err-index_value-clause-refused
returns-in_err-index_value-clause-refused c entries ps key takes stored =
    let st = subst (λ (s : IndexedFieldsState). StoresPieces entries s ps) (sym c.self.view_is) stored in
    let taken = subst (λ (s : IndexedFieldsState). TakesValue entries s.indexed.paths c.args.field c.args.held.now key) (sym c.self.view_is) takes in
    let p = err_from_is_err_and c.from_residual-in_err-index_value.result c.from_residual-in_err-index_value.ensures.1 in
    rw (p.1, p.2) (c.in_err-index_value.ensures.refused entries (tokens_after [] ps) key taken st.tokens)

pub returns-clause-stored : goal.returns-clause-stored
returns-clause-stored c entries ps key takes stored =
    let st = subst (λ (s : IndexedFieldsState). StoresPieces entries s ps) (sym c.self.view_is) stored in
    let taken = subst (λ (s : IndexedFieldsState). TakesValue entries s.indexed.paths c.args.field c.args.held.now key) (sym c.self.view_is) takes in
    let d = c.in_ok-open.open in
    let told = c.in_ok-open.ensures.told ps (tokens_after [] ps) st.documents in
    let new : OpenDocument = record { doc = c.args.doc; num_tokens = d.num_tokens; end_position = d.end_position; norm = c.saturating_add.result } in
    let p = value_at c.args.doc c.args.field key in
    let by_path = subst (λ (known : List (List ℕ)). TellAllPaths known (ps ++ p ∷ []) c.self.inside.paths) (sym c.in_ok-index_value.ensures.paths)
    (paths_kept c.self.inside.terms.paths ps p c.self.inside.paths (value_has_none c.args.doc c.args.field key) st.paths) in
    rw c.put.ensures
    (value_added entries ps c.index_value.new.self c.open.new.self d new c.self.inside.paths c.args.doc c.args.field key by_path told c.in_ok-open.ensures.found c.in_ok-open.ensures.at refl refl refl c.saturating_add.ensures
    (c.in_ok-index_value.ensures.stored entries (tokens_after [] ps) key taken st.tokens))

pub returns-clause-ends : goal.returns-clause-ends
returns-clause-ends c =
    let ends = subst (EndsAt c.args.doc) (sym c.self.view_is) c.requires.ends in
    let d = c.in_ok-open.open in
    let new : OpenDocument = record { doc = c.args.doc; num_tokens = d.num_tokens; end_position = d.end_position; norm = c.saturating_add.result } in
    record {
      documents = rw (c.put.ensures, length-set c.open.new.self.documents c.args.field new) (c.in_ok-open.ensures.fields ∙ ends.documents ∙ sym c.in_ok-index_value.ensures.fields);
      terms = c.in_ok-index_value.ensures.ends;
      reach = rw c.put.ensures (reach_put c.open.new.self c.args.field c.args.doc new refl c.in_ok-open.ensures.reach);
      paths = ends.paths ∙ sym c.in_ok-index_value.ensures.fields;
      paths_reach = ends.paths_reach;
    }

pub returns-clause-refused : goal.returns-clause-refused
returns-clause-refused c entries ps key takes stored =
    let st = subst (λ (s : IndexedFieldsState). StoresPieces entries s ps) (sym c.self.view_is) stored in
    let taken = subst (λ (s : IndexedFieldsState). TakesValue entries s.indexed.paths c.args.field c.args.held.now key) (sym c.self.view_is) takes in
    c.in_ok-index_value.ensures.refused entries (tokens_after [] ps) key taken st.tokens
