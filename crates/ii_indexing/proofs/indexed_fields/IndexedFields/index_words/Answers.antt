use Rattle.std.proofs.Common.{◌≡◌, ◌+◌, ◌-◌, ◌++◌, ◌∷◌, [], List, length, sym, ap, ◌∙◌, subst, arith, min, refl, Ok, ℕ}
use Rattle.std.proofs.lemmas.List.{length-set}
use Rattle.std.proofs.lemmas.Result.{err_from_is_err_and}
use Rattle.ii_recorder.specs.Recorded.{u32_max}
use Rattle.ii_definitions.specs.Tokens.{kept_words, text_at, tokens_after}
use Rattle.ii_definitions.specs.Fields.{option_of}
use Rattle.ii_indexing.specs.Refusals.{piece_fault}
use Rattle.ii_json.specs.LeafVisit.{IsRefusedBy}
use Rattle.ii_indexing.specs.IndexedTerms.{TakesTexts}
use Rattle.ii_indexing.specs.Indexer.{EndsAt, IndexedFieldsState, StoresPieces}
use Rattle.ii_indexing.specs.declared.open_documents.OpenDocument.{OpenDocument}
use Rattle.ii_indexing.specs.OpenPaths.{TellAllPaths}
use Rattle.ii_postings_writer.specs.declared.indexing_position.IndexingPosition.{IndexingPosition}
use Rattle.ii_indexing.proofs.PathLaws.{paths_kept, text_has_none}
use Rattle.ii_indexing.proofs.PieceLaws.{reach_put, text_refused, words_stored}
use Rattle.ii_indexing.proofs.indexed_fields.IndexedFields.index_words.Goals as goal

pub returns-in_err-index_text-clause-refused : goal.returns-in_err-index_text-clause-refused
returns-in_err-index_text-clause-refused g c entries ps takes stored =
    let st = subst (λ (s : IndexedFieldsState). StoresPieces entries s ps) (sym c.self.view_is) stored in
    let taken = subst (λ (s : IndexedFieldsState). TakesTexts entries s.indexed.paths c.args.field [] []) (sym c.self.view_is) takes in
    let d = c.in_ok-open.open in
    let told = c.in_ok-open.ensures.told ps (tokens_after [] ps) st.documents in
    let p = err_from_is_err_and c.from_residual-in_err-index_text.result c.from_residual-in_err-index_text.ensures.1 in
    let at : IndexingPosition = record { num_tokens = d.num_tokens; end_position = d.end_position } in
    let refused = text_refused (option_of entries c.args.field) ps c.open.new.self c.args.doc c.args.field (g.S.TokenStream.to_come c.args.tokens.now) d at c.index_text.result told c.in_ok-open.ensures.found c.in_ok-open.ensures.at refl
    (c.index_text.ensures.refused entries (tokens_after [] ps) [] taken st.tokens) in
    rw (p.1, p.2) (subst (IsRefusedBy (piece_fault (option_of entries c.args.field) ps (text_at c.args.doc c.args.field [] (g.S.TokenStream.to_come c.args.tokens.now)))) c.in_err-index_text.was refused)

pub returns-clause-stored : goal.returns-clause-stored
returns-clause-stored g c entries ps takes stored =
    let st = subst (λ (s : IndexedFieldsState). StoresPieces entries s ps) (sym c.self.view_is) stored in
    let taken = subst (λ (s : IndexedFieldsState). TakesTexts entries s.indexed.paths c.args.field [] []) (sym c.self.view_is) takes in
    let d = c.in_ok-open.open in
    let words = g.S.TokenStream.to_come c.args.tokens.now in
    let told = c.in_ok-open.ensures.told ps (tokens_after [] ps) st.documents in
    let num = c.in_ok-index_text.ensures.num_tokens in
    let more : c.index_text.new.position.num_tokens - d.num_tokens ≡ length (kept_words words) = omega (arith, num) in
    let new : OpenDocument = record { doc = c.args.doc; num_tokens = c.index_text.new.position.num_tokens; end_position = c.index_text.new.position.end_position; norm = c.saturating_add.result } in
    let p = text_at c.args.doc c.args.field [] words in
    let by_path = subst (λ (known : List (List ℕ)). TellAllPaths known (ps ++ p ∷ []) c.self.inside.paths) (sym c.in_ok-index_text.ensures.paths)
    (paths_kept c.self.inside.terms.paths ps p c.self.inside.paths (text_has_none c.args.doc c.args.field words) st.paths) in
    rw c.put.ensures
    (words_stored entries ps c.index_text.new.self c.open.new.self d new c.self.inside.paths c.args.doc c.args.field words by_path told c.in_ok-open.ensures.found c.in_ok-open.ensures.at refl num c.in_ok-index_text.ensures.end_position
    (c.saturating_add.ensures ∙ ap (λ (n : ℕ). min (d.norm + n) u32_max) more) (c.in_ok-index_text.ensures.stored entries (tokens_after [] ps) [] taken st.tokens))

pub returns-clause-ends : goal.returns-clause-ends
returns-clause-ends g c =
    let ends = subst (EndsAt c.args.doc) (sym c.self.view_is) c.requires.ends in
    let new : OpenDocument = record { doc = c.args.doc; num_tokens = c.index_text.new.position.num_tokens; end_position = c.index_text.new.position.end_position; norm = c.saturating_add.result } in
    record {
      documents = rw (c.put.ensures, length-set c.open.new.self.documents c.args.field new) (c.in_ok-open.ensures.fields ∙ ends.documents ∙ sym c.in_ok-index_text.ensures.fields);
      terms = c.in_ok-index_text.ensures.ends;
      reach = rw c.put.ensures (reach_put c.open.new.self c.args.field c.args.doc new refl c.in_ok-open.ensures.reach);
      paths = ends.paths ∙ sym c.in_ok-index_text.ensures.fields;
      paths_reach = ends.paths_reach;
    }

pub returns-clause-refused : goal.returns-clause-refused
returns-clause-refused g c entries ps takes stored =
    let st = subst (λ (s : IndexedFieldsState). StoresPieces entries s ps) (sym c.self.view_is) stored in
    let taken = subst (λ (s : IndexedFieldsState). TakesTexts entries s.indexed.paths c.args.field [] []) (sym c.self.view_is) takes in
    let d = c.in_ok-open.open in
    let told = c.in_ok-open.ensures.told ps (tokens_after [] ps) st.documents in
    let at : IndexingPosition = record { num_tokens = d.num_tokens; end_position = d.end_position } in
    text_refused (option_of entries c.args.field) ps c.open.new.self c.args.doc c.args.field (g.S.TokenStream.to_come c.args.tokens.now) d at (Ok c.in_ok-index_text.field-0) told c.in_ok-open.ensures.found c.in_ok-open.ensures.at refl
    (c.in_ok-index_text.ensures.refused entries (tokens_after [] ps) [] taken st.tokens)
