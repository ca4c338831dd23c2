use Rattle.std.proofs.Common.{◌≡◌, ◌+◌, ◌-◌, ◌++◌, ◌∷◌, ◌<◌, [], List, ℕ, length, sym, ap, ◌∙◌, subst, arith, min, refl, None, true}
use Rattle.std.proofs.lemmas.List.{length-set}
use Rattle.std.proofs.lemmas.Result.{err_from_is_err_and}
use Rattle.ii_recorder.specs.Recorded.{u32_max}
use Rattle.ii_definitions.specs.Fields.{option_of}
use Rattle.ii_definitions.specs.Tokens.{kept_words, piece_tokens_from, text_at, tokens_after}
use Rattle.ii_json.specs.LeafVisit.{IsRefusedBy}
use Rattle.ii_indexing.specs.IndexedTerms.{StoresTokens, TakesTexts}
use Rattle.ii_indexing.specs.Indexer.{EndsAt, IndexedFieldsState, StoresPieces}
use Rattle.ii_indexing.specs.OpenPaths.{IsKnownBy, TellAllPaths, opened_path, text_prefix}
use Rattle.ii_postings_writer.specs.PostingsWriter.{text_fault}
use Rattle.ii_indexing.specs.Refusals.{piece_fault}
use Rattle.ii_postings_writer.specs.declared.indexing_position.IndexingPosition.{IndexingPosition}
use Rattle.ii_indexing.specs.declared.open_documents.OpenDocument.{OpenDocument}
use Rattle.ii_indexing.proofs.CallLaws.{refused_for_memory}
use Rattle.ii_indexing.proofs.FieldLists.{takes_text_by}
use Rattle.ii_indexing.proofs.PathLaws.{has_path, position_told, some_prefix, text_length, text_reach, text_told}
use Rattle.ii_indexing.proofs.PieceLaws.{reach_put, words_under_stored}
use Rattle.ii_postings_writer.proofs.TermIndexLemmas.{on_ok}
use Rattle.ii_indexing.proofs.indexed_fields.IndexedFields.index_words_at.Goals as goal

pub put-requires-2 : goal.put-requires-2
put-requires-2 g c =
    let ends = subst (EndsAt c.args.doc) (sym c.self.view_is) c.requires.ends in
    let known = subst (λ (s : IndexedFieldsState). c.args.field < length s.indexed.writers) (sym c.self.view_is) c.requires.known in
    let h = has_path c.self.inside.paths c.args.doc c.args.field (omega (arith, known, ends.paths)) ends.paths_reach in
    record { known = omega (arith, known, ends.paths, ap length (c.open-position.ensures.opened h.old h.found), length-set c.self.inside.paths c.args.field (opened_path c.args.doc h.old)) }

pub returns-in_err-index_text-clause-refused : goal.returns-in_err-index_text-clause-refused
returns-in_err-index_text-clause-refused g c entries ps path takes has stored =
    let paths = c.self.inside.terms.paths in
    let prefix = text_prefix path in
    let st = subst (λ (s : IndexedFieldsState). StoresPieces entries s ps) (sym c.self.view_is) stored in
    let has_id = subst (λ (s : IndexedFieldsState). IsKnownBy s.indexed.paths path c.args.path_id) (sym c.self.view_is) has in
    let taken = subst (λ (l : List ℕ). TakesTexts entries paths c.args.field l prefix) (sym c.held_text-held.ensures) (takes_text_by entries paths c.args.field takes path c.args.path_id has_id) in
    let ends = subst (EndsAt c.args.doc) (sym c.self.view_is) c.requires.ends in
    let known = subst (λ (s : IndexedFieldsState). c.args.field < length s.indexed.writers) (sym c.self.view_is) c.requires.known in
    let h = has_path c.self.inside.paths c.args.doc c.args.field (omega (arith, known, ends.paths)) ends.paths_reach in
    let first = c.open-position.ensures.position h.old h.found ∙ sym (position_told paths ps c.self.inside.paths c.args.doc c.args.field h.old h.found h.reach path c.args.path_id has_id st.paths) in
    let p = text_at c.args.doc c.args.field prefix (g.S.TokenStream.to_come c.args.tokens.now) in
    let r = err_from_is_err_and c.from_residual-in_err-index_text.result c.from_residual-in_err-index_text.ensures.1 in
    let refused = subst (λ (at : IndexingPosition). IsRefusedBy (text_fault (option_of entries c.args.field) p at (tokens_after [] ps)) c.index_text.result) first (c.index_text.ensures.refused entries (tokens_after [] ps) prefix taken st.tokens) in
    rw (r.1, r.2) (subst (IsRefusedBy (piece_fault (option_of entries c.args.field) ps p)) c.in_err-index_text.was refused)

pub returns-clause-stored : goal.returns-clause-stored
returns-clause-stored g c =
    let ends = subst (EndsAt c.args.doc) (sym c.self.view_is) c.requires.ends in
    let known = subst (λ (s : IndexedFieldsState). c.args.field < length s.indexed.writers) (sym c.self.view_is) c.requires.known in
    let h = has_path c.self.inside.paths c.args.doc c.args.field (omega (arith, known, ends.paths)) ends.paths_reach in
    let d = c.in_ok-open.open in
    let paths = c.self.inside.terms.paths in
    let words = g.S.TokenStream.to_come c.args.tokens.now in
    let last = c.index_text.new.position in
    let num = c.in_ok-index_text.ensures.num_tokens in
    let end = c.in_ok-index_text.ensures.end_position in
    let more : last.num_tokens - c.open-position.result.num_tokens ≡ length (kept_words words) = omega (arith, num) in
    let new : OpenDocument = record { doc = c.args.doc; num_tokens = d.num_tokens; end_position = d.end_position; norm = c.saturating_add.result } in
    on_ok c.put-2.result _ _
    (λ puts entries ps path takes has stored.
    let prefix = text_prefix path in
    let st = subst (λ (s : IndexedFieldsState). StoresPieces entries s ps) (sym c.self.view_is) stored in
    let has_id = subst (λ (s : IndexedFieldsState). IsKnownBy s.indexed.paths path c.args.path_id) (sym c.self.view_is) has in
    let taken = subst (λ (l : List ℕ). TakesTexts entries paths c.args.field l prefix) (sym c.held_text-held.ensures) (takes_text_by entries paths c.args.field takes path c.args.path_id has_id) in
    let told = c.in_ok-open.ensures.told ps (tokens_after [] ps) st.documents in
    let begins = c.open-position.ensures.position h.old h.found in
    let first = begins ∙ sym (position_told paths ps c.self.inside.paths c.args.doc c.args.field h.old h.found h.reach path c.args.path_id has_id st.paths) in
    let by_path = subst (λ (ks : List (List ℕ)). TellAllPaths ks (ps ++ text_at c.args.doc c.args.field prefix words ∷ []) c.put-2.new.self) (sym c.in_ok-index_text.ensures.paths)
    (text_told c.self.inside.paths c.args.doc c.args.field h c.args.path_id last c.open-position.new.self c.put-2.new.self (c.open-position.ensures.opened h.old h.found) puts paths ps path words c.open-position.result begins
    (ap (λ (n : ℕ). record { num_tokens = n; end_position = last.end_position }) num ∙ ap (λ (n : ℕ). record { num_tokens = c.open-position.result.num_tokens + length (kept_words words); end_position = n }) end) has_id st.paths) in
    let tokens = subst (λ (n : ℕ). StoresTokens entries c.index_text.new.self (tokens_after [] ps ++ piece_tokens_from true n (text_at c.args.doc c.args.field prefix words))) (ap (λ (at : IndexingPosition). at.end_position) first)
    (c.in_ok-index_text.ensures.stored entries (tokens_after [] ps) prefix taken st.tokens) in
    rw c.put.ensures
    (words_under_stored entries ps c.index_text.new.self c.open.new.self d new c.put-2.new.self c.args.doc c.args.field prefix words by_path (some_prefix path) told c.in_ok-open.ensures.found c.in_ok-open.ensures.at refl refl refl
    (c.saturating_add.ensures ∙ ap (λ (n : ℕ). min (d.norm + n) u32_max) more) tokens))
    c.put-2.ensures.ok

pub returns-clause-ends : goal.returns-clause-ends
returns-clause-ends g c =
    let ends = subst (EndsAt c.args.doc) (sym c.self.view_is) c.requires.ends in
    let known = subst (λ (s : IndexedFieldsState). c.args.field < length s.indexed.writers) (sym c.self.view_is) c.requires.known in
    let h = has_path c.self.inside.paths c.args.doc c.args.field (omega (arith, known, ends.paths)) ends.paths_reach in
    let d = c.in_ok-open.open in
    let new : OpenDocument = record { doc = c.args.doc; num_tokens = d.num_tokens; end_position = d.end_position; norm = c.saturating_add.result } in
    let opened = c.open-position.ensures.opened h.old h.found in
    on_ok c.put-2.result _ _
    (λ puts. record {
      documents = rw (c.put.ensures, length-set c.open.new.self.documents c.args.field new) (c.in_ok-open.ensures.fields ∙ ends.documents ∙ sym c.in_ok-index_text.ensures.fields);
      terms = c.in_ok-index_text.ensures.ends;
      reach = rw c.put.ensures (reach_put c.open.new.self c.args.field c.args.doc new refl c.in_ok-open.ensures.reach);
      paths = text_length c.self.inside.paths c.args.doc c.args.field h c.args.path_id c.index_text.new.position c.open-position.new.self c.put-2.new.self opened puts ∙ ends.paths ∙ sym c.in_ok-index_text.ensures.fields;
      paths_reach = text_reach c.self.inside.paths c.args.doc c.args.field h c.args.path_id c.index_text.new.position c.open-position.new.self c.put-2.new.self opened puts ends.paths_reach;
    })
    c.put-2.ensures.ok

pub returns-clause-refused : goal.returns-clause-refused
returns-clause-refused g c entries ps path takes has stored =
    let paths = c.self.inside.terms.paths in
    let prefix = text_prefix path in
    let st = subst (λ (s : IndexedFieldsState). StoresPieces entries s ps) (sym c.self.view_is) stored in
    let has_id = subst (λ (s : IndexedFieldsState). IsKnownBy s.indexed.paths path c.args.path_id) (sym c.self.view_is) has in
    let taken = subst (λ (l : List ℕ). TakesTexts entries paths c.args.field l prefix) (sym c.held_text-held.ensures) (takes_text_by entries paths c.args.field takes path c.args.path_id has_id) in
    let ends = subst (EndsAt c.args.doc) (sym c.self.view_is) c.requires.ends in
    let known = subst (λ (s : IndexedFieldsState). c.args.field < length s.indexed.writers) (sym c.self.view_is) c.requires.known in
    let h = has_path c.self.inside.paths c.args.doc c.args.field (omega (arith, known, ends.paths)) ends.paths_reach in
    let first = c.open-position.ensures.position h.old h.found ∙ sym (position_told paths ps c.self.inside.paths c.args.doc c.args.field h.old h.found h.reach path c.args.path_id has_id st.paths) in
    let p = text_at c.args.doc c.args.field prefix (g.S.TokenStream.to_come c.args.tokens.now) in
    let none = subst (λ (at : IndexingPosition). text_fault (option_of entries c.args.field) p at (tokens_after [] ps) ≡ None) first (c.in_ok-index_text.ensures.refused entries (tokens_after [] ps) prefix taken st.tokens) in
    refused_for_memory (piece_fault (option_of entries c.args.field) ps p) c.put-2.result none c.put-2.ensures.only
