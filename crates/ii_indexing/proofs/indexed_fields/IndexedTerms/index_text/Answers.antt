use Rattle.std.proofs.Common.{◌≡◌, ◌++◌, ◌∙◌, List, Option, ℕ, refl, slice_set, sym, ap, subst, map}
use Rattle.ii_definitions.specs.Tokens.{kept_words, text_at, word_token}
use Rattle.ii_indexing.specs.IndexedTerms.{IndexedTermsState, StoresTokens, TakesTexts, held_kept_at}
use Rattle.ii_postings_writer.specs.IndexingContext.{AllEndBy}
use Rattle.ii_postings_writer.specs.IndexingTerm.{IndexingTermState}
use Rattle.ii_postings_writer.specs.PostingsWriter.{HasTokens, text_fault, text_piece}
use Rattle.ii_postings_writer.specs.PostingsWriterKind.{state_of_kind}
use Rattle.ii_json.specs.LeafVisit.{IsRefusedBy, first_fault}
use Rattle.ii_io.specs.declared.faults.Fault.{Fault}
use Rattle.ii_base.specs.declared.schema.index_record_option.IndexRecordOption.{IndexRecordOption}
use Rattle.ii_definitions.specs.Fields.{option_of}
use Rattle.ii_postings_writer.specs.ResolvedTerms.{held_token, json_fields}
use Rattle.ii_postings_writer.specs.WordRefusals.{gap_fault}
use Rattle.ii_indexing.proofs.HeldLaws.{words_fault_held}
use Rattle.ii_indexing.proofs.StoreLaws.{text_known, text_stored}
use Rattle.ii_postings_writer.proofs.TermIndexLemmas.{on_both}
use Rattle.ii_indexing.proofs.indexed_fields.IndexedTerms.index_text.Goals as goal

pub index_text-requires-clause-ends : goal.index_text-requires-clause-ends
index_text-requires-clause-ends g c = subst (λ (s : IndexedTermsState). AllEndBy c.args.doc s.terms) (sym c.self.view_is) c.requires.ends

pub returns-clause-stored : goal.returns-clause-stored
returns-clause-stored g c =
    let words = g.S.TokenStream.to_come c.args.token_stream.now in
    let begin = c.args.position.now.end_position in
    let held = c.args.held.now in
    let s : IndexedTermsState = record { terms = c.self.inside.ctx.term_index; paths = c.self.inside.ctx.path_to_unordered_id; writers = c.self.inside.writers } in
    let w = state_of_kind c.get_for_field_mut-writer.result.now in
    let term : c.set_bytes.new.self ≡ record { field = c.args.field; value = held } = c.in_ok-set_bytes.ensures.ok ∙ ap (λ (t : IndexingTermState). record t { value = held }) c.clear_with_field.ensures in
    on_both c.index_text.result _ _ _
    (λ h counted entries ts prefix takes stored.
    let old = subst (λ (q : IndexedTermsState). StoresTokens entries q ts) (sym c.self.view_is) stored in
    let taken = subst (λ (q : IndexedTermsState). TakesTexts entries q.paths c.args.field held prefix) (sym c.self.view_is) takes in
    let us = map (held_token (json_fields entries) s.paths) ts in
    let tokens = subst (λ (t : IndexingTermState). HasTokens (held_kept_at entries) (text_piece c.args.doc t words) s.terms w us
    → HasTokens (held_kept_at entries) (text_piece c.args.doc t words) c.index_text.new.ctx.term_index (state_of_kind c.index_text.new.self) (us ++ map (word_token (text_piece c.args.doc t words) begin) (kept_words words))) term (h (held_kept_at entries) us) in
    subst (λ (ps : List (List ℕ)). StoresTokens entries (record { terms = c.index_text.new.ctx.term_index; paths = ps; writers = slice_set c.self.inside.writers c.args.field (state_of_kind c.index_text.new.self) }) (ts ++ map (word_token (text_at c.args.doc c.args.field prefix words) begin) (kept_words words)))
    (sym c.index_text.ensures.paths)
    (text_stored entries ts s c.args.doc c.args.field held prefix words begin w c.index_text.new.ctx.term_index (state_of_kind c.index_text.new.self) taken old c.get_for_field_mut-writer.ensures.value counted tokens))
    c.index_text.ensures.tokens c.index_text.ensures.counted

pub returns-clause-refused : goal.returns-clause-refused
returns-clause-refused g c entries ts prefix takes stored =
    let words = g.S.TokenStream.to_come c.args.token_stream.now in
    let held = c.args.held.now in
    let s : IndexedTermsState = record { terms = c.self.inside.ctx.term_index; paths = c.self.inside.ctx.path_to_unordered_id; writers = c.self.inside.writers } in
    let w = state_of_kind c.get_for_field_mut-writer.result.now in
    let at = c.args.position.now in
    let term : c.set_bytes.new.self ≡ record { field = c.args.field; value = held } = c.in_ok-set_bytes.ensures.ok ∙ ap (λ (t : IndexingTermState). record t { value = held }) c.clear_with_field.ensures in
    let old = subst (λ (q : IndexedTermsState). StoresTokens entries q ts) (sym c.self.view_is) stored in
    let taken = subst (λ (q : IndexedTermsState). TakesTexts entries q.paths c.args.field held prefix) (sym c.self.view_is) takes in
    let us = map (held_token (json_fields entries) s.paths) ts in
    let p = text_at c.args.doc c.args.field prefix words in
    let q = text_at c.args.doc c.args.field held words in
    let known = text_known entries ts s c.args.doc c.args.field held prefix words w taken old c.get_for_field_mut-writer.ensures.value in
    let refused = subst (λ (t : IndexingTermState). HasTokens (held_kept_at entries) (text_piece c.args.doc t words) s.terms w us → IsRefusedBy (text_fault w.option (text_piece c.args.doc t words) at us) c.index_text.result)
    term (c.index_text.ensures.refused (held_kept_at entries) us) in
    let same : text_fault w.option q at us ≡ text_fault (option_of entries c.args.field) p at ts
    = ap (λ (o : IndexRecordOption). text_fault o q at us) known.0
    ∙ ap (λ (f : Option Fault). first_fault f (gap_fault at.end_position words)) (words_fault_held entries s.paths old.known_paths p q refl refl taken (option_of entries c.args.field) ts at.end_position at.num_tokens (kept_words words) old.has_paths) in
    subst (λ (f : Option Fault). IsRefusedBy f c.index_text.result) same (refused known.1)
