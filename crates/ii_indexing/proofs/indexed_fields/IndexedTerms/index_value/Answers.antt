use Rattle.std.proofs.Common.{◌≡◌, ◌++◌, ◌∷◌, ◌∙◌, [], List, ℕ, map, slice_set, false, sym, ap, subst}
use Rattle.ii_definitions.specs.Tokens.{value_at, value_token}
use Rattle.ii_indexing.specs.IndexedTerms.{IndexedTermsState, StoresTokens, TakesValue, held_kept_at}
use Rattle.ii_postings_writer.specs.IndexingContext.{AllEndBy}
use Rattle.ii_postings_writer.specs.IndexingTerm.{IndexingTermState, term_bytes}
use Rattle.ii_postings_writer.specs.PostingsWriter.{subscribe_fault, term_token}
use Rattle.ii_postings_writer.specs.PostingsWriterKind.{state_of_kind}
use Rattle.ii_postings_writer.specs.Records.{Records}
use Rattle.ii_json.specs.LeafVisit.{IsRefusedBy}
use Rattle.ii_postings_writer.specs.ResolvedTerms.{held_token, json_fields}
use Rattle.ii_indexing.proofs.StoreLaws.{value_refused, value_stored}
use Rattle.ii_postings_writer.proofs.TermIndexLemmas.{on_both}
use Rattle.ii_indexing.proofs.indexed_fields.IndexedTerms.index_value.Goals as goal

pub subscribe-requires-clause-ends : goal.subscribe-requires-clause-ends
subscribe-requires-clause-ends c = subst (λ (s : IndexedTermsState). AllEndBy c.args.doc s.terms) (sym c.self.view_is) c.requires.ends

pub returns-clause-stored : goal.returns-clause-stored
returns-clause-stored c =
    let s : IndexedTermsState = record { terms = c.self.inside.ctx.term_index; paths = c.self.inside.ctx.path_to_unordered_id; writers = c.self.inside.writers } in
    let w = state_of_kind c.get_for_field_mut-writer.result.now in
    let held = c.args.held.now in
    let term : c.set_bytes.new.self ≡ record { field = c.args.field; value = held } = c.in_ok-set_bytes.ensures.ok ∙ ap (λ (t : IndexingTermState). record t { value = held }) c.clear_with_field.ensures in
    on_both c.subscribe.result _ _ _
    (λ h counted entries ts key takes stored.
    let old = subst (λ (q : IndexedTermsState). StoresTokens entries q ts) (sym c.self.view_is) stored in
    let taken = subst (λ (q : IndexedTermsState). TakesValue entries q.paths c.args.field held key) (sym c.self.view_is) takes in
    let us = map (held_token (json_fields entries) s.paths) ts in
    let tokens = subst (λ (t : IndexingTermState). held_kept_at entries t.field t.value ≡ w.value_option → Records (held_kept_at entries) s.terms us → Records (held_kept_at entries) c.subscribe.new.ctx.term_index (us ++ term_token c.args.doc 0 false t ∷ []))
    term (h (held_kept_at entries) us false) in
    subst (λ (ps : List (List ℕ)). StoresTokens entries (record { terms = c.subscribe.new.ctx.term_index; paths = ps; writers = slice_set c.self.inside.writers c.args.field (state_of_kind c.subscribe.new.self) }) (ts ++ value_token (value_at c.args.doc c.args.field key) ∷ []))
    (sym c.subscribe.ensures.paths)
    (value_stored entries ts s c.args.doc c.args.field held key w c.subscribe.new.ctx.term_index (state_of_kind c.subscribe.new.self) taken old c.get_for_field_mut-writer.ensures.value counted tokens))
    c.subscribe.ensures.tokens c.subscribe.ensures.counted

pub returns-clause-refused : goal.returns-clause-refused
returns-clause-refused c entries ts key takes stored =
    let s : IndexedTermsState = record { terms = c.self.inside.ctx.term_index; paths = c.self.inside.ctx.path_to_unordered_id; writers = c.self.inside.writers } in
    let w = state_of_kind c.get_for_field_mut-writer.result.now in
    let held = c.args.held.now in
    let term : c.set_bytes.new.self ≡ record { field = c.args.field; value = held } = c.in_ok-set_bytes.ensures.ok ∙ ap (λ (t : IndexingTermState). record t { value = held }) c.clear_with_field.ensures in
    let old = subst (λ (q : IndexedTermsState). StoresTokens entries q ts) (sym c.self.view_is) stored in
    let taken = subst (λ (q : IndexedTermsState). TakesValue entries q.paths c.args.field held key) (sym c.self.view_is) takes in
    let refused = subst (λ (t : IndexingTermState). IsRefusedBy (subscribe_fault w.value_option w.total_num_tokens c.args.doc 0 (term_bytes t) s.terms) c.subscribe.result) term c.subscribe.ensures.refused in
    value_refused entries ts s c.args.doc c.args.field held key w c.subscribe.result (rw (← c.field_id-field.ensures) c.field_id-field.type_inv) taken old c.get_for_field_mut-writer.ensures.value refused
