-- What is stored of a field once tokens of it are added.
use Rattle.std.proofs.Common.{◌≡◌, ℕ, zero, suc, ◌+◌, ◌<◌, ◌==◌, Bool, true, false, List, [], ◌∷◌, ◌++◌, map, length, cond, Some, Option, Result, refl, sym, ap, ◌∙◌, subst, arith}
use Rattle.std.specs.Prelude.{slice_get, slice_set, if◌then◌else◌, nat_le, bytes_eq, filter}
use Rattle.std.specs.List.{AllByRecursion}
use Rattle.std.proofs.lemmas.Bool.{and_parts, eqb-true, eqb-false}
use Rattle.std.proofs.lemmas.List.Sums.{sum_by-append, sum_by-cons}
use Rattle.std.proofs.lemmas.Slice.Eq.{bytes_eq-Decides}
use Rattle.std.proofs.lemmas.Option.{same_Some}
use Rattle.ii_io.specs.declared.faults.Fault.{Fault}
use Rattle.ii_io.specs.declared.faults.Fault.TheVariants.{Limit}
use Rattle.ii_io.specs.declared.faults.LimitName.TheVariants as limit
use Rattle.ii_base.specs.Schema.{SchemaEntry}
use Rattle.ii_base.specs.Words.{Word}
use Rattle.ii_base.specs.declared.schema.index_record_option.IndexRecordOption.{IndexRecordOption}
use Rattle.ii_base.specs.declared.schema.index_record_option.IndexRecordOption.TheVariants.{Basic}
use Rattle.ii_definitions.specs.Tokens.{IndexToken, Piece, kept_words, text_at, value_at, value_token, word_token}
use Rattle.std.proofs.lemmas.List.{map-append}
use Rattle.ii_postings_writer.specs.ResolvedTerms.{IsKnownToken, held_token, json_fields}
use Rattle.ii_postings_writer.proofs.ResolvedRecords.{kind_held}
use Rattle.ii_definitions.proofs.ListLaws.{all_both}
use Rattle.ii_indexing.proofs.HeldLaws.{count_held, keys_held, words_held, words_known}
use Rattle.ii_definitions.specs.Fields.{option_of}
use Rattle.ii_definitions.specs.Postings.{field_count, is_at, kind_of, tokens_at}
use Rattle.ii_indexing.specs.IndexedTerms.{IndexedTermsState, IsOfField, StoresTokens, TakesTexts, TakesValue, held_kept_at, kept_at, kept_in, value_fault, writer_in}
use Rattle.ii_recorder.specs.Recorded.{position_fault}
use Rattle.ii_postings_writer.specs.IndexingContext.{entry_for_doc, recorder_or_new, TermIndex, recorder_of}
use Rattle.ii_postings_writer.specs.IndexingTerm.{field_bytes}
use Rattle.ii_postings_writer.specs.PostingsWriter.{HasTokens, PostingsWriterState, subscribe_fault, tokens_counted}
use Rattle.ii_postings_writer.specs.Records.{Records}
use Rattle.ii_postings_writer.specs.WordRefusals.{u64_max}
use Rattle.ii_json.specs.LeafVisit.{IsRefusedBy}
use Rattle.ii_postings_writer.proofs.RecordsLaws.{HasKey}
use Rattle.ii_postings_writer.proofs.TextLaws.{field_count_more, key_recorder}

-- Tokens of one field alone.
pub record OnlyIn (field : ℕ) (us : List IndexToken) : Type 0 where
  pub counts : (f : ℕ) → (field == f) ≡ false → field_count f us ≡ 0
  pub keys : (f : ℕ) (key : List ℕ) → (field == f) ≡ false → tokens_at f key us ≡ []

no_tokens : (field : ℕ) → OnlyIn field []
no_tokens field = record { counts = λ f other. refl; keys = λ f key other. refl }

one_token : (field : ℕ) (t : IndexToken) (us : List IndexToken) → t.field ≡ field → OnlyIn field us → OnlyIn field (t ∷ us)
one_token field t us is h = record {
  counts = λ f other. sum_by-cons (λ (u : IndexToken). cond (u.field == f) 1 0) t us ∙ rw (is, other) (ap (λ (n : ℕ). 0 + n) (h.counts f other));
  keys = λ f key other. rw (is, other) (h.keys f key other);
}

words_only : (p : Piece) (begin : ℕ) (ws : List Word) → OnlyIn p.field (map (word_token p begin) ws)
words_only p begin [] = no_tokens p.field
words_only p begin (w ∷ ws) = one_token p.field (word_token p begin w) (map (word_token p begin) ws) refl (words_only p begin ws)

other_count : (field f : ℕ) (ts us : List IndexToken) → OnlyIn field us → (field == f) ≡ false → field_count f (ts ++ us) ≡ field_count f ts
other_count field f ts us only other = sum_by-append (λ (u : IndexToken). cond (u.field == f) 1 0) ts us ∙ omega (arith, only.counts f other)

pub set_same : {A : Type 0} (xs : List A) (i : ℕ) (x w : A) → slice_get xs i ≡ Some x → slice_get (slice_set xs i w) i ≡ Some w
set_same [] i x w is = absurd (cc)
set_same (y ∷ xs) zero x w is = refl
set_same (y ∷ xs) (suc i) x w is = set_same xs i x w is

pub set_other : {A : Type 0} (xs : List A) (i j : ℕ) (w : A) → (i == j) ≡ false → slice_get (slice_set xs i w) j ≡ slice_get xs j
set_other [] i j w other = refl
set_other (y ∷ xs) zero zero w other = absurd (eqb-false 0 0 other refl)
set_other (y ∷ xs) zero (suc j) w other = refl
set_other (y ∷ xs) (suc i) zero w other = refl
set_other (y ∷ xs) (suc i) (suc j) w other = set_other xs i j w (grind (arith, other))

-- What a field has with more tokens of it.
pub record AddsTokens (entries : List SchemaEntry) (field : ℕ) (old : IndexedTermsState) (terms : TermIndex) (writer : PostingsWriterState) (ts us : List IndexToken) : Type 0 where
  pub records : Records (held_kept_at entries) terms (map (held_token (json_fields entries) old.paths) (ts ++ us))
  pub writer_is : writer ≡ writer_in entries field (field_count field (ts ++ us))
  pub of_field : AllByRecursion (IsOfField entries) us
  pub has_paths : AllByRecursion (IsKnownToken (json_fields entries) old.paths) us
  pub only : OnlyIn field us

-- the first of those that are kept
first_kept : {A : Type 0} (p : A → Bool) (P : A → Type 0) (xs : List A) (y : A) (ys : List A) → filter p xs ≡ y ∷ ys → AllByRecursion P xs → P y × (p y ≡ true)
first_kept p P [] y ys is all = absurd (cc)
first_kept {A} p P (x ∷ xs) y ys is all = by (p x) refl (λ rest. first_kept p P xs y ys rest all.1)
  where
    by : (b : Bool) → p x ≡ b → (filter p xs ≡ y ∷ ys → P y × (p y ≡ true)) → P y × (p y ≡ true)
    by true at rest =
        let kept : x ∷ filter p xs ≡ y ∷ ys = sym (rw at refl) ∙ is in
        let same : x ≡ y = cc in
        subst (λ (z : A). P z × (p z ≡ true)) same (all.0, at)
    by false at rest =
        let kept : filter p xs ≡ y ∷ ys = sym (rw at refl) ∙ is in
        rest kept

-- what is kept of a key that occurred
pub kept_kind : (entries : List SchemaEntry) (ts : List IndexToken) (field : ℕ) (key : List ℕ) (t : IndexToken) (us : List IndexToken) → tokens_at field key ts ≡ t ∷ us → AllByRecursion (IsOfField entries) ts
    → kind_of (option_of entries field) (t ∷ us) ≡ kept_at entries field key
kept_kind entries ts field key t us is all =
    let first = first_kept (is_at field key) (IsOfField entries) ts t us is all in
    let parts = and_parts (t.field == field) (bytes_eq t.key key) first.1 in
    let at : t.field ≡ field = eqb-true t.field field parts.0 in
    let same : t.key ≡ key = (bytes_eq-Decides t.key key).0 parts.1 in
    subst (λ (k : List ℕ). kind_of (option_of entries field) (t ∷ []) ≡ kept_at entries field k) same (subst (λ (f : ℕ). kind_of (option_of entries f) (t ∷ []) ≡ kept_at entries f t.key) at first.0.kind)

basic_if : (o : IndexRecordOption) (b : Bool) (kept : IndexRecordOption) → cond b o Basic ≡ kept → cond b kept Basic ≡ kept
basic_if o true kept is = refl
basic_if o false kept is = is

-- so it is kept of all its tokens
one_kind : (entries : List SchemaEntry) (ts : List IndexToken) (field : ℕ) (key : List ℕ) → AllByRecursion (IsOfField entries) ts → kind_of (kept_at entries field key) (tokens_at field key ts) ≡ kept_at entries field key
one_kind entries ts field key all = by (tokens_at field key ts) refl
  where
    by : (us : List IndexToken) → tokens_at field key ts ≡ us → kind_of (kept_at entries field key) us ≡ kept_at entries field key
    by [] is = refl
    by (t ∷ us) is = basic_if (option_of entries field) t.of_text (kept_at entries field key) (kept_kind entries ts field key t us is all)

pub tokens_stored : (entries : List SchemaEntry) (field : ℕ) (old : IndexedTermsState) (terms : TermIndex) (writer : PostingsWriterState) (ts us : List IndexToken) → field < length entries
    → StoresTokens entries old ts → AddsTokens entries field old terms writer ts us → StoresTokens entries (record { terms = terms; paths = old.paths; writers = slice_set old.writers field writer }) (ts ++ us)
tokens_stored entries field old terms writer ts us low h adds = record {
  records = adds.records;
  counted = λ f inside. by_count f inside (field == f) refl;
  of_fields = all_both (IsOfField entries) ts us h.of_fields adds.of_field;
  has_paths = all_both (IsKnownToken (json_fields entries) old.paths) ts us h.has_paths adds.has_paths;
  known_paths = h.known_paths;
}
  where
    by_count : (f : ℕ) → f < length entries → (b : Bool) → (field == f) ≡ b → slice_get (slice_set old.writers field writer) f ≡ Some (writer_in entries f (field_count f (ts ++ us)))
    by_count f inside true same =
        let is = eqb-true field f same in
        subst (λ (g : ℕ). slice_get (slice_set old.writers field writer) g ≡ Some (writer_in entries g (field_count g (ts ++ us)))) is
        (set_same old.writers field (writer_in entries field (field_count field ts)) writer (h.counted field low) ∙ ap (λ (w : PostingsWriterState). Some w) adds.writer_is)
    by_count f inside false other =
        set_other old.writers field f writer other ∙ h.counted f inside
        ∙ ap (λ (n : ℕ). Some (writer_in entries f n)) (sym (other_count field f ts us adds.only other))

-- what a writer of a text knows
pub text_known : (entries : List SchemaEntry) (ts : List IndexToken) (s : IndexedTermsState) (doc field : ℕ) (held prefix : List ℕ) (words : List Word) (w : PostingsWriterState) → TakesTexts entries s.paths field held prefix
    → StoresTokens entries s ts → slice_get s.writers field ≡ Some w
    → (w.option ≡ option_of entries field) × HasTokens (held_kept_at entries) (text_at doc field held words) s.terms w (map (held_token (json_fields entries) s.paths) ts)
text_known entries ts s doc field held prefix words w takes h found =
    let is : w ≡ writer_in entries field (field_count field ts) = same_Some _ _ (sym found ∙ h.counted field takes.known) in
    let option : w.option ≡ kept_in entries field = ap (λ (v : PostingsWriterState). v.option) is in
    let flags = json_fields entries in (
      option ∙ takes.option,
      record {
        records = h.records;
        kinds = λ key. takes.held_kept key ∙ sym option;
        of_text = λ key.
            let same : kept_at entries field (prefix ++ key) ≡ w.option = takes.kept key ∙ sym option in
            ap (kind_of w.option) (keys_held entries s.paths h.known_paths (text_at doc field prefix words) (text_at doc field held words) refl refl takes ts key h.has_paths)
            ∙ kind_held flags s.paths w.option (tokens_at field (prefix ++ key) ts)
            ∙ subst (λ (o : IndexRecordOption). kind_of o (tokens_at field (prefix ++ key) ts) ≡ o) same (one_kind entries ts field (prefix ++ key) h.of_fields);
        counted = ap (λ (v : PostingsWriterState). v.total_num_tokens) is ∙ sym (count_held flags s.paths field ts);
      },
    )

words_of_field : (entries : List SchemaEntry) (paths : List (List ℕ)) (held : List ℕ) (p : Piece) (begin : ℕ) (ws : List Word) → TakesTexts entries paths p.field held p.prefix → AllByRecursion (IsOfField entries) (map (word_token p begin) ws)
words_of_field entries paths held p begin [] takes = tt
words_of_field entries paths held p begin (w ∷ ws) takes = (record { known = takes.known; kind = sym (takes.kept w.text ∙ takes.option) }, words_of_field entries paths held p begin ws takes)

-- a text was indexed
pub text_stored : (entries : List SchemaEntry) (ts : List IndexToken) (s : IndexedTermsState) (doc field : ℕ) (held prefix : List ℕ) (words : List Word) (begin : ℕ) (w : PostingsWriterState) (terms : TermIndex) (after : PostingsWriterState)
    → TakesTexts entries s.paths field held prefix → StoresTokens entries s ts → slice_get s.writers field ≡ Some w → after ≡ tokens_counted (length (kept_words words)) w
    → let p = text_at doc field prefix words in let q = text_at doc field held words in let us = map (held_token (json_fields entries) s.paths) ts in
    (HasTokens (held_kept_at entries) q s.terms w us → HasTokens (held_kept_at entries) q terms after (us ++ map (word_token q begin) (kept_words words)))
    → StoresTokens entries (record { terms = terms; paths = s.paths; writers = slice_set s.writers field after }) (ts ++ map (word_token p begin) (kept_words words))
text_stored entries ts s doc field held prefix words begin w terms after takes h found counted f =
    let flags = json_fields entries in
    let p = text_at doc field prefix words in
    let q = text_at doc field held words in
    let ws = kept_words words in
    let us = map (word_token p begin) ws in
    let known = text_known entries ts s doc field held prefix words w takes h found in
    let new = f known.1 in
    let all : map (held_token flags s.paths) ts ++ map (word_token q begin) ws ≡ map (held_token flags s.paths) (ts ++ us)
    = ap (λ (vs : List IndexToken). map (held_token flags s.paths) ts ++ vs) (sym (words_held entries s.paths h.known_paths p q refl refl takes begin ws)) ∙ sym (map-append (held_token flags s.paths) ts us) in
    let is : w ≡ writer_in entries field (field_count field ts) = same_Some _ _ (sym found ∙ h.counted field takes.known) in
    let made : after ≡ tokens_counted (length ws) (writer_in entries field (field_count field ts)) = counted ∙ ap (tokens_counted (length ws)) is in
    let many = sym (ap (λ (v : PostingsWriterState). v.total_num_tokens) made) ∙ new.counted ∙ ap (field_count field) all ∙ count_held flags s.paths field (ts ++ us) in
    tokens_stored entries field s terms after ts us takes.known h (record {
      records = subst (Records (held_kept_at entries) terms) all new.records;
      writer_is = made ∙ ap (writer_in entries field) many;
      of_field = words_of_field entries s.paths held p begin ws takes;
      has_paths = words_known entries s.paths h.known_paths p q refl refl takes begin ws;
      only = words_only p begin ws;
    })

-- a value was indexed
pub value_stored : (entries : List SchemaEntry) (ts : List IndexToken) (s : IndexedTermsState) (doc field : ℕ) (held key : List ℕ) (w : PostingsWriterState) (terms : TermIndex) (after : PostingsWriterState)
    → TakesValue entries s.paths field held key → StoresTokens entries s ts → slice_get s.writers field ≡ Some w → after ≡ tokens_counted 1 w
    → let us = map (held_token (json_fields entries) s.paths) ts in
    (held_kept_at entries field held ≡ w.value_option → Records (held_kept_at entries) s.terms us → Records (held_kept_at entries) terms (us ++ value_token (value_at doc field held) ∷ []))
    → StoresTokens entries (record { terms = terms; paths = s.paths; writers = slice_set s.writers field after }) (ts ++ value_token (value_at doc field key) ∷ [])
value_stored entries ts s doc field held key w terms after takes h found counted f =
    let flags = json_fields entries in
    let t = value_token (value_at doc field key) in
    let is : w ≡ writer_in entries field (field_count field ts) = same_Some _ _ (sym found ∙ h.counted field takes.known) in
    let option : w.value_option ≡ Basic = ap (λ (v : PostingsWriterState). v.value_option) is ∙ takes.option in
    let token : value_token (value_at doc field held) ≡ held_token flags s.paths t = ap (λ (k : List ℕ). record t { key = k }) (sym takes.holds) in
    let all : map (held_token flags s.paths) ts ++ value_token (value_at doc field held) ∷ [] ≡ map (held_token flags s.paths) (ts ++ t ∷ [])
    = ap (λ (u : IndexToken). map (held_token flags s.paths) ts ++ u ∷ []) token ∙ sym (map-append (held_token flags s.paths) ts (t ∷ [])) in
    tokens_stored entries field s terms after ts (t ∷ []) takes.known h (record {
      records = subst (Records (held_kept_at entries) terms) all (f (takes.held_kept ∙ sym option) h.records);
      writer_is = counted ∙ ap (tokens_counted 1) is ∙ ap (writer_in entries field) (sym (field_count_more field ts t refl));
      of_field = (record { known = takes.known; kind = sym takes.kept }, tt);
      has_paths = (takes.has_path, tt);
      only = one_token field t [] refl (no_tokens field);
    })

-- why it is refused
pub value_refused : {T : Type 0} (entries : List SchemaEntry) (ts : List IndexToken) (s : IndexedTermsState) (doc field : ℕ) (held key : List ℕ) (w : PostingsWriterState) (result : Result T Fault)
    → field < 4294967296 → TakesValue entries s.paths field held key → StoresTokens entries s ts → slice_get s.writers field ≡ Some w
    → IsRefusedBy (subscribe_fault w.value_option w.total_num_tokens doc 0 (field_bytes field ++ held) s.terms) result → IsRefusedBy (value_fault field ts) result
value_refused {T} entries ts s doc field held key w result low takes h found refused =
    let is : w ≡ writer_in entries field (field_count field ts) = same_Some _ _ (sym found ∙ h.counted field takes.known) in
    let option : w.value_option ≡ Basic = ap (λ (v : PostingsWriterState). v.value_option) is ∙ takes.option in
    let many : w.total_num_tokens ≡ field_count field ts = ap (λ (v : PostingsWriterState). v.total_num_tokens) is in
    let bytes = field_bytes field ++ held in
    let us = map (held_token (json_fields entries) s.paths) ts in
    let known : HasKey Basic (tokens_at field held us) (recorder_of s.terms bytes) =
    subst (λ (o : IndexRecordOption). HasKey o (tokens_at field held us) (recorder_of s.terms bytes)) takes.held_kept (h.records field held low) in
    let kept = key_recorder Basic (tokens_at field held us) (recorder_of s.terms bytes) known in
    let r = recorder_or_new Basic s.terms bytes in
    let cause : subscribe_fault w.value_option w.total_num_tokens doc 0 bytes s.terms ≡ value_fault field ts =
    ap (λ (o : IndexRecordOption). subscribe_fault o w.total_num_tokens doc 0 bytes s.terms) option
    ∙ ap (λ (n : ℕ). subscribe_fault Basic n doc 0 bytes s.terms) many
    ∙ ap (λ (o : IndexRecordOption). if nat_le u64_max (field_count field ts) then Some (Limit limit.Tokens) else position_fault o 0 (entry_for_doc doc r)) kept in
    subst (λ (c : Option Fault). IsRefusedBy c result) cause refused
