-- A field merged from segments has the terms of the tokens of their living documents.
use Rattle.std.proofs.Common.{◌≡◌, ℕ, ◌+◌, ◌<◌, ◌==◌, if◌then◌else◌, Bool, true, false, ◌||◌, List, [], ◌∷◌, ◌++◌, length, map, Option, Some, None, Result, Ok, refl, sym, ap, ◌∙◌, subst, arith, true≢false, Less}
use Rattle.std.specs.Prelude.{◌&&◌, MatchOption, bytes_eq, filter, is_some}
use Rattle.std.specs.Cmp.Lexicographic.{bytes_decides, slice_cmp}
use Rattle.std.specs.List.{AllByRecursion, list_any}
use Rattle.std.specs.List.Sorted.{IsStrictlySortedBy}
use Rattle.std.specs.Ordering.{nat_cmp}
use Rattle.std.specs.Result.{result_unwrap_or}
use Rattle.std.proofs.lemmas.Bool.{and_parts, eqb-true}
use Rattle.std.proofs.lemmas.List.{length-map}
use Rattle.ii_io.specs.declared.faults.Part.{Part}
use Rattle.ii_base.specs.declared.schema.index_record_option.IndexRecordOption.{IndexRecordOption}
use Rattle.ii_base.specs.declared.schema.index_record_option.IndexRecordOption.TheVariants.{Basic}
use Rattle.ii_base.specs.Entries.{Entry}
use Rattle.ii_base.specs.Options.{downgrade}
use Rattle.ii_base.specs.Schema.{SchemaEntry}
use Rattle.ii_alive.specs.Alive.{num_living}
use Rattle.ii_definitions.specs.Cut.{cut_entry}
use Rattle.ii_definitions.specs.Fields.{option_of}
use Rattle.ii_definitions.specs.Files.{HoldsTerm}
use Rattle.ii_definitions.specs.Postings.{grouped, is_at, key_postings, kind_of, occurs, tokens_at}
use Rattle.ii_definitions.specs.Tokens.{IndexToken}
use Rattle.ii_definitions.proofs.GroupedLaws.{none_occurs, some_occurs}
use Rattle.ii_fieldnorm.specs.Readers.{Norms}
use Rattle.ii_reader.proofs.ReaderLemmas.{list_held}
use Rattle.ii_recorder.specs.Pushed.{AreReadable}
use Rattle.ii_recorder.specs.TokenTerms.{IsReadableKey, entries_term, field_keys, kept_entries, token_term}
use Rattle.ii_segments.specs.SegmentLaws.{KeysOfSegments}
use Rattle.ii_segments.specs.Segments.{AreSegmentTokens, Segment, index_tokens, is_key_of_text_in, living_entries, postings_from_segments, type_of_field}
use Rattle.ii_segments.proofs.MergedLaws.{IsTyped, index_typed}
use Rattle.ii_termstore.specs.declared.term_info.TermInfo.{TermInfo}
use Rattle.ii_merger.specs.MergeSources.{FieldSourceState, entries_under, source_has_key, source_info, list_under, merged_from}
use Rattle.ii_merger.specs.MergedField.{AreMergedKeys, IsSoundTerm, kind_under, merged_terms, term_of_entries}
use Rattle.ii_merger.specs.SourcesHold.{SourceHolds, SourcesHold}
use Rattle.ii_recorder.proofs.FieldKeys.{occurred_keys}
use Rattle.ii_base.proofs.OptionLemmas.{downgrade_same}

-- ---- the lists of a key
abbrev as_list : List Entry → Result (List Entry) Part
as_list es = Ok es

pub held_list : (entries : List SchemaEntry) (field : ℕ) (key : List ℕ) (kind : IndexRecordOption) (source : FieldSourceState) (s : Segment) → SourceHolds entries field source s
    → list_under kind source (source_info key source) ≡ Ok (key_postings (option_of entries field) field key kind s.tokens)
held_list entries field key kind source s h = by (source_info key source) (h.reader.holds.exact key)
  where
    by : (o : Option TermInfo) → MatchOption o (occurs field key s.tokens ≡ false) (HoldsTerm source.reader.option field key source.reader.postings source.reader.positions s.tokens)
        → list_under kind source o ≡ Ok (key_postings (option_of entries field) field key kind s.tokens)
    by None none = rw (none_occurs field key s.tokens none) refl
    by (Some info) holds = list_held source.reader field key kind s.tokens info holds ∙ ap (λ (option : IndexRecordOption). as_list (key_postings option field key kind s.tokens)) h.reader.option_is

pub held_from : (entries : List SchemaEntry) (field : ℕ) (key : List ℕ) (kind : IndexRecordOption) (base : ℕ) (sources : List FieldSourceState) (ss : List Segment) → SourcesHold entries field sources ss
    → merged_from kind key base sources ≡ postings_from_segments (option_of entries field) field key kind base ss
held_from entries field key kind base [] [] hold = refl
held_from entries field key kind base [] (s ∷ ss) hold = absurd (hold)
held_from entries field key kind base (c ∷ cs) [] hold = absurd (hold)
held_from entries field key kind base (c ∷ cs) (s ∷ ss) hold =
    let own : entries_under kind c (source_info key c) ≡ key_postings (option_of entries field) field key kind s.tokens = ap (λ (r : Result (List Entry) Part). result_unwrap_or r []) (held_list entries field key kind c s hold.0) in
    rw (own, hold.0.alive) (ap (λ (es : List Entry). living_entries base s.alive (key_postings (option_of entries field) field key kind s.tokens) ++ es) (held_from entries field key kind (base + num_living s.alive) cs ss hold.1))

pub all_tokens : (entries : List SchemaEntry) (field : ℕ) (sources : List FieldSourceState) (ss : List Segment) → SourcesHold entries field sources ss → AllByRecursion (AreSegmentTokens entries) ss
all_tokens entries field [] [] hold = tt
all_tokens entries field [] (s ∷ ss) hold = absurd (hold)
all_tokens entries field (c ∷ cs) [] hold = absurd (hold)
all_tokens entries field (c ∷ cs) (s ∷ ss) hold = (hold.0.tokens, all_tokens entries field cs ss hold.1)

typed_first : (entries : List SchemaEntry) (field : ℕ) (key : List ℕ) (ts : List IndexToken) (t : IndexToken) (more : List IndexToken) → AllByRecursion (IsTyped entries) ts → tokens_at field key ts ≡ t ∷ more → t.of_text ≡ is_key_of_text_in entries field key
typed_first entries field key [] t more typed is = absurd (cc)
typed_first entries field key (u ∷ us) t more typed is = by (is_at field key u) refl (typed_first entries field key us t more typed.1)
  where
    by : (b : Bool) → is_at field key u ≡ b → (tokens_at field key us ≡ t ∷ more → t.of_text ≡ is_key_of_text_in entries field key) → t.of_text ≡ is_key_of_text_in entries field key
    by true here others =
        let parts = and_parts (u.field == field) (bytes_eq u.key key) here in
        let same_field : u.field ≡ field = eqb-true u.field field parts.0 in
        let same_key : u.key ≡ key = (bytes_decides u.key key).0 parts.1 in
        let first : u ∷ tokens_at field key us ≡ t ∷ more = rw here at is in
        let same : u ≡ t = cc in
        ap (λ (v : IndexToken). v.of_text) (sym same) ∙ typed.0 ∙ ap (λ (f : ℕ). is_key_of_text_in entries f u.key) same_field ∙ ap (is_key_of_text_in entries field) same_key
    by false other others = others (rw other at is)

-- What is known of the field that is merged.
pub record IsFieldEntry (entries : List SchemaEntry) (field : ℕ) (entry : SchemaEntry) : Type 0 where
  pub option : option_of entries field ≡ entry.option
  pub value_type : type_of_field entries field ≡ entry.value_type

module _ (entries : List SchemaEntry) (field : ℕ) (entry : SchemaEntry) (is_entry : IsFieldEntry entries field entry) (ts : List IndexToken) (typed : AllByRecursion (IsTyped entries) ts) where
  abbrev mode : IndexRecordOption
  mode = option_of entries field

  kind_is : (key : List ℕ) (t : IndexToken) (more : List IndexToken) → tokens_at field key ts ≡ t ∷ more → kind_of mode (t ∷ more) ≡ kind_under entry key
  kind_is key t more at =
      ap (λ (b : Bool). if b then mode else Basic) (typed_first entries field key ts t more typed at)
      ∙ rw (is_entry.option, is_entry.value_type) refl

  -- the postings of a key are what is kept of its tokens
  kept_are : (key : List ℕ) → key_postings mode field key (kind_under entry key) ts ≡ kept_entries mode (tokens_at field key ts)
  kept_are key = by (tokens_at field key ts) refl
    where
      by : (us : List IndexToken) → tokens_at field key ts ≡ us → map (cut_entry (downgrade (kind_of mode us) (kind_under entry key))) (grouped us) ≡ kept_entries mode us
      by [] at = refl
      by (u ∷ us) at =
          let kind = kind_is key u us at in
          let both : downgrade (kind_of mode (u ∷ us)) (kind_under entry key) ≡ kind_of mode (u ∷ us) = ap (downgrade (kind_of mode (u ∷ us))) (sym kind) ∙ downgrade_same (kind_of mode (u ∷ us)) in
          ap (λ (k : IndexRecordOption). map (cut_entry k) (grouped (u ∷ us))) both

  -- they are the entries of its tokens, cut to what is kept of the key
  pub cut_are : (key : List ℕ) → key_postings mode field key (kind_under entry key) ts ≡ map (cut_entry (kind_under entry key)) (grouped (tokens_at field key ts))
  cut_are key = kept_are key ∙ by (tokens_at field key ts) refl
    where
      by : (us : List IndexToken) → tokens_at field key ts ≡ us → kept_entries mode us ≡ map (cut_entry (kind_under entry key)) (grouped us)
      by [] at = refl
      by (u ∷ us) at = ap (λ (k : IndexRecordOption). map (cut_entry k) (grouped (u ∷ us))) (kind_is key u us at)

  -- the kind of a key that occurred
  pub kind_of_key : (key : List ℕ) → occurs field key ts ≡ true → kind_of mode (tokens_at field key ts) ≡ kind_under entry key
  kind_of_key key occurred = by (tokens_at field key ts) refl (some_occurs field key ts occurred)
    where
      by : (us : List IndexToken) → tokens_at field key ts ≡ us → 0 < length (grouped us) → kind_of mode us ≡ kind_under entry key
      by [] at some = absurd (omega (arith, some))
      by (u ∷ us) at some = kind_is key u us at

some_term : (norms : Option Norms) (kind : IndexRecordOption) (key : List ℕ) (es : List Entry) → 0 < length es → term_of_entries norms kind key es ≡ entries_term norms kind key es ∷ []
some_term norms kind key [] some = absurd (omega (arith, some))
some_term norms kind key (e ∷ es) some = refl

-- ---- keys of sources
none_from : (kind : IndexRecordOption) (key : List ℕ) (base : ℕ) (sources : List FieldSourceState) → list_any (source_has_key key) sources ≡ false → merged_from kind key base sources ≡ []
none_from kind key base [] none = refl
none_from kind key base (c ∷ cs) none = by (source_info key c) refl none (none_from kind key (base + num_living c.alive) cs)
  where
    by : (o : Option TermInfo) → source_info key c ≡ o → (is_some o || list_any (source_has_key key) cs) ≡ false → (list_any (source_has_key key) cs ≡ false → merged_from kind key (base + num_living c.alive) cs ≡ []) → merged_from kind key base (c ∷ cs) ≡ []
    by (Some info) is none rest = absurd (true≢false none)
    by None is none rest = rw is (rest none)

all_filter : (P : List ℕ → Type 0) (f : List ℕ → Bool) (ks : List (List ℕ)) → AllByRecursion P ks → AllByRecursion P (filter f ks)
all_filter P f [] all = tt
all_filter P f (k ∷ ks) all = by (f k) refl (all_filter P f ks all.1)
  where
    by : (b : Bool) → f k ≡ b → AllByRecursion P (filter f ks) → AllByRecursion P (filter f (k ∷ ks))
    by true is others = rw is (all.0, others)
    by false is others = rw is others

filter_ascends : (f : List ℕ → Bool) (ks : List (List ℕ)) → IsStrictlySortedBy (slice_cmp nat_cmp) ks → IsStrictlySortedBy (slice_cmp nat_cmp) (filter f ks)
unfolding IsStrictlySortedBy
filter_ascends f [] ascending = tt
filter_ascends f (k ∷ ks) ascending = by (f k) refl (filter_ascends f ks ascending.1)
  where
    by : (b : Bool) → f k ≡ b → IsStrictlySortedBy (slice_cmp nat_cmp) (filter f ks) → IsStrictlySortedBy (slice_cmp nat_cmp) (filter f (k ∷ ks))
    by true is others = rw is (all_filter (λ (y : List ℕ). slice_cmp nat_cmp k y ≡ Less) f ks ascending.0, others)
    by false is others = rw is others

any_filter : (f : List ℕ → Bool) (q : List ℕ) (ks : List (List ℕ)) → list_any (bytes_eq q) (filter f ks) ≡ (f q && list_any (bytes_eq q) ks)
any_filter f q [] = by (f q)
  where
    by : (b : Bool) → false ≡ (b && false)
    by true = refl
    by false = refl
any_filter f q (k ∷ ks) = by (f k) (bytes_eq q k) (f q) refl refl refl (any_filter f q ks)
  where
    by : (b c d : Bool) → f k ≡ b → bytes_eq q k ≡ c → f q ≡ d → list_any (bytes_eq q) (filter f ks) ≡ (f q && list_any (bytes_eq q) ks) → list_any (bytes_eq q) (filter f (k ∷ ks)) ≡ (f q && list_any (bytes_eq q) (k ∷ ks))
    by true true d is same own others = rw (is, same, ap f ((bytes_decides q k).0 same) ∙ is) refl
    by true false d is other own others = rw (is, other) others
    by false true d is same own others =
        let none : f q ≡ false = ap f ((bytes_decides q k).0 same) ∙ is in
        rw (is, none) (others ∙ ap (λ (b : Bool). b && list_any (bytes_eq q) ks) none)
    by false false d is other own others = rw (is, other) others

-- ---- the terms of a field
module _ (law : KeysOfSegments) (entries : List SchemaEntry) (field : ℕ) (entry : SchemaEntry) (is_entry : IsFieldEntry entries field entry) (sources : List FieldSourceState) (ss : List Segment) (hold : SourcesHold entries field sources ss) where
  abbrev tokens : List IndexToken
  tokens = index_tokens ss

  abbrev option : IndexRecordOption
  option = option_of entries field

  are_typed : AllByRecursion (IsTyped entries) tokens
  are_typed = index_typed entries ss (all_tokens entries field sources ss hold)

  -- the merged entries of a key are what is kept of its tokens
  merged_is : (key : List ℕ) → merged_from (kind_under entry key) key 0 sources ≡ kept_entries option (tokens_at field key tokens)
  merged_is key =
      held_from entries field key (kind_under entry key) 0 sources ss hold
      ∙ sym (law entries option (kind_under entry key) field key ss (all_tokens entries field sources ss hold))
      ∙ kept_are entries field entry is_entry tokens are_typed key

  some_merged : (key : List ℕ) → occurs field key tokens ≡ true → 0 < length (merged_from (kind_under entry key) key 0 sources)
  some_merged key occurred =
      omega (arith, some_occurs field key tokens occurred, ap length (merged_is key), length-map (grouped (tokens_at field key tokens)) (cut_entry (kind_of option (tokens_at field key tokens))))

  none_merged : (key : List ℕ) → occurs field key tokens ≡ false → merged_from (kind_under entry key) key 0 sources ≡ []
  none_merged key none = merged_is key ∙ ap (kept_entries option) (none_occurs field key tokens none)

  -- a key that occurred is one of the sources
  found_in_sources : (key : List ℕ) → occurs field key tokens ≡ true → list_any (source_has_key key) sources ≡ true
  found_in_sources key occurred = by (list_any (source_has_key key) sources) refl
    where
      by : (b : Bool) → list_any (source_has_key key) sources ≡ b → list_any (source_has_key key) sources ≡ true
      by true is = is
      by false is = absurd (omega (arith, some_merged key occurred, ap length (none_from (kind_under entry key) key 0 sources is)))

  abbrev has_tokens : List ℕ → Bool
  has_tokens key = occurs field key tokens

  pub keys_are : (keys : List (List ℕ)) → AreMergedKeys sources keys → filter has_tokens keys ≡ field_keys field tokens
  keys_are keys are = occurred_keys field tokens (filter has_tokens keys) (filter_ascends has_tokens keys are.ascending) (λ q. any_filter has_tokens q keys ∙ by q (occurs field q tokens) refl)
    where
      by : (q : List ℕ) (b : Bool) → occurs field q tokens ≡ b → (has_tokens q && list_any (bytes_eq q) keys) ≡ occurs field q tokens
      by q true is = rw (is, are.exact q, found_in_sources q is) refl
      by q false is = rw is refl

  one_term : (norms : Option Norms) (key : List ℕ) → occurs field key tokens ≡ true → term_of_entries norms (kind_under entry key) key (merged_from (kind_under entry key) key 0 sources) ≡ token_term norms option field tokens key ∷ []
  one_term norms key occurred =
      some_term norms (kind_under entry key) key (merged_from (kind_under entry key) key 0 sources) (some_merged key occurred)
      ∙ ap (λ (es : List Entry). entries_term norms (kind_under entry key) key es ∷ []) (merged_is key)
      ∙ ap (λ (k : IndexRecordOption). entries_term norms k key (kept_entries option (tokens_at field key tokens)) ∷ []) (sym (kind_of_key entries field entry is_entry tokens are_typed key occurred))

  terms_are : (norms : Option Norms) (keys : List (List ℕ)) → merged_terms norms entry sources keys ≡ map (token_term norms option field tokens) (filter has_tokens keys)
  terms_are norms [] = refl
  terms_are norms (k ∷ ks) = by (occurs field k tokens) refl (terms_are norms ks)
    where
      by : (b : Bool) → occurs field k tokens ≡ b → merged_terms norms entry sources ks ≡ map (token_term norms option field tokens) (filter has_tokens ks)
          → term_of_entries norms (kind_under entry k) k (merged_from (kind_under entry k) k 0 sources) ++ merged_terms norms entry sources ks ≡ map (token_term norms option field tokens) (filter has_tokens (k ∷ ks))
      by true is others = rw (is, one_term norms k is, others) refl
      by false is others = rw (is, none_merged k is, others) refl

  -- the merged terms are those of the tokens
  pub field_terms : (norms : Option Norms) (keys : List (List ℕ)) → AreMergedKeys sources keys → merged_terms norms entry sources keys ≡ map (token_term norms option field tokens) (field_keys field tokens)
  field_terms norms keys are = terms_are norms keys ∙ ap (map (token_term norms option field tokens)) (keys_are keys are)

  readable_key : (key : List ℕ) → occurs field key tokens ≡ true → IsSoundTerm (kind_under entry key) sources key → IsReadableKey option field tokens key
  readable_key key occurred h =
      subst (λ (k : IndexRecordOption). AreReadable k (kept_entries option (tokens_at field key tokens))) (sym (kind_of_key entries field entry is_entry tokens are_typed key occurred))
      (subst (AreReadable (kind_under entry key)) (merged_is key) (h.readable (some_merged key occurred)))

  readable_keys : (keys : List (List ℕ)) → AllByRecursion (λ (key : List ℕ). IsSoundTerm (kind_under entry key) sources key) keys → AllByRecursion (IsReadableKey option field tokens) (filter has_tokens keys)
  readable_keys [] all = tt
  readable_keys (k ∷ ks) all = by (occurs field k tokens) refl (readable_keys ks all.1)
    where
      by : (b : Bool) → occurs field k tokens ≡ b → AllByRecursion (IsReadableKey option field tokens) (filter has_tokens ks) → AllByRecursion (IsReadableKey option field tokens) (filter has_tokens (k ∷ ks))
      by true is others = rw is (readable_key k is all.0, others)
      by false is others = rw is others

  -- and what is written for them can be read back
  pub field_readable : (keys : List (List ℕ)) → AreMergedKeys sources keys → AllByRecursion (λ (key : List ℕ). IsSoundTerm (kind_under entry key) sources key) keys → AllByRecursion (IsReadableKey option field tokens) (field_keys field tokens)
  field_readable keys are all = subst (AllByRecursion (IsReadableKey option field tokens)) (keys_are keys are) (readable_keys keys all)
