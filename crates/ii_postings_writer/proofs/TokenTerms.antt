-- The terms of a field as they are written, by the tokens that a context has.
use Rattle.std.proofs.Common.{inl, inr, ◌≡◌, ℕ, ◌<◌, ◌^◌, Bool, true, false, ◌||◌, List, [], ◌∷◌, ◌++◌, map, Option, Some, None, refl, sym, ap, ◌∙◌, subst}
use Rattle.std.specs.Prelude.{◌⊎◌, bytes_eq, if◌then◌else◌, MatchOption}
use Rattle.std.specs.Ordering.{nat_cmp}
use Rattle.std.specs.Cmp.Lexicographic.{bytes_decides, slice_cmp}
use Rattle.std.specs.List.{AllByRecursion, list_any}
use Rattle.std.specs.List.Sorted.{IsStrictlySortedBy}
use Rattle.std.specs.Map.{keys_of}
use Rattle.ii_base.specs.declared.schema.index_record_option.IndexRecordOption.{IndexRecordOption}
use Rattle.ii_base.specs.declared.schema.index_record_option.IndexRecordOption.TheVariants.{Basic, WithFreqs, WithFreqsAndPositions}
use Rattle.ii_base.specs.Options.{has_freq, has_positions}
use Rattle.ii_base.specs.Entries.{Entry, docs_of}
use Rattle.ii_definitions.specs.Cut.{cut_entry}
use Rattle.ii_definitions.specs.Postings.{grouped, kind_of, occurs, tokens_at}
use Rattle.ii_definitions.specs.Tokens.{IndexToken}
use Rattle.ii_definitions.specs.TrueBounds.{HasTrueTerms}
use Rattle.ii_recorder.specs.Pushed.{pushed_deltas, pushed_freqs}
use Rattle.ii_recorder.specs.Recorded.{RecorderState, entries_of_recorder}
use Rattle.ii_recorder.specs.Terms.{WrittenTerm}
use Rattle.ii_postings_writer.specs.IndexingContext.{TermIndex, recorder_of}
use Rattle.ii_postings_writer.specs.IndexingTerm.{AreTermBytes, field_bytes}
use Rattle.ii_postings_writer.specs.Records.{HasPostings}
use Rattle.ii_postings_writer.specs.SortedTerms.{SortedTerm, terms_in, written_term}
use Rattle.ii_fieldnorm.specs.Readers.{Norms}
use Rattle.ii_definitions.specs.Files.{HoldsField}
use Rattle.ii_definitions.specs.Postings.{field_count}
use Rattle.ii_recorder.specs.HeldTerms.{HoldsTerms}
use Rattle.ii_recorder.specs.Terms.{FieldBodies}
use Rattle.ii_recorder.specs.TokenTerms.{BoundsItsTokens, HoldsItsTokens, IsReadableKey, entries_term, field_keys, token_term}
use Rattle.ii_recorder.proofs.TokenLaws.{kind_which}
use Rattle.ii_postings_writer.proofs.HeldFields.{IsKnown, each_found, found_has_key, found_in, none_occurred}
use Rattle.ii_postings_writer.proofs.HoldLaws.{readable_key, recorder_occurred}
use Rattle.ii_postings_writer.proofs.SortedLemmas.{terms_in_ascend}
use Rattle.ii_recorder.proofs.FieldKeys.{occurred_keys}

-- without tokens there are none
pub no_keys : (field : ℕ) → field_keys field [] ≡ []
unfolding IsStrictlySortedBy
no_keys field = sym (occurred_keys field [] [] tt (λ q. refl))

-- a term of a field, by what its recorder keeps and has
abbrev made : Option Norms → IndexRecordOption → List ℕ → IndexRecordOption → List Entry → WrittenTerm
made norms mode key kept es = record { key = key; norms = norms; skip_info = if has_freq kept then mode else Basic; docs = docs_of es; freqs = pushed_freqs kept es; deltas = if has_positions mode then pushed_deltas es else [] }

documents_alone : (es : List Entry) → pushed_deltas (map (cut_entry Basic) es) ≡ []
documents_alone [] = refl
documents_alone (e ∷ es) = documents_alone es

counts_alone : (es : List Entry) → pushed_deltas (map (cut_entry WithFreqs) es) ≡ []
counts_alone [] = refl
counts_alone (e ∷ es) = counts_alone es

module _ (norms : Option Norms) (key : List ℕ) (es : List Entry) where
  -- a term with these deltas
  abbrev with_deltas : IndexRecordOption → List ℕ → WrittenTerm
  with_deltas kept deltas = record (entries_term norms kept key (map (cut_entry kept) es)) { deltas = deltas }

  made_of_field : (mode : IndexRecordOption) → made norms mode key mode (map (cut_entry mode) es) ≡ entries_term norms mode key (map (cut_entry mode) es)
  made_of_field Basic = ap (with_deltas Basic) (sym (documents_alone es))
  made_of_field WithFreqs = ap (with_deltas WithFreqs) (sym (counts_alone es))
  made_of_field WithFreqsAndPositions = refl

  made_of_documents : (mode : IndexRecordOption) → made norms mode key Basic (map (cut_entry Basic) es) ≡ entries_term norms Basic key (map (cut_entry Basic) es)
  made_of_documents Basic = ap (with_deltas Basic) (sym (documents_alone es))
  made_of_documents WithFreqs = ap (with_deltas Basic) (sym (documents_alone es))
  made_of_documents WithFreqsAndPositions = refl

  made_of_kind : (mode kind : IndexRecordOption) → (kind ≡ mode) ⊎ (kind ≡ Basic) → made norms mode key kind (map (cut_entry kind) es) ≡ entries_term norms kind key (map (cut_entry kind) es)
  made_of_kind mode kind (inl same) =
      subst (λ (k : IndexRecordOption). made norms mode key k (map (cut_entry k) es) ≡ entries_term norms k key (map (cut_entry k) es)) (sym same) (made_of_field mode)
  made_of_kind mode kind (inr basic) =
      subst (λ (k : IndexRecordOption). made norms mode key k (map (cut_entry k) es) ≡ entries_term norms k key (map (cut_entry k) es)) (sym basic) (made_of_documents mode)

-- a recorder with the postings of a key is written as that key
key_written : (norms : Option Norms) (mode : IndexRecordOption) (field : ℕ) (ts : List IndexToken) (s : SortedTerm) → HasPostings (kind_of mode (tokens_at field s.key ts)) (tokens_at field s.key ts) s.recorder → written_term norms mode s ≡ token_term norms mode field ts s.key
key_written norms mode field ts s has =
    let tokens = tokens_at field s.key ts in
    ap (λ (o : IndexRecordOption). made norms mode s.key o (entries_of_recorder s.recorder)) has.kept
    ∙ ap (made norms mode s.key (kind_of mode tokens)) has.entries
    ∙ made_of_kind norms s.key (grouped tokens) mode (kind_of mode tokens) (kind_which mode tokens)

-- What a sorted context has of the tokens of a field.
pub record HasFieldTokens (mode : IndexRecordOption) (field : ℕ) (sorted : TermIndex) (ts : List IndexToken) : Type 0 where
  pub small : field < 2 ^ 32
  pub whole : AllByRecursion AreTermBytes (keys_of sorted)
  pub ascending : IsStrictlySortedBy (slice_cmp nat_cmp) (keys_of sorted)
  pub records : (key : List ℕ) → MatchOption (recorder_of sorted (field_bytes field ++ key)) (tokens_at field key ts ≡ []) (HasPostings (kind_of mode (tokens_at field key ts)) (tokens_at field key ts))

module _ (norms : Option Norms) (mode : IndexRecordOption) (field : ℕ) (sorted : TermIndex) (ts : List IndexToken) (h : HasFieldTokens mode field sorted ts) where
  abbrev IsFound : SortedTerm → Type 0
  IsFound s = recorder_of sorted (field_bytes field ++ s.key) ≡ Some s.recorder

  -- what a key has
  abbrev Has : List ℕ → Option RecorderState → Type 0
  Has key o = MatchOption o (tokens_at field key ts ≡ []) (HasPostings (kind_of mode (tokens_at field key ts)) (tokens_at field key ts))

  abbrev keys_in : List SortedTerm → List (List ℕ)
  keys_in ss = map (λ (s : SortedTerm). s.key) ss

  all_found : AllByRecursion IsFound (terms_in field sorted)
  all_found = found_in field sorted sorted h.whole (each_found sorted h.ascending)

  terms_written : (ss : List SortedTerm) → AllByRecursion IsFound ss → map (written_term norms mode) ss ≡ map (token_term norms mode field ts) (keys_in ss)
  terms_written [] found = refl
  terms_written (s ∷ ss) found =
      let here : written_term norms mode s ≡ token_term norms mode field ts s.key = key_written norms mode field ts s (subst (Has s.key) found.0 (h.records s.key)) in
      rw (here, terms_written ss found.1) refl

  any_key : (key : List ℕ) (ss : List SortedTerm) → list_any (λ (t : WrittenTerm). bytes_eq key t.key) (map (written_term norms mode) ss) ≡ list_any (bytes_eq key) (keys_in ss)
  any_key key [] = refl
  any_key key (s ∷ ss) = ap (λ (b : Bool). bytes_eq key s.key || b) (any_key key ss)

  -- a key that isn't found is none of these
  no_key : (key : List ℕ) (ss : List SortedTerm) → recorder_of sorted (field_bytes field ++ key) ≡ None → AllByRecursion IsFound ss → list_any (bytes_eq key) (keys_in ss) ≡ false
  no_key key [] absent found = refl
  no_key key (s ∷ ss) absent found = by_case (bytes_eq key s.key) refl (no_key key ss absent found.1)
    where
      by_case : (b : Bool) → bytes_eq key s.key ≡ b → list_any (bytes_eq key) (keys_in ss) ≡ false → list_any (bytes_eq key) (keys_in (s ∷ ss)) ≡ false
      by_case true is rest =
          let same : key ≡ s.key = (bytes_decides key s.key).0 is in
          let there : Some s.recorder ≡ None = sym found.0 ∙ ap (λ (k : List ℕ). recorder_of sorted (field_bytes field ++ k)) (sym same) ∙ absent in
          absurd (cc)
      by_case false is rest = rw (is, rest) refl

  -- the keys of the terms are those that occurred
  same_keys : (key : List ℕ) → list_any (bytes_eq key) (keys_in (terms_in field sorted)) ≡ occurs field key ts
  same_keys key = by_case (recorder_of sorted (field_bytes field ++ key)) refl
    where
      by_case : (o : Option RecorderState) → recorder_of sorted (field_bytes field ++ key) ≡ o → list_any (bytes_eq key) (keys_in (terms_in field sorted)) ≡ occurs field key ts
      by_case None absent = no_key key (terms_in field sorted) absent all_found ∙ sym (none_occurred field key ts (subst (Has key) absent (h.records key)))
      by_case (Some r) found =
          let occurred : occurs field key ts ≡ true = recorder_occurred mode field key ts r (subst (Has key) found (h.records key)) in
          sym (any_key key (terms_in field sorted)) ∙ found_has_key norms mode field key r sorted h.small found ∙ sym occurred

  pub keys_written : keys_in (terms_in field sorted) ≡ field_keys field ts
  keys_written =
      occurred_keys field ts (keys_in (terms_in field sorted)) (terms_in_ascend field sorted h.whole h.ascending) same_keys

  -- the terms of a field are written as its tokens say
  pub field_written : map (written_term norms mode) (terms_in field sorted) ≡ map (token_term norms mode field ts) (field_keys field ts)
  field_written = terms_written (terms_in field sorted) all_found ∙ ap (map (token_term norms mode field ts)) keys_written

  readable_keys : (ss : List SortedTerm) → AllByRecursion (IsKnown norms mode field sorted) ss → AllByRecursion (IsReadableKey mode field ts) (keys_in ss)
  readable_keys [] known = tt
  readable_keys (s ∷ ss) known = (readable_key norms mode field ts s (subst (Has s.key) known.0.found (h.records s.key)) known.0.told known.0.writable, readable_keys ss known.1)

  -- the bodies of a field that was written hold its tokens
  pub holds_field : HoldsItsTokens → (tokens : ℕ) (bodies : FieldBodies) → tokens ≡ field_count field ts → HoldsTerms mode tokens bodies (map (written_term norms mode) (terms_in field sorted))
      → AllByRecursion (IsKnown norms mode field sorted) (terms_in field sorted) → HoldsField mode field bodies.terms bodies.postings bodies.positions ts
  holds_field law tokens bodies counted holds known =
      law norms mode field ts bodies (subst (AllByRecursion (IsReadableKey mode field ts)) keys_written (readable_keys (terms_in field sorted) known))
      (subst (λ (n : ℕ). HoldsTerms mode n bodies (map (token_term norms mode field ts) (field_keys field ts))) counted
      (subst (HoldsTerms mode tokens bodies) field_written holds))

  -- and have true bounds, by its norms
  pub bounds_field : BoundsItsTokens → (own : Norms) → norms ≡ Some own → (tokens : ℕ) (bodies : FieldBodies) → tokens ≡ field_count field ts → HoldsTerms mode tokens bodies (map (written_term norms mode) (terms_in field sorted))
      → AllByRecursion (IsKnown norms mode field sorted) (terms_in field sorted) → HasTrueTerms mode own bodies.terms bodies.postings
  bounds_field law own is tokens bodies counted holds known =
      law own mode field ts bodies (subst (AllByRecursion (IsReadableKey mode field ts)) keys_written (readable_keys (terms_in field sorted) known))
      (subst (λ (o : Option Norms). HoldsTerms mode (field_count field ts) bodies (map (token_term o mode field ts) (field_keys field ts))) is
      (subst (λ (n : ℕ). HoldsTerms mode n bodies (map (token_term norms mode field ts) (field_keys field ts))) counted
      (subst (HoldsTerms mode tokens bodies) field_written holds)))
