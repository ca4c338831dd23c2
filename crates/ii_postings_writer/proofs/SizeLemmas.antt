-- Few tokens exceed no limit of the terms of an index.
use Rattle.std.proofs.Common.{◌≡◌, ℕ, suc, ◌+◌, ◌*◌, ◌≤◌, ◌<◌, ◌^◌, List, [], ◌∷◌, length, map, refl, sym, ap, ◌∙◌, subst, arith, inl, inr, length-append, None}
use Rattle.std.specs.Prelude.{nat_lt}
use Rattle.std.specs.List.{AllByRecursion, flat_map}
use Rattle.std.proofs.lemmas.List.{length-map}
use Rattle.std.proofs.lemmas.List.Concat.{flat_map-cons}
use Rattle.std.proofs.lemmas.List.FromFn.{length-range_with_len}
use Rattle.std.proofs.lemmas.List.Sums.{count_by-le-length, length-filter}
use Rattle.std.proofs.Math.Nat.{suc-mul}
use Rattle.ii_io.specs.Composite.{Body, bodies_bytes, places_from, table_bytes, written_composite}
use Rattle.ii_io.specs.Numbers.{le_bytes}
use Rattle.ii_io.specs.NumberLemmas.{length_le_bytes}
use Rattle.ii_io.proofs.CompositeLaws.{length-places_from}
use Rattle.ii_io.proofs.CompositeWriteLemmas.{length-table_bytes}
use Rattle.ii_base.specs.Schema.{SchemaEntry}
use Rattle.ii_base.specs.declared.schema.index_record_option.IndexRecordOption.{IndexRecordOption}
use Rattle.ii_definitions.specs.Fields.{option_of}
use Rattle.ii_definitions.specs.Postings.{field_count}
use Rattle.ii_definitions.specs.Tokens.{IndexToken}
use Rattle.ii_recorder.specs.Terms.{FieldBodies, WrittenTerm, infos_from, positions_body, positions_bytes, postings_bytes}
use Rattle.ii_recorder.specs.TokenTerms.{field_keys, token_term}
use Rattle.ii_postings_writer.specs.TermLimits.{AreWithin, IsWithin, PassEnds}
use Rattle.ii_postings_writer.specs.TokenFiles.{fields_of, fields_with_terms, file_bodies, token_bodies, token_terms}
use Rattle.ii_termdict.proofs.SizeLemmas.{length-written_dictionary-le}
use Rattle.ii_recorder.proofs.SizeLemmas.{HasFewTokens, few_have_small_sums, few_keys, has_few_tokens, length-positions_bytes-le, length-postings_bytes-le, short_keys}

-- At most a million tokens, with keys of at most a million bytes.
pub record AreFew (ts : List IndexToken) : Type 0 where
  pub many : length ts ≤ 1000000
  pub keys : AllByRecursion (λ (t : IndexToken). length t.key ≤ 1000000) ts

module _ (entries : List SchemaEntry) (ts : List IndexToken) (few : AreFew ts) (field : ℕ) where
  abbrev mode : IndexRecordOption
  mode = option_of entries field

  abbrev term_of : List ℕ → WrittenTerm
  term_of key = token_term None mode field ts key

  term_is_few : (key : List ℕ) → HasFewTokens 1000000 (term_of key)
  term_is_few key = has_few_tokens 1000000 None mode field ts key few.many

  few_terms : length (token_terms entries ts field) ≤ 1000000
  few_terms = omega (arith, few.many, length-map (field_keys field ts) term_of, few_keys field ts)

  all_within : (keys : List (List ℕ)) → AllByRecursion (IsWithin mode) (map term_of keys)
  all_within [] = tt
  all_within (k ∷ ks) =
      let small = term_is_few k in (
        (
          few_have_small_sums 1000000 (term_of k) (omega arith) small,
          (omega (arith, length-postings_bytes-le 1000000 (term_of k) small), omega (arith, length-positions_bytes-le 1000000 mode (term_of k) small)),
        ),
        all_within ks,
      )

  length-postings-le : (keys : List (List ℕ)) → length (flat_map postings_bytes (map term_of keys)) ≤ length keys * 27000010
  length-postings-le [] = omega arith
  length-postings-le (k ∷ ks) =
      let others = map term_of ks in
      omega (
        arith,
        ap length (flat_map-cons postings_bytes (term_of k) others),
        length-append (postings_bytes (term_of k)) (flat_map postings_bytes others),
        length-postings_bytes-le 1000000 (term_of k) (term_is_few k),
        length-postings-le ks,
        suc-mul (length ks) 27000010,
      )

  length-positions-le : (keys : List (List ℕ)) → length (positions_body mode (map term_of keys)) ≤ length keys * 14000010
  length-positions-le [] = omega arith
  length-positions-le (k ∷ ks) =
      let others = map term_of ks in
      omega (
        arith,
        ap length (flat_map-cons (λ (t : WrittenTerm). positions_bytes mode t.deltas) (term_of k) others),
        length-append (positions_bytes mode (term_of k).deltas) (positions_body mode others),
        length-positions_bytes-le 1000000 mode (term_of k) (term_is_few k),
        length-positions-le ks,
        suc-mul (length ks) 14000010,
      )

  not_past : PassEnds mode (token_terms entries ts field) → ⊥
  not_past (inl far) = absurd (omega (arith, far, few.many, few_keys field ts, length-postings-le (field_keys field ts)))
  not_past (inr far) = absurd (omega (arith, far, few.many, few_keys field ts, length-positions-le (field_keys field ts)))

  -- its terms exceed no limit
  pub few_are_within : AreWithin mode (token_terms entries ts field)
  few_are_within = record { terms = all_within (field_keys field ts); ends = not_past }

  length-infos : (postings positions : ℕ) (us : List WrittenTerm) → length (infos_from mode postings positions us) ≡ length us
  length-infos postings positions [] = refl
  length-infos postings positions (u ∷ us) = ap suc (length-infos (postings + length (postings_bytes u)) (positions + length (positions_bytes mode u.deltas)) us)

  keys_back : (keys : List (List ℕ)) → map (λ (t : WrittenTerm). t.key) (map term_of keys) ≡ keys
  keys_back [] = refl
  keys_back (k ∷ ks) = ap (λ (us : List (List ℕ)). k ∷ us) (keys_back ks)

  pub length-terms-le : length (token_bodies entries ts field).terms ≤ 1006208000024
  length-terms-le =
      let terms = token_terms entries ts field in
      let keys : List (List ℕ) = map (λ (t : WrittenTerm). t.key) terms in
      let short : AllByRecursion (λ (k : List ℕ). length k ≤ 1000000) keys = subst (AllByRecursion (λ (k : List ℕ). length k ≤ 1000000)) (sym (keys_back (field_keys field ts))) (short_keys 1000000 field ts few.keys) in
      omega (
        arith,
        few_terms,
        length-map {B = List ℕ} terms (λ (t : WrittenTerm). t.key),
        length-written_dictionary-le 1000000 keys (infos_from mode 0 0 terms) (length-infos 0 0 terms ∙ sym (length-map {B = List ℕ} terms (λ (t : WrittenTerm). t.key))) short,
      )

  pub length-postings_body-le : length (token_bodies entries ts field).postings ≤ 27000010000008
  length-postings_body-le =
      let terms = token_terms entries ts field in
      omega (
        arith,
        few.many,
        few_keys field ts,
        length-append (le_bytes 8 (field_count field ts)) (flat_map postings_bytes terms),
        length_le_bytes 8 (field_count field ts),
        length-postings-le (field_keys field ts),
      )

  pub length-positions_body-le : length (token_bodies entries ts field).positions ≤ 14000010000000
  length-positions_body-le = omega (arith, few.many, few_keys field ts, length-positions-le (field_keys field ts))

-- A file of few fields, each of which has a short body.
module _ (entries : List SchemaEntry) (ts : List IndexToken) (part : FieldBodies → List ℕ) (short : (field : ℕ) → length (part (token_bodies entries ts field)) ≤ 27000010000008) where
  abbrev body_of_field : ℕ → Body
  body_of_field field = record { field = field; bytes = part (token_bodies entries ts field) }

  length-bodies-le : (fields : List ℕ) → length (bodies_bytes (map body_of_field fields)) ≤ length fields * 27000010000008
  length-bodies-le [] = omega arith
  length-bodies-le (f ∷ fs) =
      let others = map body_of_field fs in
      omega (
        arith,
        ap length (flat_map-cons (λ (b : Body). b.bytes) (body_of_field f) others),
        length-append (part (token_bodies entries ts f)) (bodies_bytes others),
        short f,
        length-bodies-le fs,
        suc-mul (length fs) 27000010000008,
      )

  pub length-file-lt : length entries ≤ 100000 → length (written_composite (file_bodies part entries ts)) < 2 ^ 64
  length-file-lt few_fields =
      let fields = fields_with_terms entries ts in
      let has_terms = λ (field : ℕ). nat_lt 0 (length (field_keys field ts)) in
      let bodies = map body_of_field fields in
      omega (
        arith,
        few_fields,
        length-append (bodies_bytes bodies) (table_bytes (places_from 0 bodies)),
        length-bodies-le fields,
        length-table_bytes (places_from 0 bodies),
        length-places_from 0 bodies,
        length-map {B = Body} fields body_of_field,
        length-filter has_terms (fields_of entries),
        count_by-le-length has_terms (fields_of entries),
        length-range_with_len 0 (length entries),
      )
