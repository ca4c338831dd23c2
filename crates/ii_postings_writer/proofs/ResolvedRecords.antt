-- A context of terms with path ids has the tokens of their keys.
use Rattle.std.proofs.Common.{◌≡◌, ℕ, ◌<◌, ◌≤◌, ◌^◌, ◌&&◌, ◌==◌, Bool, true, false, List, [], ◌∷◌, ◌++◌, map, length, drop, Some, None, Option, refl, sym, ap, ◌∙◌, subst, arith}
use Rattle.std.specs.Prelude.{MatchOption, bytes_eq, slice_index_or}
use Rattle.std.specs.List.{AllByRecursion}
use Rattle.std.specs.Map.{keys_of}
use Rattle.std.proofs.lemmas.Bool.{and_parts, eqb-true}
use Rattle.std.proofs.lemmas.Cmp.{nat_list_eq_equiv}
use Rattle.std.proofs.lemmas.Slice.Eq.{bytes_eq-Decides}
use Rattle.ii_base.specs.Values.{json_key}
use Rattle.ii_base.specs.declared.schema.index_record_option.IndexRecordOption.{IndexRecordOption}
use Rattle.ii_base.specs.Entries.{Entry}
use Rattle.ii_definitions.specs.Cut.{cut_entry}
use Rattle.ii_definitions.specs.JsonKeys.{path_in}
use Rattle.ii_definitions.specs.Postings.{grouped, is_at, kind_of, tokens_at, with_token}
use Rattle.ii_definitions.specs.Tokens.{IndexToken}
use Rattle.ii_definitions.proofs.KeyLaws.{path_of_key}
use Rattle.ii_json.specs.Paths.{AreDistinct, is_known, path_id}
use Rattle.ii_recorder.specs.Recorded.{RecorderState}
use Rattle.ii_postings_writer.specs.IndexingContext.{TermIndex, recorder_of}
use Rattle.ii_postings_writer.specs.IndexingTerm.{field_bytes, field_in}
use Rattle.ii_postings_writer.specs.Records.{HasPostings, Records}
use Rattle.ii_postings_writer.specs.ResolvedTerms.{AreClean, HasPath, IsHeldTerm, IsKnownToken, behind_path, held_key, held_token, held_value, is_json_field, resolved, resolved_terms}
use Rattle.ii_postings_writer.proofs.ResolvedLaws.{behind_key, clean_at, json_resolved, known_at, path_of_id, plain_resolved, resolved_alike}
use Rattle.ii_postings_writer.proofs.SortedLemmas.{field_of_bytes}
use Rattle.ii_postings_writer.proofs.TermLemmas.{behind_field}

-- tokens under other keys have the same documents and positions
with_held : (t : IndexToken) (key : List ℕ) (es : List Entry) → with_token (record t { key = key }) es ≡ with_token t es
with_held t key [] = refl
with_held t key (e ∷ es) = refl

module _ (flags : List Bool) (paths : List (List ℕ)) where
  pub grouped_held : (ts : List IndexToken) → grouped (map (held_token flags paths) ts) ≡ grouped ts
  grouped_held [] = refl
  grouped_held (t ∷ ts) = with_held t (held_key flags paths t.field t.key) (grouped (map (held_token flags paths) ts)) ∙ ap (with_token t) (grouped_held ts)

  pub kind_held : (option : IndexRecordOption) (ts : List IndexToken) → kind_of option (map (held_token flags paths) ts) ≡ kind_of option ts
  kind_held option [] = refl
  kind_held option (t ∷ ts) = refl

  pub nothing_held : (ts : List IndexToken) → map (held_token flags paths) ts ≡ [] → ts ≡ []
  nothing_held [] is = refl
  nothing_held (t ∷ ts) is = absurd (cc)

module _ (flags : List Bool) (paths : List (List ℕ)) (distinct : AreDistinct paths) (clean : AreClean paths) (few : length paths ≤ 2 ^ 32) where
  -- the key of a value that is held
  abbrev key_back : List ℕ → List ℕ
  key_back value = json_key (slice_index_or paths (field_in value) []) (drop 4 value)

  back_of_held : (key : List ℕ) → HasPath paths key → key_back (held_value (path_id paths (path_in key)) (behind_path key)) ≡ key
  back_of_held key has =
      let at = path_of_id paths (path_in key) has.known in
      let id = path_id paths (path_in key) in
      let number : field_in (held_value id (behind_path key)) ≡ id = field_of_bytes id (behind_path key) (omega (arith, at.0, few)) in
      ap (λ (n : ℕ). json_key (slice_index_or paths n []) (drop 4 (held_value id (behind_path key)))) number
      ∙ ap (λ (v : List ℕ). json_key (slice_index_or paths id []) v) (behind_field id (behind_path key))
      ∙ ap (λ (p : List ℕ). json_key p (behind_path key)) at.1 ∙ sym has.whole

  same_keys : (x y : List ℕ) → HasPath paths x → HasPath paths y → bytes_eq (held_value (path_id paths (path_in x)) (behind_path x)) (held_value (path_id paths (path_in y)) (behind_path y)) ≡ bytes_eq x y
  same_keys x y hx hy = by (bytes_eq x y) (bytes_eq (held_value (path_id paths (path_in x)) (behind_path x)) (held_value (path_id paths (path_in y)) (behind_path y))) refl refl
    where
      by : (a b : Bool) → bytes_eq x y ≡ a → bytes_eq (held_value (path_id paths (path_in x)) (behind_path x)) (held_value (path_id paths (path_in y)) (behind_path y)) ≡ b → b ≡ a
      by true b same is =
          let eq : x ≡ y = (bytes_eq-Decides x y).0 same in
          sym is ∙ ap (λ (k : List ℕ). bytes_eq (held_value (path_id paths (path_in k)) (behind_path k)) (held_value (path_id paths (path_in y)) (behind_path y))) eq ∙ nat_list_eq_equiv.refl (held_value (path_id paths (path_in y)) (behind_path y))
      by false true other is =
          let eq : x ≡ y = sym (back_of_held x hx) ∙ ap key_back ((bytes_eq-Decides _ _).0 is) ∙ back_of_held y hy in
          sym ((bytes_eq-Decides x y).1 eq) ∙ other
      by false false other is = refl

  -- a token has a key where what is held of it is what is held of the key
  at_held : (t : IndexToken) (field : ℕ) (key : List ℕ) → IsKnownToken flags paths t → (is_json_field flags field ≡ true → HasPath paths key) → is_at field (held_key flags paths field key) (held_token flags paths t) ≡ is_at field key t
  at_held t field key known has = by (t.field == field) refl
    where
      in_field : t.field ≡ field → (b : Bool) → is_json_field flags field ≡ b → bytes_eq (held_key flags paths t.field t.key) (held_key flags paths field key) ≡ bytes_eq t.key key
      in_field at false is = rw (at, is) refl
      in_field at true is =
          let token : HasPath paths t.key = known (ap (is_json_field flags) at ∙ is) in
          rw (at, is) (same_keys t.key key token (has is))

      by : (b : Bool) → (t.field == field) ≡ b → (b && bytes_eq (held_key flags paths t.field t.key) (held_key flags paths field key)) ≡ (b && bytes_eq t.key key)
      by false is = refl
      by true is = in_field (eqb-true t.field field is) (is_json_field flags field) refl

  pub tokens_held : (ts : List IndexToken) (field : ℕ) (key : List ℕ) → AllByRecursion (IsKnownToken flags paths) ts → (is_json_field flags field ≡ true → HasPath paths key)
      → tokens_at field (held_key flags paths field key) (map (held_token flags paths) ts) ≡ map (held_token flags paths) (tokens_at field key ts)
  tokens_held [] field key known has = refl
  tokens_held (t ∷ ts) field key known has = by (is_at field key t) refl (tokens_held ts field key known.1 has)
    where
      by : (b : Bool) → is_at field key t ≡ b → tokens_at field (held_key flags paths field key) (map (held_token flags paths) ts) ≡ map (held_token flags paths) (tokens_at field key ts)
          → tokens_at field (held_key flags paths field key) (map (held_token flags paths) (t ∷ ts)) ≡ map (held_token flags paths) (tokens_at field key (t ∷ ts))
      by true is rest = rw (at_held t field key known.0 has, is) (ap (λ (us : List IndexToken). held_token flags paths t ∷ us) rest)
      by false is rest = rw (at_held t field key known.0 has, is) rest

  -- lookups by keys are lookups by held terms
  found_resolved : (terms : TermIndex) (term : List ℕ) → AllByRecursion (IsHeldTerm flags paths) (keys_of terms) → IsHeldTerm flags paths term → recorder_of (resolved_terms flags paths terms) (resolved flags paths term) ≡ recorder_of terms term
  found_resolved [] term all held = refl
  found_resolved (t ∷ ts) term all held = by (bytes_eq term t.0) refl (found_resolved ts term all.1 held)
    where
      by : (b : Bool) → bytes_eq term t.0 ≡ b → recorder_of (resolved_terms flags paths ts) (resolved flags paths term) ≡ recorder_of ts term
          → recorder_of (resolved_terms flags paths (t ∷ ts)) (resolved flags paths term) ≡ recorder_of (t ∷ ts) term
      by true is rest = rw (resolved_alike flags paths distinct clean term t.0 held all.0, is) refl
      by false is rest = rw (resolved_alike flags paths distinct clean term t.0 held all.0, is) rest

  none_resolved : (terms : TermIndex) (bytes : List ℕ) → AllByRecursion (IsHeldTerm flags paths) (keys_of terms) → ((term : List ℕ) → IsHeldTerm flags paths term → bytes ≡ resolved flags paths term → ⊥)
      → recorder_of (resolved_terms flags paths terms) bytes ≡ None
  none_resolved [] bytes all none = refl
  none_resolved (t ∷ ts) bytes all none = by (bytes_eq bytes (resolved flags paths t.0)) refl (none_resolved ts bytes all.1 none)
    where
      by : (b : Bool) → bytes_eq bytes (resolved flags paths t.0) ≡ b → recorder_of (resolved_terms flags paths ts) bytes ≡ None → recorder_of (resolved_terms flags paths (t ∷ ts)) bytes ≡ None
      by true is rest = absurd (none t.0 all.0 ((bytes_eq-Decides bytes (resolved flags paths t.0)).0 is))
      by false is rest = rw is rest

  -- no term has a key without a known path in a JSON field
  not_held : (field : ℕ) (key : List ℕ) → field < 2 ^ 32 → is_json_field flags field ≡ true → (HasPath paths key → ⊥) → (term : List ℕ) → IsHeldTerm flags paths term → field_bytes field ++ key ≡ resolved flags paths term → ⊥
  not_held field key small flag none term h is = by (is_json_field flags h.field) refl
    where
      same : (rest : List ℕ) → field_bytes field ++ key ≡ field_bytes h.field ++ rest → (field ≡ h.field) × (key ≡ rest)
      same rest eq = (
        sym (field_of_bytes field key small) ∙ ap field_in eq ∙ field_of_bytes h.field rest h.small,
        sym (behind_field field key) ∙ ap (drop 4) eq ∙ behind_field h.field rest,
      )

      by : (b : Bool) → is_json_field flags h.field ≡ b → ⊥
      by false plain =
          let eq = same h.value (is ∙ ap (resolved flags paths) h.is ∙ plain_resolved flags h.field h.value h.small paths plain) in
          let other : true ≡ false = sym flag ∙ ap (is_json_field flags) eq.0 ∙ plain in
          absurd (cc)
      by true json =
          let i = h.ids json in
          let path = slice_index_or paths i.id [] in
          let eq = same (json_key path i.typed_value) (is ∙ ap (resolved flags paths) h.is ∙ json_resolved flags h.field h.value h.small paths i.id i.typed_value json i.is i.small) in
          let none_inside = clean_at paths i.id clean i.known in
          let at : path_in key ≡ path = ap path_in eq.1 ∙ path_of_key path i.typed_value none_inside in
          let rest : behind_path key ≡ i.typed_value = ap behind_path eq.1 ∙ behind_key path i.typed_value none_inside in
          none (record { known = ap (is_known paths) at ∙ known_at paths i.id i.known; whole = eq.1 ∙ ap (λ (p : List ℕ). json_key p i.typed_value) (sym at) ∙ ap (json_key (path_in key)) (sym rest) })

  -- no token has such a key
  no_tokens_at : (ts : List IndexToken) (field : ℕ) (key : List ℕ) → is_json_field flags field ≡ true → (HasPath paths key → ⊥) → AllByRecursion (IsKnownToken flags paths) ts → tokens_at field key ts ≡ []
  no_tokens_at [] field key flag none all = refl
  no_tokens_at (t ∷ ts) field key flag none all = by (is_at field key t) refl (no_tokens_at ts field key flag none all.1)
    where
      by : (b : Bool) → is_at field key t ≡ b → tokens_at field key ts ≡ [] → tokens_at field key (t ∷ ts) ≡ []
      by true is rest =
          let parts = and_parts (t.field == field) (bytes_eq t.key key) is in
          let has = all.0 (ap (is_json_field flags) (eqb-true t.field field parts.0) ∙ flag) in
          absurd (none (subst (HasPath paths) ((bytes_eq-Decides t.key key).0 parts.1) has))
      by false is rest = rw is rest

  has_path_or_not : (key : List ℕ) (P : Type 0) → (HasPath paths key → P) → ((HasPath paths key → ⊥) → P) → P
  has_path_or_not key P begins other = by (is_known paths (path_in key)) (bytes_eq key (json_key (path_in key) (behind_path key))) refl refl
    where
      by : (a b : Bool) → is_known paths (path_in key) ≡ a → bytes_eq key (json_key (path_in key) (behind_path key)) ≡ b → P
      by true true known whole = begins (record { known = known; whole = (bytes_eq-Decides _ _).0 whole })
      by true false known apart = other (λ has. let same : true ≡ false = sym ((bytes_eq-Decides _ _).1 has.whole) ∙ apart in absurd (cc))
      by false b unknown whole = other (λ has. let same : true ≡ false = sym has.known ∙ unknown in absurd (cc))

  module _ (option : ℕ → IndexRecordOption) (terms : TermIndex) (ts : List IndexToken) (all : AllByRecursion (IsHeldTerm flags paths) (keys_of terms)) (tokens : AllByRecursion (IsKnownToken flags paths) ts) where
    abbrev Kept : ℕ → List ℕ → Option RecorderState → Type 0
    Kept field key found = MatchOption found (tokens_at field key ts ≡ []) (HasPostings (kind_of (option field) (tokens_at field key ts)) (tokens_at field key ts))

    abbrev Held : ℕ → List ℕ → Option RecorderState → Type 0
    Held field key found =
        let us = tokens_at field key (map (held_token flags paths) ts) in MatchOption found (us ≡ []) (HasPostings (kind_of (option field) us) us)

    from_held : (field : ℕ) (key : List ℕ) (found : Option RecorderState) → (is_json_field flags field ≡ true → HasPath paths key) → Held field (held_key flags paths field key) found → Kept field key found
    from_held field key None has h = nothing_held flags paths (tokens_at field key ts) (sym (tokens_held ts field key tokens has) ∙ h)
    from_held field key (Some r) has h =
        let us = tokens_at field key ts in
        let there : HasPostings (kind_of (option field) (map (held_token flags paths) us)) (map (held_token flags paths) us) r
        = subst (λ (vs : List IndexToken). HasPostings (kind_of (option field) vs) vs r) (tokens_held ts field key tokens has) h in
        record {
          kept = there.kept ∙ kind_held flags paths (option field) us;
          entries = there.entries ∙ ap (λ (o : IndexRecordOption). map (cut_entry o) (grouped (map (held_token flags paths) us))) (kind_held flags paths (option field) us) ∙ ap (map (cut_entry (kind_of (option field) us))) (grouped_held flags paths us);
          opened = there.opened;
        }

    pub resolved_records : Records (λ field key. kind_of (option field) (tokens_at field key (map (held_token flags paths) ts))) terms (map (held_token flags paths) ts)
        → Records (λ field key. kind_of (option field) (tokens_at field key ts)) (resolved_terms flags paths terms) ts
    resolved_records h field key small = by (is_json_field flags field) refl
      where
        by : (b : Bool) → is_json_field flags field ≡ b → Kept field key (recorder_of (resolved_terms flags paths terms) (field_bytes field ++ key))
        by false is =
            let term = field_bytes field ++ key in
            let none : is_json_field flags field ≡ true → HasPath paths key = λ json. let same : true ≡ false = sym json ∙ is in absurd (cc) in
            let held : IsHeldTerm flags paths term = record { field = field; value = key; small = small; is = refl; ids = λ json. let same : true ≡ false = sym json ∙ is in absurd (cc) } in
            let found : recorder_of (resolved_terms flags paths terms) term ≡ recorder_of terms term = ap (recorder_of (resolved_terms flags paths terms)) (sym (plain_resolved flags field key small paths is)) ∙ found_resolved terms term all held in
            let there : Held field (held_key flags paths field key) (recorder_of terms term) = subst (λ (k : List ℕ). Held field k (recorder_of terms term)) (sym (rw is refl)) (h field key small) in
            subst (Kept field key) (sym found) (from_held field key (recorder_of terms term) none there)
        by true is = has_path_or_not key (Kept field key (recorder_of (resolved_terms flags paths terms) (field_bytes field ++ key))) with_path without
          where
            with_path : HasPath paths key → Kept field key (recorder_of (resolved_terms flags paths terms) (field_bytes field ++ key))
            with_path has =
                let at = path_of_id paths (path_in key) has.known in
                let id = path_id paths (path_in key) in
                let low : id < 2 ^ 32 = omega (arith, at.0, few) in
                let value = held_value id (behind_path key) in
                let term = field_bytes field ++ value in
                let held : IsHeldTerm flags paths term = record { field = field; value = value; small = small; is = refl; ids = λ json. record { id = id; typed_value = behind_path key; small = low; known = at.0; is = refl } } in
                let key_is : resolved flags paths term ≡ field_bytes field ++ key =
                json_resolved flags field value small paths id (behind_path key) is refl low ∙ ap (λ (p : List ℕ). field_bytes field ++ json_key p (behind_path key)) at.1 ∙ ap (λ (k : List ℕ). field_bytes field ++ k) (sym has.whole) in
                let found : recorder_of (resolved_terms flags paths terms) (field_bytes field ++ key) ≡ recorder_of terms term = ap (recorder_of (resolved_terms flags paths terms)) (sym key_is) ∙ found_resolved terms term all held in
                let there : Held field (held_key flags paths field key) (recorder_of terms term) = subst (λ (k : List ℕ). Held field k (recorder_of terms term)) (sym (rw is refl)) (h field value small) in
                subst (Kept field key) (sym found) (from_held field key (recorder_of terms term) (λ json. has) there)

            without : (HasPath paths key → ⊥) → Kept field key (recorder_of (resolved_terms flags paths terms) (field_bytes field ++ key))
            without none = subst (Kept field key) (sym (none_resolved terms (field_bytes field ++ key) all (not_held field key small is none))) (no_tokens_at ts field key is none tokens)
