-- What is stored of calls is what the context and the writers have, and may be written.
use Rattle.std.proofs.Common.{inr, ◌≤◌, ◌+◌, ◌&&◌, nat_le, nat_lt, ◌≡◌, ℕ, zero, suc, ◌<◌, ◌==◌, Bool, true, false, List, [], ◌∷◌, ◌++◌, map, length, Option, Some, None, refl, sym, ap, ◌∙◌, subst, arith, length-append}
use Rattle.std.specs.Prelude.{bytes_eq, filter, IsTrue, IsSome, MatchOption, is_some, slice_set, unwrap_or, ⊤, if◌then◌else◌}
use Rattle.std.specs.List.{AllByRecursion}
use Rattle.std.specs.Option.{option_map, option_to_list}
use Rattle.ii_base.specs.Schema.{SchemaEntry, keeps_norms}
use Rattle.ii_base.specs.Options.{has_freq}
use Rattle.ii_base.specs.declared.schema.index_record_option.IndexRecordOption.{IndexRecordOption}
use Rattle.ii_base.specs.declared.schema.index_record_option.IndexRecordOption.TheVariants.{Basic, WithFreqs, WithFreqsAndPositions}
use Rattle.ii_base.specs.Entries.{Entry as DocEntry, ascend_from, docs_of}
use Rattle.ii_base.specs.declared.doc_id.TheConstants.{TERMINATED}
use Rattle.ii_io.specs.Composite.{Body, body_of}
use Rattle.ii_fieldnorm.specs.Readers.{norms_of_ids}
use Rattle.ii_layout.specs.Bounds.{Covers}
use Rattle.std.proofs.lemmas.List.{map-append}
use Rattle.ii_fieldnorm.specs.Buffers.{Buffers, buffer_of, empty_buffers}
use Rattle.ii_definitions.specs.Cut.{cut_entry}
use Rattle.ii_definitions.specs.Fields.{option_of}
use Rattle.ii_definitions.specs.Postings.{IsCounted, grouped, is_at, kind_of, tokens_at}
use Rattle.ii_definitions.specs.Tokens.{IndexToken}
use Rattle.ii_definitions.proofs.GroupedLaws.{grouped_counted}
use Rattle.ii_recorder.specs.Pushed.{pushed_freqs}
use Rattle.ii_recorder.specs.Recorded.{RecorderState, entries_of_recorder}
use Rattle.std.proofs.lemmas.Bool.{and_parts, eqb-true, leb-true}
use Rattle.std.proofs.lemmas.Slice.Eq.{bytes_eq-Decides}
use Rattle.ii_definitions.specs.JsonKeys.{path_in}
use Rattle.ii_json.specs.Paths.{path_id}
use Rattle.ii_postings_writer.specs.ResolvedTerms.{HaveHeldTokens, HoldIds, HoldsId, IsKnownToken, behind_path, held_token, is_json_field, json_fields}
use Rattle.ii_postings_writer.proofs.ResolvedLaws.{path_of_id}
use Rattle.ii_indexing.proofs.HeldLaws.{kept_held}
use Rattle.ii_indexing.specs.IndexedTerms.{IndexedTermsState, IsOfField, StoresTokens, held_kept_at}
use Rattle.ii_postings_writer.specs.IndexingContext.{AllEndBy, EndsBy, TermIndex, recorder_of}
use Rattle.ii_postings_writer.specs.IndexingTerm.{field_bytes, field_in}
use Rattle.ii_indexing.specs.OpenDocuments.{HaveNormsOf, with_norms}
use Rattle.ii_postings_writer.specs.PostingsWriter.{PostingsWriterState}
use Rattle.ii_postings_writer.specs.Records.{HasPostings}
use Rattle.ii_postings_writer.specs.SortedTerms.{AllMayBeWritten, MayBeWritten, norms_in}
use Rattle.ii_postings_writer.proofs.SortedLemmas.{all_mapped, field_of_bytes}

-- the counts of entries that are cut
counts_some : (option : IndexRecordOption) (es : List DocEntry) → IsTrue (has_freq option) → AllByRecursion IsCounted es → AllByRecursion (λ n. 0 < n) (pushed_freqs option (map (cut_entry option) es))
counts_some option [] some counted = tt
counts_some Basic (e ∷ es) some counted = absurd (cc)
counts_some WithFreqs (e ∷ es) some counted = (counted.0.some, counts_some WithFreqs es some counted.1)
counts_some WithFreqsAndPositions (e ∷ es) some counted = (counted.0.some, counts_some WithFreqsAndPositions es some counted.1)

-- a recorder has a document
has_some : (option : IndexRecordOption) (ts : List IndexToken) (r : RecorderState) → HasPostings option ts r → ts ≡ [] → ⊥
has_some option ts r has none = by r.pending refl has.opened
  where
    by : (p : Option DocEntry) → r.pending ≡ p → IsSome p → ⊥
    by None is some = absurd (cc)
    by (Some e) is some =
        let entries : r.closed ++ e ∷ [] ≡ [] = ap (λ (o : Option DocEntry). r.closed ++ option_to_list o) (sym is) ∙ has.entries ∙ ap (λ (us : List IndexToken). map (cut_entry option) (grouped us)) none in
        omega (arith, length-append r.closed (e ∷ []), ap length entries)

-- A token as terms hold it: of a schema's field, kept as the definitions say, with the id of a known path.
pub record IsHeldToken (entries : List SchemaEntry) (paths : List (List ℕ)) (t : IndexToken) : Type 0 where
  pub known : t.field < length entries
  pub kind : kind_of (option_of entries t.field) (t ∷ []) ≡ held_kept_at entries t.field t.key
  pub id : is_json_field (json_fields entries) t.field ≡ true → HoldsId paths t.key

-- the first of those that are kept
first_of_kept : (p : IndexToken → Bool) (P : IndexToken → Type 0) (xs : List IndexToken) (y : IndexToken) (ys : List IndexToken) → filter p xs ≡ y ∷ ys → AllByRecursion P xs → P y × (p y ≡ true)
first_of_kept p P [] y ys is all = absurd (cc)
first_of_kept p P (x ∷ xs) y ys is all = by (p x) refl (λ rest. first_of_kept p P xs y ys rest all.1)
  where
    by : (b : Bool) → p x ≡ b → (filter p xs ≡ y ∷ ys → P y × (p y ≡ true)) → P y × (p y ≡ true)
    by true at rest =
        let kept : x ∷ filter p xs ≡ y ∷ ys = sym (rw at refl) ∙ is in
        let same : x ≡ y = cc in
        subst (λ (z : IndexToken). P z × (p z ≡ true)) same (all.0, at)
    by false at rest =
        let kept : filter p xs ≡ y ∷ ys = sym (rw at refl) ∙ is in
        rest kept

-- the last of documents that ascend is the greatest
from_least : (least : ℕ) (xs : List ℕ) (d : ℕ) → ascend_from least (xs ++ d ∷ []) ≡ true → least ≤ d
from_least least [] d h = leb-true least d (and_parts (nat_le least d) (nat_lt d TERMINATED) (and_parts (nat_le least d && nat_lt d TERMINATED) (ascend_from (d + 1) []) h).0).0
from_least least (x ∷ xs) d h =
    let parts = and_parts (nat_le least x && nat_lt x TERMINATED) (ascend_from (x + 1) (xs ++ d ∷ [])) h in
    let first = leb-true least x (and_parts (nat_le least x) (nat_lt x TERMINATED) parts.0).0 in
    let rest = from_least (x + 1) xs d parts.1 in
    omega (arith, first, rest)

none_above : (least : ℕ) (xs : List ℕ) (d limit : ℕ) → ascend_from least (xs ++ d ∷ []) ≡ true → d < limit → AllByRecursion (λ (x : ℕ). x < limit) (xs ++ d ∷ [])
none_above least [] d limit h low = (low, tt)
none_above least (x ∷ xs) d limit h low =
    let parts = and_parts (nat_le least x && nat_lt x TERMINATED) (ascend_from (x + 1) (xs ++ d ∷ [])) h in
    let rest = from_least (x + 1) xs d parts.1 in
    (omega (arith, rest, low), none_above (x + 1) xs d limit parts.1 low)

all_docs_below : (n doc : ℕ) (r : RecorderState) → EndsBy doc r → doc < n → AllByRecursion (λ (d : ℕ). d < n) (docs_of (entries_of_recorder r))
all_docs_below n doc r end low = by r.pending refl end.last
  where
    by : (o : Option DocEntry) → r.pending ≡ o → MatchOption o ⊥ (λ (e : DocEntry). e.doc ≤ doc) → AllByRecursion (λ (d : ℕ). d < n) (docs_of (entries_of_recorder r))
    by None is last = absurd last
    by (Some e) is last =
        let all : docs_of (entries_of_recorder r) ≡ docs_of r.closed ++ e.doc ∷ [] = ap (λ (o : Option DocEntry). docs_of (r.closed ++ option_to_list o)) is ∙ map-append (λ (f : DocEntry). f.doc) r.closed (e ∷ []) in
        subst (AllByRecursion (λ (d : ℕ). d < n)) (sym all) (none_above 0 (docs_of r.closed) e.doc n (sym (ap (ascend_from 0) all) ∙ end.ascending) (omega (arith, last, low)))

-- norms of `n` documents cover the documents below `n`
covers_below : (n : ℕ) (readers : List Body) (field : ℕ) → HaveNormsOf n readers → (docs : List ℕ) → AllByRecursion (λ (d : ℕ). d < n) docs → AllByRecursion (Covers (norms_in readers field)) docs
covers_below n readers field norms [] all = tt
covers_below n readers field norms (d ∷ ds) all = (by (body_of field readers) (norms field), covers_below n readers field norms ds all.1)
  where
    by : (o : Option (List ℕ)) → MatchOption o ⊤ (λ (ids : List ℕ). length ids ≡ n) → Covers (option_map norms_of_ids o) d
    by None many = tt
    by (Some ids) many = inr (omega (arith, many, all.0))

-- the documents of a recorder have norms
covered_by : (n doc : ℕ) (readers : List Body) (field : ℕ) (terms : TermIndex) (r : RecorderState) (bytes : List ℕ) → recorder_of terms bytes ≡ Some r → EndsBy doc r → (0 < length terms → doc < n) → HaveNormsOf n readers
    → AllByRecursion (Covers (norms_in readers field)) (docs_of (entries_of_recorder r))
covered_by n doc readers field [] r bytes found end below norms = absurd (cc)
covered_by n doc readers field (t ∷ ts) r bytes found end below norms = covers_below n readers field norms (docs_of (entries_of_recorder r)) (all_docs_below n doc r end (below (omega (arith))))

module _ (entries : List SchemaEntry) (s : IndexedTermsState) (ts : List IndexToken) (h : StoresTokens entries s ts) where
  abbrev flags : List Bool
  flags = json_fields entries

  abbrev held : List IndexToken
  held = map (held_token flags s.paths) ts

  one_held : (t : IndexToken) → IsOfField entries t → IsKnownToken flags s.paths t → IsHeldToken entries s.paths (held_token flags s.paths t)
  one_held t of known = record {
    known = of.known;
    kind = of.kind ∙ sym (kept_held entries s.paths t.field t.key known);
    id = λ json.
        let has = known json in
        let at = path_of_id s.paths (path_in t.key) has.known in
        record { id = path_id s.paths (path_in t.key); typed_value = behind_path t.key; small = omega (arith, at.0, h.known_paths.few); known = at.0; is = rw json refl };
  }

  each_held : (us : List IndexToken) → AllByRecursion (IsOfField entries) us → AllByRecursion (IsKnownToken flags s.paths) us → AllByRecursion (IsHeldToken entries s.paths) (map (held_token flags s.paths) us)
  each_held [] of known = tt
  each_held (t ∷ us) of known = (one_held t of.0 known.0, each_held us of.1 known.1)

  -- what is known of a key that occurred
  held_first : (field : ℕ) (key : List ℕ) (t : IndexToken) (us : List IndexToken) → tokens_at field key held ≡ t ∷ us → IsHeldToken entries s.paths t × (t.field ≡ field) × (t.key ≡ key)
  held_first field key t us is =
      let first = first_of_kept (is_at field key) (IsHeldToken entries s.paths) held t us is (each_held ts h.of_fields h.has_paths) in
      let parts = and_parts (t.field == field) (bytes_eq t.key key) first.1 in
      (first.0, eqb-true t.field field parts.0, (bytes_eq-Decides t.key key).0 parts.1)

  with_first : (field : ℕ) (key : List ℕ) (r : RecorderState) (P : Type 0) → HasPostings (held_kept_at entries field key) (tokens_at field key held) r
      → ((t : IndexToken) (us : List IndexToken) → tokens_at field key held ≡ t ∷ us → P) → P
  with_first field key r P has next = by (tokens_at field key held) refl
    where
      by : (us : List IndexToken) → tokens_at field key held ≡ us → P
      by [] is = absurd (has_some (held_kept_at entries field key) (tokens_at field key held) r has is)
      by (t ∷ us) is = next t us is

  known_field : (field : ℕ) (key : List ℕ) (r : RecorderState) → HasPostings (held_kept_at entries field key) (tokens_at field key held) r → field < length entries
  known_field field key r has = with_first field key r (field < length entries) has (λ t us is. let first = held_first field key t us is in subst (λ (f : ℕ). f < length entries) first.1 first.0.known)

  held_kind : (field : ℕ) (key : List ℕ) (t : IndexToken) (us : List IndexToken) → tokens_at field key held ≡ t ∷ us → held_kept_at entries field key ≡ kind_of (option_of entries field) (tokens_at field key held)
  held_kind field key t us is =
      let first = held_first field key t us is in
      let kind : kind_of (option_of entries field) (t ∷ us) ≡ held_kept_at entries field key
      = subst (λ (k : List ℕ). kind_of (option_of entries field) (t ∷ []) ≡ held_kept_at entries field k) first.2 (subst (λ (f : ℕ). kind_of (option_of entries f) (t ∷ []) ≡ held_kept_at entries f t.key) first.1 first.0.kind) in
      sym (ap (kind_of (option_of entries field)) is ∙ kind)

  pub may_be_written : (n doc : ℕ) (readers : List Body) → AllEndBy doc s.terms → (0 < length s.terms → doc < n) → HaveNormsOf n readers → AllMayBeWritten (length entries) readers s.terms
  may_be_written n doc readers ends below norms field key small = by (recorder_of s.terms (field_bytes field ++ key)) refl (h.records field key small) (ends (field_bytes field ++ key))
    where
      by : (o : Option RecorderState) → recorder_of s.terms (field_bytes field ++ key) ≡ o → MatchOption o (tokens_at field key held ≡ []) (HasPostings (held_kept_at entries field key) (tokens_at field key held)) → MatchOption o ⊤ (EndsBy doc)
          → MatchOption o ⊤ (MayBeWritten (length entries) readers (field_bytes field ++ key))
      by None is has end = tt
      by (Some r) is has end = record {
        known = rw (field_of_bytes field key small) (known_field field key r has);
        writable = record {
          ascending = end.ascending;
          counted = λ some. rw (has.entries, has.kept) (counts_some (held_kept_at entries field key) (grouped (tokens_at field key held)) (rw (← has.kept) some) (grouped_counted (tokens_at field key held)));
          covered = covered_by n doc readers (field_in (field_bytes field ++ key)) s.terms r (field_bytes field ++ key) is end below norms;
        };
      }

  -- terms of JSON fields hold ids of known paths
  pub hold_ids : HoldIds (json_fields entries) s.paths s.terms
  hold_ids field key small = by (recorder_of s.terms (field_bytes field ++ key)) (h.records field key small)
    where
      by : (o : Option RecorderState) → MatchOption o (tokens_at field key held ≡ []) (HasPostings (held_kept_at entries field key) (tokens_at field key held))
          → MatchOption o ⊤ (λ r. is_json_field (json_fields entries) field ≡ true → HoldsId s.paths key)
      by None has = tt
      by (Some r) has = λ json.
          with_first field key r (HoldsId s.paths key) has (λ t us is.
          let first = held_first field key t us is in
          subst (HoldsId s.paths) first.2 (first.0.id (ap (is_json_field (json_fields entries)) first.1 ∙ json)))

  pub have_tokens : HaveHeldTokens entries s.paths s.terms s.writers ts
  have_tokens = record {
    records = λ field key small. by field key (tokens_at field key held) refl (recorder_of s.terms (field_bytes field ++ key)) (h.records field key small);
    counted = λ field inside. ap (λ (o : Option PostingsWriterState). unwrap_or (option_map (λ (w : PostingsWriterState). w.total_num_tokens) o) 0) (h.counted field inside);
    known = all_mapped (IsOfField entries) (λ (t : IndexToken). t.field < length entries) (λ t of. of.known) ts h.of_fields;
    paths_known = h.has_paths;
  }
    where
      by : (field : ℕ) (key : List ℕ) (us : List IndexToken) → tokens_at field key held ≡ us → (o : Option RecorderState) → MatchOption o (tokens_at field key held ≡ []) (HasPostings (held_kept_at entries field key) (tokens_at field key held))
          → MatchOption o (tokens_at field key held ≡ []) (HasPostings (kind_of (option_of entries field) (tokens_at field key held)) (tokens_at field key held))
      by field key us is None has = has
      by field key [] is (Some r) has = absurd (has_some (held_kept_at entries field key) (tokens_at field key held) r has is)
      by field key (t ∷ us) is (Some r) has = subst (λ (o : IndexRecordOption). HasPostings o (tokens_at field key held) r) (held_kind field key t us is) has

some_kept : (g : List ℕ → List ℕ) (b : Option (List ℕ)) → is_some (option_map g b) ≡ is_some b
some_kept g None = refl
some_kept g (Some ids) = refl

-- a field keeps norms or doesn't
pub norms_kept : (bs : Buffers) (field : ℕ) (g : List ℕ → List ℕ) → with_norms (slice_set bs field (option_map g (buffer_of field bs))) ≡ with_norms bs
norms_kept [] field g = refl
norms_kept (b ∷ bs) zero g = ap (λ (x : Bool). x ∷ with_norms bs) (some_kept g b)
norms_kept (b ∷ bs) (suc field) g = ap (λ (xs : List Bool). is_some b ∷ xs) (norms_kept bs field g)

one_norm : (b : Bool) → is_some {T = List ℕ} (if b then Some [] else None) ≡ b
one_norm true = refl
one_norm false = refl

pub norms_of_schema : (entries : List SchemaEntry) → with_norms (empty_buffers entries) ≡ map keeps_norms entries
norms_of_schema [] = refl
norms_of_schema (e ∷ es) = ap (λ (b : Bool). b ∷ with_norms (empty_buffers es)) (one_norm (keeps_norms e)) ∙ ap (λ (xs : List Bool). keeps_norms e ∷ xs) (norms_of_schema es)
