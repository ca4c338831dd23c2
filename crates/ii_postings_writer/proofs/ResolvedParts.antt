-- What is known of the terms of a context in the order of their keys.
use Rattle.std.proofs.Common.{◌≡◌, ℕ, ◌<◌, ◌≤◌, ◌^◌, Bool, true, false, List, [], ◌∷◌, ◌++◌, map, length, drop, Option, Some, None, Ok, Err, Result, inr, refl, sym, ap, ◌∙◌, subst, arith, length-append}
use Rattle.std.specs.Prelude.{MatchOption, bytes_eq, slice_index_or, ⊤}
use Rattle.std.specs.List.{AllByRecursion, IsDistinct}
use Rattle.std.specs.List.Sorted.{IsPermutation}
use Rattle.std.specs.Map.{keys_of}
use Rattle.std.specs.Cmp.Lexicographic.{slice_cmp}
use Rattle.std.specs.Ordering.{nat_cmp}
use Rattle.std.proofs.lemmas.Cmp.{nat_list_eq_equiv}
use Rattle.std.proofs.lemmas.List.Sorted.{IsPermutation-map}
use Rattle.std.proofs.lemmas.Map.Keys.{IsDistinct-from_sorted}
use Rattle.std.proofs.lemmas.Map.Text.{is_eq-slice_cmp}
use Rattle.std.proofs.lemmas.Slice.Eq.{bytes_eq-Decides}
use Rattle.indexmap.proofs.MapLemmas.{lookup_permutation}
use Rattle.ii_io.specs.declared.faults.Fault.{Fault}
use Rattle.ii_base.specs.Schema.{SchemaEntry}
use Rattle.ii_base.specs.Values.{json_key}
use Rattle.ii_definitions.specs.Fields.{option_of}
use Rattle.ii_definitions.specs.Postings.{kind_of, tokens_at}
use Rattle.ii_definitions.specs.Tokens.{IndexToken}
use Rattle.ii_json.specs.PathRank.{path_ranks}
use Rattle.ii_json.specs.Paths.{AreDistinct}
use Rattle.ii_recorder.specs.Recorded.{entries_of_recorder, RecorderState}
use Rattle.ii_postings_writer.specs.HeldBodies.{HaveTokens}
use Rattle.ii_postings_writer.specs.IndexingContext.{TermIndex, recorder_of}
use Rattle.ii_postings_writer.specs.IndexingTerm.{AreTermBytes, field_bytes, field_in}
use Rattle.ii_postings_writer.specs.PostingsWriter.{PostingsWriterState}
use Rattle.ii_postings_writer.specs.Records.{HasPostings}
use Rattle.ii_postings_writer.specs.ResolvedTerms.{AreClean, AreSorted, HaveHeldTokens, HaveUnlessMemory, HoldIds, IsHeldTerm, IsKnownToken, held_token, is_json_field, json_fields, resolved, resolved_terms}
use Rattle.ii_postings_writer.specs.SortedTerms.{norms_in, AllMayBeWritten, IsTermBelow, MayBeWritten}
use Rattle.ii_postings_writer.proofs.ResolvedLaws.{json_resolved, plain_resolved}
use Rattle.ii_postings_writer.proofs.ResolvedOrder.{none_apart}
use Rattle.ii_postings_writer.proofs.ResolvedRecords.{resolved_records}
use Rattle.ii_postings_writer.proofs.SortedLemmas.{field_of_bytes, found_first, found_later}
use Rattle.ii_postings_writer.proofs.TermLemmas.{behind_field, length_field}
use Rattle.ii_io.specs.Composite.{Body}
use Rattle.ii_layout.specs.Bounds.{Covers}
use Rattle.ii_base.specs.Entries.{docs_of}

abbrev first_of : List ℕ × RecorderState → List ℕ
first_of t = t.0

keys_as : (ts : TermIndex) → map first_of ts ≡ keys_of ts
keys_as [] = refl
keys_as (t ∷ ts) = ap (λ (ks : List (List ℕ)). t.0 ∷ ks) (keys_as ts)

-- what holds of each term that is looked up holds of all, where no two are alike
each_by_distinct : (P : List ℕ → RecorderState → Type 0) (terms : TermIndex) → IsDistinct bytes_eq (map first_of terms) → ((bytes : List ℕ) → MatchOption (recorder_of terms bytes) ⊤ (P bytes)) → AllByRecursion (λ (t : List ℕ × RecorderState). P t.0 t.1) terms
unfolding IsDistinct
each_by_distinct P [] distinct known = tt
each_by_distinct P (t ∷ ts) distinct known =
    (subst (λ (o : Option RecorderState). MatchOption o ⊤ (P t.0)) (found_first t ts) (known t.0), each_by_distinct P ts distinct.1 (λ bytes. later bytes (bytes_eq bytes t.0) refl))
  where
    later : (bytes : List ℕ) (b : _) → bytes_eq bytes t.0 ≡ b → MatchOption (recorder_of ts bytes) ⊤ (P bytes)
    later bytes true same =
        let is : bytes ≡ t.0 = (bytes_eq-Decides bytes t.0).0 same in
        let none : recorder_of ts bytes ≡ None = ap (recorder_of ts) is ∙ none_apart t.0 ts (subst (AllByRecursion (λ (y : List ℕ). bytes_eq t.0 y ≡ false)) (keys_as ts) distinct.0) in
        subst (λ (o : Option RecorderState). MatchOption o ⊤ (P bytes)) (sym none) tt
    later bytes false other = subst (λ (o : Option RecorderState). MatchOption o ⊤ (P bytes)) (found_later bytes t ts other) (known bytes)

both_each : {X : Type 0} (P Q R : X → Type 0) → ((x : X) → P x → Q x → R x) → (xs : List X) → AllByRecursion P xs → AllByRecursion Q xs → AllByRecursion R xs
both_each P Q R f [] ps qs = tt
both_each P Q R f (x ∷ xs) ps qs = (f x ps.0 qs.0, both_each P Q R f xs ps.1 qs.1)

-- a term of a context by its key
abbrev pub resolve : List Bool → List (List ℕ) → List ℕ × RecorderState → List ℕ × RecorderState
resolve flags paths t = (resolved flags paths t.0, t.1)

pub no_resolved : (flags : List Bool) (paths : List (List ℕ)) (terms : TermIndex) → resolved_terms flags paths terms ≡ [] → terms ≡ []
no_resolved flags paths [] is = refl
no_resolved flags paths (t ∷ ts) is = absurd (cc)

-- what a sort by borrowed flags and ranks gives
pub sorted_by : (flags : List Bool) (paths : List (List ℕ)) (old new : TermIndex) (lent : List Bool) (ranks : List ℕ) → AreDistinct paths → AreClean paths → lent ≡ flags → ranks ≡ path_ranks paths → HoldIds flags paths old
    → ((ps : List (List ℕ)) → AreDistinct ps → AreClean ps → ranks ≡ path_ranks ps → HoldIds lent ps old → AreSorted lent ps new) → AreSorted flags paths new
sorted_by flags paths old new lent ranks unlike clean same order ids sorts =
    subst (λ (fs : List Bool). AreSorted fs paths new) same (sorts paths unlike clean order (subst (λ (fs : List Bool). HoldIds fs paths old) (sym same) ids))

-- terms with the bytes of their field, which is below `n`
held_below : (flags : List Bool) (paths : List (List ℕ)) (n : ℕ) (ts : TermIndex) → AllByRecursion (λ (t : List ℕ × RecorderState). IsHeldTerm flags paths t.0) ts → AllByRecursion (λ (t : List ℕ × RecorderState). field_in t.0 < n) ts → AllByRecursion (IsTermBelow n) ts
held_below flags paths n [] held known = tt
held_below flags paths n (t ∷ ts) held known =
    let one = held.0 in
    (record { long = omega (arith, ap length one.is, length-append (field_bytes one.field) one.value, length_field one.field); known = known.0 }, held_below flags paths n ts held.1 known.1)

module _ (flags : List Bool) (paths : List (List ℕ)) (unlike : AreDistinct paths) (clean : AreClean paths) (few : length paths ≤ 2 ^ 32) (old new : TermIndex) (moved : IsPermutation old new) (sorted : AreSorted flags paths new) where
  same_raw : (bytes : List ℕ) → recorder_of new bytes ≡ recorder_of old bytes
  same_raw bytes = lookup_permutation nat_list_eq_equiv old new moved (subst (IsDistinct bytes_eq) (keys_as new) sorted.distinct) (bytes_eq bytes) (λ x y. nat_list_eq_equiv.congr bytes x y)

  apart_keys : IsDistinct bytes_eq (map first_of (resolved_terms flags paths new))
  apart_keys = subst (λ (e : List ℕ → List ℕ → Bool). IsDistinct e (map first_of (resolved_terms flags paths new))) (λ i x y. is_eq-slice_cmp x y i) (IsDistinct-from_sorted (slice_cmp nat_cmp) (map first_of (resolved_terms flags paths new)) sorted.ascending)

  -- lookups by keys
  pub same_keys : (bytes : List ℕ) → recorder_of (resolved_terms flags paths new) bytes ≡ recorder_of (resolved_terms flags paths old) bytes
  same_keys bytes =
      lookup_permutation nat_list_eq_equiv (resolved_terms flags paths old) (resolved_terms flags paths new) (IsPermutation-map (resolve flags paths) old new moved)
      (subst (IsDistinct bytes_eq) (keys_as (resolved_terms flags paths new)) apart_keys) (bytes_eq bytes) (λ x y. nat_list_eq_equiv.congr bytes x y)

  -- a key's bytes are those of its field and others
  field_front : (term : List ℕ) (h : IsHeldTerm flags paths term) → (rest : List ℕ) × (resolved flags paths term ≡ field_bytes h.field ++ rest)
  field_front term h = by (is_json_field flags h.field) refl
    where
      by : (b : Bool) → is_json_field flags h.field ≡ b → (rest : List ℕ) × (resolved flags paths term ≡ field_bytes h.field ++ rest)
      by false is = (h.value, ap (resolved flags paths) h.is ∙ plain_resolved flags h.field h.value h.small paths is)
      by true is =
          let i = h.ids is in
          (json_key (slice_index_or paths i.id []) i.typed_value, ap (resolved flags paths) h.is ∙ json_resolved flags h.field h.value h.small paths i.id i.typed_value is i.is i.small)

  whole_key : (term : List ℕ) → IsHeldTerm flags paths term → AreTermBytes (resolved flags paths term)
  whole_key term h =
      let front = field_front term h in
      record { field = h.field; small = h.small; are = front.1 ∙ ap (λ (v : List ℕ). field_bytes h.field ++ v) (sym (behind_field h.field front.0)) ∙ ap (λ (k : List ℕ). field_bytes h.field ++ drop 4 k) (sym front.1) }

  all_whole : (ts : TermIndex) → AllByRecursion (λ (t : List ℕ × RecorderState). IsHeldTerm flags paths t.0) ts → AllByRecursion AreTermBytes (map first_of (resolved_terms flags paths ts))
  all_whole [] held = tt
  all_whole (t ∷ ts) held = (whole_key t.0 held.0, all_whole ts held.1)

  pub whole_keys : AllByRecursion AreTermBytes (map (λ (t : List ℕ × RecorderState). t.0) (resolved_terms flags paths new))
  whole_keys = all_whole new sorted.held

  -- terms that may be written may be so under their keys
  may_under_key : (n : ℕ) (readers : List Body) (term : List ℕ) (r : RecorderState) → IsHeldTerm flags paths term → MayBeWritten n readers term r → MayBeWritten n readers (resolved flags paths term) r
  may_under_key n readers term r h may =
      let front = field_front term h in
      let field : field_in (resolved flags paths term) ≡ field_in term = ap field_in front.1 ∙ field_of_bytes h.field front.0 h.small ∙ sym (ap field_in h.is ∙ field_of_bytes h.field h.value h.small) in
      record {
        known = omega (arith, field, may.known);
        writable = record { ascending = may.writable.ascending; counted = may.writable.counted; covered = subst (λ (f : ℕ). AllByRecursion (Covers (norms_in readers f)) (docs_of (entries_of_recorder r))) (sym field) may.writable.covered };
      }

  all_under_keys : (n : ℕ) (readers : List Body) (ts : TermIndex) → AllByRecursion (λ (t : List ℕ × RecorderState). IsHeldTerm flags paths t.0) ts → AllByRecursion (λ (t : List ℕ × RecorderState). MayBeWritten n readers t.0 t.1) ts
      → AllByRecursion (λ (t : List ℕ × RecorderState). MayBeWritten n readers t.0 t.1) (resolved_terms flags paths ts)
  all_under_keys n readers [] held may = tt
  all_under_keys n readers (t ∷ ts) held may = (may_under_key n readers t.0 t.1 held.0 may.0, all_under_keys n readers ts held.1 may.1)

  all_may : (n : ℕ) (readers : List Body) → AllMayBeWritten n readers old → AllByRecursion (λ (t : List ℕ × RecorderState). MayBeWritten n readers t.0 t.1) new
  all_may n readers may =
      both_each (λ (t : List ℕ × RecorderState). IsHeldTerm flags paths t.0 → MayBeWritten n readers t.0 t.1) (λ (t : List ℕ × RecorderState). IsHeldTerm flags paths t.0) (λ (t : List ℕ × RecorderState). MayBeWritten n readers t.0 t.1) (λ t f h. f h) new
      (each_by_distinct (λ bytes r. IsHeldTerm flags paths bytes → MayBeWritten n readers bytes r) new sorted.distinct (λ bytes. subst (λ (o : Option RecorderState). MatchOption o ⊤ (λ r. IsHeldTerm flags paths bytes → MayBeWritten n readers bytes r)) (sym (same_raw bytes)) (by bytes (recorder_of old bytes) refl)))
      sorted.held
    where
      by : (bytes : List ℕ) (o : Option RecorderState) → recorder_of old bytes ≡ o → MatchOption o ⊤ (λ r. IsHeldTerm flags paths bytes → MayBeWritten n readers bytes r)
      by bytes None is = tt
      by bytes (Some r) is = λ h.
          let there = may h.field h.value h.small in
          let found : recorder_of old (field_bytes h.field ++ h.value) ≡ Some r = ap (recorder_of old) (sym h.is) ∙ is in
          subst (λ (b : List ℕ). MayBeWritten n readers b r) (sym h.is) (subst (λ (o : Option RecorderState). MatchOption o ⊤ (MayBeWritten n readers (field_bytes h.field ++ h.value))) found there)

  pub may_be_under_keys : (n : ℕ) (readers : List Body) → AllMayBeWritten n readers old → AllByRecursion (λ (t : List ℕ × RecorderState). MayBeWritten n readers t.0 t.1) (resolved_terms flags paths new)
  may_be_under_keys n readers may = all_under_keys n readers new sorted.held (all_may n readers may)

  -- and so are the fields of terms
  raw_fields : (n : ℕ) (readers : List Body) → AllMayBeWritten n readers old → AllByRecursion (λ (t : List ℕ × RecorderState). field_in t.0 < n) new
  raw_fields n readers may = both_each (λ (t : List ℕ × RecorderState). MayBeWritten n readers t.0 t.1) (λ (t : List ℕ × RecorderState). MayBeWritten n readers t.0 t.1) (λ (t : List ℕ × RecorderState). field_in t.0 < n) (λ t m k. m.known) new (all_may n readers may) (all_may n readers may)

  pub fields_below : (n : ℕ) (readers : List Body) → AllMayBeWritten n readers old → AllByRecursion (IsTermBelow n) new
  fields_below n readers may = held_below flags paths n new sorted.held (raw_fields n readers may)

  held_keys : (ts : TermIndex) → AllByRecursion (λ (t : List ℕ × RecorderState). IsHeldTerm flags paths t.0) ts → AllByRecursion (IsHeldTerm flags paths) (keys_of ts)
  held_keys [] held = tt
  held_keys (t ∷ ts) held = (held.0, held_keys ts held.1)

  -- the tokens that a context has
  pub have_resolved : (entries : List SchemaEntry) (writers : List PostingsWriterState) (ts : List IndexToken) → json_fields entries ≡ flags → HaveHeldTokens entries paths old writers ts → HaveTokens entries (resolved_terms flags paths new) writers ts
  have_resolved entries writers ts same h = record {
    records = resolved_records flags paths unlike clean few (option_of entries) new ts (held_keys new sorted.held) (subst (λ (fs : List Bool). AllByRecursion (IsKnown fs) ts) same h.paths_known)
        (λ field key small. subst (λ (o : Option RecorderState). Kept flags field key o) (sym (same_raw (field_bytes field ++ key))) (subst (λ (fs : List Bool). Kept fs field key (recorder_of old (field_bytes field ++ key))) same (h.records field key small)));
    counted = h.counted;
    known = h.known;
  }
    where
      IsKnown : List Bool → IndexToken → Type 0
      IsKnown fs t = IsKnownToken fs paths t

      Kept : List Bool → ℕ → List ℕ → Option RecorderState → Type 0
      Kept fs field key found =
          let us = tokens_at field key (map (held_token fs paths) ts) in MatchOption found (us ≡ []) (HasPostings (kind_of (option_of entries field) us) us)

  -- and so had it before the sort
  pub had_resolved : (entries : List SchemaEntry) (writers : List PostingsWriterState) (ts : List IndexToken) → json_fields entries ≡ flags → HaveHeldTokens entries paths old writers ts → HaveTokens entries (resolved_terms flags paths old) writers ts
  had_resolved entries writers ts same h =
      let have = have_resolved entries writers ts same h in
      record {
        records = λ field key small. subst (λ (o : Option RecorderState). MatchOption o (tokens_at field key ts ≡ []) (HasPostings (kind_of (option_of entries field) (tokens_at field key ts)) (tokens_at field key ts))) (same_keys (field_bytes field ++ key)) (have.records field key small);
        counted = h.counted;
        known = h.known;
      }

pub have_unless : {T : Type 0} (P : Type 0) (result : Result T Fault) → P → HaveUnlessMemory P result
have_unless P (Ok x) p = p
have_unless P (Err e) p = inr p
