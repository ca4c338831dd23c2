-- The terms of a field are found under their keys, and it has terms exactly where it has tokens.
use Rattle.std.proofs.Common.{◌==◌, zero, suc, ◌≡◌, ℕ, ◌<◌, ◌^◌, Bool, true, false, ◌||◌, List, [], ◌∷◌, ◌++◌, length, map, drop, Option, Some, None, refl, sym, ap, ◌∙◌, subst, arith, true≢false, nat_eq, Less}
use Rattle.std.specs.Prelude.{bytes_eq, MatchOption, filter, IsTrue}
use Rattle.std.specs.Ordering.{is_eq, nat_cmp}
use Rattle.std.specs.Cmp.Lexicographic.{bytes_decides, slice_cmp}
use Rattle.std.specs.List.{AllByRecursion}
use Rattle.std.specs.List.Sorted.{IsStrictlySortedBy}
use Rattle.std.specs.Map.{keys_of, lookup}
use Rattle.std.proofs.lemmas.Bool.{eq-eqb, eqb-true}
use Rattle.std.proofs.lemmas.Cmp.{nat_list_eq_equiv}
use Rattle.std.proofs.lemmas.List.Sums.{length-filter}
use Rattle.std.proofs.lemmas.Map.Text.{is_eq-slice_cmp}
use Rattle.ii_base.specs.declared.schema.index_record_option.IndexRecordOption.{IndexRecordOption}
use Rattle.ii_definitions.specs.Postings.{field_count, grouped, kind_of, occurs, tokens_at}
use Rattle.ii_definitions.specs.Tokens.{IndexToken}
use Rattle.ii_definitions.proofs.GroupedLaws.{no_field, some_occurs}
use Rattle.ii_recorder.specs.HeldTerms.{has_key}
use Rattle.ii_recorder.specs.Terms.{WrittenTerm}
use Rattle.ii_postings_writer.specs.Records.{HasPostings}
use Rattle.ii_postings_writer.proofs.HoldLaws.{recorder_occurred}
use Rattle.ii_recorder.specs.Recorded.{RecorderState}
use Rattle.ii_postings_writer.specs.IndexingContext.{TermIndex, recorder_of}
use Rattle.ii_postings_writer.specs.IndexingTerm.{AreTermBytes, field_bytes, field_in}
use Rattle.ii_postings_writer.specs.SortedTerms.{IsTold, IsWritable, SortedTerm, terms_in, written_term}
use Rattle.ii_postings_writer.proofs.SortedLemmas.{field_of_bytes, found_first, found_later, lies_in, split_bytes}
use Rattle.ii_postings_writer.proofs.TermLemmas.{behind_field}
use Rattle.ii_fieldnorm.specs.Readers.{Norms}

-- a term is found under its own bytes where terms ascend
still_found : (t : List ℕ × RecorderState) (ts us : TermIndex) → AllByRecursion (λ (y : List ℕ). slice_cmp nat_cmp t.0 y ≡ Less) (keys_of us) → AllByRecursion (λ (u : List ℕ × RecorderState). lookup (bytes_eq u.0) ts ≡ Some u.1) us
    → AllByRecursion (λ (u : List ℕ × RecorderState). lookup (bytes_eq u.0) (t ∷ ts) ≡ Some u.1) us
still_found t ts [] below found = tt
still_found t ts (u ∷ us) below found =
    let apart : bytes_eq u.0 t.0 ≡ false = nat_list_eq_equiv.symm u.0 t.0 ∙ sym (is_eq-slice_cmp t.0 u.0) ∙ ap is_eq below.0 in
    (found_later u.0 t ts apart ∙ found.0, still_found t ts us below.1 found.1)

pub each_found : (terms : TermIndex) → IsStrictlySortedBy (slice_cmp nat_cmp) (keys_of terms) → AllByRecursion (λ (t : List ℕ × RecorderState). lookup (bytes_eq t.0) terms ≡ Some t.1) terms
unfolding IsStrictlySortedBy
each_found [] sorted = tt
each_found (t ∷ ts) sorted = (found_first t ts, still_found t ts ts sorted.0 (each_found ts sorted.1))

-- and so is each term of a field under its key
pub found_in : (field : ℕ) (sorted us : TermIndex) → AllByRecursion AreTermBytes (keys_of us) → AllByRecursion (λ (u : List ℕ × RecorderState). lookup (bytes_eq u.0) sorted ≡ Some u.1) us
    → AllByRecursion (λ (s : SortedTerm). recorder_of sorted (field_bytes field ++ s.key) ≡ Some s.recorder) (terms_in field us)
found_in field sorted [] whole found = tt
found_in field sorted (u ∷ us) whole found = by_case (lies_in field u.0) refl (found_in field sorted us whole.1 found.1)
  where
    by_case : (b : Bool) → lies_in field u.0 ≡ b → AllByRecursion (λ (s : SortedTerm). recorder_of sorted (field_bytes field ++ s.key) ≡ Some s.recorder) (terms_in field us)
        → AllByRecursion (λ (s : SortedTerm). recorder_of sorted (field_bytes field ++ s.key) ≡ Some s.recorder) (terms_in field (u ∷ us))
    by_case true is rest =
        let bytes : field_bytes field ++ drop 4 u.0 ≡ u.0 = ap (λ (f : ℕ). field_bytes f ++ drop 4 u.0) (sym (eqb-true (field_in u.0) field is)) ∙ sym (split_bytes u.0 whole.0) in
        rw is (ap (recorder_of sorted) bytes ∙ found.0, rest)
    by_case false is rest = rw is rest

any_more : (b c : Bool) → c ≡ true → (b || c) ≡ true
any_more true c is = refl
any_more false c is = is

-- a term that is found is among those of its field
pub found_has_key : (norms : Option Norms) (mode : IndexRecordOption) (field : ℕ) (key : List ℕ) (r : RecorderState) (terms : TermIndex) → field < 2 ^ 32 → recorder_of terms (field_bytes field ++ key) ≡ Some r → has_key key (map (written_term norms mode) (terms_in field terms)) ≡ true
found_has_key norms mode field key r [] small found = absurd (cc)
found_has_key norms mode field key r (t ∷ ts) small found = by_case (bytes_eq (field_bytes field ++ key) t.0) refl (found_has_key norms mode field key r ts small)
  where
    others : (b : Bool) → lies_in field t.0 ≡ b → has_key key (map (written_term norms mode) (terms_in field ts)) ≡ true → has_key key (map (written_term norms mode) (terms_in field (t ∷ ts))) ≡ true
    others true is rest = rw is (any_more (bytes_eq key (drop 4 t.0)) (has_key key (map (written_term norms mode) (terms_in field ts))) rest)
    others false is rest = rw is rest

    by_case : (b : Bool) → bytes_eq (field_bytes field ++ key) t.0 ≡ b → (recorder_of ts (field_bytes field ++ key) ≡ Some r → has_key key (map (written_term norms mode) (terms_in field ts)) ≡ true) → has_key key (map (written_term norms mode) (terms_in field (t ∷ ts))) ≡ true
    by_case true same rest =
        let here : field_bytes field ++ key ≡ t.0 = (bytes_decides (field_bytes field ++ key) t.0).0 same in
        let inside : lies_in field t.0 ≡ true = eq-eqb (field_in t.0) field (ap field_in (sym here) ∙ field_of_bytes field key small) in
        let own : bytes_eq key (drop 4 t.0) ≡ true = subst (λ (k : List ℕ). bytes_eq key k ≡ true) (sym (behind_field field key) ∙ ap (drop 4) here) (nat_list_eq_equiv.refl key) in
        rw (inside, own) refl
    by_case false other rest = others (lies_in field t.0) refl (rest (sym (found_later (field_bytes field ++ key) t ts other) ∙ found))

-- What is known of each term of a field.
pub record IsKnown (norms : Option Norms) (mode : IndexRecordOption) (field : ℕ) (sorted : TermIndex) (s : SortedTerm) : Type 0 where
  pub found : recorder_of sorted (field_bytes field ++ s.key) ≡ Some s.recorder
  pub writable : IsWritable norms s
  pub told : IsTold mode s

pub all_known : (norms : Option Norms) (mode : IndexRecordOption) (field : ℕ) (sorted : TermIndex) (states : List SortedTerm) → AllByRecursion (λ (s : SortedTerm). recorder_of sorted (field_bytes field ++ s.key) ≡ Some s.recorder) states
    → AllByRecursion (IsWritable norms) states → AllByRecursion (IsTold mode) states → AllByRecursion (IsKnown norms mode field sorted) states
all_known norms mode field sorted [] found writable told = tt
all_known norms mode field sorted (s ∷ ss) found writable told = (record { found = found.0; writable = writable.0; told = told.0 }, all_known norms mode field sorted ss found.1 writable.1 told.1)

pub none_occurred : (field : ℕ) (key : List ℕ) (ts : List IndexToken) → tokens_at field key ts ≡ [] → occurs field key ts ≡ false
none_occurred field key ts none = by_case (occurs field key ts) refl
  where
    by_case : (b : Bool) → occurs field key ts ≡ b → occurs field key ts ≡ false
    by_case false is = is
    by_case true is = absurd (omega (arith, some_occurs field key ts is, ap (λ (us : List IndexToken). length (grouped us)) none))

keyed_some : (norms : Option Norms) (mode : IndexRecordOption) (ss : List SortedTerm) (key : List ℕ) → has_key key (map (written_term norms mode) ss) ≡ true → 0 < length ss
keyed_some norms mode [] key is = absurd (cc)
keyed_some norms mode (s ∷ ss) key is = omega (arith)

-- A key of a field that occurred.
record SomeKey (field : ℕ) (ts : List IndexToken) : Type 0 where
  key : List ℕ
  is : occurs field key ts ≡ true

first_key : (field : ℕ) (ts : List IndexToken) → 0 < length (filter (λ (t : IndexToken). t.field == field) ts) → SomeKey field ts
first_key field [] some = absurd (omega (arith, some))
first_key field (t ∷ ts) some = by_case (nat_eq t.field field) refl (first_key field ts)
  where
    by_case : (b : Bool) → nat_eq t.field field ≡ b → (0 < length (filter (λ (u : IndexToken). u.field == field) ts) → SomeKey field ts) → SomeKey field (t ∷ ts)
    by_case true is rest = record { key = t.key; is = rw (is, nat_list_eq_equiv.refl t.key) refl }
    by_case false is rest =
        let k = rest (subst (λ (us : List IndexToken). 0 < length us) (rw is refl) some) in
        record { key = k.key; is = rw is k.is }

some_key : (field : ℕ) (ts : List IndexToken) → 0 < field_count field ts → SomeKey field ts
some_key field ts some = first_key field ts (subst (λ (n : ℕ). 0 < n) (sym (length-filter (λ (t : IndexToken). t.field == field) ts)) some)

-- a field with a key has tokens
count_some : (field : ℕ) (key : List ℕ) (ts : List IndexToken) → IsTrue (occurs field key ts) → 0 < field_count field ts
count_some field key ts occurred = by_case (field_count field ts) refl
  where
    by_case : (n : ℕ) → field_count field ts ≡ n → 0 < field_count field ts
    by_case zero is = absurd (true≢false (sym occurred ∙ no_field field key ts is))
    by_case (suc n) is = omega (arith, is)

module _ (norms : Option Norms) (mode : IndexRecordOption) (field : ℕ) (small : field < 2 ^ 32) (sorted : TermIndex) (ts : List IndexToken)
    (records : (key : List ℕ) → MatchOption (recorder_of sorted (field_bytes field ++ key)) (tokens_at field key ts ≡ []) (HasPostings (kind_of mode (tokens_at field key ts)) (tokens_at field key ts))) where
  abbrev written : List WrittenTerm
  written = map (written_term norms mode) (terms_in field sorted)

  -- a field with terms has tokens
  pub some_tokens : AllByRecursion (IsKnown norms mode field sorted) (terms_in field sorted) → 0 < length (terms_in field sorted) → 0 < field_count field ts
  some_tokens known some = from_first (terms_in field sorted) known some
    where
      from_first : (ss : List SortedTerm) → AllByRecursion (IsKnown norms mode field sorted) ss → 0 < length ss → 0 < field_count field ts
      from_first [] all some = absurd (omega (arith, some))
      from_first (s ∷ ss) all some =
          let has = subst (λ (r : Option RecorderState). MatchOption r (tokens_at field s.key ts ≡ []) (HasPostings (kind_of mode (tokens_at field s.key ts)) (tokens_at field s.key ts))) all.0.found (records s.key) in
          count_some field s.key ts (recorder_occurred mode field s.key ts s.recorder has)

  -- and one with tokens has terms
  pub some_terms : 0 < field_count field ts → 0 < length (terms_in field sorted)
  some_terms some =
      let k = some_key field ts some in
      by_case k.key k.is (recorder_of sorted (field_bytes field ++ k.key)) refl
    where
      by_case : (key : List ℕ) → occurs field key ts ≡ true → (o : Option RecorderState) → recorder_of sorted (field_bytes field ++ key) ≡ o → 0 < length (terms_in field sorted)
      by_case key is None absent =
          let none = subst (λ (o : Option RecorderState). MatchOption o (tokens_at field key ts ≡ []) (HasPostings (kind_of mode (tokens_at field key ts)) (tokens_at field key ts))) absent (records key) in
          absurd (true≢false (sym is ∙ none_occurred field key ts none))
      by_case key is (Some r) found = keyed_some norms mode (terms_in field sorted) key (found_has_key norms mode field key r sorted small found)
