-- How large the terms of tokens are.
use Rattle.std.proofs.Common.{◌≡◌, ℕ, suc, ◌+◌, ◌-◌, ◌*◌, ◌≤◌, ◌<◌, ◌^◌, ◌==◌, Bool, true, false, cond, List, [], ◌∷◌, length, take, map, nat_eq, refl, sym, ap, ◌∙◌, subst, arith, length-append, Less, Equal, Greater}
use Rattle.std.specs.Prelude.{Option, filter, if◌then◌else◌}
use Rattle.std.specs.Ordering.{nat_cmp}
use Rattle.std.specs.Cmp.Lexicographic.{nat_list_cmp_total, slice_cmp}
use Rattle.std.specs.FinMap.{FinMap, contains_key, entries, entries-insert, from_entries, len, len-empty, len-entries, len-insert, put}
use Rattle.std.specs.FinMap.Entries.{by_order}
use Rattle.std.specs.List.{AllByRecursion, sum, sum_by}
use Rattle.std.proofs.lemmas.List.{length-map}
use Rattle.std.proofs.lemmas.List.Concat.{flat_map-cons}
use Rattle.std.proofs.lemmas.List.Sums.{count_by-le-length, length-filter, sum_by-cons, sum_by-take-drop}
use Rattle.ii_base.specs.declared.schema.index_record_option.IndexRecordOption.{IndexRecordOption}
use Rattle.ii_base.specs.declared.schema.index_record_option.IndexRecordOption.TheVariants.{Basic, WithFreqs, WithFreqsAndPositions}
use Rattle.ii_base.specs.Entries.{Entry}
use Rattle.ii_base.specs.Options.{has_freq}
use Rattle.ii_fieldnorm.specs.Readers.{Norms}
use Rattle.ii_codes.specs.Sums.{differences}
use Rattle.ii_codes.proofs.SortedVintLemmas.{length-differences}
use Rattle.ii_definitions.specs.Cut.{cut_entry}
use Rattle.ii_definitions.specs.Postings.{grouped, is_at, kind_of, tokens_at, with_token}
use Rattle.ii_definitions.specs.Tokens.{IndexToken}
use Rattle.ii_recorder.specs.Pushed.{FillTooLarge, pushed_deltas, pushed_freqs}
use Rattle.ii_recorder.specs.Terms.{WrittenTerm, positions_bytes, postings_bytes}
use Rattle.ii_recorder.specs.TokenTerms.{field_keys, kept_entries, token_term}
use Rattle.ii_layout.proofs.SizeLemmas.{length-written_positions-le, length-written_postings-le}

-- The keys of a field.
abbrev key_entries : List IndexToken → List (List ℕ × Unit {0})
key_entries ts = map (λ (t : IndexToken). (t.key, tt)) ts

abbrev map_of : List (List ℕ × Unit {0}) → FinMap (slice_cmp nat_cmp) (Unit {0})
map_of es = from_entries {R = slice_cmp nat_cmp} es

-- a map has no more keys than it was made of
few_entries : (es : List (List ℕ × Unit {0})) → length (entries (map_of es)) ≤ length es
few_entries [] = omega (arith, len-entries (map_of []), len-empty (slice_cmp nat_cmp) (Unit {0}))
few_entries (e ∷ es) =
    let rest = map_of es in
    omega (arith, len-entries (map_of (e ∷ es)), len-entries rest, len-insert nat_list_cmp_total rest e.0 e.1, at_most (contains_key rest e.0) (len rest), few_entries es)
  where
    at_most : (b : Bool) (n : ℕ) → cond b n (n + 1) ≤ n + 1
    at_most true n = omega arith
    at_most false n = omega arith

pub few_keys : (field : ℕ) (ts : List IndexToken) → length (field_keys field ts) ≤ length ts
few_keys field ts =
    let own = filter (λ (t : IndexToken). t.field == field) ts in
    omega (
      arith,
      length-map {B = List ℕ} (entries (map_of (key_entries own))) (λ (e : List ℕ × Unit {0}). e.0),
      few_entries (key_entries own),
      length-map {B = List ℕ × Unit {0}} own (λ (t : IndexToken). (t.key, tt)),
      length-filter (λ (t : IndexToken). t.field == field) ts,
      count_by-le-length (λ (t : IndexToken). t.field == field) ts,
    )

-- The key of an entry has at most a number of bytes.
abbrev HasShortKey : ℕ → List ℕ × Unit {0} → Type 0
HasShortKey size e = length e.0 ≤ size

short_put : (size : ℕ) (k : List ℕ) (es : List (List ℕ × Unit {0})) → length k ≤ size → AllByRecursion (HasShortKey size) es → AllByRecursion (HasShortKey size) (put (slice_cmp nat_cmp) k tt es)
short_put size k [] short all = (short, tt)
short_put size k (e ∷ es) short all =
    elim (slice_cmp nat_cmp k e.0) as (λ r. AllByRecursion (HasShortKey size) (by_order r ((k, tt) ∷ e ∷ es) ((e.0, tt) ∷ es) (e ∷ put (slice_cmp nat_cmp) k tt es))) [
      | Less ↦ (short, all)
      | Equal ↦ all
      | Greater ↦ (all.0, short_put size k es short all.1)
    ]

short_entries : (size : ℕ) (es : List (List ℕ × Unit {0})) → AllByRecursion (HasShortKey size) es → AllByRecursion (HasShortKey size) (entries (map_of es))
short_entries size [] all = none (entries (map_of [])) (sym (len-entries (map_of [])) ∙ len-empty (slice_cmp nat_cmp) (Unit {0}))
  where
    none : (es : List (List ℕ × Unit {0})) → length es ≡ 0 → AllByRecursion (HasShortKey size) es
    none [] empty = tt
    none (e ∷ es) empty = absurd (omega (arith, empty))
short_entries size (e ∷ es) all =
    subst (AllByRecursion (HasShortKey size)) (sym (entries-insert nat_list_cmp_total (map_of es) e.0 e.1)) (short_put size e.0 (entries (map_of es)) all.0 (short_entries size es all.1))

-- The tokens of one key.
counted_with : (f : Entry → ℕ) → ((t : IndexToken) (e : Entry) → f (record { doc = e.doc; term_freq = e.term_freq + 1; positions = t.position ∷ e.positions }) ≡ f e + 1)
    → ((t : IndexToken) → f (record { doc = t.doc; term_freq = 1; positions = t.position ∷ [] }) ≡ 1) → (t : IndexToken) (es : List Entry) → sum_by f (with_token t es) ≡ sum_by f es + 1
counted_with f more one t [] = omega (arith, one t, sum_by-cons f (record { doc = t.doc; term_freq = 1; positions = t.position ∷ [] }) [])
counted_with f more one t (e ∷ es) = by_case (nat_eq e.doc t.doc) refl
  where
    by_case : (b : Bool) → nat_eq e.doc t.doc ≡ b → sum_by f (with_token t (e ∷ es)) ≡ sum_by f (e ∷ es) + 1
    by_case true same =
        let fuller : Entry = record { doc = e.doc; term_freq = e.term_freq + 1; positions = t.position ∷ e.positions } in
        rw same (omega (arith, more t e, sum_by-cons f fuller es, sum_by-cons f e es))
    by_case false other =
        let own : Entry = record { doc = t.doc; term_freq = 1; positions = t.position ∷ [] } in
        rw other (omega (arith, one t, sum_by-cons f own (e ∷ es)))

pub counted : (f : Entry → ℕ) → ((t : IndexToken) (e : Entry) → f (record { doc = e.doc; term_freq = e.term_freq + 1; positions = t.position ∷ e.positions }) ≡ f e + 1)
    → ((t : IndexToken) → f (record { doc = t.doc; term_freq = 1; positions = t.position ∷ [] }) ≡ 1) → (ts : List IndexToken) → sum_by f (grouped ts) ≡ length ts
counted f more one [] = refl
counted f more one (t ∷ ts) = omega (arith, counted_with f more one t (grouped ts), counted f more one ts)

few_grouped : (ts : List IndexToken) → length (grouped ts) ≤ length ts
few_grouped [] = omega arith
few_grouped (t ∷ ts) = by (grouped ts) (few_grouped ts)
  where
    by : (es : List Entry) → length es ≤ length ts → length (with_token t es) ≤ suc (length ts)
    by [] few = omega (arith, few)
    by (e ∷ es) few = by_case (nat_eq e.doc t.doc) refl
      where
        by_case : (b : Bool) → nat_eq e.doc t.doc ≡ b → length (with_token t (e ∷ es)) ≤ suc (length ts)
        by_case true same = rw same (omega (arith, few))
        by_case false other = rw other (omega (arith, few))

abbrev pushed_count : IndexRecordOption → Entry → ℕ
pushed_count kind e = if has_freq kind then e.term_freq else 0

sum_pushed : (kind : IndexRecordOption) (es : List Entry) → sum (pushed_freqs kind (map (cut_entry kind) es)) ≤ sum_by (λ (e : Entry). e.term_freq) es
sum_pushed kind [] = omega arith
sum_pushed kind (e ∷ es) =
    let others = pushed_freqs kind (map (cut_entry kind) es) in
    let own = pushed_count kind (cut_entry kind e) in
    omega (arith, sum_by-cons (λ (c : ℕ). c) own others, no_more kind, sum_pushed kind es, sum_by-cons (λ (f : Entry). f.term_freq) e es)
  where
    no_more : (k : IndexRecordOption) → pushed_count k (cut_entry k e) ≤ e.term_freq
    no_more Basic = omega arith
    no_more WithFreqs = omega arith
    no_more WithFreqsAndPositions = omega arith

few_deltas : (kind : IndexRecordOption) (es : List Entry) → length (pushed_deltas (map (cut_entry kind) es)) ≤ sum_by (λ (e : Entry). length e.positions) es
few_deltas kind [] = omega arith
few_deltas kind (e ∷ es) =
    let others = map (cut_entry kind) es in
    let own = differences 0 (cut_entry kind e).positions in
    omega (
      arith,
      ap length (flat_map-cons (λ (f : Entry). differences 0 f.positions) (cut_entry kind e) others),
      length-append own (pushed_deltas others),
      length-differences 0 (cut_entry kind e).positions,
      fewer kind,
      few_deltas kind es,
      sum_by-cons (λ (f : Entry). length f.positions) e es,
    )
  where
    fewer : (k : IndexRecordOption) → length (cut_entry k e).positions ≤ length e.positions
    fewer Basic = omega arith
    fewer WithFreqs = omega arith
    fewer WithFreqsAndPositions = omega arith

-- A term of at most a number of tokens.
pub record HasFewTokens (n : ℕ) (t : WrittenTerm) : Type 0 where
  pub docs : length t.docs ≤ n
  pub freqs : length t.freqs ≡ length t.docs
  pub sum : sum t.freqs ≤ n
  pub deltas : length t.deltas ≤ n

pub has_few_tokens : (n : ℕ) (norms : Option Norms) (mode : IndexRecordOption) (field : ℕ) (ts : List IndexToken) (key : List ℕ) → length ts ≤ n → HasFewTokens n (token_term norms mode field ts key)
has_few_tokens n norms mode field ts key few =
    let own = tokens_at field key ts in
    let kind = kind_of mode own in
    let es = kept_entries mode own in
    let own_few : length own ≤ n = omega (arith, few, length-filter (is_at field key) ts, count_by-le-length (is_at field key) ts) in
    record {
      docs = omega (arith, own_few, length-map es (λ (e : Entry). e.doc), length-map (grouped own) (cut_entry kind), few_grouped own);
      freqs = omega (arith, length-map es (λ (e : Entry). e.doc), many kind es);
      sum = omega (arith, own_few, sum_pushed kind (grouped own), counted (λ (e : Entry). e.term_freq) (λ t e. refl) (λ t. refl) own);
      deltas = omega (arith, own_few, few_deltas kind (grouped own), counted (λ (e : Entry). length e.positions) (λ t e. omega arith) (λ t. refl) own);
    }
  where
    many : (kind : IndexRecordOption) (es : List Entry) → length (pushed_freqs kind es) ≡ length es
    many kind [] = refl
    many kind (e ∷ es) = ap suc (many kind es)

-- no block of it has a large sum
pub few_have_small_sums : (n : ℕ) (t : WrittenTerm) → n < 2 ^ 32 → HasFewTokens n t → FillTooLarge t.skip_info [] t.freqs → ⊥
few_have_small_sums n t low few large =
    let part = take (large.0 + 1) t.freqs in
    absurd (omega (arith, low, few.sum, large.2.large, sum_by-take-drop (λ (c : ℕ). c) t.freqs (large.0 + 1), sum_by-take-drop (λ (c : ℕ). c) part (length part - 128)))

pub length-postings_bytes-le : (n : ℕ) (t : WrittenTerm) → HasFewTokens n t → length (postings_bytes t) ≤ 10 + 27 * n
length-postings_bytes-le n t few = omega (arith, few.docs, length-written_postings-le t.norms t.skip_info t.docs t.freqs few.freqs)

pub length-positions_bytes-le : (n : ℕ) (mode : IndexRecordOption) (t : WrittenTerm) → HasFewTokens n t → length (positions_bytes mode t.deltas) ≤ 10 + 14 * n
length-positions_bytes-le n Basic t few = omega arith
length-positions_bytes-le n WithFreqs t few = omega arith
length-positions_bytes-le n WithFreqsAndPositions t few = omega (arith, few.deltas, length-written_positions-le t.deltas)

pub short_keys : (size field : ℕ) (ts : List IndexToken) → AllByRecursion (λ (t : IndexToken). length t.key ≤ size) ts → AllByRecursion (λ (k : List ℕ). length k ≤ size) (field_keys field ts)
short_keys size field ts short = keys_of (entries (map_of (key_entries (own ts)))) (short_entries size (key_entries (own ts)) (marked ts short))
  where
    own : List IndexToken → List IndexToken
    own us = filter (λ (t : IndexToken). t.field == field) us

    keys_of : (es : List (List ℕ × Unit {0})) → AllByRecursion (HasShortKey size) es → AllByRecursion (λ (k : List ℕ). length k ≤ size) (map (λ (e : List ℕ × Unit {0}). e.0) es)
    keys_of [] all = tt
    keys_of (e ∷ es) all = (all.0, keys_of es all.1)

    marked : (us : List IndexToken) → AllByRecursion (λ (t : IndexToken). length t.key ≤ size) us → AllByRecursion (HasShortKey size) (key_entries (own us))
    marked [] all = tt
    marked (u ∷ us) all = by_case (nat_eq u.field field) refl (marked us all.1)
      where
        by_case : (b : Bool) → nat_eq u.field field ≡ b → AllByRecursion (HasShortKey size) (key_entries (own us)) → AllByRecursion (HasShortKey size) (key_entries (own (u ∷ us)))
        by_case true is rest = rw is (all.0, rest)
        by_case false is rest = rw is rest
