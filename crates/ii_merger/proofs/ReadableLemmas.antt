-- Merged entries can be read back where they are written.
use Rattle.std.proofs.Common.{inl, inr, ◌≡◌, ℕ, zero, suc, ◌+◌, ◌*◌, ◌^◌, ◌<◌, ◌≤◌, ◌==◌, Bool, true, false, if◌then◌else◌, List, [], ◌∷◌, ◌++◌, length, Option, Some, None, refl, sym, ap, ◌∙◌, subst, arith, true≢false, nat_eq}
use Rattle.std.specs.Prelude.{◌⊎◌, ◌&&◌, IsTrue, nat_lt, not}
use Rattle.std.specs.List.{AllByRecursion, sum}
use Rattle.std.proofs.lemmas.Bool.{eqb-true}
use Rattle.std.proofs.lemmas.List.Elements.{recursion_from_All}
use Rattle.std.proofs.lemmas.List.Sums.{sum_by-cons}
use Rattle.ii_io.specs.declared.faults.Part.{Part}
use Rattle.ii_io.specs.declared.faults.Part.TheVariants as parts
use Rattle.ii_base.specs.declared.doc_id.TheConstants.{TERMINATED}
use Rattle.ii_base.specs.declared.schema.index_record_option.IndexRecordOption.{IndexRecordOption}
use Rattle.ii_base.specs.declared.schema.index_record_option.IndexRecordOption.TheVariants.{Basic, WithFreqs, WithFreqsAndPositions}
use Rattle.ii_base.specs.Entries.{Entry}
use Rattle.ii_base.specs.Options.{has_freq, has_positions}
use Rattle.ii_docset.specs.Cursor.{FitsU32}
use Rattle.ii_recorder.specs.Kept.{IsLocated}
use Rattle.ii_recorder.specs.Pushed.{AreReadable, FillTooLarge, counts_of, pushed_freqs}
use Rattle.ii_recorder.proofs.DeltaLemmas.{have_deltas}
use Rattle.ii_segments.specs.Segments.{entry_at_rank, is_living, living_entries}
use Rattle.ii_merger.specs.MergeSources.{count_damage, damage_or, entries_damage, entry_damage}
use Rattle.ii_merger.specs.MergedTerm.{IsReadableEntry, LieBetween, skip_of}
use Rattle.ii_merger.proofs.ListLemmas.{AreListed, IsInOrder, IsPlain}
use Rattle.ii_merger.proofs.NumberLemmas.{are_in_order}

-- ---- which damage comes first
pub none_first : (a b : Option Part) → damage_or a b ≡ None → (a ≡ None) × (b ≡ None)
none_first None b is = (refl, is)
none_first (Some part) b is = absurd (cc)

damage_later : (a b c : Option Part) → damage_or (damage_or a b) c ≡ damage_or a (damage_or b c)
damage_later None b c = refl
damage_later (Some part) b c = refl

pub damage_both : (kind : IndexRecordOption) (alive : List Bool) (xs ys : List Entry) → entries_damage kind alive (xs ++ ys) ≡ damage_or (entries_damage kind alive xs) (entries_damage kind alive ys)
damage_both kind alive [] ys = refl
damage_both kind alive (x ∷ xs) ys = ap (damage_or (entry_damage kind alive x)) (damage_both kind alive xs ys) ∙ sym (damage_later (entry_damage kind alive x) (entries_damage kind alive xs) (entries_damage kind alive ys))

-- ---- a sound entry
counts_none : (a b : Bool) → (if a then Some parts.Frequencies else if b then Some parts.Positions else None) ≡ None → (a ≡ false) × (b ≡ false)
counts_none true b is = absurd (cc)
counts_none false true is = absurd (cc)
counts_none false false is = (refl, refl)

some_count : (n : ℕ) (b : Bool) → (b && (n == 0)) ≡ false → IsTrue b → 0 < n
some_count zero true none has = absurd (cc)
some_count (suc n) b none has = omega arith
some_count zero false none has = absurd (cc)

as_many : (n m : ℕ) (b : Bool) → (b && not (n == m)) ≡ false → IsTrue b → n ≡ m
as_many n m false none has = absurd (cc)
as_many n m true none has = by (nat_eq n m) refl
  where
    by : (c : Bool) → nat_eq n m ≡ c → n ≡ m
    by true is = eqb-true n m is
    by false is = absurd (true≢false (sym (ap not is) ∙ none))

readable_entry : (kind : IndexRecordOption) (e : Entry) → count_damage kind e.term_freq (length e.positions) ≡ None → IsInOrder e → (has_positions kind ≡ false → IsPlain e) → FitsU32 e → IsReadableEntry kind e
readable_entry kind e none in_order plain fits =
    let both = counts_none (has_freq kind && (e.term_freq == 0)) (has_positions kind && not (length e.positions == e.term_freq)) none in
    record {
      counted = some_count e.term_freq (has_freq kind) both.0;
      fits = fits.0;
      plain = plain;
      located = λ has. (as_many (length e.positions) e.term_freq (has_positions kind) both.1 has, in_order, recursion_from_All (λ (p : ℕ). p < 2 ^ 32) e.positions fits.1);
    }

living_counts : (kind : IndexRecordOption) (alive : List Bool) (e : Entry) → entry_damage kind alive e ≡ None → is_living alive e.doc ≡ true → count_damage kind e.term_freq (length e.positions) ≡ None
living_counts kind alive e none living = by (nat_lt e.doc (length alive)) none
  where
    by : (b : Bool) → (if not b then Some parts.Documents else if is_living alive e.doc then count_damage kind e.term_freq (length e.positions) else None) ≡ None → count_damage kind e.term_freq (length e.positions) ≡ None
    by false is = absurd (cc)
    by true is = rw living at is

-- the living entries of a sound list
pub readable_living : (kind : IndexRecordOption) (base : ℕ) (alive : List Bool) (es : List Entry) → entries_damage kind alive es ≡ None → AreListed kind es → AllByRecursion FitsU32 es → AllByRecursion (IsReadableEntry kind) (living_entries base alive es)
readable_living kind base alive [] none listed fits = tt
readable_living kind base alive (e ∷ es) none listed fits =
    let both = none_first (entry_damage kind alive e) (entries_damage kind alive es) none in
    by (is_living alive e.doc) refl both.0 (readable_living kind base alive es both.1 (record { in_order = listed.in_order.1; plain = λ has. (listed.plain has).1 }) fits.1)
  where
    moved : IsReadableEntry kind e → IsReadableEntry kind (entry_at_rank base alive e)
    moved h = record { counted = h.counted; fits = h.fits; located = h.located; plain = h.plain }

    by : (b : Bool) → is_living alive e.doc ≡ b → entry_damage kind alive e ≡ None → AllByRecursion (IsReadableEntry kind) (living_entries base alive es) → AllByRecursion (IsReadableEntry kind) (living_entries base alive (e ∷ es))
    by true living sound later = rw living (moved (readable_entry kind e (living_counts kind alive e sound living) listed.in_order.0 (λ has. (listed.plain has).0) fits.0), later)
    by false dead sound later = rw dead later

-- ---- entries that can be read back
all_counted : (kind : IndexRecordOption) (es : List Entry) → AllByRecursion (IsReadableEntry kind) es → IsTrue (has_freq kind) → AllByRecursion (λ n. 0 < n) (pushed_freqs kind es)
all_counted kind [] all has = tt
all_counted kind (e ∷ es) all has = (subst (λ (b : Bool). 0 < (if b then e.term_freq else 0)) (sym has) (all.0.counted has), all_counted kind es all.1 has)

all_located : (kind : IndexRecordOption) (es : List Entry) → AllByRecursion (IsReadableEntry kind) es → IsTrue (has_positions kind) → AllByRecursion IsLocated es
all_located kind [] all has = tt
all_located kind (e ∷ es) all has = (all.0.located has, all_located kind es all.1 has)

few_counts : (kind : IndexRecordOption) (es : List Entry) → AllByRecursion (IsReadableEntry kind) es → sum (counts_of es) ≤ 2 ^ 32 * length es
few_counts kind [] all = omega arith
few_counts kind (e ∷ es) all =
    let more : sum (counts_of (e ∷ es)) ≡ e.term_freq + sum (counts_of es) = sum_by-cons (λ (n : ℕ). n) e.term_freq (counts_of es) in
    omega (arith, more, all.0.fits, few_counts kind es all.1)

few_entries : (least limit : ℕ) (es : List Entry) → LieBetween least limit es → least + length es ≤ limit
few_entries least limit [] between = omega (arith, between)
few_entries least limit (e ∷ es) between = omega (arith, between.0, few_entries (suc e.doc) limit es between.1)

pub are_readable : (kind : IndexRecordOption) (limit : ℕ) (es : List Entry) → AllByRecursion (IsReadableEntry kind) es → LieBetween 0 limit es → limit ≤ TERMINATED → 0 < length es
    → ¬ FillTooLarge kind [] (pushed_freqs kind es) → AllByRecursion (λ n. n < 2 ^ 32) (pushed_freqs kind es) → AreReadable kind es
are_readable kind limit es all between low some small fit = record {
  documents = are_in_order 0 limit es between low;
  some = some;
  counted = all_counted kind es all;
  fit = fit;
  small = small;
  located = λ has. have_deltas es (all_located kind es all has) (omega (arith, low, few_counts kind es all, few_entries 0 limit es between));
}

skip_is : (mode : IndexRecordOption) → skip_of mode mode ≡ mode
skip_is Basic = refl
skip_is WithFreqs = refl
skip_is WithFreqsAndPositions = refl

-- the option of a term's entries is what is kept of them
pub skip_of_kind : (mode kind : IndexRecordOption) → (kind ≡ mode) ⊎ (kind ≡ Basic) → skip_of mode kind ≡ kind
skip_of_kind mode kind (inl same) = subst (λ (k : IndexRecordOption). skip_of mode k ≡ k) (sym same) (skip_is mode)
skip_of_kind mode kind (inr basic) = subst (λ (k : IndexRecordOption). skip_of mode k ≡ k) (sym basic) refl
