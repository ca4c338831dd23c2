-- Laws of vints.
use Rattle.std.proofs.Common.{◌≡◌, ℕ, zero, suc, ◌+◌, ◌-◌, ◌*◌, ◌%◌, ◌^◌, ◌<◌, ◌≤◌, Bool, true, false, ◌&&◌, nat_lt, List, [], ◌∷◌, ◌++◌, length, take, drop, set, Option, Some, None, refl, sym, ap, ◌∙◌, arith, append_assoc, get_or}
use Rattle.std.specs.Option.{option_map}
use Rattle.std.specs.List.{flat_map, AllByRecursion}
use Rattle.std.proofs.lemmas.Bool.{lt-ltb, le-ltb}
use Rattle.std.proofs.lemmas.List.{take_more_set, take_all, drop-drop, length-set, length-drop}
use Rattle.std.proofs.lemmas.List.{append-nil}
use Rattle.ii_io.specs.Steps.{◌>>=◌, needs}
use Rattle.ii_io.specs.Vints.{u32_at, u32s_at, vint_u32}
use Rattle.ii_io.specs.VintLemmas.{u32_at-vint_u32}
use Rattle.ii_codes.specs.Sums.{running_sums, differences, DoNotFall, fit_u32}
use Rattle.ii_codes.specs.SortedVints.{sorted_vints_at, ReadsSortedVintsBack}
use Rattle.ii_codes.specs.UnsortedVints.{u32s_until_end, ReadsUnsortedVintsBack}

-- the sums of differences are the values
pub running_sums-differences : (before : ℕ) (vs : List ℕ) → DoNotFall before vs → running_sums before (differences before vs) ≡ vs
running_sums-differences before [] h = refl
running_sums-differences before (v ∷ vs) h =
    let up = h.0 in
    let first : before + (v - before) ≡ v = omega arith in
    rw (first, running_sums-differences v vs h.1) refl

pub fit_u32-all : (vs : List ℕ) → AllByRecursion (λ v. v < 2 ^ 32) vs → fit_u32 vs ≡ true
fit_u32-all [] h = refl
fit_u32-all (v ∷ vs) h = rw (lt-ltb v 4294967296 h.0, fit_u32-all vs h.1) refl

-- vints are read back
pub reads_unsorted_back : ReadsUnsortedVintsBack
reads_unsorted_back [] rest h = refl
reads_unsorted_back (v ∷ vs) rest h =
    let first = u32_at-vint_u32 v (flat_map vint_u32 vs ++ rest) h.0 in
    rw (append_assoc, first, reads_unsorted_back vs rest h.1) refl

pub length-differences : (before : ℕ) (vs : List ℕ) → length (differences before vs) ≡ length vs
length-differences before [] = refl
length-differences before (v ∷ vs) = ap suc (length-differences v vs)

differences-fit : (before : ℕ) (vs : List ℕ) → AllByRecursion (λ v. v < 2 ^ 32) vs → AllByRecursion (λ v. v < 2 ^ 32) (differences before vs)
differences-fit before [] h = tt
differences-fit before (v ∷ vs) h = let fits = h.0 in (omega arith, differences-fit v vs h.1)

u32s_at-differences : (before : ℕ) (vs rest : List ℕ) → AllByRecursion (λ v. v < 2 ^ 32) vs → u32s_at (length vs) (flat_map vint_u32 (differences before vs) ++ rest) ≡ Some (differences before vs, rest)
u32s_at-differences before vs rest h = rw length-differences at (reads_unsorted_back (differences before vs) rest (differences-fit before vs h))

pub reads_back : ReadsSortedVintsBack
reads_back offset vs rest up fit =
    rw (u32s_at-differences offset vs rest fit, running_sums-differences offset vs up, fit_u32-all vs fit) refl

-- values in front of those that are read on
abbrev pub in_front : List ℕ → Option (List ℕ × List ℕ) → Option (List ℕ × List ℕ)
in_front xs found = option_map (λ (f : List ℕ × List ℕ). (xs ++ f.0, f.1)) found

in_front-in_front : (xs ys : List ℕ) (o : Option (List ℕ × List ℕ)) → in_front xs (in_front ys o) ≡ in_front (xs ++ ys) o
in_front-in_front xs ys None = refl
in_front-in_front xs ys (Some f) = ap (λ (zs : List ℕ). Some (zs, f.1)) (sym (append_assoc xs ys f.0))

-- the next value is missing
u32s_at-none : (n : ℕ) (bytes : List ℕ) → None ≡ u32_at bytes → u32s_at (suc n) bytes ≡ None
u32s_at-none n bytes e = rw (← e) refl

first_in_front : (d n : ℕ) (rest : List ℕ) (o : Option (List ℕ × List ℕ)) → (o >>= λ (others : List ℕ × List ℕ). Some (d ∷ others.0, others.1)) ≡ in_front (d ∷ []) o
first_in_front d n rest None = refl
first_in_front d n rest (Some f) = refl

-- the next value is there
u32s_at-more : (n d : ℕ) (bytes rest : List ℕ) → Some (d, rest) ≡ u32_at bytes → u32s_at (suc n) bytes ≡ in_front (d ∷ []) (u32s_at n rest)
u32s_at-more n d bytes rest e = rw (← e) (first_in_front d n rest (u32s_at n rest))

-- The state of a reader with i values in its output, after some bytes.
pub record IsReadingRow (bytes output : List ℕ) (i used : ℕ) : Type 0 where
  pub within : used ≤ length bytes
  pub row : u32s_at (length output) bytes ≡ in_front (take i output) (u32s_at (length output - i) (drop used bytes))

row_first : (o : Option (List ℕ × List ℕ)) → o ≡ in_front [] o
row_first None = refl
row_first (Some f) = refl

pub row-first : (bytes output : List ℕ) → IsReadingRow bytes output 0 0
row-first bytes output =
    let all : length output - 0 ≡ length output = omega arith in
    record { within = omega arith; row = rw all (row_first (u32s_at (length output) bytes)) }

-- the values that are still to come, of which one is next
left_is : (n i : ℕ) → i < n → n - i ≡ suc (n - (i + 1))
left_is n i h = omega arith

pub row-none : (bytes output : List ℕ) (i used : ℕ) → IsReadingRow bytes output i used → i < length output → None ≡ u32_at (drop used bytes) → None ≡ u32s_at (length output) bytes
row-none bytes output i used r more e =
    let row = rw (left_is (length output) i more) at r.row in
    sym (row ∙ ap (in_front (take i output)) (u32s_at-none (length output - (i + 1)) (drop used bytes) e))

pub row-more : (bytes output : List ℕ) (i used d size : ℕ) → IsReadingRow bytes output i used → i < length output
    → Some (d, drop size (drop used bytes)) ≡ u32_at (drop used bytes) → size ≤ length (drop used bytes) → IsReadingRow bytes (set output i d) (i + 1) (used + size)
row-more bytes output i used d size r more e within =
    let inside = r.within in
    let row = rw (left_is (length output) i more) at r.row in
    let next = u32s_at-more (length output - (i + 1)) d (drop used bytes) (drop size (drop used bytes)) e in
    let whole = row ∙ ap (in_front (take i output)) next ∙ in_front-in_front (take i output) (d ∷ []) _ in
    record {
      within = let room = rw length-drop at within in omega arith;
      row = rw (length-set output i d, take_more_set output i d more, ← drop-drop size used bytes) whole;
    }

pub row-all : (bytes output : List ℕ) (i used : ℕ) → IsReadingRow bytes output i used → length output ≤ i → Some (output, drop used bytes) ≡ u32s_at (length output) bytes
row-all bytes output i used r done =
    let left : length output - i ≡ 0 = omega arith in
    let row = rw (left, take_all i output done) at r.row in
    sym (row ∙ ap (λ (xs : List ℕ). Some (xs, drop used bytes)) (append-nil output))

-- the next value is the sum of the one before it and the next difference
sum_step : (v : ℕ) (t s : Bool) (vs rest : List ℕ) → (needs (t && s) >>= λ _. Some (v ∷ vs, rest)) ≡ (needs t >>= λ _. in_front (v ∷ []) (needs s >>= λ _. Some (vs, rest)))
sum_step v true true vs rest = refl
sum_step v true false vs rest = refl
sum_step v false s vs rest = refl

no_sums : (v : ℕ) (t : Bool) → None ≡ (needs t >>= λ _. in_front (v ∷ []) None)
no_sums v true = refl
no_sums v false = refl

sums_of : (before d : ℕ) (o : Option (List ℕ × List ℕ)) → (in_front (d ∷ []) o >>= λ (found : List ℕ × List ℕ). needs (fit_u32 (running_sums before found.0)) >>= λ _. Some (running_sums before found.0, found.1))
    ≡ (needs (nat_lt (before + d) (2 ^ 32)) >>= λ _. in_front ((before + d) ∷ []) (o >>= λ (found : List ℕ × List ℕ). needs (fit_u32 (running_sums (before + d) found.0)) >>= λ _. Some (running_sums (before + d) found.0, found.1)))
sums_of before d None = no_sums (before + d) (nat_lt (before + d) (2 ^ 32))
sums_of before d (Some f) = sum_step (before + d) (nat_lt (before + d) (2 ^ 32)) (fit_u32 (running_sums (before + d) f.0)) (running_sums (before + d) f.0) f.1

sorted_vints_at-more : (before n d : ℕ) (bytes rest : List ℕ) → Some (d, rest) ≡ u32_at bytes
    → sorted_vints_at before (suc n) bytes ≡ (needs (nat_lt (before + d) (2 ^ 32)) >>= λ _. in_front ((before + d) ∷ []) (sorted_vints_at (before + d) n rest))
sorted_vints_at-more before n d bytes rest e = rw (u32s_at-more n d bytes rest e) (sums_of before d (u32s_at n rest))

sorted_vints_at-none : (before n : ℕ) (bytes : List ℕ) → None ≡ u32_at bytes → sorted_vints_at before (suc n) bytes ≡ None
sorted_vints_at-none before n bytes e = rw (u32s_at-none n bytes e) refl

-- The state of a reader of sorted values with i values in its output, the last value, and some bytes read.
pub record IsReadingSums (offset last : ℕ) (bytes output : List ℕ) (i used : ℕ) : Type 0 where
  pub within : used ≤ length bytes
  pub row : sorted_vints_at offset (length output) bytes ≡ in_front (take i output) (sorted_vints_at last (length output - i) (drop used bytes))

pub sums-none : (offset last : ℕ) (bytes output : List ℕ) (i used : ℕ) → IsReadingSums offset last bytes output i used → i < length output → None ≡ u32_at (drop used bytes) → None ≡ sorted_vints_at offset (length output) bytes
sums-none offset last bytes output i used r more e =
    let row = rw (left_is (length output) i more) at r.row in
    sym (row ∙ ap (in_front (take i output)) (sorted_vints_at-none last (length output - (i + 1)) (drop used bytes) e))

pub sums-past : (offset last : ℕ) (bytes output : List ℕ) (i used d size : ℕ) → IsReadingSums offset last bytes output i used → i < length output
    → Some (d, drop size (drop used bytes)) ≡ u32_at (drop used bytes) → 2 ^ 32 ≤ last + d → None ≡ sorted_vints_at offset (length output) bytes
sums-past offset last bytes output i used d size r more e past =
    let row = rw (left_is (length output) i more) at r.row in
    let next = rw (le-ltb (last + d) 4294967296 past) at (sorted_vints_at-more last (length output - (i + 1)) d (drop used bytes) (drop size (drop used bytes)) e) in
    sym (row ∙ ap (in_front (take i output)) next)

pub sums-more : (offset last : ℕ) (bytes output : List ℕ) (i used d size : ℕ) → IsReadingSums offset last bytes output i used → i < length output
    → Some (d, drop size (drop used bytes)) ≡ u32_at (drop used bytes) → size ≤ length (drop used bytes) → last + d < 2 ^ 32 → IsReadingSums offset (last + d) bytes (set output i (last + d)) (i + 1) (used + size)
sums-more offset last bytes output i used d size r more e within fits =
    let inside = r.within in
    let row = rw (left_is (length output) i more) at r.row in
    let next = rw (lt-ltb (last + d) 4294967296 fits) at (sorted_vints_at-more last (length output - (i + 1)) d (drop used bytes) (drop size (drop used bytes)) e) in
    let whole = row ∙ ap (in_front (take i output)) next ∙ in_front-in_front (take i output) ((last + d) ∷ []) _ in
    record {
      within = let room = rw length-drop at within in omega arith;
      row = rw (length-set output i (last + d), take_more_set output i (last + d) more, ← drop-drop size used bytes) whole;
    }

pub sums-all : (offset last : ℕ) (bytes output : List ℕ) (i used : ℕ) → IsReadingSums offset last bytes output i used → length output ≤ i → Some (output, drop used bytes) ≡ sorted_vints_at offset (length output) bytes
sums-all offset last bytes output i used r done =
    let left : length output - i ≡ 0 = omega arith in
    let row = rw (left, take_all i output done) at r.row in
    sym (row ∙ ap (λ (xs : List ℕ). Some (xs, drop used bytes)) (append-nil output))

-- values in front of those that are read to the end
abbrev pub ends_with : List ℕ → Option (List ℕ) → Option (List ℕ)
ends_with xs found = option_map (λ (ys : List ℕ). xs ++ ys) found

ends_with-twice : (xs ys : List ℕ) (o : Option (List ℕ)) → ends_with xs (ends_with ys o) ≡ ends_with (xs ++ ys) o
ends_with-twice xs ys None = refl
ends_with-twice xs ys (Some zs) = ap (λ (us : List ℕ). Some us) (sym (append_assoc xs ys zs))

ends_first : (d : ℕ) (o : Option (List ℕ)) → (o >>= λ (others : List ℕ). Some (d ∷ others)) ≡ ends_with (d ∷ []) o
ends_first d None = refl
ends_first d (Some f) = refl

pub until_end-some : (n : ℕ) (bytes : List ℕ) → 0 < length bytes → u32s_until_end (suc n) bytes ≡ (u32_at bytes >>= λ (first : ℕ × List ℕ). u32s_until_end n first.1 >>= λ (others : List ℕ). Some (first.0 ∷ others))
until_end-some n [] some = absurd (omega arith)
until_end-some n (b ∷ bs) some = refl

until_end-none : (n : ℕ) (bytes : List ℕ) → length bytes ≡ 0 → u32s_until_end n bytes ≡ Some []
until_end-none zero bytes h = refl
until_end-none (suc n) [] h = refl
until_end-none (suc n) (b ∷ bs) h = absurd (omega arith)

-- The state of a reader until the end with k values in its output, after some bytes.
pub record IsReadingOn (bytes output : List ℕ) (k used : ℕ) : Type 0 where
  pub inside : used ≤ length bytes
  pub on : u32s_until_end (length output) bytes ≡ ends_with (take k output) (u32s_until_end (length output - k) (drop used bytes))

pub on-end : (bytes output : List ℕ) (k used : ℕ) → IsReadingOn bytes output k used → length (drop used bytes) ≡ 0 → Some (take k output) ≡ u32s_until_end (length output) bytes
on-end bytes output k used r end =
    sym (r.on ∙ ap (ends_with (take k output)) (until_end-none (length output - k) (drop used bytes) end) ∙ ap (λ (xs : List ℕ). Some xs) (append-nil (take k output)))

pub on-more : (bytes output : List ℕ) (k used d size : ℕ) → IsReadingOn bytes output k used → k < length output → 0 < length (drop used bytes)
    → Some (d, drop size (drop used bytes)) ≡ u32_at (drop used bytes) → size ≤ length (drop used bytes) → IsReadingOn bytes (set output k d) (k + 1) (used + size)
on-more bytes output k used d size r more some e within =
    let inside = r.inside in
    let on = rw (left_is (length output) k more) at r.on in
    let next = rw (← e) at (until_end-some (length output - (k + 1)) (drop used bytes) some) in
    let whole = on ∙ ap (ends_with (take k output)) (next ∙ ends_first d _) ∙ ends_with-twice (take k output) (d ∷ []) _ in
    record {
      inside = let room = rw length-drop at within in omega arith;
      on = rw (length-set output k d, take_more_set output k d more, ← drop-drop size used bytes) whole;
    }

-- a number of one byte
pub u32_at-one : (bytes : List ℕ) (n : ℕ) → 128 ≤ get_or bytes 0 0 → get_or bytes 0 0 < 256 → n ≡ get_or bytes 0 0 - 128 → Some (n, drop 1 bytes) ≡ u32_at bytes
unfolding u32_at
u32_at-one [] n high byte e = absurd (omega arith)
u32_at-one (b ∷ rest) n high byte e =
    let low : b % 128 ≡ n = omega arith in
    rw (le-ltb b 128 high, low, lt-ltb n 4294967296 (omega arith)) refl

-- a number of two bytes
pub u32_at-two : (bytes : List ℕ) (n : ℕ) → get_or bytes 0 0 < 128 → 128 ≤ get_or bytes 1 0 → get_or bytes 1 0 < 256 → n ≡ get_or bytes 0 0 + 128 * (get_or bytes 1 0 - 128) → Some (n, drop 2 bytes) ≡ u32_at bytes
unfolding u32_at
u32_at-two [] n low high byte e = absurd (omega arith)
u32_at-two (a ∷ []) n low high byte e = absurd (omega arith)
u32_at-two (a ∷ b ∷ rest) n low high byte e =
    let value : a % 128 + 128 * (b % 128) ≡ n = omega arith in
    rw (lt-ltb a 128 low, le-ltb b 128 high, value, lt-ltb n 4294967296 (omega arith)) refl

pub u32_at-nothing : (bytes : List ℕ) → length bytes ≡ 0 → None ≡ u32_at bytes
unfolding u32_at
u32_at-nothing [] h = refl
u32_at-nothing (b ∷ bs) h = absurd (omega arith)

-- values by their places
pub falls_by : (before : ℕ) (vs : List ℕ) → (0 < length vs → before ≤ get_or vs 0 0) → ((k : ℕ) → suc k < length vs → get_or vs k 0 ≤ get_or vs (suc k) 0) → DoNotFall before vs
falls_by before [] first more = tt
falls_by before (v ∷ vs) first more =
    (first (omega arith), falls_by v vs (λ some. more 0 (omega arith)) (λ k within. more (suc k) (omega arith)))
