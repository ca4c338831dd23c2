-- Laws of blocks.
use Rattle.std.proofs.Common.{◌≡◌, ℕ, zero, suc, ◌+◌, ◌-◌, ◌*◌, ◌^◌, ◌<◌, ◌≤◌, Bool, true, false, List, [], ◌∷◌, ◌++◌, length, take, drop, map, get_or, set, Some, None, refl, sym, ◌∙◌, arith, append_assoc}
use Rattle.std.proofs.lemmas.List.{drop_more, append-nil, take_more_set, take_all, drop_all}
use Rattle.std.proofs.lemmas.Bool.{le-leb, lt-leb, lt-ltb}
use Rattle.std.specs.List.{range_with_len}
use Rattle.ii_codes.specs.Packed.{bits_in, entries_in, unpacked}
use Rattle.ii_codes.proofs.PackedLemmas.{bits_in-fits}
use Rattle.ii_codes.specs.Blocks.{gap_of, least_first, raised, values_from, sorted_values, unsorted_values, unsorted_entries, block_at, sorted_block_at, unsorted_block_at}
use Rattle.ii_codes.specs.Sums.{fit_u32}

-- one value more is written in front of what is to come
written_more : (out rest whole : List ℕ) (k x : ℕ) → k < length out → take k out ++ x ∷ rest ≡ whole → take (k + 1) (set out k x) ++ rest ≡ whole
written_more out rest whole k x within e = rw (take_more_set out k x within) (append_assoc (take k out) (x ∷ []) rest ∙ e)

pub less_one-more : (block out : List ℕ) (k : ℕ) → take k out ++ unsorted_entries true (drop k block) ≡ unsorted_entries true block → k < length block → k < length out
    → take (k + 1) (set out k (get_or block k 0 - 1)) ++ unsorted_entries true (drop (k + 1) block) ≡ unsorted_entries true block
less_one-more block out k e within room =
    let here = rw (drop_more block k 0 within) at e in
    written_more out (unsorted_entries true (drop (k + 1) block)) (unsorted_entries true block) k (get_or block k 0 - 1) room here

all_written : (out rest whole : List ℕ) (k : ℕ) → take k out ++ rest ≡ whole → length out ≡ k → rest ≡ [] → out ≡ whole
all_written out rest whole k e many none =
    let done = rw (none, take_all k out (omega arith), append-nil out) at e in
    done

pub less_one-all : (block out : List ℕ) (k : ℕ) → take k out ++ unsorted_entries true (drop k block) ≡ unsorted_entries true block → k ≡ 128 → length block ≡ 128 → length out ≡ 128
    → out ≡ unsorted_entries true block
less_one-all block out k e end many room =
    all_written out (unsorted_entries true (drop k block)) (unsorted_entries true block) k e (omega arith) (rw (drop_all k block (omega arith)) refl)

-- what a reader of a block answers
block_at-wide : (values : List ℕ → List ℕ) (w : ℕ) (bytes : List ℕ) → 32 < w → None ≡ block_at values w bytes
block_at-wide values w bytes wide = rw (lt-leb w 32 wide) refl

block_at-short : (values : List ℕ → List ℕ) (w : ℕ) (bytes : List ℕ) → w ≤ 32 → length bytes < 16 * w → None ≡ block_at values w bytes
block_at-short values w bytes narrow short = rw (le-leb w 32 narrow, lt-leb (16 * w) (length bytes) short) refl

block_at-unfit : (values : List ℕ → List ℕ) (w : ℕ) (bytes : List ℕ) → w ≤ 32 → 16 * w ≤ length bytes → fit_u32 (values (unpacked w bytes)) ≡ false → None ≡ block_at values w bytes
block_at-unfit values w bytes narrow enough unfit = rw (le-leb w 32 narrow, le-leb (16 * w) (length bytes) enough, unfit) refl

block_at-found : (values : List ℕ → List ℕ) (w : ℕ) (bytes : List ℕ) → w ≤ 32 → 16 * w ≤ length bytes → fit_u32 (values (unpacked w bytes)) ≡ true
    → Some (values (unpacked w bytes), drop (16 * w) bytes) ≡ block_at values w bytes
block_at-found values w bytes narrow enough fit = rw (le-leb w 32 narrow, le-leb (16 * w) (length bytes) enough, fit) refl

pub sorted-wide : (strict : Bool) (offset w : ℕ) (bytes : List ℕ) → 32 < w → None ≡ sorted_block_at strict offset w bytes
unfolding sorted_block_at
sorted-wide strict offset w bytes wide = block_at-wide (sorted_values strict offset) w bytes wide

pub sorted-short : (strict : Bool) (offset w : ℕ) (bytes : List ℕ) → w ≤ 32 → length bytes < 16 * w → None ≡ sorted_block_at strict offset w bytes
unfolding sorted_block_at
sorted-short strict offset w bytes narrow short = block_at-short (sorted_values strict offset) w bytes narrow short

-- as the code names its parts
pub sorted-unfit : (strict : Bool) (offset w gap least : ℕ) (bytes es : List ℕ) → w ≤ 32 → 16 * w ≤ length bytes → es ≡ unpacked w bytes → gap ≡ gap_of strict → least ≡ least_first strict offset
    → false ≡ fit_u32 (values_from gap least es) → None ≡ sorted_block_at strict offset w bytes
unfolding sorted_block_at
sorted-unfit strict offset w gap least bytes es narrow enough e g l unfit =
    block_at-unfit (sorted_values strict offset) w bytes narrow enough (sym (rw (e, g, l) at unfit))

pub sorted-found : (strict : Bool) (offset w gap least size : ℕ) (bytes vs : List ℕ) → w ≤ 32 → 16 * w ≤ length bytes → size ≡ 16 * w → gap ≡ gap_of strict → least ≡ least_first strict offset
    → true ≡ fit_u32 (values_from gap least (unpacked w bytes)) → vs ≡ values_from gap least (unpacked w bytes) → Some (vs, drop size bytes) ≡ sorted_block_at strict offset w bytes
unfolding sorted_block_at
sorted-found strict offset w gap least size bytes vs narrow enough s g l fit v =
    let all = rw (g, l) at v in
    rw (s, all) (block_at-found (sorted_values strict offset) w bytes narrow enough (sym (rw (g, l) at fit)))

pub unsorted-wide : (minus_one : Bool) (w : ℕ) (bytes : List ℕ) → 32 < w → None ≡ unsorted_block_at minus_one w bytes
unfolding unsorted_block_at
unsorted-wide minus_one w bytes wide = block_at-wide (unsorted_values minus_one) w bytes wide

pub unsorted-short : (minus_one : Bool) (w : ℕ) (bytes : List ℕ) → w ≤ 32 → length bytes < 16 * w → None ≡ unsorted_block_at minus_one w bytes
unfolding unsorted_block_at
unsorted-short minus_one w bytes narrow short = block_at-short (unsorted_values minus_one) w bytes narrow short

pub unsorted-unfit : (minus_one : Bool) (w : ℕ) (bytes es : List ℕ) → w ≤ 32 → 16 * w ≤ length bytes → es ≡ unpacked w bytes
    → false ≡ fit_u32 (unsorted_values minus_one es) → None ≡ unsorted_block_at minus_one w bytes
unfolding unsorted_block_at
unsorted-unfit minus_one w bytes es narrow enough e unfit =
    block_at-unfit (unsorted_values minus_one) w bytes narrow enough (sym (rw e at unfit))

pub unsorted-found : (minus_one : Bool) (w size : ℕ) (bytes es vs : List ℕ) → w ≤ 32 → 16 * w ≤ length bytes → size ≡ 16 * w → es ≡ unpacked w bytes
    → true ≡ fit_u32 (unsorted_values minus_one es) → vs ≡ unsorted_values minus_one es → Some (vs, drop size bytes) ≡ unsorted_block_at minus_one w bytes
unfolding unsorted_block_at
unsorted-found minus_one w size bytes es vs narrow enough s e fit v =
    let all = rw e at v in
    rw (s, all) (block_at-found (unsorted_values minus_one) w bytes narrow enough (sym (rw e at fit)))

-- entries of at most 32 bits fit
pub fit_u32-fill : (f : ℕ → ℕ) (a n : ℕ) → ((k : ℕ) → f k < 2 ^ 32) → fit_u32 (map f (range_with_len a n)) ≡ true
fit_u32-fill f a zero h = refl
fit_u32-fill f a (suc n) h = rw (lt-ltb (f a) 4294967296 (h a)) (fit_u32-fill f (a + 1) n h)

pub unpacked-fit : (w : ℕ) (bytes : List ℕ) → w ≤ 32 → fit_u32 (unpacked w bytes) ≡ true
unfolding unpacked entries_in
unpacked-fit w bytes narrow = fit_u32-fill (λ k. bits_in 8 bytes (k * w) w) 0 128 (λ k. bits_in-fits 8 w 32 bytes (k * w) narrow)

raised-none : (es : List ℕ) → raised 0 es ≡ es
raised-none [] = refl
raised-none (e ∷ es) = let same : e + 0 ≡ e = omega arith in rw (same, raised-none es) refl

pub unsorted-plain : (minus_one : Bool) (w size : ℕ) (bytes es : List ℕ) → w ≤ 32 → 16 * w ≤ length bytes → size ≡ 16 * w → es ≡ raised 0 (unpacked w bytes) → minus_one ≡ false
    → Some (es, drop size bytes) ≡ unsorted_block_at minus_one w bytes
unsorted-plain minus_one w size bytes es narrow enough s e plain =
    let same = e ∙ raised-none (unpacked w bytes) in
    rw plain (unsorted-found false w size bytes es es narrow enough s same (rw same (sym (unpacked-fit w bytes narrow))) refl)

raised_fit-fill : (f : ℕ → ℕ) (a n : ℕ) → ((k : ℕ) → f k < 2 ^ 31) → fit_u32 (raised 1 (map f (range_with_len a n))) ≡ true
raised_fit-fill f a zero h = refl
raised_fit-fill f a (suc n) h = let small = h a in rw (lt-ltb (f a + 1) 4294967296 (omega arith)) (raised_fit-fill f (a + 1) n h)

raised-fit : (w : ℕ) (bytes : List ℕ) → w ≤ 31 → fit_u32 (raised 1 (unpacked w bytes)) ≡ true
unfolding unpacked entries_in
raised-fit w bytes narrow = raised_fit-fill (λ k. bits_in 8 bytes (k * w) w) 0 128 (λ k. bits_in-fits 8 w 31 bytes (k * w) narrow)

pub unsorted-raised : (minus_one : Bool) (w size : ℕ) (bytes vs : List ℕ) → w ≤ 31 → 16 * w ≤ length bytes → size ≡ 16 * w → vs ≡ raised 1 (unpacked w bytes) → minus_one ≡ true
    → Some (vs, drop size bytes) ≡ unsorted_block_at minus_one w bytes
unsorted-raised minus_one w size bytes vs narrow enough s v one =
    rw one (unsorted-found true w size bytes (unpacked w bytes) vs (omega arith) enough s refl (sym (raised-fit w bytes narrow)) v)

pub not_raised : (w : ℕ) (bytes es : List ℕ) → es ≡ raised 0 (unpacked w bytes) → es ≡ unpacked w bytes
not_raised w bytes es e = e ∙ raised-none (unpacked w bytes)
