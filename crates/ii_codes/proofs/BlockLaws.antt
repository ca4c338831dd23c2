-- Written blocks are read back.
use Rattle.std.proofs.Common.{◌≡◌, ℕ, zero, suc, ◌+◌, ◌-◌, ◌*◌, ◌^◌, ◌<◌, ◌≤◌, ◌≢◌, Bool, true, false, List, [], ◌∷◌, ◌++◌, length, get_or, Some, eqb, refl, sym, ap, ◌∙◌, arith, cond, length-append, add-one}
use Rattle.std.proofs.lemmas.Bool.{le-leb, lt-ltb}
use Rattle.std.proofs.lemmas.List.{drop_at, length-map}
use Rattle.ii_codes.specs.Packed.{unpacked, packed, least_width}
use Rattle.ii_codes.specs.Blocks.{least_first, values_from, entries_from, sorted_values, sorted_entries, unsorted_values, unsorted_entries, block_at, sorted_block_at, unsorted_block_at, IsBlock, AscendsAfter, ReadsSortedBlocks, ReadsUnsortedBlocks}
use Rattle.ii_codes.specs.Sums.{fit_u32}
use Rattle.ii_codes.proofs.PackedLaws.{length-packed, unpacked-packed, unpacked-append}
use Rattle.ii_codes.proofs.WidthLemmas.{least_width-fits, least_width-least}

-- Values that are at least the minimum at their place.
pub record AreSpaced (gap least : ℕ) (vs : List ℕ) : Type 0 where
  pub first : 0 < length vs → least ≤ get_or vs 0 0
  pub others : (k : ℕ) → suc k < length vs → get_or vs k 0 + gap ≤ get_or vs (suc k) 0

AreSpaced-tail : (gap least v : ℕ) (vs : List ℕ) → AreSpaced gap least (v ∷ vs) → AreSpaced gap (v + gap) vs
AreSpaced-tail gap least v vs h = record {
  first = λ some. h.others 0 (omega arith);
  others = λ k within. h.others (suc k) (omega arith);
}

pub values_from-entries_from : (gap least : ℕ) (vs : List ℕ) → AreSpaced gap least vs → values_from gap least (entries_from gap least vs) ≡ vs
values_from-entries_from gap least [] h = refl
values_from-entries_from gap least (v ∷ vs) h =
    let above = h.first (omega arith) in
    let value : least + (v - least) ≡ v = omega arith in
    rw (value, values_from-entries_from gap (v + gap) vs (AreSpaced-tail gap least v vs h)) refl

pub length-entries_from : (gap least : ℕ) (vs : List ℕ) → length (entries_from gap least vs) ≡ length vs
length-entries_from gap least [] = refl
length-entries_from gap least (v ∷ vs) = ap suc (length-entries_from gap (v + gap) vs)

-- no entry is above its value
pub entries_from-le : (gap least : ℕ) (vs : List ℕ) (k : ℕ) → get_or (entries_from gap least vs) k 0 ≤ get_or vs k 0
entries_from-le gap least [] k = omega arith
entries_from-le gap least (v ∷ vs) zero = omega arith
entries_from-le gap least (v ∷ vs) (suc k) = entries_from-le gap (v + gap) vs k

less_one-le : (vs : List ℕ) (k : ℕ) → get_or (unsorted_entries true vs) k 0 ≤ get_or vs k 0
less_one-le [] k = omega arith
less_one-le (v ∷ vs) zero = omega arith
less_one-le (v ∷ vs) (suc k) = less_one-le vs k

less_one-back : (vs : List ℕ) → ((k : ℕ) → k < length vs → 0 < get_or vs k 0) → unsorted_values true (unsorted_entries true vs) ≡ vs
less_one-back [] h = refl
less_one-back (v ∷ vs) h =
    let above = h 0 (omega arith) in
    let value : v - 1 + 1 ≡ v = omega arith in
    rw (value, less_one-back vs (λ k within. h (suc k) (omega arith))) refl

all_fit : (vs : List ℕ) → ((k : ℕ) → k < length vs → get_or vs k 0 < 2 ^ 32) → fit_u32 vs ≡ true
all_fit [] h = refl
all_fit (v ∷ vs) h = rw (lt-ltb v 4294967296 (h 0 (omega arith))) (all_fit vs (λ k within. h (suc k) (omega arith)))

-- a block of entries of 32 bits, packed in the least width, whatever follows
pub block_at-packed : (values : List ℕ → List ℕ) (es vs rest : List ℕ) → length es ≡ 128 → ((k : ℕ) → k < 128 → get_or es k 0 < 2 ^ 32) → values es ≡ vs → IsBlock vs
    → block_at values (least_width es) (packed (least_width es) es ++ rest) ≡ Some (vs, rest)
block_at-packed values es vs rest many fits same block =
    let w = least_width es in
    let narrow : least_width es ≤ 32 = least_width-least es 32 (λ k within. fits k (omega arith)) in
    let wide : (k : ℕ) → k < 128 → get_or es k 0 < 2 ^ least_width es =
    λ k within. least_width-fits es (λ j small. let fit = fits j (omega arith) in omega arith) k (omega arith)
    in
    let size = length-packed (least_width es) es in
    let enough : 16 * least_width es ≤ length (packed (least_width es) es ++ rest) = omega (arith, length-append (packed (least_width es) es) rest) in
    let back : unpacked (least_width es) (packed (least_width es) es ++ rest) ≡ es =
    unpacked-append (least_width es) (packed (least_width es) es) rest size ∙ unpacked-packed (least_width es) es many wide
    in
    let full = block.many in
    let fit = all_fit vs (λ k within. block.fit k (omega arith)) in
    rw (le-leb (least_width es) 32 narrow, le-leb (16 * least_width es) (length (packed (least_width es) es ++ rest)) enough, back, same, fit, drop_at (packed (least_width es) es) rest (16 * least_width es) size) refl

spaced_cases : (offset : ℕ) (vs : List ℕ) (b : Bool) → eqb offset 0 ≡ b → AscendsAfter offset vs → AreSpaced 1 (cond b 0 (offset + 1)) vs
spaced_cases offset vs true e h = record { first = λ some. omega arith; others = λ k within. let next = rw add-one at (h.ascending k (omega arith)) in omega arith }
spaced_cases offset vs false e h =
    let apart : offset ≢ 0 = λ none. absurd (false_true (sym e ∙ ap (λ (n : ℕ). eqb n 0) none)) in
    record { first = λ some. let after = h.after (omega arith) in omega arith; others = λ k within. let next = rw add-one at (h.ascending k (omega arith)) in omega arith }
  where
    false_true : false ≡ true → ⊥
    false_true e = cc

pub reads_sorted_blocks : ReadsSortedBlocks
unfolding sorted_block_at
reads_sorted_blocks offset vs rest block ascends =
    let many = block.many in
    block_at-packed (sorted_values true offset) (sorted_entries true offset vs) vs rest (length-entries_from 1 (least_first true offset) vs ∙ many)
    (λ k within. let fit = block.fit k within in let below = entries_from-le 1 (least_first true offset) vs k in omega arith)
    (values_from-entries_from 1 (least_first true offset) vs (spaced_cases offset vs (eqb offset 0) refl ascends)) block

pub reads_unsorted_blocks : ReadsUnsortedBlocks
unfolding unsorted_block_at
reads_unsorted_blocks = (
  λ vs rest block. block_at-packed (unsorted_values false) vs vs rest block.many block.fit refl block,
  λ vs rest block positive.
      let many = block.many in
      block_at-packed (unsorted_values true) (unsorted_entries true vs) vs rest (length-map vs (λ (v : ℕ). v - 1) ∙ many)
      (λ k within. let fit = block.fit k within in let below = less_one-le vs k in omega arith)
      (less_one-back vs (λ k within. positive k (omega arith))) block,
)
