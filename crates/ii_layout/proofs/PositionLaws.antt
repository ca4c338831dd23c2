-- Written deltas of a term's positions read back as they are.
use Rattle.std.proofs.Common.{◌≡◌, ℕ, zero, suc, ◌+◌, ◌*◌, ◌/◌, ◌^◌, ◌<◌, ◌≤◌, false, List, [], ◌∷◌, ◌++◌, map, length, drop, get_or, Some, refl, sym, ap, ◌∙◌, arith, append_assoc, length-append}
use Rattle.std.proofs.lemmas.Bool.{le-leb, lt-ltb}
use Rattle.std.proofs.lemmas.List.{drop_at, take_at, take-append-drop, length-drop, get_or-drop}
use Rattle.std.proofs.lemmas.List.FromFn.{get_or-map-range_with_len, length-map-range_with_len, take-map-range_with_len, sum_by-map-range_with_len_more}
use Rattle.std.specs.List.{flat_map, range_with_len, concat, sum_by, AllByRecursion}
use Rattle.ii_io.specs.Vints.{vint_u32, vint_u64}
use Rattle.ii_io.specs.VintLemmas.{u32_at-vint_u32, u64_at-vint_u64}
use Rattle.ii_codes.specs.Blocks.{unsorted_width, unsorted_bytes, IsBlock}
use Rattle.ii_codes.specs.UnsortedVints.{u32s_until_end, unsorted_vints}
use Rattle.ii_codes.proofs.BlockLaws.{reads_unsorted_blocks}
use Rattle.ii_codes.proofs.PackedLaws.{length-packed}
use Rattle.ii_layout.specs.Each.{each}
use Rattle.ii_layout.specs.Positions.{PositionList, position_list, place_by_widths, block_deltas, rest_deltas, position_deltas, written_positions, ReadsPositionsBack}
use Rattle.ii_layout.specs.Written.{block_of}
use Rattle.ii_layout.proofs.BlockDocs.{get_or-block_of, length-block_of}
use Rattle.ii_codes.proofs.SortedVintLemmas.{until_end-some}
use Rattle.ii_layout.proofs.PackingLemmas.{flat_map-range}
use Rattle.ii_layout.proofs.PositionLemmas.{deltas_by_list}
use Rattle.ii_layout.proofs.ReadBackLemmas.{row_at, left_of, each-some, blocks_are, fit_by}
use Rattle.ii_layout.proofs.WrittenLaws.{vint_some}

-- vints that are read to the end
vints_read : (n : ℕ) (vs : List ℕ) → AllByRecursion (λ v. v < 2 ^ 32) vs → length vs ≤ n → u32s_until_end n (unsorted_vints vs) ≡ Some vs
vints_read zero [] fit few = refl
vints_read zero (v ∷ vs) fit few = absurd (omega arith)
vints_read (suc n) [] fit few = refl
vints_read (suc n) (v ∷ vs) fit few =
    let some = vint_some v in
    let first = u32_at-vint_u32 v (unsorted_vints vs) fit.0 in
    let others = vints_read n vs fit.1 (omega arith) in
    until_end-some n (vint_u32 v ++ unsorted_vints vs) (omega (arith, length-append (vint_u32 v) (unsorted_vints vs))) ∙ rw (first, others) refl

-- each of the values, by their places
pub fits_at : (vs : List ℕ) (k : ℕ) → AllByRecursion (λ v. v < 2 ^ 32) vs → k < length vs → get_or vs k 0 < 2 ^ 32
fits_at [] k fit h = absurd (omega arith)
fits_at (v ∷ vs) zero fit h = fit.0
fits_at (v ∷ vs) (suc k) fit h = fits_at vs k fit.1 (omega arith)

module _ (deltas : List ℕ) where
  abbrev bits : ℕ → ℕ
  bits i = unsorted_width false (block_of deltas i)

  abbrev bytes_of : ℕ → List ℕ
  bytes_of i = unsorted_bytes false (block_of deltas i)

  abbrev widths : ℕ → List ℕ
  widths n = map bits (range_with_len 0 n)

  abbrev blocks : ℕ → List ℕ
  blocks n = flat_map bytes_of (range_with_len 0 n)

  abbrev list_for : ℕ → List ℕ → PositionList
  list_for n after = record { widths = widths n; body = blocks n ++ after }

  sum_is : (i : ℕ) → 16 * sum_by (λ (w : ℕ). w) (widths i) ≡ length (blocks i)
  sum_is zero = refl
  sum_is (suc i) =
      let next : suc i ≡ i + 1 = omega arith in
      let here : 0 + i ≡ i = omega arith in
      let total = sum_by-map-range_with_len_more (λ (w : ℕ). w) bits 0 i i here in
      let sums = ap (λ (k : ℕ). sum_by (λ (w : ℕ). w) (map bits (range_with_len 0 k))) next in
      let size = length-packed (unsorted_width false (block_of deltas i)) (block_of deltas i) in
      let all = ap length (flat_map-range bytes_of i) in
      let ih = sum_is i in
      omega (arith, length-append (flat_map bytes_of (range_with_len 0 i)) (bytes_of i))

  place_is : (n i : ℕ) → i ≤ n → place_by_widths (widths n) i ≡ length (blocks i)
  place_is n i h = ap (λ (ws : List ℕ). 16 * sum_by (λ (w : ℕ). w) ws) (take-map-range_with_len bits 0 n i h) ∙ sum_is i

  module _ (fit : AllByRecursion (λ v. v < 2 ^ 32) deltas) where
    block_fits : (i : ℕ) → 128 * i + 128 ≤ length deltas → IsBlock (block_of deltas i)
    block_fits i whole = record {
      many = length-block_of deltas i whole;
      fit = λ k h. rw (get_or-block_of deltas i k h) (fits_at deltas (128 * i + k) fit (omega arith));
    }

    block_read : (after : List ℕ) (n i : ℕ) → 128 * n ≤ length deltas → i < n → block_deltas (list_for n after) i ≡ Some (block_of deltas i)
    block_read after n i whole within =
        let left = left_of i n within in
        let width : get_or (widths n) i 0 ≡ bits i = get_or-map-range_with_len bits 0 n i i 0 within (omega arith) in
        let all = ap (λ (k : ℕ). drop (place_by_widths (widths n) i) (flat_map bytes_of (range_with_len 0 k) ++ after)) left.1 in
        let place = all ∙ row_at bytes_of i left.0 (place_by_widths (widths n) i) after (place_is n i (omega arith)) in
        let read = reads_unsorted_blocks.0 (block_of deltas i) (flat_map bytes_of (range_with_len (i + 1) left.0) ++ after) (block_fits i (omega arith)) in
        rw (width, place, read) refl

    pub blocks_read : (after : List ℕ) (n : ℕ) → 128 * n ≤ length deltas → each (block_deltas (list_for n after)) (length (widths n)) ≡ Some (map (block_of deltas) (range_with_len 0 n))
    blocks_read after n whole =
        ap (each (block_deltas (list_for n after))) (length-map-range_with_len bits 0 n) ∙ each-some (block_deltas (list_for n after)) (block_of deltas) n (λ k within. block_read after n k whole within)

    rest_read : (n : ℕ) → n ≡ length deltas / 128 → rest_deltas (list_for n (unsorted_vints (drop (128 * n) deltas))) ≡ Some (drop (128 * n) deltas)
    rest_read n n_is =
        let many = length-map-range_with_len bits 0 n in
        let size = length-drop (128 * n) deltas in
        let place = drop_at (blocks n) (unsorted_vints (drop (128 * n) deltas)) (place_by_widths (widths n) (length (widths n))) (sym (ap (place_by_widths (widths n)) many ∙ place_is n n (omega arith))) in
        let rest_fits = fit_by (drop (128 * n) deltas) (λ k within. rw (get_or-drop (128 * n) deltas k 0) (fits_at deltas (128 * n + k) fit (omega arith))) in
        let read = vints_read 128 (drop (128 * n) deltas) rest_fits (omega arith) in
        let few = lt-ltb (length (drop (128 * n) deltas)) 128 (omega arith) in
        rw (place, read, few) refl

    list_read : (n : ℕ) (after : List ℕ) → n < 2 ^ 64 → position_list (vint_u64 n ++ widths n ++ blocks n ++ after) ≡ Some (list_for n after)
    list_read n after low =
        let many = length-map-range_with_len bits 0 n in
        let parted : vint_u64 n ++ widths n ++ blocks n ++ after ≡ vint_u64 n ++ (widths n ++ (blocks n ++ after)) = append_assoc (vint_u64 n ++ widths n) (blocks n) after ∙ append_assoc (vint_u64 n) (widths n) (blocks n ++ after) in
        let read = u64_at-vint_u64 n (widths n ++ (blocks n ++ after)) low in
        let enough = le-leb n (length (widths n ++ (blocks n ++ after))) (omega (arith, length-append (widths n) (blocks n ++ after))) in
        let front = take_at (widths n) (blocks n ++ after) n many in
        let rest = drop_at (widths n) (blocks n ++ after) n many in
        ap position_list parted ∙ rw (read, enough, front, rest) refl

    all_read : (n : ℕ) → n ≡ length deltas / 128 → n < 2 ^ 64 → position_deltas (written_positions deltas) ≡ Some deltas
    all_read n n_is low =
        let after = unsorted_vints (drop (128 * n) deltas) in
        let list : PositionList = list_for n after in
        let parts : written_positions deltas ≡ vint_u64 n ++ widths n ++ blocks n ++ unsorted_vints (drop (128 * n) deltas) = ap (λ (m : ℕ). vint_u64 m ++ widths m ++ blocks m ++ unsorted_vints (drop (128 * m) deltas)) (sym n_is) in
        let found = blocks_read (unsorted_vints (drop (128 * n) deltas)) n (omega arith) in
        let rest = rest_read n n_is in
        let together : concat (map (block_of deltas) (range_with_len 0 n)) ++ drop (128 * n) deltas ≡ deltas =
        ap (λ (xs : List ℕ). xs ++ drop (128 * n) deltas) (blocks_are deltas n) ∙ take-append-drop (128 * n) deltas
        in
        ap position_deltas parts ∙ deltas_by_list _ list (list_read n (unsorted_vints (drop (128 * n) deltas)) low) ∙ rw (found, rest, together) refl

pub reads_positions_back : ReadsPositionsBack
reads_positions_back deltas fit low = all_read deltas fit (length deltas / 128) refl low
