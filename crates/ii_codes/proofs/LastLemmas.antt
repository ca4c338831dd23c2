-- The last value of a sorted block, from the sum of its entries.
use Rattle.std.proofs.Common.{◌≡◌, ℕ, ◌+◌, ◌*◌, ◌^◌, ◌<◌, ◌≤◌, Bool, List, length, get_or, nat_lt, Option, Some, None, refl, sym, ap, ◌∙◌}
use Rattle.std.proofs.lemmas.Bool.{lt-ltb, le-ltb}
use Rattle.std.specs.List.{sum}
use Rattle.std.specs.Option.{option_map}
use Rattle.ii_codes.specs.Packed.{unpacked}
use Rattle.ii_codes.specs.Blocks.{gap_of, least_first, values_from, sorted_block_at}
use Rattle.ii_codes.proofs.PackedLaws.{length-unpacked}
use Rattle.ii_codes.proofs.BlockLemmas.{sorted-wide, sorted-short, sorted-unfit, sorted-found}
use Rattle.ii_codes.proofs.PrefixLemmas.{last_fits, last_value}

abbrev last_of : Bool → ℕ → ℕ → List ℕ → Option ℕ
last_of strict offset w bytes = option_map (λ (block : List ℕ × List ℕ). get_or block.0 127 0) (sorted_block_at strict offset w bytes)

pub last-wide : (strict : Bool) (offset w : ℕ) (bytes : List ℕ) → 32 < w → None ≡ last_of strict offset w bytes
last-wide strict offset w bytes wide = rw (← sorted-wide strict offset w bytes wide) refl

pub last-short : (strict : Bool) (offset w : ℕ) (bytes : List ℕ) → w ≤ 32 → length bytes < 16 * w → None ≡ last_of strict offset w bytes
last-short strict offset w bytes narrow short = rw (← sorted-short strict offset w bytes narrow short) refl

-- What a reader of the sum knows, as it names its parts.
pub record IsSummed (strict : Bool) (offset w gap least s : ℕ) (bytes : List ℕ) : Type 0 where
  pub narrow : w ≤ 32
  pub enough : 16 * w ≤ length bytes
  pub step : gap ≡ gap_of strict
  pub first : least ≡ least_first strict offset
  pub total : s ≡ sum (unpacked w bytes)

pub last-found : (strict : Bool) (offset w gap least s x : ℕ) (bytes : List ℕ) → IsSummed strict offset w gap least s bytes → x ≡ least + s + 127 * gap → x < 2 ^ 32 → Some x ≡ last_of strict offset w bytes
last-found strict offset w gap least s x bytes h e small =
    let many = length-unpacked w bytes in
    let value : x ≡ least + sum (unpacked w bytes) + 127 * gap = e ∙ ap (λ (t : ℕ). least + t + 127 * gap) h.total in
    let fits = last_fits gap least (unpacked w bytes) many ∙ ap (λ (t : ℕ). nat_lt t (2 ^ 32)) (sym value) ∙ lt-ltb x 4294967296 small in
    let block = sorted-found strict offset w gap least (16 * w) bytes (values_from gap least (unpacked w bytes)) h.narrow h.enough refl h.step h.first (sym fits) refl in
    rw (← block) (ap (λ (t : ℕ). Some t) (value ∙ sym (last_value gap least (unpacked w bytes) many)))

pub last-past : (strict : Bool) (offset w gap least s x : ℕ) (bytes : List ℕ) → IsSummed strict offset w gap least s bytes → x ≡ least + s + 127 * gap → 2 ^ 32 ≤ x → None ≡ last_of strict offset w bytes
last-past strict offset w gap least s x bytes h e past =
    let many = length-unpacked w bytes in
    let value : x ≡ least + sum (unpacked w bytes) + 127 * gap = e ∙ ap (λ (t : ℕ). least + t + 127 * gap) h.total in
    let unfit = last_fits gap least (unpacked w bytes) many ∙ ap (λ (t : ℕ). nat_lt t (2 ^ 32)) (sym value) ∙ le-ltb x 4294967296 past in
    let block = sorted-unfit strict offset w gap least bytes (unpacked w bytes) h.narrow h.enough refl h.step h.first (sym unfit) in
    rw (← block) refl
