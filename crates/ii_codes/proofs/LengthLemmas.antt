-- The number of values that are read.
use Rattle.std.proofs.Common.{◌≡◌, ℕ, zero, suc, ◌+◌, ◌*◌, Bool, List, [], ◌∷◌, length, Some, nat_le, refl, sym, ap, ◌∙◌}
use Rattle.ii_io.specs.Steps.{needs}
use Rattle.ii_io.specs.StepLemmas.{step-some, some-same}
use Rattle.ii_io.specs.Vints.{u32_at, u32s_at}
use Rattle.ii_codes.specs.Packed.{unpacked}
use Rattle.ii_codes.specs.Blocks.{sorted_block_at, sorted_values, values_from, gap_of, least_first}
use Rattle.ii_codes.specs.Sums.{fit_u32, running_sums}
use Rattle.ii_codes.specs.SortedVints.{sorted_vints_at}
use Rattle.ii_codes.proofs.PackedLemmas.{length-entries_in}

-- a block has 128 values
pub length-values_from : (gap least : ℕ) (es : List ℕ) → length (values_from gap least es) ≡ length es
length-values_from gap least [] = refl
length-values_from gap least (e ∷ es) = ap suc (length-values_from gap (least + e + gap) es)

pub length-sorted_block_at : (strict : Bool) (offset w : ℕ) (bytes vs rest : List ℕ) → sorted_block_at strict offset w bytes ≡ Some (vs, rest) → length vs ≡ 128
unfolding sorted_block_at unpacked
length-sorted_block_at strict offset w bytes vs rest e =
    let first = step-some (needs (nat_le w 32)) _ (vs, rest) e in
    let second = step-some (needs (nat_le (16 * w) (length bytes))) _ (vs, rest) first.2 in
    let third = step-some (needs (fit_u32 (sorted_values strict offset (unpacked w bytes)))) _ (vs, rest) second.2 in
    let found = ap (λ (p : List ℕ × List ℕ). length p.0) (some-same third.2) in
    sym found ∙ length-values_from (gap_of strict) (least_first strict offset) (unpacked w bytes) ∙ length-entries_in 8 w 128 bytes

-- as many vints as are asked for
length-u32s_at : (n : ℕ) (bytes vs rest : List ℕ) → u32s_at n bytes ≡ Some (vs, rest) → length vs ≡ n
length-u32s_at zero bytes vs rest e = sym (ap (λ (p : List ℕ × List ℕ). length p.0) (some-same e))
length-u32s_at (suc n) bytes vs rest e =
    let first = step-some (u32_at bytes) _ (vs, rest) e in
    let others = step-some (u32s_at n first.0.1) _ (vs, rest) first.2 in
    sym (ap (λ (p : List ℕ × List ℕ). length p.0) (some-same others.2)) ∙ ap suc (length-u32s_at n first.0.1 others.0.0 others.0.1 others.1)

pub length-running_sums : (before : ℕ) (ds : List ℕ) → length (running_sums before ds) ≡ length ds
length-running_sums before [] = refl
length-running_sums before (d ∷ ds) = ap suc (length-running_sums (before + d) ds)

pub length-sorted_vints_at : (offset n : ℕ) (bytes vs rest : List ℕ) → sorted_vints_at offset n bytes ≡ Some (vs, rest) → length vs ≡ n
length-sorted_vints_at offset n bytes vs rest e =
    let found = step-some (u32s_at n bytes) _ (vs, rest) e in
    let fits = step-some (needs (fit_u32 (running_sums offset found.0.0))) _ (vs, rest) found.2 in
    sym (ap (λ (p : List ℕ × List ℕ). length p.0) (some-same fits.2)) ∙ length-running_sums offset found.0.0 ∙ length-u32s_at n bytes found.0.0 found.0.1 found.1
