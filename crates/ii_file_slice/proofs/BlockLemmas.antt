-- The blocks of a file that are kept in memory.
use Rattle.std.proofs.Common.{◌≡◌, ◌∙◌, ℕ, ◌+◌, ◌-◌, ◌≤◌, List, drop, length, take, ap, subst, sym, arith}
use Rattle.std.specs.List.{slice_range}
use Rattle.ii_file_slice.specs.declared.block_cache.CachedBlock.{CachedBlock}
use Rattle.ii_file_slice.specs.BlockCache.{IsBlockOf}
use Rattle.ii_file_slice.proofs.SliceLemmas.{range_of_range}

-- what is read of a block, as read of its file
pub read_of_block : (start len skipped n : ℕ) (bs block read : List ℕ) → block ≡ take len (drop start bs) → skipped + n ≤ len → read ≡ slice_range block skipped (skipped + n) → read ≡ take n (drop (start + skipped) bs)
read_of_block start len skipped n bs block read block_is fits read_is =
    let long : skipped + n - skipped ≡ n = omega arith in
    read_is ∙ ap (λ (k : ℕ). take k (drop skipped block)) long ∙ ap (λ (xs : List ℕ). take n (drop skipped xs)) block_is ∙ sym (range_of_range start len skipped n bs fits)

-- what is read of a kept block, as read of its file
pub read_of_kept : (start skipped n : ℕ) (bs read : List ℕ) (kept block : CachedBlock) → IsBlockOf bs block → kept ≡ block → kept.start ≡ start → skipped + n ≤ length kept.bytes → read ≡ slice_range kept.bytes skipped (skipped + n)
    → read ≡ take n (drop (start + skipped) bs)
read_of_kept start skipped n bs read kept block block_is same start_is fits read_is =
    let kept_is : IsBlockOf bs kept = subst (IsBlockOf bs) (sym same) block_is in
    let there : kept.bytes ≡ take (length kept.bytes) (drop start bs) = kept_is ∙ ap (λ (s : ℕ). take (length kept.bytes) (drop s bs)) start_is in
    read_of_block start (length kept.bytes) skipped n bs kept.bytes read there fits read_is
