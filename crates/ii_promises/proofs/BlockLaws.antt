-- Which blocks a cursor decoded, as it was reported and as it is promised.
use Rattle.std.proofs.Common.{◌≡◌, ◌∙◌, ℕ, ◌+◌, ◌-◌, ◌<◌, ◌≤◌, List, ◌++◌, length, get_or, take, ap, arith}
use Rattle.std.proofs.Math.Seq.{get_or-append_right, take-append_seam}
use Rattle.std.proofs.lemmas.List.{length-append}
use Rattle.ii_check.specs.DecodedBlocks.{AreDecoded, DecodesAllowed, DecodesLater}
use Rattle.ii_check.proofs.DecodedBlocksLaws.{all_at, ascend_bounds, ascend_strictly}
use Rattle.ii_promises.specs.DecodedBlocks.{DecodesNoneTwice, HasDecodedOnce}

-- a block that was added
added_at : (blocks blocks' added : List ℕ) (i : ℕ) → blocks' ≡ blocks ++ added → length blocks ≤ i → get_or blocks' i 0 ≡ get_or added (i - length blocks) 0
added_at blocks blocks' added i are later = ap (λ (l : List ℕ). get_or l i 0) are ∙ get_or-append_right blocks added i 0 later

pub decoded_once : (block decodes : ℕ) (blocks : List ℕ) → AreDecoded block decodes blocks → HasDecodedOnce block blocks
decoded_once block decodes blocks d =
    record { once = λ i j order inside. ascend_strictly 0 block blocks i j d.ascend order inside; within = λ i inside. (ascend_bounds 0 block blocks i d.ascend inside).1 }

pub each_once : (old new : ℕ) (blocks blocks' : List ℕ) → DecodesLater old new blocks blocks' → DecodesNoneTwice old new blocks blocks'
each_once old new blocks blocks' d =
    let size = ap length d.are ∙ length-append blocks d.added in
    record {
      kept = ap (take (length blocks)) d.are ∙ take-append_seam blocks d.added;
      between = λ i later inside.
          let here = added_at blocks blocks' d.added i d.are later in
          let bounds = ascend_bounds (old + 1) new d.added (i - length blocks) d.ascend (omega (arith, size, later, inside)) in
          let low = bounds.0 in
          let high = bounds.1 in
          (omega (arith, here, low), omega (arith, here, high));
      once = λ i j later order inside.
          let here = added_at blocks blocks' d.added i d.are later in
          let there = added_at blocks blocks' d.added j d.are (omega (arith, later, order)) in
          let less = ascend_strictly (old + 1) new d.added (i - length blocks) (j - length blocks) d.ascend (omega (arith, later, order)) (omega (arith, size, later, order, inside)) in
          omega (arith, here, there, less);
    }

-- each block that was added is allowed
pub only_allowed : (P : ℕ → Type 0) (old new : ℕ) (blocks blocks' : List ℕ) → DecodesAllowed P old new blocks blocks' → (i : ℕ) → length blocks ≤ i → i < length blocks' → P (get_or blocks' i 0)
only_allowed P old new blocks blocks' d i later inside =
    let size = ap length d.later.are ∙ length-append blocks d.later.added in
    let here = added_at blocks blocks' d.later.added i d.later.are later in
    rw here (all_at P d.later.added (i - length blocks) d.only (omega (arith, size, later, inside)))
