use Rattle.std.proofs.Common.{◌≡◌, ℕ, ◌-◌, List, take, drop, sym, ap, ◌∙◌, arith}
use Rattle.ii_layout.specs.PositionReader.{deltas_of}
use Rattle.ii_layout.specs.Written.{block_of}
use Rattle.ii_layout.proofs.PositionSums.{are_blocks, there_is, next_sum, large_sum, last_read, last_sum}
use Rattle.ii_layout.proofs.positions.blocks.PositionBlocks.has_small_sum.Goals as goal

cut : (from to : ℕ) (xs bytes : List ℕ) → xs ≡ bytes → take (to - from) (drop from xs) ≡ take (to - from) (drop from bytes)
cut from to xs bytes e = ap (λ (ys : List ℕ). take (to - from) (drop from ys)) e

after : (from : ℕ) (xs bytes : List ℕ) {ys : List ℕ} → xs ≡ bytes → ys ≡ drop from xs → ys ≡ drop from bytes
after from xs bytes e f = f ∙ ap (drop from) e

pub decode-requires-clause-valid : goal.decode-requires-clause-valid
decode-requires-clause-valid c =
    let i = c.self.inside in
    let blocks = are_blocks i.bytes _ _ i.anchors _ i.widths i.body i.stride i.block i.place i.rest_len c.self.invariant (cut i.widths i.body _ i.bytes c.as_slice-bytes.ensures) (after i.body _ i.bytes c.as_slice-bytes.ensures c.bytes_from-body.ensures) in
    there_is _ _ _ _ _ c.loop-block.block blocks (omega arith)

pub decode-requires-2-clause-valid : goal.decode-requires-2-clause-valid
decode-requires-2-clause-valid c =
    let i = c.self.inside in
    let blocks = are_blocks i.bytes _ _ i.anchors _ i.widths i.body i.stride i.block i.place i.rest_len c.self.invariant (cut i.widths i.body _ i.bytes c.as_slice-bytes.ensures) (after i.body _ i.bytes c.as_slice-bytes.ensures c.bytes_from-body.ensures) in
    there_is _ _ _ _ _ _ blocks (omega arith)

pub returns-then-sum-from-clause-small : goal.returns-then-sum-from-clause-small
returns-then-sum-from-clause-small c =
    let i = c.self.inside in
    let blocks = are_blocks i.bytes _ _ i.anchors _ i.widths i.body i.stride i.block i.place i.rest_len c.self.invariant (cut i.widths i.body _ i.bytes c.as_slice-bytes.ensures) (after i.body _ i.bytes c.as_slice-bytes.ensures c.bytes_from-body.ensures) in
    let sums = rw (← c.self.view_is) at c.loop-block.invariant.0 in
    rw (← c.self.view_is) (large_sum _ _ _ c.output_array.result.now _ _ c.loop-block.block c.loop-block.place c.loop-block.sum c.sum_of-sum.result blocks sums (omega arith) (rw (← c.output_array.ensures.values) at c.decode.ensures.held) c.sum_of-sum.ensures.sum (omega arith))

pub loop-block-preserved : goal.loop-block-preserved
loop-block-preserved c =
    let i = c.self.inside in
    let blocks = are_blocks i.bytes _ _ i.anchors _ i.widths i.body i.stride i.block i.place i.rest_len c.self.invariant (cut i.widths i.body _ i.bytes c.as_slice-bytes.ensures) (after i.body _ i.bytes c.as_slice-bytes.ensures c.bytes_from-body.ensures) in
    let sums = rw (← c.self.view_is) at c.loop-block.invariant.0 in
    let counted = c.loop-block.invariant.1 in (
      rw (← c.self.view_is)
          (next_sum _ _ _ c.output_array.result.now _ _ c.loop-block.block c.loop-block.place c.loop-block.sum c.sum_of-sum.result c.compressed_block_size-place.result blocks sums (omega arith) (rw (← c.output_array.ensures.values) at c.decode.ensures.held) c.sum_of-sum.ensures.sum (omega arith)
          (omega arith)),
      omega arith,
    )

pub returns-then-self-widths-clause-small : goal.returns-then-self-widths-clause-small
returns-then-self-widths-clause-small c =
    let i = c.self.inside in
    let blocks = are_blocks i.bytes _ _ i.anchors _ i.widths i.body i.stride i.block i.place i.rest_len c.self.invariant (cut i.widths i.body _ i.bytes c.as_slice-bytes.ensures) (after i.body _ i.bytes c.as_slice-bytes.ensures c.bytes_from-body.ensures) in
    let sums = rw (← c.self.view_is) at c.loop-block.invariant.0 in
    let over = c.loop-block-test.false in
    let most = c.loop-block.auto.block-end in
    let here = c.if-self-widths.true in
    let end : c.loop-block.block ≡ i.block = omega arith in
    let held = c.output_array-then-self-widths.ensures.values ∙ c.self.invariant.held_is ∙ ap (block_of (deltas_of i.bytes)) (sym end) in
    rw (← c.self.view_is) (last_sum _ _ c.output_array-then-self-widths.result.now _ _ c.loop-block.block c.loop-block.place c.loop-block.sum c.sum_of.result _ blocks.widths blocks.len blocks.few sums (omega arith) held c.sum_of.ensures.sum (omega arith))

pub returns-clause-small : goal.returns-clause-small
returns-clause-small c =
    let i = c.self.inside in
    let blocks = are_blocks i.bytes _ _ i.anchors _ i.widths i.body i.stride i.block i.place i.rest_len c.self.invariant (cut i.widths i.body _ i.bytes c.as_slice-bytes.ensures) (after i.body _ i.bytes c.as_slice-bytes.ensures c.bytes_from-body.ensures) in
    let sums = rw (← c.self.view_is) at c.loop-block.invariant.0 in
    let over = c.loop-block-test.false in
    let most = c.loop-block.auto.block-end in
    rw (← c.self.view_is) (last_read _ _ _ c.output_array-2.result.now _ _ c.loop-block.block c.loop-block.place c.loop-block.sum c.sum_of-2.result _ blocks sums (omega arith) (rw (← c.output_array-2.ensures.values) at c.decode-2.ensures.held) c.sum_of-2.ensures.sum (omega arith))
