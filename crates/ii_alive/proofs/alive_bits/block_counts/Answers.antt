use Rattle.std.proofs.Common.{ℕ, ◌+◌, ◌*◌, ◌≤◌, length, arith, ap, ◌∙◌}
use Rattle.std.proofs.lemmas.List.{length_push}
use Rattle.ii_alive.proofs.StateLemmas.{block_more, ones_before, pushed_count, split_words}
use Rattle.ii_alive.proofs.alive_bits.block_counts.Goals as goal

pub ones_in-living-requires : goal.ones_in-living-requires
ones_in-living-requires c =
    let words = c.args.words.now in
    let start = c.loop-block.block * 8 in
    let least : start ≤ c.min-end.result = omega (arith, c.min-end.ensures, c.loop-block-test.true, c.div_ceil-block-end.ensures) in
    omega (arith, split_words words start c.min-end.result least, ones_before words c.min-end.result, c.requires)

pub overflow_add-living : goal.overflow_add-living
overflow_add-living c =
    let words = c.args.words.now in
    let block = c.loop-block.block in
    let within : block * 8 ≤ length words = omega (arith, c.loop-block-test.true, c.div_ceil-block-end.ensures) in
    let more = block_more words block c.min-end.result c.loop-block.living c.ones_in-living.result c.min-end.ensures within c.loop-block.invariant.2 c.ones_in-living.ensures in
    omega (arith, more, ones_before words (8 * (block + 1)), c.requires)

pub loop-block-preserved : goal.loop-block-preserved
loop-block-preserved c =
    let words = c.args.words.now in
    let block = c.loop-block.block in
    let counts = c.loop-block.living_before.items in
    let known = c.loop-block.invariant in
    let within : block * 8 ≤ length words = omega (arith, c.loop-block-test.true, c.div_ceil-block-end.ensures) in
    let more = block_more words block c.min-end.result c.loop-block.living c.ones_in-living.result c.min-end.ensures within known.2 c.ones_in-living.ensures in
    let size = ap (λ (n : ℕ). n + 1) known.0 in
    rw c.in_ok-push.ensures.items (length_push counts c.loop-block.living ∙ size, pushed_count words counts block c.loop-block.living known.0 known.1 known.2, more)
