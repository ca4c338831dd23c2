use Rattle.std.proofs.Common.{◌+◌, arith}
use Rattle.ii_alive.proofs.StateLemmas.{ones_before, ones_more}
use Rattle.ii_alive.proofs.alive_bits.ones_in.Goals as goal

pub overflow_add-ones : goal.overflow_add-ones
overflow_add-ones c =
    let words = c.args.words.now in
    let i = c.loop-word.word-index in
    let more = ones_more words i c.loop-word-test.true (c.type_inv.words i).fits in
    omega (arith, more, ones_before words (i + 1), c.loop-word.invariant, c.requires)

pub loop-word-preserved : goal.loop-word-preserved
loop-word-preserved c =
    let words = c.args.words.now in
    let i = c.loop-word.word-index in
    let more = ones_more words i c.loop-word-test.true (c.type_inv.words i).fits in
    omega (arith, more, c.loop-word.invariant)
