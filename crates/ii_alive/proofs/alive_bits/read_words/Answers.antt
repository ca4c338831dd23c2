use Rattle.std.proofs.Common.{ℕ, ◌+◌, ◌++◌, ◌∷◌, [], Bool, List, ap, ◌∙◌}
use Rattle.std.proofs.lemmas.List.{length_push}
use Rattle.std.proofs.lemmas.List.Concat.{flat_map-append}
use Rattle.ii_alive.specs.AliveBytes.{bits_of}
use Rattle.ii_alive.proofs.ReadLemmas.{word_read}
use Rattle.ii_alive.proofs.alive_bits.read_words.Goals as goal

pub loop-i-preserved : goal.loop-i-preserved
loop-i-preserved c =
    let words = c.loop-i.words.items in
    let word = c.read_u64.result in
    let known = c.loop-i.invariant in
    let more = word_read c.args.bytes.now c.loop-i.i word (λ k. (c.type_inv.bytes k).fits) c.loop-i-test.true c.read_u64.ensures in
    rw c.in_ok-push.ensures.items (
      length_push words word ∙ ap (λ (n : ℕ). n + 1) known.0,
      flat_map-append (bits_of 64) words (word ∷ []) ∙ ap (λ (l : List Bool). l ++ (bits_of 64 word ++ [])) known.1 ∙ more,
    )
