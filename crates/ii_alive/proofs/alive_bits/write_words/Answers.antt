use Rattle.std.proofs.Common.{◌+◌, ◌++◌, ℕ, List, get_or, take, drop, subst}
use Rattle.std.specs.List.{flat_map}
use Rattle.ii_io.specs.CountingWriter.{Writes}
use Rattle.ii_io.specs.Numbers.{le_bytes}
use Rattle.ii_io.proofs.WriteSteps.{writes_refused_by, writes_then}
use Rattle.ii_alive.proofs.StateLemmas.{words_around}
use Rattle.ii_alive.proofs.alive_bits.write_words.Goals as goal

pub returns-then-is_err : goal.returns-then-is_err
returns-then-is_err g c =
    let words = c.args.words.now in
    let i = c.loop-word.word-index in
    let word = le_bytes 8 (get_or words i 0) in
    let rest = flat_map (le_bytes 8) (drop (i + 1) words) in
    let refused = writes_refused_by c.loop-word.writer c.serialize-written.new.writer word rest c.serialize-written.result c.if-is_err.ensures.value c.serialize-written.ensures.written in
    subst (λ (bytes : List ℕ). Writes c.args.writer.now c.serialize-written.new.writer bytes c.serialize-written.result) (words_around words i c.loop-word-test.true)
    (writes_then c.args.writer.now c.loop-word.writer c.serialize-written.new.writer (flat_map (le_bytes 8) (take i words)) (word ++ rest) c.serialize-written.result c.loop-word.invariant refused)
