use Rattle.std.proofs.Common.{◌≡◌, arith}
use Rattle.ii_termdict.proofs.DictionaryLemmas.{falls, rise_more, rise_end}
use Rattle.ii_termdict.proofs.key_parts.do_ends_rise.Goals as goal

pub returns-then-read_start-read_end : goal.returns-then-read_start-read_end
returns-then-read_start-read_end c =
    falls c.args.n c.args.ends.now c.args.body.now c.loop-i.i (omega arith) (rw (← c.read_start.ensures, ← c.read_end.ensures) (omega arith))

pub loop-i-preserved : goal.loop-i-preserved
loop-i-preserved c = rise_more c.args.ends.now c.loop-i.i c.loop-i.invariant (rw (← c.read_start.ensures, ← c.read_end.ensures) (omega arith))

pub returns : goal.returns
returns c =
    let end : c.loop-i.i ≡ c.args.n = omega arith in
    rw c.read_start-2.ensures (rise_end c.args.n c.loop-i.i c.args.ends.now c.args.body.now end c.loop-i.invariant)
