use Rattle.std.proofs.Common.{◌≡◌, ◌-◌, arith, sym}
use Rattle.ii_termstore.proofs.ListLemmas.{all_more, not_all}
use Rattle.ii_termdict.proofs.key_parts.do_keys_ascend.Goals as goal

pub returns-then-not-is_key_below : goal.returns-then-not-is_key_below
returns-then-not-is_key_below c = sym (not_all _ (c.args.n - 1) c.loop-i.i (omega arith) (rw (← c.read_key.ensures, ← c.read_key-in-loop-i.ensures) (sym c.if-not-is_key_below.ensures)))

pub loop-i-preserved : goal.loop-i-preserved
loop-i-preserved c = all_more _ c.loop-i.i c.loop-i.invariant (rw (← c.read_key.ensures, ← c.read_key-in-loop-i.ensures) (sym c.if-not-is_key_below.ensures))

pub returns : goal.returns
returns c = let end : c.loop-i.i ≡ c.args.n - 1 = omega arith in sym (rw end at c.loop-i.invariant)
