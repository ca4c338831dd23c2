use Rattle.std.proofs.Common.{◌+◌, ◌-◌, ◌/◌, arith, sym}
use Rattle.ii_termdict.proofs.SearchLemmas.{below_greater, above_less, found_equal, none_equal}
use Rattle.ii_termdict.proofs.key_parts.find.Goals as goal

pub loop-low-preserved-in-Less : goal.loop-low-preserved-in-Less
loop-low-preserved-in-Less c =
    let known = c.loop-low.invariant in
    record {
      order = omega arith;
      within = omega arith;
      below = known.below;
      above = λ j h w. above_less c.args.n c.args.ends.now c.args.body.now c.args.key.now (c.loop-low.low + (c.loop-low.high - c.loop-low.low) / 2) j c.requires.ascend (rw (← c.read_key.ensures) (sym c.in-Less.ensures)) h w;
    }

pub returns-in-Equal-clause-found : goal.returns-in-Equal-clause-found
returns-in-Equal-clause-found c = rw (← c.read_key.ensures) (found_equal c.args.key.now c.read_key.result.now (sym c.in-Equal.ensures))

pub loop-low-preserved : goal.loop-low-preserved
loop-low-preserved c =
    let known = c.loop-low.invariant in
    record {
      order = omega arith;
      within = omega arith;
      below = λ j h. below_greater c.args.n c.args.ends.now c.args.body.now c.args.key.now (c.loop-low.low + (c.loop-low.high - c.loop-low.low) / 2) j c.requires.ascend (omega arith) (rw (← c.read_key.ensures) (sym c.in-Greater.ensures)) h;
      above = known.above;
    }

pub returns-clause-none : goal.returns-clause-none
returns-clause-none c =
    none_equal c.args.n c.loop-low.low c.args.ends.now c.args.body.now c.args.key.now c.loop-low.invariant.below (λ j above within. c.loop-low.invariant.above j (omega arith) within)
