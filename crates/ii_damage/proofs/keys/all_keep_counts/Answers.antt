use Rattle.std.proofs.Common.{◌≡◌, ◌<◌, length, true, false, rules}
use Rattle.ii_damage.specs.Damages.{keeps_counts}
use Rattle.ii_damage.proofs.KeyLemmas.{asking_next, asking_stops}
use Rattle.ii_damage.proofs.keys.all_keep_counts.Goals as goal

pub returns-then-not-keeps_counts : goal.returns-then-not-keeps_counts
returns-then-not-keeps_counts c =
    let other : keeps_counts c.args.entry.now c.in-Some.key.now ≡ false = search rules in
    asking_stops c.args.entry.now c.args.reader.now c.loop-ord.terms c.loop-ord._ord c.in-Some.key.now c.in-Some.ensures.key other c.loop-ord.invariant

pub loop-ord-preserved : goal.loop-ord-preserved
loop-ord-preserved c =
    let low : c.loop-ord._ord < length c.args.reader.now.terms = search rules in
    let kept : keeps_counts c.args.entry.now c.in-Some.key.now ≡ true = search rules in
    asking_next c.args.entry.now c.args.reader.now c.loop-ord.terms c.next.new.self c.loop-ord._ord c.in-Some.key.now low c.in-Some.ensures.key c.in-Some.ensures.passed kept c.loop-ord.invariant
