use Rattle.std.proofs.Common.{◌≡◌, ◌+◌, ◌-◌, ◌^◌, ◌<◌, get_or, length, min, rules}
use Rattle.ii_query.proofs.HintLemmas.{hinted_next, hints_end, hints_next, union_hinted}
use Rattle.ii_query.proofs.query_cursor.bound_over.Goals as goal

pub loop-i-preserved : goal.loop-i-preserved
loop-i-preserved g c =
    let l = c.loop-i in
    let cs = c.args.parts.now.items in
    let x = c.index.result.now in
    let inside : l.i < length cs = search rules in
    let is : x ≡ get_or cs l.i x = search rules in
    let added : c.saturating_add-sum.result ≡ min (l.sum + x.hint) (2 ^ 32 - 1) = search rules in
    record {
      sum = hints_next l.i l.sum c.saturating_add-sum.result cs x inside is l.invariant.sum added;
      hinted = hinted_next l.i cs x inside is (record { sound = c.bound.ensures.sound; enough = search rules }) l.invariant.hinted;
    }

pub returns-clause-sum : goal.returns-clause-sum
returns-clause-sum g c =
    let ended : c.loop-i.i ≡ length c.args.parts.now.items = search rules in
    hints_end c.args.parts.now.items c.loop-i.i c.loop-i.sum ended c.loop-i.invariant.sum

pub returns-clause-enough : goal.returns-clause-enough
returns-clause-enough g c =
    let ended : c.loop-i.i ≡ length c.args.parts.now.items = search rules in
    union_hinted c.args.parts.now.items c.loop-i.i c.loop-i.sum ended c.loop-i.invariant.hinted c.loop-i.invariant.sum
