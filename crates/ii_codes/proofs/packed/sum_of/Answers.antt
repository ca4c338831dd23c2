use Rattle.std.proofs.Common.{ap, ◌∙◌, arith}
use Rattle.std.specs.List.{sum}
use Rattle.std.proofs.lemmas.List.{take_all}
use Rattle.ii_codes.proofs.BlockLemmas.{not_raised}
use Rattle.ii_codes.proofs.SumLaneLemmas.{sum_none}
use Rattle.ii_codes.proofs.packed.sum_of.Goals as goal

pub returns-then-width-eq0-clause-value : goal.returns-then-width-eq0-clause-value
returns-then-width-eq0-clause-value c = sum_none c.args.width c.args.bytes.now c.if-width-eq0.true

pub returns-clause-value : goal.returns-clause-value
returns-clause-value c =
    let items = c.unpack.new.output in
    c.loop-entry.invariant.total ∙ ap sum (take_all c.loop-entry.entry-index items (omega arith)) ∙ ap sum (not_raised c.args.width c.args.bytes.now items c.loop-entry.invariant.entries)

pub returns-in-1-clause-value : goal.returns-in-1-clause-value
returns-in-1-clause-value c = rw c.in-1.is c.sum_narrow.ensures.value

pub returns-in-2-clause-value : goal.returns-in-2-clause-value
returns-in-2-clause-value c = rw c.in-2.is c.sum_narrow-in-2.ensures.value

pub returns-in-3-clause-value : goal.returns-in-3-clause-value
returns-in-3-clause-value c = rw c.in-3.is c.sum_narrow-in-3.ensures.value

pub returns-in-4-clause-value : goal.returns-in-4-clause-value
returns-in-4-clause-value c = rw c.in-4.is c.sum_narrow-in-4.ensures.value

pub returns-in-5-clause-value : goal.returns-in-5-clause-value
returns-in-5-clause-value c = rw c.in-5.is c.sum_narrow-in-5.ensures.value

pub returns-in-6-clause-value : goal.returns-in-6-clause-value
returns-in-6-clause-value c = rw c.in-6.is c.sum_narrow-in-6.ensures.value

pub returns-in-7-clause-value : goal.returns-in-7-clause-value
returns-in-7-clause-value c = rw c.in-7.is c.sum_narrow-in-7.ensures.value

pub returns-in-8-clause-value : goal.returns-in-8-clause-value
returns-in-8-clause-value c = rw c.in-8.is c.sum_narrow-in-8.ensures.value

pub returns-in-9-clause-value : goal.returns-in-9-clause-value
returns-in-9-clause-value c = rw c.in-9.is c.sum_narrow-in-9.ensures.value

pub returns-in-10-clause-value : goal.returns-in-10-clause-value
returns-in-10-clause-value c = rw c.in-10.is c.sum_wide.ensures.value

pub returns-in-11-clause-value : goal.returns-in-11-clause-value
returns-in-11-clause-value c = rw c.in-11.is c.sum_wide-in-11.ensures.value

pub returns-in-12-clause-value : goal.returns-in-12-clause-value
returns-in-12-clause-value c = rw c.in-12.is c.sum_wide-in-12.ensures.value

pub returns-in-13-clause-value : goal.returns-in-13-clause-value
returns-in-13-clause-value c = rw c.in-13.is c.sum_wide-in-13.ensures.value

pub returns-in-14-clause-value : goal.returns-in-14-clause-value
returns-in-14-clause-value c = rw c.in-14.is c.sum_wide-in-14.ensures.value

pub returns-in-15-clause-value : goal.returns-in-15-clause-value
returns-in-15-clause-value c = rw c.in-15.is c.sum_wide-in-15.ensures.value

pub returns-in-16-clause-value : goal.returns-in-16-clause-value
returns-in-16-clause-value c = rw c.in-16.is c.sum_wide-in-16.ensures.value

pub returns-in-17-clause-value : goal.returns-in-17-clause-value
returns-in-17-clause-value c = rw c.in-17.is c.sum_wide-in-17.ensures.value

pub returns-in-18-clause-value : goal.returns-in-18-clause-value
returns-in-18-clause-value c = rw c.in-18.is c.sum_wide-in-18.ensures.value

pub returns-in-19-clause-value : goal.returns-in-19-clause-value
returns-in-19-clause-value c = rw c.in-19.is c.sum_wide-in-19.ensures.value

pub returns-in-20-clause-value : goal.returns-in-20-clause-value
returns-in-20-clause-value c = rw c.in-20.is c.sum_wide-in-20.ensures.value

pub returns-in-21-clause-value : goal.returns-in-21-clause-value
returns-in-21-clause-value c = rw c.in-21.is c.sum_wide-in-21.ensures.value

pub returns-in-22-clause-value : goal.returns-in-22-clause-value
returns-in-22-clause-value c = rw c.in-22.is c.sum_wide-in-22.ensures.value

pub returns-in-23-clause-value : goal.returns-in-23-clause-value
returns-in-23-clause-value c = rw c.in-23.is c.sum_wide-in-23.ensures.value

pub returns-in-24-clause-value : goal.returns-in-24-clause-value
returns-in-24-clause-value c = rw c.in-24.is c.sum_wide-in-24.ensures.value

pub returns-in-25-clause-value : goal.returns-in-25-clause-value
returns-in-25-clause-value c = rw c.in-25.is c.sum_wide-in-25.ensures.value
