use Rattle.std.proofs.Common.{◌∙◌, arith, ap, get_or, take}
use Rattle.std.proofs.lemmas.List.{take_more, take_all}
use Rattle.ii_codes.specs.Packed.{least_width}
use Rattle.ii_codes.proofs.WidthLemmas.{least_width-fits, least_width-push, num_bits-or, num_bits-least, num_bits-leading_of}
use Rattle.ii_codes.proofs.packed.least_width_of.Goals as goal

pub loop-entry-init : goal.loop-entry-init
loop-entry-init c = omega (arith, num_bits-least 0 0 (omega arith))

pub loop-entry-preserved : goal.loop-entry-preserved
loop-entry-preserved c =
    let entry = get_or c.args.entries.now c.loop-entry.entry-index 0 in
    let push = least_width-push (take c.loop-entry.entry-index c.args.entries.now) (get_or c.args.entries.now c.loop-entry.entry-index 0) in
    let both = num_bits-or c.loop-entry.all (get_or c.args.entries.now c.loop-entry.entry-index 0) (omega arith) (omega (arith, c.type_inv.entries c.loop-entry.entry-index)) in
    rw (take_more c.args.entries.now c.loop-entry.entry-index 0 c.loop-entry-test.true, push, ← c.loop-entry.invariant) both

pub returns-clause-value : goal.returns-clause-value
returns-clause-value c =
    let bits = num_bits-leading_of 32 c.loop-entry.all (omega arith) (omega arith) in
    bits ∙ c.loop-entry.invariant ∙ ap least_width (take_all c.loop-entry.entry-index c.args.entries.now (omega arith))

pub returns-clause-fits : goal.returns-clause-fits
returns-clause-fits c k within =
    let bits = num_bits-leading_of 32 c.loop-entry.all (omega arith) (omega arith) in
    let width = bits ∙ c.loop-entry.invariant ∙ ap least_width (take_all c.loop-entry.entry-index c.args.entries.now (omega arith)) in
    rw width (least_width-fits c.args.entries.now (λ j inside. omega (arith, c.type_inv.entries j)) k within)
