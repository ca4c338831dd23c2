use Rattle.std.proofs.Common.{◌≡◌, ◌+◌, arith, sym}
use Rattle.ii_fieldnorm.proofs.NormLemmas.{norm-zero, id_of_norm-found, is_greatest}
use Rattle.ii_fieldnorm.proofs.code.fieldnorm_to_id.Goals as goal

pub loop-high-init : goal.loop-high-init
loop-high-init c = record { order = omega arith; within = omega arith; low = rw norm-zero (omega arith); high = λ below. absurd (omega arith) }

pub returns-clause-id : goal.returns-clause-id
returns-clause-id c =
    let known = c.loop-high.invariant in
    let next : c.loop-high.high ≡ c.loop-high.low + 1 = omega arith in
    sym (id_of_norm-found c.args.fieldnorm c.loop-high.low (omega arith) known.low (rw next at known.high))

pub returns-clause-greatest : goal.returns-clause-greatest
returns-clause-greatest c =
    let known = c.loop-high.invariant in
    let next : c.loop-high.high ≡ c.loop-high.low + 1 = omega arith in
    is_greatest c.args.fieldnorm c.loop-high.low (omega arith) known.low (rw next at known.high)
