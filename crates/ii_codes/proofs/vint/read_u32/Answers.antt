use Rattle.std.proofs.Common.{arith}
use Rattle.ii_codes.proofs.SortedVintLemmas.{u32_at-nothing, u32_at-one, u32_at-two}
use Rattle.ii_codes.proofs.vint.read_u32.Goals as goal

pub returns-then-is_empty-clause-value : goal.returns-then-is_empty-clause-value
returns-then-is_empty-clause-value c = u32_at-nothing c.args.bytes.now (grind (arith, c.if-is_empty.ensures, c.if-is_empty.true))

pub returns-then-bytes-ge128-clause-value : goal.returns-then-bytes-ge128-clause-value
returns-then-bytes-ge128-clause-value c =
    u32_at-one c.args.bytes.now c.from.result (omega arith) (omega (arith, c.type_inv.bytes 0)) (omega arith)

pub returns-then-bytes-ge128-2-clause-value : goal.returns-then-bytes-ge128-2-clause-value
returns-then-bytes-ge128-2-clause-value c =
    u32_at-two c.args.bytes.now _ (omega arith) (omega arith) (omega (arith, c.type_inv.bytes 1)) (omega arith)
