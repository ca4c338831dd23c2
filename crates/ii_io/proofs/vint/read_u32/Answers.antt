use Rattle.std.proofs.Common.{drop}
use Rattle.ii_io.proofs.VintLemmas.{u32_at-none, u32_at-some, u32_at-past}
use Rattle.ii_io.proofs.vint.read_u32.Goals as goal

pub returns-in_default-clause-value : goal.returns-in_default-clause-value
returns-in_default-clause-value c = u32_at-none c.args.bytes.now c.in_default.ensures.value

pub returns-in_default-try_from-clause-value : goal.returns-in_default-try_from-clause-value
returns-in_default-try_from-clause-value c = u32_at-past c.in-Some.number c.args.bytes.now (drop c.in-Some.used c.args.bytes.now) c.in_default-try_from.ensures c.in-Some.ensures.value

pub returns-clause-value : goal.returns-clause-value
returns-clause-value c = rw c.in-Ok.ensures.1 (u32_at-some c.in-Some.number c.args.bytes.now (drop c.in-Some.used c.args.bytes.now) c.in-Ok.ensures.0 c.in-Some.ensures.value)
