use Rattle.std.proofs.Common.{◌≡◌, ◌-◌, arith, rules}
use Rattle.ii_query.proofs.SetLemmas.{set_short}
use Rattle.ii_query.proofs.bit_set.BitSetDocSetDocSet.size_hint.Goals as goal

pub returns-clause-enough : goal.returns-clause-enough
returns-clause-enough c =
    let left : c.saturating_sub.result ≡ c.args.self.now.end - c.args.self.now.next = search rules in
    let short = set_short c.args.self.now.docs c.args.self.now.next c.args.self.now.end in
    omega (arith, left, short)
