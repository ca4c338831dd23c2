use Rattle.std.proofs.Common.{◌≡◌, ◌-◌, arith, rules}
use Rattle.ii_query.proofs.HintLemmas.{all_long}
use Rattle.ii_query.proofs.all_docs.AllDocsDocSet.size_hint.Goals as goal

pub returns-clause-enough : goal.returns-clause-enough
returns-clause-enough c =
    let left : c.saturating_sub.result ≡ c.args.self.now.end - c.args.self.now.next = search rules in
    let long = all_long c.args.self.now.next (c.args.self.now.end - c.args.self.now.next) in
    omega (arith, left, long)
