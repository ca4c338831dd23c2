use Rattle.std.proofs.Common.{◌≡◌, ◌+◌, ◌-◌, ◌^◌, min, rules}
use Rattle.ii_query.proofs.HintLemmas.{either_hinted}
use Rattle.ii_query.proofs.union.UnionDocSet.size_hint.Goals as goal

pub returns-clause-enough : goal.returns-clause-enough
returns-clause-enough g c =
    let es = g.A.DocSet.rest c.args.self.now.first in
    let fs = g.B.DocSet.rest c.args.self.now.other in
    let sum : c.saturating_add.result ≡ min (c.size_hint.result + c.size_hint-2.result) (2 ^ 32 - 1) = search rules in
    either_hinted es fs c.size_hint.result c.size_hint-2.result c.saturating_add.result c.doc-doc.ensures.sound c.size_hint.ensures.enough c.size_hint-2.ensures.enough sum
