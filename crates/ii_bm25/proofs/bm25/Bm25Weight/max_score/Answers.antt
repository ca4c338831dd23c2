use Rattle.std.proofs.Common.{arith}
use Rattle.ii_bm25.proofs.LengthLemmas.{never_above}
use Rattle.ii_bm25.proofs.bm25.Bm25Weight.max_score.Goals as goal

pub returns-clause-bounds : goal.returns-clause-bounds
returns-clause-bounds c = λ id count. rw (← c.self.view_is) (let most = never_above (record { weight = c.self.inside.weight; lengths = c.self.inside.lengths.items }) c.self.invariant id count in omega (arith, most, c.from.ensures, c.from.type_inv))
