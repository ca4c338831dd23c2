use Rattle.std.proofs.Common.{arith}
use Rattle.ii_bm25.specs.Bm25.{bm25_share}
use Rattle.ii_bm25.proofs.ScoreLemmas.{share_bounds}
use Rattle.ii_bm25.proofs.bm25.Bm25Weight.score_of_share.Goals as goal

pub returns-clause-bounds : goal.returns-clause-bounds
returns-clause-bounds c = λ id count low. rw (← c.self.view_is)
    (let most = share_bounds c.self.inside.weight c.from.result (bm25_share (record { weight = c.self.inside.weight; lengths = c.self.inside.lengths.items }) id count) c.args.share c.from.ensures (rw (← c.self.view_is) at low) in omega (arith, most))
