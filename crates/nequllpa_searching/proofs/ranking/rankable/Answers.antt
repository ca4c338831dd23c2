use Rattle.std.proofs.Common.{◌∙◌, ap}
use Rattle.nequllpa_searching.specs.OpenedNumbers.{may_rank}
use Rattle.nequllpa_searching.proofs.RankingLemmas.{ranked_first, ranked_may}
use Rattle.nequllpa_searching.proofs.ranking.rankable.Goals as goal

pub returns-clause-ranked : goal.returns-clause-ranked
returns-clause-ranked c = ranked_first c.args.query.now c.args.segments.now c.split_at.result.0.now c.num_rankable.result c.split_at.ensures.front c.num_rankable.ensures

pub returns-clause-may : goal.returns-clause-may
returns-clause-may c =
    ap (may_rank c.args.query.now) (ranked_first c.args.query.now c.args.segments.now c.split_at.result.0.now c.num_rankable.result c.split_at.ensures.front c.num_rankable.ensures) ∙ ranked_may c.args.query.now c.args.segments.now
