use Rattle.std.proofs.Common.{◌+◌, ◌++◌, ℕ, List, OnOk, Option, None, ap, arith, if◌then◌else◌, length, subst}
use Rattle.ii_alive.specs.Alive.{rank}
use Rattle.ii_alive.proofs.RankLemmas.{rank_mono}
use Rattle.ii_segments.specs.Segments.{is_living}
use Rattle.ii_scorer.specs.Scorers.{score_of}
use Rattle.ii_scorer.specs.TopNComputer.{KeepsBest}
use Rattle.ii_scorer.proofs.TopLemmas.{scored_alike}
use Rattle.ii_ranking.specs.Segments.{living_score}
use Rattle.ii_ranking.proofs.SegmentLemmas.{rank_within}
use Rattle.ii_prepared_term.specs.PreparedScorers.{prepared_state}
use Rattle.ii_prepared_term.specs.PreparedTerms.{prepared_score}
use Rattle.ii_prepared_term.proofs.prepared_term.PreparedTerm.push_living.Goals as goal

pub push_best-requires : goal.push_best-requires
push_best-requires c =
    let alive = c.args.alive.now in
    record {
      ascend = λ doc later up inside. let low = rank_mono alive doc later up in omega (arith, low);
      fit = λ doc inside. let low = rank_within alive doc in let few = c.requires in omega (arith, low, few);
    }

pub returns-clause-kept : goal.returns-clause-kept
returns-clause-kept c = λ scored h.
    let alive = c.args.alive.now in
    let f = prepared_score c.args.self.now in
    subst (λ (row : List (ℕ × ℕ)). OnOk c.push_best.result (KeepsBest (scored ++ row) c.push_best.new.computer))
    (scored_alike (λ (doc : ℕ). c.args.base + rank alive doc) (length alive) (living_score alive (score_of (prepared_state c.in_ok-scorer.scorer))) (living_score alive f) (λ doc below. ap (λ (s : Option ℕ). if is_living alive doc then s else None) (c.in_ok-scorer.ensures.scores doc)))
    (c.push_best.ensures.kept scored h)
