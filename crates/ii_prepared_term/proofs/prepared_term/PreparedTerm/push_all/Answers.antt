use Rattle.std.proofs.Common.{◌++◌, ℕ, List, OnOk, arith, subst}
use Rattle.ii_scorer.specs.Scorers.{score_of}
use Rattle.ii_scorer.specs.TopNComputer.{KeepsBest}
use Rattle.ii_scorer.proofs.TopLemmas.{scored_alike}
use Rattle.ii_prepared_term.specs.PreparedScorers.{prepared_state}
use Rattle.ii_prepared_term.specs.PreparedTerms.{prepared_score}
use Rattle.ii_prepared_term.proofs.prepared_term.PreparedTerm.push_all.Goals as goal

pub push_best-requires : goal.push_best-requires
push_best-requires c =
    let few = c.ranges.num_docs.fits in
    record { ascend = λ doc later up inside. up; fit = λ doc inside. omega (arith, inside, few) }

pub returns-clause-kept : goal.returns-clause-kept
returns-clause-kept c = λ scored h.
    subst (λ (row : List (ℕ × ℕ)). OnOk c.push_best.result (KeepsBest (scored ++ row) c.push_best.new.computer))
    (scored_alike (λ (doc : ℕ). doc) c.args.num_docs (score_of (prepared_state c.in_ok-scorer.scorer)) (prepared_score c.args.self.now) (λ doc below. c.in_ok-scorer.ensures.scores doc))
    (c.push_best.ensures.kept scored h)
