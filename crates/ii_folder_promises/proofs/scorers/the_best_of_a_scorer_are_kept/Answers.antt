use Rattle.std.proofs.Common.{◌<◌, ◌^◌, [], arith, is_some, refl}
use Rattle.ii_scorer.specs.Scorers.{score_of}
use Rattle.ii_scorer.specs.TopDocs.{scored_docs}
use Rattle.ii_folder_promises.proofs.RankingLaws.{given_best, gives_greatest, gives_many, gives_scored}
use Rattle.ii_folder_promises.proofs.scorers.the_best_of_a_scorer_are_kept.Goals as goal

pub push_best-requires : goal.push_best-requires
push_best-requires g c =
    let few = c.ranges.num_docs.fits in
    record { ascend = λ doc later up inside. up; fit = λ doc inside. omega (arith, inside, few) }

pub returns-in-Ok-clause-scores : goal.returns-in-Ok-clause-scores
returns-in-Ok-clause-scores g c =
    let score = score_of (g.T.Scorer.state c.args.scorer.now) in
    gives_scored c.args.limit c.args.num_docs score c.best_of.result
    (given_best c.args.limit (scored_docs c.args.num_docs score) c.best_of.result
    (rw c.with_limit-docs.ensures at (c.best_of.ensures.best (scored_docs c.args.num_docs score) (c.in-Ok.ensures.kept [] c.computer-computer.ensures.none))) c.best_of.ensures.only)

pub returns-in-Ok-clause-many : goal.returns-in-Ok-clause-many
returns-in-Ok-clause-many g c =
    let score = score_of (g.T.Scorer.state c.args.scorer.now) in
    gives_many c.args.limit c.args.num_docs score (λ doc. is_some (score doc)) c.best_of.result
    (given_best c.args.limit (scored_docs c.args.num_docs score) c.best_of.result
    (rw c.with_limit-docs.ensures at (c.best_of.ensures.best (scored_docs c.args.num_docs score) (c.in-Ok.ensures.kept [] c.computer-computer.ensures.none))) c.best_of.ensures.only)
    (λ doc. refl)

pub returns-in-Ok-clause-greatest : goal.returns-in-Ok-clause-greatest
returns-in-Ok-clause-greatest g c =
    let score = score_of (g.T.Scorer.state c.args.scorer.now) in
    gives_greatest c.args.limit c.args.num_docs score c.best_of.result
    (given_best c.args.limit (scored_docs c.args.num_docs score) c.best_of.result
    (rw c.with_limit-docs.ensures at (c.best_of.ensures.best (scored_docs c.args.num_docs score) (c.in-Ok.ensures.kept [] c.computer-computer.ensures.none))) c.best_of.ensures.only)
