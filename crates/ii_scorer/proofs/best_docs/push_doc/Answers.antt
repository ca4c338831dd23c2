use Rattle.std.proofs.Common.{◌≡◌, ◌++◌, ℕ, OnOk, rules, subst, true}
use Rattle.ii_scorer.specs.Scorers.{score_of}
use Rattle.ii_scorer.specs.TopDocs.{with_score}
use Rattle.ii_scorer.specs.TopNComputer.{KeepsBest}
use Rattle.ii_scorer.proofs.BlockListLaws.{all_none}
use Rattle.ii_scorer.proofs.PassLemmas.{pushes_scored}
use Rattle.ii_scorer.proofs.best_docs.push_doc.Goals as goal

pub returns-clause-kept : goal.returns-clause-kept
returns-clause-kept g c = λ scored h.
    let n = g.N.DocNumbers.numbering c.args.numbers.now in
    let score = score_of (g.T.Scorer.state c.args.scorer.now) c.args.doc in
    let number = n.number c.args.doc in
    let counts : n.counts c.args.doc ≡ true = search rules in
    rw counts (pushes_scored scored c.args.computer.now c.push_scored.new.self c.push_scored.result c.args.least number score c.score_at.result c.ranges.least.fits (c.requires.numbers.fit c.args.doc c.requires.inside) c.score_at.ensures.score c.requires.passes
    (λ xs k. subst (λ (m : ℕ). OnOk c.push_scored.result (KeepsBest (xs ++ with_score c.score_at.result m) c.push_scored.new.self)) c.number.ensures (c.push_scored.ensures.kept xs k)) h)

pub returns-then-not-counts-clause-work : goal.returns-then-not-counts-clause-work
returns-then-not-counts-clause-work g c = all_none (λ (from : ℕ). from ≡ c.args.doc) (g.T.Scorer.state c.args.scorer.now).lists
