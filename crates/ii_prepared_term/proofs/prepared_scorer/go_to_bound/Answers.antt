use Rattle.std.proofs.Common.{◌≡◌, ℕ, subst, sym}
use Rattle.ii_scorer.specs.Scorers.{MayScore}
use Rattle.ii_prepared_term.specs.PreparedTerms.{prepared_bound}
use Rattle.ii_prepared_term.proofs.PreparedLemmas.{goes, stays}
use Rattle.ii_prepared_term.proofs.ReadLemmas.{rest_none, rest_weaker}
use Rattle.ii_prepared_term.proofs.prepared_scorer.go_to_bound.Goals as goal

pub returns-then-first-ge-TERMINATED-clause-went : goal.returns-then-first-ge-TERMINATED-clause-went
returns-then-first-ge-TERMINATED-clause-went c =
    let t = c.args.term.now in
    let is = c.requires.prepared in
    let f = c.first_reaching-first.ensures in
    stays t.by t.shares c.args.least c.args.target c.first_reaching-first.result c.args.cursor.now.rest is.sound is.bounds f.first f.up_to c.if-first-ge-TERMINATED.true

pub returns-then-first-ge-TERMINATED-clause-work : goal.returns-then-first-ge-TERMINATED-clause-work
returns-then-first-ge-TERMINATED-clause-work c = rest_none (MayScore c.args.target c.args.least c.first_reaching-first.result (prepared_bound c.args.term.now)) c.args.cursor.now

pub returns-clause-went : goal.returns-clause-went
returns-clause-went c =
    let t = c.args.term.now in
    let is = c.requires.prepared in
    let f = c.first_reaching-first.ensures in
    goes t.by t.shares c.args.least c.args.target c.first_reaching-first.result c.args.cursor.now.rest is.sound is.bounds f.first c.go_to.result c.go_to.new.cursor.rest c.go_to.ensures.went

pub returns-clause-work : goal.returns-clause-work
returns-clause-work c =
    let first = c.first_reaching-first.result in
    let f = c.first_reaching-first.ensures in
    let inside = c.if-first-ge-TERMINATED.false in
    rest_weaker (λ (from : ℕ). from ≡ first) (MayScore c.args.target c.args.least c.go_to.result (prepared_bound c.args.term.now)) c.args.cursor.now c.go_to.new.cursor
    (λ doc same. subst (MayScore c.args.target c.args.least c.go_to.result (prepared_bound c.args.term.now)) (sym same) (record {
      low = f.first.low;
      up_to = c.go_to.ensures.went.low;
      inside = inside;
      reaches = f.reaches inside;
    }))
    c.go_to.ensures.work
