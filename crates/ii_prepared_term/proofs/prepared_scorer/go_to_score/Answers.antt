use Rattle.std.proofs.Common.{◌∙◌, ◌+◌, arith}
use Rattle.ii_scorer.specs.Scorers.{MayScore}
use Rattle.ii_prepared_term.specs.PreparedTerms.{prepared_bound}
use Rattle.ii_prepared_term.proofs.PreparedLemmas.{goes_on, score_reaches, still_prepared}
use Rattle.ii_prepared_term.proofs.ReadLemmas.{rest_on, rest_weaker}
use Rattle.ii_prepared_term.proofs.prepared_scorer.go_to_score.Goals as goal

pub go_to_bound-doc-requires-in-loop-doc-clause-prepared : goal.go_to_bound-doc-requires-in-loop-doc-clause-prepared
go_to_bound-doc-requires-in-loop-doc-clause-prepared c =
    let l = c.loop-doc in
    let went = l.invariant.went in
    let low = went.kept in
    let end = went.up_to in
    still_prepared (record c.args.term.now { cursor = c.args.cursor.now }) went.dropped l.cursor c.requires.prepared (omega (arith, low, end)) went.rest went.sound

pub loop-doc-preserved : goal.loop-doc-preserved
loop-doc-preserved c =
    let t = c.args.term.now in
    let l = c.loop-doc in
    let i = l.invariant in
    let next = c.go_to_bound-doc-in-loop-doc in
    let low = i.went.kept in
    let end = i.went.up_to in
    let up = next.ensures.went.low in
    record {
      went = goes_on t.by t.shares c.args.least c.args.target l.doc next.result c.term_freq.result c.score.result c.args.cursor.now.rest l.cursor.rest next.new.cursor.rest c.loop-doc-test.true c.term_freq.ensures.entry c.score.ensures c.if-score-least.false i.went next.ensures.went;
      same = next.ensures.same ∙ i.same;
      work = rest_on (MayScore c.args.target c.args.least next.result (prepared_bound t)) i.went.dropped c.args.cursor.now l.cursor next.new.cursor c.requires.prepared.sound.ascending i.went.rest i.went.sound.ascending (omega (arith, low, end))
          (rest_weaker (MayScore c.args.target c.args.least l.doc (prepared_bound t)) (MayScore c.args.target c.args.least next.result (prepared_bound t)) c.args.cursor.now l.cursor (λ doc may. record { low = may.low; up_to = let before = may.up_to in omega (arith, before, up); inside = may.inside; reaches = may.reaches }) i.work)
          (rest_weaker (MayScore (l.doc + 1) c.args.least next.result (prepared_bound t)) (MayScore c.args.target c.args.least next.result (prepared_bound t)) l.cursor next.new.cursor (λ doc may. record { low = let after = may.low in let from = i.went.low in omega (arith, after, from); up_to = may.up_to; inside = may.inside; reaches = may.reaches }) next.ensures.work);
    }

pub returns-then-score-least-clause-reached : goal.returns-then-score-least-clause-reached
returns-then-score-least-clause-reached c = λ inside.
    let l = c.loop-doc in
    let went = l.invariant.went in
    let low = went.kept in
    let end = went.up_to in
    let is = still_prepared (record c.args.term.now { cursor = c.args.cursor.now }) went.dropped l.cursor c.requires.prepared (omega (arith, low, end)) went.rest went.sound in
    score_reaches c.args.term.now l.doc c.args.least c.term_freq.result c.score.result l.cursor.rest is.bounds (went.current inside) inside c.term_freq.ensures.entry c.score.ensures c.if-score-least.true
