use Rattle.std.proofs.Common.{◌<◌, ◌≤◌, arith, length, map}
use Rattle.ii_warmup.specs.QueryTerms.{range_view, requested_of, term_view}
use Rattle.ii_warmup.proofs.WantedLemmas.{gathered_all, gathering_next, wanted_ascend}
use Rattle.ii_warmup.proofs.wanted_terms.wanted_terms.Goals as goal

pub loop-preserved : goal.loop-preserved
loop-preserved c =
    let l = c.loop in
    let es = c.args.dictionary.now in
    let inside : l.counter < length es = omega (arith, c.loop-test.true, c.num_terms-end.ensures) in
    gathering_next (requested_of (map term_view c.args.terms.now) (map range_view c.args.ranges.now) c.args.field) es l.counter l.stream c.advance.new.self c.advance.result c.key.result.now c.value.result l.wanted.items
    c.push_if_wanted.new.wanted.items inside l.invariant c.advance.ensures.found c.advance.ensures.passed c.key.ensures c.value.ensures c.in_ok-push_if_wanted.ensures.pushed

pub returns-clause-ascending : goal.returns-clause-ascending
returns-clause-ascending c =
    let l = c.loop in
    let es = c.args.dictionary.now in
    let requested = requested_of (map term_view c.args.terms.now) (map range_view c.args.ranges.now) c.args.field in
    let end : length es ≤ l.counter = omega (arith, c.loop-test.false, c.num_terms-end.ensures) in
    wanted_ascend requested es l.wanted.items c.stream-stream.ensures.ascending (gathered_all requested es l.counter l.stream l.wanted.items end l.invariant)
