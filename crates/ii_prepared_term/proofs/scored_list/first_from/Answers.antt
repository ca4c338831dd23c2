use Rattle.std.proofs.Common.{◌<◌, arith, length, rules}
use Rattle.ii_prepared_term.proofs.ScoredListLemmas.{passes_place, stops_place}
use Rattle.ii_prepared_term.proofs.scored_list.first_from.Goals as goal

pub returns-then-index-target-clause-rest : goal.returns-then-index-target-clause-rest
returns-then-index-target-clause-rest c =
    let l = c.loop-place in
    let docs = c.args.docs.now.items in
    let inside : l.place < length docs = search rules in
    stops_place docs c.args.from l.place c.args.target c.requires.ascending l.invariant.same c.index.result.now inside c.index.ensures c.if-index-target.true

pub loop-place-preserved : goal.loop-place-preserved
loop-place-preserved c =
    let l = c.loop-place in
    let docs = c.args.docs.now.items in
    let inside : l.place < length docs = search rules in
    record {
      within = omega (arith, inside);
      same = passes_place docs c.args.from l.place c.args.target c.requires.ascending l.invariant.same c.index.result.now inside c.index.ensures c.if-index-target.false c.requires.up_to;
    }
