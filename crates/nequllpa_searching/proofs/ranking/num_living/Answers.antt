use Rattle.std.proofs.Common.{◌≡◌, ◌∙◌, ◌+◌, ◌-◌, ◌^◌, List, ap, arith, drop, map, min}
use Rattle.std.proofs.lemmas.List.{drop_all}
use Rattle.ii_segment_search.specs.Searcher.{total_living}
use Rattle.ii_statistics.proofs.CountLemmas.{dropped_at}
use Rattle.nequllpa_searching.specs.OpenedNumbers.{open_segment}
use Rattle.nequllpa_opening.specs.declared.opened.Opened.{Opened}
use Rattle.nequllpa_searching.proofs.RankingLemmas.{capped}
use Rattle.nequllpa_searching.proofs.ranking.num_living.Goals as goal

pub loop-place-preserved : goal.loop-place-preserved
loop-place-preserved c =
    let l = c.loop-place in
    let os = c.args.segments.now in
    let o = c.index-segments-place.result in
    let at = dropped_at os l.place o c.loop-place-test.true c.index-segments-place.is in
    let step = ap (λ (ps : List Opened). total_living (map open_segment ps)) at in
    let count = c.num_living.ensures in
    let same = c.from.ensures in
    let added = c.saturating_add-total.ensures in
    record {
      few = omega (arith, added);
      whole = capped l.total c.from.result c.saturating_add-total.result (total_living (map open_segment (drop (l.place + 1) os))) (total_living (map open_segment (drop l.place os))) (min (2 ^ 64 - 1) (total_living (map open_segment os))) added
          (omega (arith, step, count, same)) l.invariant.whole;
    }

pub returns : goal.returns
returns c =
    let l = c.loop-place in
    let none = ap (λ (ps : List Opened). total_living (map open_segment ps)) (drop_all l.place c.args.segments.now c.loop-place-test.false) in
    let few = l.invariant.few in
    let same : l.total ≡ min (2 ^ 64 - 1) (l.total + total_living (map open_segment (drop l.place c.args.segments.now))) = omega (arith, none, few) in
    same ∙ l.invariant.whole
