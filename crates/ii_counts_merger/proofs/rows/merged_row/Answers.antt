use Rattle.std.proofs.Common.{◌∙◌, ◌++◌, ◌+◌, List, ℕ, drop, map, sym, ap, subst, append_assoc}
use Rattle.std.specs.List.{AllByRecursion}
use Rattle.ii_counts_merger.specs.CountsSources.{CountsSourceState, HasCounts, living_row, merged_row, opened_counts}
use Rattle.ii_counts_merger.proofs.RowLemmas.{one_damaged}
use Rattle.ii_counts_merger.specs.CountsSources.{opened_counts}
use Rattle.ii_definitions.proofs.ListLaws.{mapped_at}
use Rattle.ii_counts_merger.proofs.rows.merged_row.Goals as goal

pub returns-in-Err-clause-fault : goal.returns-in-Err-clause-fault
returns-in-Err-clause-fault c =
    one_damaged c.args.field c.args.sources.now c.loop-place.place c.index-sources-place.result c.in-Err.fault c.loop-place-test.true c.index-sources-place.is c.in-Err.ensures.fault

pub loop-place-preserved : goal.loop-place-preserved
loop-place-preserved c =
    let field = c.args.field in
    let all = map opened_counts c.args.sources.now in
    let place = c.loop-place.place in
    let s = opened_counts c.index-sources-place.result in
    let at = mapped_at opened_counts c.args.sources.now place c.index-sources-place.result c.loop-place-test.true c.index-sources-place.is in
    let h = c.loop-place.invariant in
    record {
      added = ap (λ (xs : List ℕ). xs ++ merged_row field (drop (place + 1) all)) c.in_default.ensures.ok
          ∙ append_assoc c.loop-place.row.items (living_row field s) (merged_row field (drop (place + 1) all))
          ∙ ap (λ (ss : List CountsSourceState). c.loop-place.row.items ++ merged_row field ss) (sym at) ∙ h.added;
      sound = λ rest. h.sound (subst (AllByRecursion (HasCounts field)) (sym at) (c.in_default.ensures.sound, rest));
    }
