use Rattle.std.proofs.Common.{◌≡◌, ◌==◌, drop, map}
use Rattle.std.specs.List.{list_any}
use Rattle.ii_warmup.specs.QueryTerms.{QueryRangeState, range_view}
use Rattle.ii_warmup.proofs.wanted_terms.has_range.Given as goal

abbrev pub invariant-loop-range : goal.invariant-loop-range
invariant-loop-range l = list_any (λ (r : QueryRangeState). r.range.prefix.field == l.field) (map range_view l.ranges) ≡ list_any (λ (r : QueryRangeState). r.range.prefix.field == l.field) (map range_view (drop l.range-index l.ranges))
