use Rattle.std.proofs.Common.{◌≡◌, ◌==◌, ◌&&◌, drop, map}
use Rattle.std.specs.List.{list_any}
use Rattle.ii_query_parser.specs.Ranges.{in_range}
use Rattle.ii_warmup.specs.QueryTerms.{QueryRangeState, range_view, serves}
use Rattle.ii_warmup.proofs.wanted_terms.is_in_range.Given as goal

abbrev pub invariant-loop-range : goal.invariant-loop-range
invariant-loop-range l =
    list_any (λ (r : QueryRangeState). serves l.option r.option && (r.range.prefix.field == l.field) && in_range r.range l.key) (map range_view l.ranges)
    ≡ list_any (λ (r : QueryRangeState). serves l.option r.option && (r.range.prefix.field == l.field) && in_range r.range l.key) (map range_view (drop l.range-index l.ranges))
