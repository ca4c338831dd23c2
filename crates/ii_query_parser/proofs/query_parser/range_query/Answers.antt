use Rattle.std.proofs.Common.{length, refl}
use Rattle.ii_query_grammar.specs.Trees.{range_of, ranged}
use Rattle.ii_query_parser.proofs.RangeTextLemmas.{range_means}
use Rattle.ii_query_parser.proofs.query_parser.range_query.Goals as goal

pub returns-in_ok-ranges_query-in-Ok : goal.returns-in_ok-ranges_query-in-Ok
returns-in_ok-ranges_query-in-Ok g c =
    let e = c.in_ok-ranges_query-in-Ok.ensures in
    let means = range_means (record { texts = record { analyze = g.F.FieldAnalyzers.words c.args.analyzers.now; entries = c.args.schema.now }; prefixes = g.F.FieldAnalyzers.prefix_words c.args.analyzers.now; defaults = c.args.default_fields.now }) (range_of c.args.range.now) c.in_ok-ranges_query-in-Ok.field-0 c.in-Ok.ranges
    c.in-Ok.ensures.ranges e.matches (e.fields (length c.args.schema.now) c.in-Ok.ensures.inside) e.positions e.covers in
    (means.taken, ranged (range_of c.args.range.now), refl, means)
