use Rattle.std.proofs.Common.{drop}
use Rattle.ii_query_parser.proofs.WordsQueryLemmas.{IsReading}
use Rattle.ii_query_parser.proofs.query_parser.+left_query.Given as goal

abbrev pub invariant-queries_of-loop-part : goal.invariant-queries_of-loop-part
invariant-queries_of-loop-part g l =
    IsReading (record { texts = record { analyze = g.F.FieldAnalyzers.words l.analyzers; entries = l.schema }; prefixes = g.F.FieldAnalyzers.prefix_words l.analyzers; defaults = l.default_fields }) l.part-items (drop l.part-index l.part-items) l.queries.items
