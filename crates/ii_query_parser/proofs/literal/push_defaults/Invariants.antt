use Rattle.std.proofs.Common.{drop}
use Rattle.ii_query_parser.proofs.TermLemmas.{IsGathering}
use Rattle.ii_query_parser.proofs.literal.push_defaults.Given as goal

abbrev pub invariant-loop-field : goal.invariant-loop-field
invariant-loop-field g l = IsGathering (record { analyze = g.L.LiteralAnalyzers.words l.analyzers; entries = l.schema }) l.phrase l.default_fields (drop l.field-index l.default_fields) l.left_out l.fn.terms.items l.terms.items
