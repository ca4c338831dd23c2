use Rattle.std.proofs.Common.{drop, map, string_bytes}
use Rattle.ii_query_parser.specs.QueryTexts.{FieldTexts, values_terms}
use Rattle.ii_query_parser.proofs.TermLemmas.{IsJoining}
use Rattle.ii_query_parser.proofs.literal.push_set.Given as goal

abbrev pub invariant-loop-value : goal.invariant-loop-value
invariant-loop-value g l =
    let q : FieldTexts = record { analyze = g.F.FieldAnalyzers.words l.analyzers; entries = l.schema } in
    IsJoining q.entries (values_terms q (string_bytes l.set.field_name) (map (λ value. string_bytes value) l.value-items)) (values_terms q (string_bytes l.set.field_name) (map (λ value. string_bytes value) (drop l.value-index l.value-items))) l.fn.terms.items l.terms.items
