use Rattle.std.proofs.Common.{◌≡◌, [], List, ap, inl, map, subst, sym, ℕ}
use Rattle.std.specs.Prelude.{◌⊎◌, IfErr, IfOk, IsSomeAnd, Option}
use Rattle.ii_base.specs.Schema.{SchemaEntry}
use Rattle.ii_definitions.specs.IndexCalls.{call_of}
use Rattle.ii_definitions.specs.Tokens.{tokens_after}
use Rattle.ii_segments.specs.HoldCounts.{HasManyTokens, HoldCounts}
use Rattle.nequllpa_indexing.specs.Counted.{HasCounts, IsSegmentFault}
use Rattle.nequllpa_indexing.specs.Documents.{DocumentsState}
use Rattle.nequllpa_indexing.specs.FieldTokens.{pieces_by, tokens_by}
use Rattle.nequllpa_indexing.specs.StoredLines.{IsLinesFault, lines_view}
use Rattle.nequllpa_indexing.proofs.documents.Documents.into_segment.Goals as goal

pub returns-in-Ok-clause-counts : goal.returns-in-Ok-clause-counts
returns-in-Ok-clause-counts g c =
    let analyze = g.F.FieldAnalyzers.words c.args.analyzers.now in
    let s = c.documents.inside in
    let indexed = c.in-Ok.indexed in
    let ps = pieces_by analyze (map (call_of s.schema) s.calls.items) in
    let same : indexed.0.schema ≡ s.schema = c.in-Ok.ensures.rest.0 in
    let has : HasCounts indexed.0.schema (tokens_after [] ps) indexed.1 = subst (λ (es : List SchemaEntry). HasCounts es (tokens_after [] ps) indexed.1) (sym same) c.in-Ok.ensures.counted in
    let holds = subst (λ (es : List SchemaEntry). IfOk c.finish_stored.result (λ f. IsSomeAnd f.counts (λ v. HoldCounts es s.num_docs v.items (tokens_after [] ps)))) same (c.finish_stored.ensures.counts ps has) in
    subst (λ (x : DocumentsState). IfOk c.finish_stored.result (λ f. IsSomeAnd f.counts (λ v. HoldCounts x.schema x.num_docs v.items (tokens_by analyze x.calls)))) c.documents.view_is holds

pub returns-in-Ok-clause-many : goal.returns-in-Ok-clause-many
returns-in-Ok-clause-many g c = λ none many.
    let analyze = g.F.FieldAnalyzers.words c.args.analyzers.now in
    let s = c.documents.inside in
    let indexed = c.in-Ok.indexed in
    let ps = pieces_by analyze (map (call_of s.schema) s.calls.items) in
    let same : indexed.0.schema ≡ s.schema = c.in-Ok.ensures.rest.0 in
    let has : HasCounts indexed.0.schema (tokens_after [] ps) indexed.1 = subst (λ (es : List SchemaEntry). HasCounts es (tokens_after [] ps) indexed.1) (sym same) c.in-Ok.ensures.counted in
    let known = subst (λ (x : DocumentsState). HasManyTokens x.schema (tokens_by analyze x.calls)) (sym c.documents.view_is) many in
    inl (c.finish_stored.ensures.many ps has (subst (λ (es : List SchemaEntry). HasManyTokens es (tokens_after [] ps)) (sym same) known))

pub returns-in-Ok-clause-fault : goal.returns-in-Ok-clause-fault
returns-in-Ok-clause-fault g c = λ none.
    let analyze = g.F.FieldAnalyzers.words c.args.analyzers.now in
    let s = c.documents.inside in
    let indexed = c.in-Ok.indexed in
    let ps = pieces_by analyze (map (call_of s.schema) s.calls.items) in
    let same : indexed.0.schema ≡ s.schema = c.in-Ok.ensures.rest.0 in
    let has : HasCounts indexed.0.schema (tokens_after [] ps) indexed.1 = subst (λ (es : List SchemaEntry). HasCounts es (tokens_after [] ps) indexed.1) (sym same) c.in-Ok.ensures.counted in
    let cause = c.finish_stored.ensures.fault ps c.in-Ok.ensures.stored has in
    let lines = ap lines_view c.take-lines.ensures.value in
    let by_schema = subst (λ (es : List SchemaEntry). IfErr c.finish_stored.result (λ e. IsSegmentFault es s.num_docs (tokens_after [] ps) e ⊎ IsLinesFault (lines_view c.take-lines.result) e)) same cause in
    let by_lines = subst (λ (ls : Option (List (List ℕ))). IfErr c.finish_stored.result (λ e. IsSegmentFault s.schema s.num_docs (tokens_after [] ps) e ⊎ IsLinesFault ls e)) lines by_schema in
    subst (λ (x : DocumentsState). IfErr c.finish_stored.result (λ e. IsSegmentFault x.schema x.num_docs (tokens_by analyze x.calls) e ⊎ IsLinesFault x.lines e)) c.documents.view_is by_lines
