use Rattle.std.proofs.Common.{◌≡◌, ◌∙◌, ◌<◌, ◌++◌, ◌∷◌, [], List, ℕ, ap, length, map, min, sym, subst, arith}
use Rattle.std.proofs.lemmas.List.{map-append, nil_from_length}
use Rattle.ii_base.specs.Schema.{SchemaEntry}
use Rattle.std.proofs.lemmas.Result.{err_from_is_err_and}
use Rattle.ii_definitions.specs.Tokens.{IndexToken, call_pieces, tokens_after}
use Rattle.ii_definitions.specs.Postings.{doc_count}
use Rattle.ii_definitions.specs.IndexCalls.{Takes, call_of, doc_of, field_of, type_of}
use Rattle.ii_definitions.specs.declared.index_call.IndexCall.{IndexCall}
use Rattle.nequllpa_indexing.specs.Counted.{HasCounts}
use Rattle.nequllpa_indexing.proofs.CountLaws.{call_tokens_of, counts_begin, counts_more, tokens_with_call, within}
use Rattle.nequllpa_indexing.specs.FieldTokens.{pieces_by, tokens_by}
use Rattle.nequllpa_indexing.proofs.FieldLaws.{IsTakingBy, begins_by, takes_all_by, takes_more_by, takes_none_by}
use Rattle.nequllpa_indexing.proofs.counting.index_counted.Goals as goal

pub loop-call-init : goal.loop-call-init
loop-call-init g c =
    let analyze = g.F.FieldAnalyzers.words c.args.analyzers.now in
    record {
      taking = subst (λ (rest : List IndexCall). IsTakingBy analyze c.args.schema c.args.num_docs c.args.calls.items [] rest c.in_ok-indexer.indexer) (sym c.into_iter-call-iterator.ensures.into_iter_gives.0)
          (begins_by analyze c.args.schema c.args.num_docs c.args.calls.items c.in_ok-indexer.indexer (record { made = c.in_ok-indexer.ensures.made }) c.in_ok-indexer.ensures.stored c.requires.calls);
      counts = subst (HasCounts c.args.schema []) (sym c.in_ok-counts.ensures.empty) (counts_begin c.args.schema);
    }

pub index-requires-clause-order : goal.index-requires-clause-order
index-requires-clause-order g c running =
    let analyze = g.F.FieldAnalyzers.words c.args.analyzers.now in
    let taking = subst (λ (rest : List IndexCall). IsTakingBy analyze c.args.schema c.args.num_docs c.args.calls.items c.loop-call.yielded rest c.loop-call.indexer) c.in-Some.ensures.steps.0 c.loop-call.invariant.taking in
    taking.ordered.0

pub index-requires-clause-below : goal.index-requires-clause-below
index-requires-clause-below g c running =
    let analyze = g.F.FieldAnalyzers.words c.args.analyzers.now in
    let taking = subst (λ (rest : List IndexCall). IsTakingBy analyze c.args.schema c.args.num_docs c.args.calls.items c.loop-call.yielded rest c.loop-call.indexer) c.in-Some.ensures.steps.0 c.loop-call.invariant.taking in
    subst (λ (n : ℕ). doc_of c.in-Some.call < n) (sym taking.docs) taking.each.0.below

pub index-requires-clause-takes : goal.index-requires-clause-takes
index-requires-clause-takes g c running =
    let analyze = g.F.FieldAnalyzers.words c.args.analyzers.now in
    let taking = subst (λ (rest : List IndexCall). IsTakingBy analyze c.args.schema c.args.num_docs c.args.calls.items c.loop-call.yielded rest c.loop-call.indexer) c.in-Some.ensures.steps.0 c.loop-call.invariant.taking in
    subst (λ (es : List SchemaEntry). Takes es (field_of c.in-Some.call) (type_of c.in-Some.call)) (sym taking.schema) taking.each.0.takes

pub last_num_tokens-num_tokens-requires-clause-field : goal.last_num_tokens-num_tokens-requires-clause-field
last_num_tokens-num_tokens-requires-clause-field g c =
    let analyze = g.F.FieldAnalyzers.words c.args.analyzers.now in
    let taking = subst (λ (rest : List IndexCall). IsTakingBy analyze c.args.schema c.args.num_docs c.args.calls.items c.loop-call.yielded rest c.loop-call.indexer) c.in-Some.ensures.steps.0 c.loop-call.invariant.taking in
    let known : field_of c.in-Some.call < length c.args.schema = within c.args.schema (field_of c.in-Some.call) taking.each.0.takes.entry taking.each.0.takes.found in
    omega (arith, c.field-field.ensures, known, ap length (c.in_ok-index.ensures.rest.0 ∙ taking.schema))

pub loop-call-preserved : goal.loop-call-preserved
loop-call-preserved g c =
    let analyze = g.F.FieldAnalyzers.words c.args.analyzers.now in
    let es = c.args.schema in
    let call = c.in-Some.call in
    let taking = subst (λ (rest : List IndexCall). IsTakingBy analyze es c.args.num_docs c.args.calls.items c.loop-call.yielded rest c.loop-call.indexer) c.in-Some.ensures.steps.0 c.loop-call.invariant.taking in
    let taken = takes_more_by analyze es c.args.num_docs c.args.calls.items c.loop-call.yielded c.next.new.self.rest.items call c.loop-call.indexer taking _ (c.analyzer-analyzer.ensures ∙ ap analyze c.field-field.ensures) c.index.new.self c.in_ok-index.ensures.rest
    (c.in_ok-index.ensures.stored (pieces_by analyze (map (call_of es) c.loop-call.yielded)) taking.stored) (c.in_ok-index.ensures.refused taking.running (pieces_by analyze (map (call_of es) c.loop-call.yielded)) taking.stored) in
    let done = map (call_of es) c.loop-call.yielded in
    let all = map (call_of es) (c.loop-call.yielded ++ call ∷ []) in
    let us = tokens_after (pieces_by analyze done) (call_pieces (analyze (field_of call)) (call_of es call)) in
    let are : tokens_by analyze all ≡ tokens_by analyze done ++ us = ap (tokens_by analyze) (map-append (call_of es) c.loop-call.yielded (call ∷ [])) ∙ tokens_with_call analyze done (call_of es call) in
    let counted : c.last_num_tokens-num_tokens.result ≡ min (doc_count c.index.new.self.last_doc c.field-field.result (tokens_by analyze all)) 4294967295 = c.last_num_tokens-num_tokens.ensures (pieces_by analyze all) taken.stored in
    let here : c.last_num_tokens-num_tokens.result ≡ min (doc_count (doc_of call) (field_of call) (tokens_by analyze done ++ us)) 4294967295 =
    counted ∙ ap (λ (d : ℕ). min (doc_count d c.field-field.result (tokens_by analyze all)) 4294967295) c.in_ok-index.ensures.rest.2 ∙ ap (λ (f : ℕ). min (doc_count (doc_of call) f (tokens_by analyze all)) 4294967295) c.field-field.ensures
    ∙ ap (λ (ts : List IndexToken). min (doc_count (doc_of call) (field_of call) ts) 4294967295) are in
    let set = rw (c.field-field.ensures, c.doc-doc.ensures) at c.in_ok-record.ensures.ok in
    record {
      taking = taken;
      counts = subst (λ (ts : List IndexToken). HasCounts es ts c.record.new.self) (sym are)
          (counts_more es (tokens_by analyze done) us c.loop-call.counts c.record.new.self (field_of call) (doc_of call) c.last_num_tokens-num_tokens.result (call_tokens_of (analyze (field_of call)) (pieces_by analyze done) (call_of es call)) c.loop-call.invariant.counts set here);
    }

pub returns-in_err-index-clause-refused : goal.returns-in_err-index-clause-refused
returns-in_err-index-clause-refused g c =
    let analyze = g.F.FieldAnalyzers.words c.args.analyzers.now in
    let taking = subst (λ (rest : List IndexCall). IsTakingBy analyze c.args.schema c.args.num_docs c.args.calls.items c.loop-call.yielded rest c.loop-call.indexer) c.in-Some.ensures.steps.0 c.loop-call.invariant.taking in
    let p = err_from_is_err_and c.from_residual-in_err-index.result c.from_residual-in_err-index.ensures.1 in
    rw (p.1, p.2)
    (takes_none_by analyze c.args.schema c.args.num_docs c.args.calls.items c.loop-call.yielded c.next.new.self.rest.items c.in-Some.call c.loop-call.indexer taking _ (c.analyzer-analyzer.ensures ∙ ap analyze c.field-field.ensures) _
    (c.in_err-index.ensures.refused taking.running (pieces_by analyze (map (call_of c.args.schema) c.loop-call.yielded)) taking.stored))

pub returns-clause-stored : goal.returns-clause-stored
returns-clause-stored g c =
    let rest = c.loop-call.call-iterator.rest in
    let none : rest.items ≡ [] = nil_from_length rest.items (omega (arith, rest.ok, c.in-None.ensures.steps.0)) in
    (takes_all_by (g.F.FieldAnalyzers.words c.args.analyzers.now) c.args.schema c.args.num_docs c.args.calls.items c.loop-call.yielded rest.items c.loop-call.indexer none c.loop-call.invariant.taking).1

pub returns-clause-rest : goal.returns-clause-rest
returns-clause-rest g c = (c.loop-call.invariant.taking.schema, c.loop-call.invariant.taking.docs, c.loop-call.invariant.taking.running)

pub returns-clause-refused : goal.returns-clause-refused
returns-clause-refused g c =
    let rest = c.loop-call.call-iterator.rest in
    let none : rest.items ≡ [] = nil_from_length rest.items (omega (arith, rest.ok, c.in-None.ensures.steps.0)) in
    (takes_all_by (g.F.FieldAnalyzers.words c.args.analyzers.now) c.args.schema c.args.num_docs c.args.calls.items c.loop-call.yielded rest.items c.loop-call.indexer none c.loop-call.invariant.taking).0
