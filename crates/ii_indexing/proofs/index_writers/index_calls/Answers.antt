use Rattle.std.proofs.Common.{◌≡◌, ◌<◌, [], List, ℕ, map, sym, subst, arith}
use Rattle.std.proofs.lemmas.List.{nil_from_length}
use Rattle.ii_base.specs.Schema.{SchemaEntry}
use Rattle.std.proofs.lemmas.Result.{err_from_is_err_and}
use Rattle.ii_definitions.specs.Tokens.{pieces_of}
use Rattle.ii_definitions.specs.IndexCalls.{Takes, call_of, doc_of, field_of, type_of}
use Rattle.ii_definitions.specs.declared.index_call.IndexCall.{IndexCall}
use Rattle.ii_indexing.proofs.CallsLaws.{IsTaking, begins, takes_all, takes_more, takes_none}
use Rattle.ii_indexing.proofs.index_writers.index_calls.Goals as goal

pub loop-call-init : goal.loop-call-init
loop-call-init g c =
    let analyze = g.A.TextAnalyzer.words c.args.analyzer.now in
    subst (λ (rest : List IndexCall). IsTaking analyze c.args.schema c.args.num_docs c.args.calls.items [] rest c.in_ok-indexer.indexer) (sym c.into_iter-call-iterator.ensures.into_iter_gives.0)
    (begins analyze c.args.schema c.args.num_docs c.args.calls.items c.in_ok-indexer.indexer (record { made = c.in_ok-indexer.ensures.made }) c.in_ok-indexer.ensures.stored c.requires.calls)

pub index-requires-clause-order : goal.index-requires-clause-order
index-requires-clause-order g c running =
    let analyze = g.A.TextAnalyzer.words c.args.analyzer.now in
    let taking = subst (λ (rest : List IndexCall). IsTaking analyze c.args.schema c.args.num_docs c.args.calls.items c.loop-call.yielded rest c.loop-call.indexer) c.in-Some.ensures.steps.0 c.loop-call.invariant in
    taking.ordered.0

pub index-requires-clause-below : goal.index-requires-clause-below
index-requires-clause-below g c running =
    let analyze = g.A.TextAnalyzer.words c.args.analyzer.now in
    let taking = subst (λ (rest : List IndexCall). IsTaking analyze c.args.schema c.args.num_docs c.args.calls.items c.loop-call.yielded rest c.loop-call.indexer) c.in-Some.ensures.steps.0 c.loop-call.invariant in
    subst (λ (n : ℕ). doc_of c.in-Some.call < n) (sym taking.docs) taking.each.0.below

pub index-requires-clause-takes : goal.index-requires-clause-takes
index-requires-clause-takes g c running =
    let analyze = g.A.TextAnalyzer.words c.args.analyzer.now in
    let taking = subst (λ (rest : List IndexCall). IsTaking analyze c.args.schema c.args.num_docs c.args.calls.items c.loop-call.yielded rest c.loop-call.indexer) c.in-Some.ensures.steps.0 c.loop-call.invariant in
    subst (λ (es : List SchemaEntry). Takes es (field_of c.in-Some.call) (type_of c.in-Some.call)) (sym taking.schema) taking.each.0.takes

pub loop-call-preserved : goal.loop-call-preserved
loop-call-preserved g c =
    let analyze = g.A.TextAnalyzer.words c.args.analyzer.now in
    let taking = subst (λ (rest : List IndexCall). IsTaking analyze c.args.schema c.args.num_docs c.args.calls.items c.loop-call.yielded rest c.loop-call.indexer) c.in-Some.ensures.steps.0 c.loop-call.invariant in
    takes_more analyze c.args.schema c.args.num_docs c.args.calls.items c.loop-call.yielded c.next.new.self.rest.items c.in-Some.call c.loop-call.indexer taking c.index.new.self c.in_ok-index.ensures.rest
    (c.in_ok-index.ensures.stored (pieces_of analyze (map (call_of c.args.schema) c.loop-call.yielded)) taking.stored) (c.in_ok-index.ensures.refused taking.running (pieces_of analyze (map (call_of c.args.schema) c.loop-call.yielded)) taking.stored)

pub returns-in_err-index-clause-refused : goal.returns-in_err-index-clause-refused
returns-in_err-index-clause-refused g c =
    let analyze = g.A.TextAnalyzer.words c.args.analyzer.now in
    let taking = subst (λ (rest : List IndexCall). IsTaking analyze c.args.schema c.args.num_docs c.args.calls.items c.loop-call.yielded rest c.loop-call.indexer) c.in-Some.ensures.steps.0 c.loop-call.invariant in
    let p = err_from_is_err_and c.from_residual-in_err-index.result c.from_residual-in_err-index.ensures.1 in
    rw (p.1, p.2)
    (takes_none analyze c.args.schema c.args.num_docs c.args.calls.items c.loop-call.yielded c.next.new.self.rest.items c.in-Some.call c.loop-call.indexer taking _
    (c.in_err-index.ensures.refused taking.running (pieces_of analyze (map (call_of c.args.schema) c.loop-call.yielded)) taking.stored))

pub returns-clause-stored : goal.returns-clause-stored
returns-clause-stored g c =
    let rest = c.loop-call.call-iterator.rest in
    let none : rest.items ≡ [] = nil_from_length rest.items (omega (arith, rest.ok, c.in-None.ensures.steps.0)) in
    (takes_all (g.A.TextAnalyzer.words c.args.analyzer.now) c.args.schema c.args.num_docs c.args.calls.items c.loop-call.yielded rest.items c.loop-call.indexer none c.loop-call.invariant).1

pub returns-clause-rest : goal.returns-clause-rest
returns-clause-rest g c = (c.loop-call.invariant.schema, c.loop-call.invariant.docs, c.loop-call.invariant.running)

pub returns-clause-refused : goal.returns-clause-refused
returns-clause-refused g c =
    let rest = c.loop-call.call-iterator.rest in
    let none : rest.items ≡ [] = nil_from_length rest.items (omega (arith, rest.ok, c.in-None.ensures.steps.0)) in
    (takes_all (g.A.TextAnalyzer.words c.args.analyzer.now) c.args.schema c.args.num_docs c.args.calls.items c.loop-call.yielded rest.items c.loop-call.indexer none c.loop-call.invariant).0
