use Rattle.std.proofs.Common.{◌≡◌, ◌<◌, ◌^◌, ◌∙◌, Err, Result, Some, inl, inr, List, ℕ, length, refl, rules, sym, subst, ⊎_elim, []}
use Rattle.std.specs.Prelude.{◌⊎◌, IfErr}
use Rattle.std.proofs.lemmas.Result.{IfErr-weaker}
use Rattle.ii_io.specs.declared.faults.Fault.{Fault}
use Rattle.ii_io.specs.declared.faults.Fault.TheVariants.{OutOfMemory, Write}
use Rattle.ii_io.specs.CountingWriter.{Grows, Writes, Wrote}
use Rattle.ii_io.proofs.WriteSteps.{Grows-trans, grows_not, writes_grows, writes_went}
use Rattle.ii_base.specs.Schema.{SchemaEntry}
use Rattle.ii_definitions.specs.Fields.{option_of}
use Rattle.ii_definitions.specs.Files.{HoldTokens}
use Rattle.ii_definitions.specs.TrueBounds.{HaveTrueBodies}
use Rattle.ii_io.specs.Composite.{Body, composite}
use Rattle.ii_recorder.specs.IndexBodies.{CountsFailuresOf, IndexBodiesState}
use Rattle.ii_recorder.proofs.GrowthLemmas.{three_counted}
use Rattle.ii_postings_writer.specs.FieldParts.{HasFields}
use Rattle.ii_postings_writer.specs.ResolvedTerms.{HaveHeldTokens, json_fields, resolved_terms}
use Rattle.ii_postings_writer.proofs.TermIndexLemmas.{on_ok}
use Rattle.ii_indexing.specs.IndexFiles.{PassLimits}
use Rattle.ii_indexing.proofs.WrittenFiles.{PassesBehind, begun_fields, closed_files, files_bound, files_counted, norms_refused, table_fault, terms_fault}
use Rattle.ii_indexing.proofs.indexer.FinishedFields.write.Goals as goal

pub serialize_postings-requires-clause-fresh : goal.serialize_postings-requires-clause-fresh
serialize_postings-requires-clause-fresh g c =
    subst (λ (b : IndexBodiesState). HasFields c.open-serializer.result.entries b b []) (sym c.open-serializer.ensures.bodies) (begun_fields c.open-serializer.result.entries c.args.writers.terms c.args.writers.postings c.args.writers.positions)

pub returns-in-Ok-clause-fault : goal.returns-in-Ok-clause-fault
returns-in-Ok-clause-fault g c ts hold have =
    let s = c.open-serializer.result in
    let r = c.close-terms.result in
    let entries = c.open-serializer.ensures.entries ∙ c.requires.same in
    let few = subst (λ (es : List SchemaEntry). length es < 2 ^ 32) (sym entries) c.requires.few in
    let parts = c.into_parts-ctx in
    let tokens : HaveHeldTokens s.entries parts.result.0.path_to_unordered_id parts.result.0.term_index parts.result.1 ts = rw (entries, parts.ensures.terms, parts.ensures.paths, parts.ensures.writers) have in
    let told = table_fault s c.serialize_postings.new.serializer parts.result.1 c.args.self.readers (resolved_terms (json_fields c.args.schema.now) parts.result.0.path_to_unordered_id parts.result.0.term_index) ts r.3
    few (c.in-Ok.ensures.tokens ts tokens) (c.in-Ok.ensures.ends.closes ∙ c.open-serializer.ensures.unclosed) c.in-Ok.ensures.wrote (record { full = c.close-terms.ensures.full; closed = c.close-terms.ensures.closed; only = c.close-terms.ensures.only }) in
    let fault = subst (λ (es : List SchemaEntry). IfErr r.3 (λ e. (e ≡ OutOfMemory) ⊎ (e ≡ Write) ⊎ PassLimits es c.args.writers.terms c.args.writers.postings c.args.writers.positions ts e)) entries
    (subst (λ (b : IndexBodiesState). IfErr r.3 (PassesBehind s.entries b ts)) c.open-serializer.ensures.bodies told) in
    IfErr-weaker r.3 _ _ (λ e fault. ⊎_elim inl (λ others. inr (⊎_elim inl (λ limits. inr (inl limits)) others)) fault) fault

pub returns-clause-fault : goal.returns-clause-fault
returns-clause-fault g c ts hold have =
    let s = c.open-serializer.result in
    let entries = c.open-serializer.ensures.entries ∙ c.requires.same in
    let few = subst (λ (es : List SchemaEntry). length es < 2 ^ 32) (sym entries) c.requires.few in
    let parts = c.into_parts-ctx in
    let tokens : HaveHeldTokens s.entries parts.result.0.path_to_unordered_id parts.result.0.term_index parts.result.1 ts = rw (entries, parts.ensures.terms, parts.ensures.paths, parts.ensures.writers) have in
    let told : PassesBehind s.entries s.bodies ts c.in-Err.fault = ⊎_elim (λ memory. inl memory)
    (λ held. subst (λ (r : Result (Unit {0}) Fault). IfErr r (PassesBehind s.entries s.bodies ts)) c.in-Err.is
    (terms_fault s parts.result.1 c.args.self.readers (resolved_terms (json_fields c.args.schema.now) parts.result.0.path_to_unordered_id parts.result.0.term_index) ts c.serialize_postings.result
    few held c.open-serializer.ensures.unclosed (λ is. (c.serialize_postings.ensures.ends.closed is).0) c.serialize_postings.ensures.fault)) (c.in-Err.ensures.tokens ts tokens) in
    let fault = subst (λ (es : List SchemaEntry). (c.in-Err.fault ≡ OutOfMemory) ⊎ (c.in-Err.fault ≡ Write) ⊎ PassLimits es c.args.writers.terms c.args.writers.postings c.args.writers.positions ts c.in-Err.fault) entries
    (subst (λ (b : IndexBodiesState). PassesBehind s.entries b ts c.in-Err.fault) c.open-serializer.ensures.bodies told) in
    ⊎_elim inl (λ others. inr (⊎_elim inl (λ limits. inr (inl limits)) others)) fault

pub returns-then-is_err-clause-grow : goal.returns-then-is_err-clause-grow
returns-then-is_err-clause-grow g c =
    let old = c.args.writers in
    let norms = writes_grows old.fieldnorms c.write_norms-written.new.writer _ c.write_norms-written.result c.write_norms-written.ensures.written in
    record { terms = grows_not old.terms old.terms refl; postings = grows_not old.postings old.postings refl; positions = grows_not old.positions old.positions refl; fieldnorms = norms }

pub returns-in-Ok-clause-grow : goal.returns-in-Ok-clause-grow
returns-in-Ok-clause-grow g c =
    let old = c.open-serializer.result.bodies in
    let now = c.serialize_postings.new.serializer.bodies in
    let r = c.close-terms.result in
    let norms = writes_grows c.args.writers.fieldnorms c.write_norms-written.new.writer _ c.write_norms-written.result c.write_norms-written.ensures.written in
    let before = c.serialize_postings.ensures.ends.grow in
    let after = c.close-terms.ensures.grow in
    let grown = subst (λ (b : IndexBodiesState). Grows b.terms.writer r.0 × Grows b.postings.writer r.1 × Grows b.positions.writer r.2) c.open-serializer.ensures.bodies (
      Grows-trans old.terms.writer now.terms.writer r.0 before.terms after.0,
      Grows-trans old.postings.writer now.postings.writer r.1 before.postings after.1,
      Grows-trans old.positions.writer now.positions.writer r.2 before.positions after.2,
    ) in
    rw c.new.ensures (record { terms = grown.0; postings = grown.1; positions = grown.2; fieldnorms = norms })

pub returns-clause-grow : goal.returns-clause-grow
returns-clause-grow g c =
    let w = c.into_writers-terms.result in
    let norms = writes_grows c.args.writers.fieldnorms c.write_norms-written.new.writer _ c.write_norms-written.result c.write_norms-written.ensures.written in
    let kept = c.serialize_postings.ensures.ends.grow in
    let grown = subst (λ (b : IndexBodiesState). Grows b.terms.writer w.0 × Grows b.postings.writer w.1 × Grows b.positions.writer w.2) c.open-serializer.ensures.bodies (rw c.into_writers-terms.ensures (kept.terms, kept.postings, kept.positions)) in
    rw c.new-in-Err.ensures (record { terms = grown.0; postings = grown.1; positions = grown.2; fieldnorms = norms })

pub returns-in-Ok-clause-holds : goal.returns-in-Ok-clause-holds
returns-in-Ok-clause-holds g c ts norms have =
    let went = sym c.if-is_err.false ∙ c.is_err.ensures.value in
    let bytes = c.args.self.norms in
    let norm_file = subst (λ (xs : List ℕ). Writes c.args.writers.fieldnorms c.write_norms-written.new.writer xs c.write_norms-written.result) c.deref.ensures c.write_norms-written.ensures.written in
    let wrote = writes_went c.args.writers.fieldnorms c.write_norms-written.new.writer bytes c.write_norms-written.result went norm_file in
    let s = c.open-serializer.result in
    let r = c.close-terms.result in
    let entries = c.open-serializer.ensures.entries ∙ c.requires.same in
    let few = subst (λ (es : List SchemaEntry). length es < 2 ^ 32) (sym entries) c.requires.few in
    let bodies = c.open-serializer.ensures.bodies in
    let parts = c.into_parts-ctx in
    let tokens : HaveHeldTokens s.entries parts.result.0.path_to_unordered_id parts.result.0.term_index parts.result.1 ts = rw (entries, parts.ensures.terms, parts.ensures.paths, parts.ensures.writers) have in
    let closed = closed_files s c.serialize_postings.new.serializer r.0 r.1 r.2 r.3 c.args.self.readers ts few (c.in-Ok.ensures.holds ts tokens) c.close-terms.ensures.terms c.close-terms.ensures.postings c.close-terms.ensures.positions in
    rw c.new.ensures (on_ok r.3 _ _
    (λ held. record {
      terms = record {
        terms = held.terms;
        postings = held.postings;
        positions = held.positions;
        wrote_terms = subst (λ (b : IndexBodiesState). Wrote b.terms.writer r.0 held.terms) bodies held.wrote_terms;
        wrote_postings = subst (λ (b : IndexBodiesState). Wrote b.postings.writer r.1 held.postings) bodies held.wrote_postings;
        wrote_positions = subst (λ (b : IndexBodiesState). Wrote b.positions.writer r.2 held.positions) bodies held.wrote_positions;
        hold = subst (λ (es : List SchemaEntry). HoldTokens (option_of es) held.terms held.postings held.positions ts) entries held.hold;
      };
      norms = record { fieldnorms = bytes; wrote = wrote; hold = norms };
      bounds = files_bound (option_of c.args.schema.now) held.terms held.postings bytes c.args.self.readers c.requires.read
          (subst (λ (es : List SchemaEntry). (tb pb : List Body) → composite held.terms ≡ Some tb → composite held.postings ≡ Some pb → HaveTrueBodies (option_of es) tb pb c.args.self.readers) entries held.bounds);
    })
    closed)

pub returns-then-is_err-clause-failures : goal.returns-then-is_err-clause-failures
returns-then-is_err-clause-failures g c = norms_refused c.args.writers c.write_norms-written.new.writer _ c.write_norms-written.result c.write_norms-written.ensures.written

pub returns-in-Ok-clause-failures : goal.returns-in-Ok-clause-failures
returns-in-Ok-clause-failures g c =
    let s = c.open-serializer.result in
    let r = c.close-terms.result in
    let counted = three_counted s.bodies c.serialize_postings.new.serializer.bodies c.serialize_postings.result c.in-Ok.field-0 r.0 r.1 r.2 r.3 c.in-Ok.is c.serialize_postings.ensures.ends.failures c.close-terms.ensures.failures in
    rw c.new.ensures (files_counted c.args.writers c.write_norms-written.new.writer r.0 r.1 r.2 _ s.bodies c.write_norms-written.result r.3 (sym c.if-is_err.false ∙ c.is_err.ensures.value) c.write_norms-written.ensures.written c.open-serializer.ensures.bodies counted)

pub returns-clause-failures : goal.returns-clause-failures
returns-clause-failures g c =
    let s = c.open-serializer.result in
    let w = c.into_writers-terms.result in
    let counted : CountsFailuresOf s.bodies w.0 w.1 w.2 (Err c.in-Err.fault) = search rules in
    rw c.new-in-Err.ensures (files_counted c.args.writers c.write_norms-written.new.writer w.0 w.1 w.2 _ s.bodies c.write_norms-written.result (Err c.in-Err.fault) (sym c.if-is_err.false ∙ c.is_err.ensures.value) c.write_norms-written.ensures.written c.open-serializer.ensures.bodies counted)
