use Rattle.ii_fieldnorm.specs.Readers.{Norms}
use Rattle.std.proofs.Common.{Option, rules, ℕ, inl, inr, Err, OnOk, List, length, map, [], ◌++◌, ◌≡◌, ◌<◌, ◌⊎◌, ◌∙◌, ap, subst, sym}
use Rattle.std.specs.Prelude.{IfErr, IsTrue}
use Rattle.std.proofs.lemmas.Result.{err_from_is_err_and}
use Rattle.std.specs.List.{AllByRecursion}
use Rattle.ii_base.specs.Schema.{SchemaEntry}
use Rattle.ii_base.specs.declared.schema.index_record_option.IndexRecordOption.{IndexRecordOption}
use Rattle.ii_io.specs.Composite.{body_of}
use Rattle.ii_io.specs.declared.faults.Fault.{Fault}
use Rattle.ii_io.specs.declared.faults.Fault.TheVariants.{OutOfMemory, SerializerClosed}
use Rattle.ii_definitions.specs.Fields.{option_of}
use Rattle.ii_recorder.specs.HeldTerms.{HoldsTerms}
use Rattle.ii_recorder.specs.IndexBodies.{AddsBodies}
use Rattle.ii_recorder.specs.IndexSerializer.{EndsWriting, IsWriting}
use Rattle.ii_recorder.specs.Terms.{field_bodies}
use Rattle.ii_recorder.proofs.GrowthLemmas.{AllGrow-trans, bodies_grow}
use Rattle.ii_termdict.specs.ReadBack.{AreAscending}
use Rattle.ii_postings_writer.proofs.FieldEndings.{ends_after, ends_field, left_memory, refused_before, refused_closes, same_part}
use Rattle.ii_postings_writer.proofs.FaultLemmas.{begun_fault, closed_fault, terms_of_part, unless_closed, written_within}
use Rattle.ii_postings_writer.proofs.PartLemmas.{keys_seen, part_wrote, some_seen, tokens_of_writer}
use Rattle.ii_postings_writer.proofs.SerializeLemmas.{all_written, always_on_ok}
use Rattle.ii_postings_writer.specs.declared.sorted_terms.TermOfField.{TermOfField}
use Rattle.ii_postings_writer.specs.FieldParts.{FieldPart, HasFields, parts_of, tokens_in}
use Rattle.ii_postings_writer.specs.PostingsWriterKind.{state_of_kind}
use Rattle.ii_postings_writer.specs.SortedTerms.{IsTold, SortedTerm, norms_in, state_of}
use Rattle.ii_postings_writer.specs.WriteFaults.{IsPartFault, IsTermsFaultAfter}
use Rattle.ii_postings_writer.proofs.postings_writer.serialize_field.Goals as goal

pub serialize-requires-clause-ascending : goal.serialize-requires-clause-ascending
serialize-requires-clause-ascending g c =
    let seen = c.as_slice-terms.result.now in
    let ascending = subst AreAscending (keys_seen seen) (rw c.as_slice-terms.ensures c.requires.ascending) in
    subst (λ (ks : List (List ℕ)). AreAscending (ks ++ map (λ (t : TermOfField). (state_of t).key) seen)) (sym c.in_ok-serializer.ensures.begins.terms.keys) ascending

pub returns-clause-wrote : goal.returns-clause-wrote
returns-clause-wrote g c first fs has =
    let initial = c.args.serializer.now.bodies in
    let entries = c.args.serializer.now.entries in
    let mode = option_of entries c.args.field in
    let norms = c.in_ok-fieldnorm_reader.fieldnorm_reader in
    let seen = c.as_slice-terms.result.now in
    let tokens = c.total_num_tokens-total_num_tokens.result in
    let begins = c.in_ok-serializer.ensures.begins in
    let started = c.in_ok-serializer.ensures.started in
    let s = c.serialize.new.serializer.index.now in
    let new = c.close.new.self.0.bodies in
    let us = all_written norms mode seen in
    let w = subst (λ (es : List SchemaEntry). IsWriting initial s c.args.field tokens norms (all_written norms (option_of es c.args.field) seen) []) started.entries
    (c.in_ok-serialize.ensures.writing initial c.args.field tokens norms [] begins) in
    let kept = w.mode ∙ ap (λ (es : List SchemaEntry). option_of es c.args.field) (c.serialize.ensures.ends.entries ∙ started.entries) in
    let adds = subst (λ (m : IndexRecordOption). OnOk c.close.result (AddsBodies initial new c.args.field (field_bodies m tokens us))) kept (c.close.ensures.wrote initial c.args.field tokens norms us c.in_ok-serialize.ensures.between w) in
    let holds = subst (λ (m : IndexRecordOption). OnOk c.close.result (HoldsTerms m tokens (field_bodies m tokens us) us)) kept (c.close.ensures.holds initial c.args.field tokens norms us c.in_ok-serialize.ensures.between w) in
    let told = subst (λ (m : IndexRecordOption). AllByRecursion (IsTold m) (map state_of seen)) (begins.mode ∙ ap (λ (es : List SchemaEntry). option_of es c.args.field) started.entries) c.in_ok-serialize.ensures.told in
    let within = written_within initial s c.args.field tokens norms mode seen kept w told in
    let p : FieldPart = record { field = c.args.field; tokens = tokens; norms = norms; terms = map state_of seen } in
    let wrote = part_wrote c.close.result entries first initial new fs p has (some_seen seen (search rules)) adds holds (always_on_ok c.close.result _ told) (always_on_ok c.close.result _ within) in
    let counted = c.total_num_tokens-total_num_tokens.ensures ∙ tokens_of_writer c.args.writers.now c.args.field (state_of_kind c.get_for_field-writer.result.now) c.get_for_field-writer.ensures in
    let all = subst (λ (n : ℕ). OnOk c.close.result (HasFields entries first new (fs ++ parts_of entries c.args.field n (norms_in c.args.norms.now c.args.field) c.args.terms.now))) counted
    (subst (λ (n : Option Norms). OnOk c.close.result (HasFields entries first new (fs ++ parts_of entries c.args.field p.tokens n c.args.terms.now))) c.in_ok-fieldnorm_reader.ensures.found
    (subst (λ (us : List SortedTerm). OnOk c.close.result (HasFields entries first new (fs ++ parts_of entries c.args.field p.tokens p.norms us))) c.as_slice-terms.ensures wrote)) in
    search (rules, all)

pub returns-clause-fault : goal.returns-clause-fault
returns-clause-fault g c =
    let initial = c.args.serializer.now.bodies in
    let entries = c.args.serializer.now.entries in
    let mode = option_of entries c.args.field in
    let norms = c.in_ok-fieldnorm_reader.fieldnorm_reader in
    let seen = c.as_slice-terms.result.now in
    let tokens = c.total_num_tokens-total_num_tokens.result in
    let started = c.in_ok-serializer.ensures.started in
    let s = c.serialize.new.serializer.index.now in
    let w = subst (λ (es : List SchemaEntry). IsWriting initial s c.args.field tokens norms (all_written norms (option_of es c.args.field) seen) []) started.entries
    (c.in_ok-serialize.ensures.writing initial c.args.field tokens norms [] c.in_ok-serializer.ensures.begins) in
    let kept = w.mode ∙ ap (λ (es : List SchemaEntry). option_of es c.args.field) (c.serialize.ensures.ends.entries ∙ started.entries) in
    let counted = c.total_num_tokens-total_num_tokens.ensures ∙ tokens_of_writer c.args.writers.now c.args.field (state_of_kind c.get_for_field-writer.result.now) c.get_for_field-writer.ensures in
    let same = same_part entries c.args.field tokens (tokens_in c.args.writers.now c.args.field) norms (norms_in c.args.norms.now c.args.field) (map state_of seen) c.args.terms.now counted c.in_ok-fieldnorm_reader.ensures.found c.as_slice-terms.ensures in
    subst (λ (p : FieldPart). IfErr c.close.result (λ e. (e ≡ SerializerClosed) ⊎ IsPartFault entries initial p e)) same
    (unless_closed c.close.result s.closed _ _ c.close.ensures.ends.closing.closed c.in_ok-serialize.ensures.ends.closing.closes.ok
    (λ e fault. inr (closed_fault initial s c.args.field tokens norms (all_written norms mode seen) mode e w c.in_ok-serialize.ensures.between kept fault)) c.close.ensures.fault)

pub returns-clause-ends : goal.returns-clause-ends
returns-clause-ends g c =
    let started = c.in_ok-serializer.ensures.started in
    let initial = c.args.serializer.now.bodies in
    let norms = c.in_ok-fieldnorm_reader.fieldnorm_reader in
    let tokens = c.total_num_tokens-total_num_tokens.result in
    let w = c.in_ok-serialize.ensures.writing initial c.args.field tokens norms [] c.in_ok-serializer.ensures.begins in
    let some = subst (λ (us : List SortedTerm). 0 < length us) c.as_slice-terms.ensures (some_seen c.as_slice-terms.result.now (search rules)) in
    let begun = bodies_grow initial c.in_ok-serializer.serializer.index.now.bodies c.args.field _ c.in_ok-serializer.ensures.begins.bodies in
    let written = AllGrow-trans initial c.in_ok-serializer.serializer.index.now.bodies c.serialize.new.serializer.index.now.bodies begun c.serialize.ensures.grow in
    let grown = AllGrow-trans initial c.serialize.new.serializer.index.now.bodies c.close.new.self.0.bodies written c.close.ensures.grow in
    let ends = ends_after c.args.serializer.now c.serialize.new.serializer.index.now c.close.new.self.0 c.close.result c.args.field _
    (λ closed. (let is = c.in_ok-serializer.ensures.refused.closed.1 closed in absurd (cc))) c.in_ok-serialize.ensures.ends.closing.closes.ok (c.serialize.ensures.ends.entries ∙ started.entries) w.bodies c.close.ensures.ends in
    let all = ends_field c.args.terms.now c.args.serializer.now c.close.new.self.0 c.close.result some ends grown in
    search (rules, all)

pub returns-clause-err : goal.returns-clause-err
returns-clause-err g c =
    let all = refused_closes c.close.result (IsTrue c.close.new.self.0.closed) (λ (e : Fault). (e ≡ OutOfMemory) × (c.close.new.self.0 ≡ c.args.serializer.now)) c.close.ensures.ends.closing.closes.err in
    search (rules, all)

pub returns-in_err-serializer-clause-fault : goal.returns-in_err-serializer-clause-fault
returns-in_err-serializer-clause-fault g c =
    let p = err_from_is_err_and c.from_residual-in_err-serializer.result c.from_residual-in_err-serializer.ensures.1 in
    let initial = c.args.serializer.now.bodies in
    let entries = c.args.serializer.now.entries in
    let mode = option_of entries c.args.field in
    let norms = c.in_ok-fieldnorm_reader.fieldnorm_reader in
    let seen = c.as_slice-terms.result.now in
    let tokens = c.total_num_tokens-total_num_tokens.result in
    let e = c.in_err-serializer.field-0.0 in
    let refused = c.in_err-serializer.ensures.refused in
    let counted = c.total_num_tokens-total_num_tokens.ensures ∙ tokens_of_writer c.args.writers.now c.args.field (state_of_kind c.get_for_field-writer.result.now) c.get_for_field-writer.ensures in
    let same = same_part entries c.args.field tokens (tokens_in c.args.writers.now c.args.field) norms (norms_in c.args.norms.now c.args.field) (map state_of seen) c.args.terms.now counted c.in_ok-fieldnorm_reader.ensures.found c.as_slice-terms.ensures in
    rw (p.1, p.2) (subst (λ (p : FieldPart). (e ≡ SerializerClosed) ⊎ IsPartFault entries initial p e) same (begun_fault mode tokens initial (all_written norms mode seen) e (λ is. refused.full (ap Err is)) refused.only))

pub returns-in_err-serialize-clause-fault : goal.returns-in_err-serialize-clause-fault
returns-in_err-serialize-clause-fault g c =
    let p = err_from_is_err_and c.from_residual-in_err-serialize.result c.from_residual-in_err-serialize.ensures.1 in
    let initial = c.args.serializer.now.bodies in
    let entries = c.args.serializer.now.entries in
    let mode = option_of entries c.args.field in
    let norms = c.in_ok-fieldnorm_reader.fieldnorm_reader in
    let seen = c.as_slice-terms.result.now in
    let tokens = c.total_num_tokens-total_num_tokens.result in
    let e = c.in_err-serialize.field-0.0 in
    let counted = c.total_num_tokens-total_num_tokens.ensures ∙ tokens_of_writer c.args.writers.now c.args.field (state_of_kind c.get_for_field-writer.result.now) c.get_for_field-writer.ensures in
    let same = same_part entries c.args.field tokens (tokens_in c.args.writers.now c.args.field) norms (norms_in c.args.norms.now c.args.field) (map state_of seen) c.args.terms.now counted c.in_ok-fieldnorm_reader.ensures.found c.as_slice-terms.ensures in
    let fault = subst (λ (es : List SchemaEntry). IsTermsFaultAfter initial (option_of es c.args.field) tokens [] (all_written norms (option_of es c.args.field) seen) e) c.in_ok-serializer.ensures.started.entries
    (c.in_err-serialize.ensures.fault initial c.args.field tokens norms [] c.in_ok-serializer.ensures.begins) in
    rw (p.1, p.2) (subst (λ (p : FieldPart). (e ≡ SerializerClosed) ⊎ IsPartFault entries initial p e) same (inr (terms_of_part mode tokens initial (all_written norms mode seen) e fault)))

pub returns-in_err-serialize-clause-ends : goal.returns-in_err-serialize-clause-ends
returns-in_err-serialize-clause-ends g c =
    let p = err_from_is_err_and c.from_residual-in_err-serialize.result c.from_residual-in_err-serialize.ensures.1 in
    let started = c.in_ok-serializer.ensures.started in
    let initial = c.args.serializer.now.bodies in
    let some = subst (λ (us : List SortedTerm). 0 < length us) c.as_slice-terms.ensures (some_seen c.as_slice-terms.result.now (search rules)) in
    let begun = bodies_grow initial c.in_ok-serializer.serializer.index.now.bodies c.args.field _ c.in_ok-serializer.ensures.begins.bodies in
    let grown = AllGrow-trans initial c.in_ok-serializer.serializer.index.now.bodies c.serialize.new.serializer.index.now.bodies begun c.serialize.ensures.grow in
    let ends : EndsWriting c.args.serializer.now c.serialize.new.serializer.index.now c.from_residual-in_err-serialize.result =
    rw (p.1, p.2) (ends_after c.args.serializer.now c.in_ok-serializer.serializer.index.now c.serialize.new.serializer.index.now (Err c.in_err-serialize.field-0.0) c.args.field _
    (λ closed. (let is = c.in_ok-serializer.ensures.refused.closed.1 closed in absurd (cc))) started.unclosed started.entries c.in_ok-serializer.ensures.begins.bodies c.in_err-serialize.ensures.ends) in
    let all = ends_field c.args.terms.now c.args.serializer.now c.serialize.new.serializer.index.now c.from_residual-in_err-serialize.result some ends grown in
    search (rules, all)

pub returns-in_err-fieldnorm_reader-clause-ends : goal.returns-in_err-fieldnorm_reader-clause-ends
returns-in_err-fieldnorm_reader-clause-ends g c =
    let p = err_from_is_err_and c.from_residual.result c.from_residual.ensures.1 in
    let e = c.in_err-fieldnorm_reader.field-0.0 in
    rw (p.1, p.2) (refused_before c.args.terms.now c.args.serializer.now c.args.serializer.now e
    (left_memory (body_of c.args.field c.args.norms.now) e (c.requires.norms c.args.field) c.in_err-fieldnorm_reader.ensures.damaged.0 (λ is. ap Err is) c.in_err-fieldnorm_reader.ensures.only))

pub returns-in_err-fieldnorm_reader-clause-fault : goal.returns-in_err-fieldnorm_reader-clause-fault
returns-in_err-fieldnorm_reader-clause-fault g c =
    let p = err_from_is_err_and c.from_residual.result c.from_residual.ensures.1 in
    let e = c.in_err-fieldnorm_reader.field-0.0 in
    rw (p.1, p.2) (inr (inl (left_memory (body_of c.args.field c.args.norms.now) e (c.requires.norms c.args.field) c.in_err-fieldnorm_reader.ensures.damaged.0 (λ is. ap Err is) c.in_err-fieldnorm_reader.ensures.only)))
