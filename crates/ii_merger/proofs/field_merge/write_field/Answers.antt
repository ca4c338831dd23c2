use Rattle.std.proofs.Common.{inl, inr, rules, ◌≡◌, ◌∙◌, ◌⊎◌, map, sym}
use Rattle.ii_io.specs.declared.faults.Fault.{Fault}
use Rattle.ii_io.specs.declared.faults.Fault.TheVariants.{SerializerClosed}
use Rattle.ii_recorder.proofs.GrowthLemmas.{AllGrow-trans, bodies_grow}
use Rattle.ii_recorder.specs.IndexSerializer.{IsFieldFault}
use Rattle.ii_merger.specs.MergeSources.{source_of}
use Rattle.ii_merger.specs.MergedField.{IsMergedFieldFault}
use Rattle.ii_merger.proofs.FieldMergeLemmas.{err_more}
use Rattle.ii_merger.proofs.WriteLemmas.{field_fault, wrote_field}
use Rattle.ii_merger.proofs.field_merge.write_field.Goals as goal

pub returns-in_err-merge_all_terms-clause-grow : goal.returns-in_err-merge_all_terms-clause-grow
returns-in_err-merge_all_terms-clause-grow g c =
    let initial = c.args.serializer.now.bodies in
    let begun = bodies_grow initial c.in_ok-serializer.serializer.index.now.bodies c.args.field _ c.in_ok-serializer.ensures.begins.bodies in
    let all = AllGrow-trans initial c.in_ok-serializer.serializer.index.now.bodies c.merge_all_terms.new.serializer.index.now.bodies begun c.merge_all_terms.ensures.grow in
    search (rules, all)

pub returns-clause-grow : goal.returns-clause-grow
returns-clause-grow g c =
    let initial = c.args.serializer.now.bodies in
    let begun = bodies_grow initial c.in_ok-serializer.serializer.index.now.bodies c.args.field _ c.in_ok-serializer.ensures.begins.bodies in
    let written = AllGrow-trans initial c.in_ok-serializer.serializer.index.now.bodies c.merge_all_terms.new.serializer.index.now.bodies begun c.merge_all_terms.ensures.grow in
    let all = AllGrow-trans initial c.merge_all_terms.new.serializer.index.now.bodies c.close.new.self.0.bodies written c.close.ensures.grow in
    search (rules, all)

pub returns-clause-wrote : goal.returns-clause-wrote
returns-clause-wrote g c =
    let initial = c.args.serializer.now.bodies in
    let tokens = c.args.total_num_tokens in
    let norms = c.args.fieldnorm_reader in
    let now = c.merge_all_terms.new.serializer.index.now in
    let wrote = c.in_ok-merge_all_terms.ensures.wrote initial c.args.field tokens norms c.in_ok-serializer.ensures.begins in
    let same = c.merge_all_terms.ensures.ends.entries ∙ c.in_ok-serializer.ensures.started.entries ∙ sym c.requires.schema in
    let between = c.in_ok-merge_all_terms.ensures.between in
    let all = wrote_field c.args.schema.now c.args.field tokens norms (map source_of c.args.sources.now) initial c.get_field_entry-entry.result.now c.get_field_entry-entry.ensures now c.close.new.self.0.bodies c.close.result wrote same
    (c.close.ensures.wrote initial c.args.field tokens norms _ between wrote.writing) (c.close.ensures.holds initial c.args.field tokens norms _ between wrote.writing) in
    search (rules, all)

pub returns-clause-fault : goal.returns-clause-fault
returns-clause-fault g c =
    let initial = c.args.serializer.now.bodies in
    let tokens = c.args.total_num_tokens in
    let norms = c.args.fieldnorm_reader in
    let now = c.merge_all_terms.new.serializer.index.now in
    let wrote = c.in_ok-merge_all_terms.ensures.wrote initial c.args.field tokens norms c.in_ok-serializer.ensures.begins in
    let same = c.merge_all_terms.ensures.ends.entries ∙ c.in_ok-serializer.ensures.started.entries ∙ sym c.requires.schema in
    err_more c.close.result (λ e. (e ≡ SerializerClosed) ⊎ IsFieldFault now e) (λ e. (e ≡ SerializerClosed) ⊎ IsMergedFieldFault c.args.schema.now c.args.field tokens norms (map source_of c.args.sources.now) initial e)
    (λ e cause. by e cause (field_fault c.args.schema.now c.args.field tokens norms (map source_of c.args.sources.now) initial c.get_field_entry-entry.result.now c.get_field_entry-entry.ensures now e wrote same c.in_ok-merge_all_terms.ensures.between)) c.close.ensures.fault
  where
    by : (e : Fault) → (e ≡ SerializerClosed) ⊎ IsFieldFault c.merge_all_terms.new.serializer.index.now e → (IsFieldFault c.merge_all_terms.new.serializer.index.now e → IsMergedFieldFault c.args.schema.now c.args.field c.args.total_num_tokens c.args.fieldnorm_reader (map source_of c.args.sources.now) c.args.serializer.now.bodies e)
        → (e ≡ SerializerClosed) ⊎ IsMergedFieldFault c.args.schema.now c.args.field c.args.total_num_tokens c.args.fieldnorm_reader (map source_of c.args.sources.now) c.args.serializer.now.bodies e
    by e (inl closed) f = inl closed
    by e (inr own) f = inr (f own)
