use Rattle.std.proofs.Common.{◌∙◌, List, length, map, sym, ap, subst, arith, ◌≡◌, ◌<◌, Option}
use Rattle.ii_merger.specs.MergeSources.{FieldSourceState, source_of, living_in_sources}
use Rattle.ii_merger.specs.MergedIndex.{all_living, opened_segment, norms_of_field}
use Rattle.ii_merger.specs.MergedTerm.{CoversBelow}
use Rattle.ii_merger.specs.SourcesHold.{SourcesHold, WroteField}
use Rattle.ii_segments.specs.Segments.{index_tokens}
use Rattle.ii_merger.proofs.IndexMergeLemmas.{fields_hold, lacks_field, norms_cover, same_living}
use Rattle.ii_merger.proofs.index_merge.add_field.Goals as goal
use Rattle.std.specs.Prelude.{◌⊎◌, IfErr, OnOk}
use Rattle.ii_io.specs.declared.faults.Fault.{Fault}
use Rattle.ii_io.specs.declared.faults.Fault.TheVariants.{OutOfMemory}
use Rattle.ii_fieldnorm.specs.Readers.{Norms}
use Rattle.ii_merger.specs.MergedField.{IsMergedFieldFault, WroteMergedField}
use Rattle.ii_merger.proofs.PartLemmas.{field_ends, field_fails}

pub merge_field-requires-clause-lacks : goal.merge_field-requires-clause-lacks
merge_field-requires-clause-lacks g c unclosed = lacks_field c.args.field (length c.args.schema.now) c.args.serializer.now.bodies c.requires.known c.requires.may.many c.requires.below

pub merge_field-requires-clause-few : goal.merge_field-requires-clause-few
merge_field-requires-clause-few g c =
    let ss = map opened_segment c.args.sources.now in
    let same = ap living_in_sources (ap (map source_of) c.as_slice.ensures.value ∙ c.in-Ok.ensures.ok) ∙ same_living c.args.field ss in
    omega (arith, same, c.requires.may.few)

pub merge_field-requires-clause-covered : goal.merge_field-requires-clause-covered
merge_field-requires-clause-covered g c =
    let ss = map opened_segment c.args.sources.now in
    let same = ap living_in_sources (ap (map source_of) c.as_slice.ensures.value ∙ c.in-Ok.ensures.ok) ∙ same_living c.args.field ss in
    subst (CoversBelow c.in-Ok-get_field.reader) (sym same) (norms_cover c.args.field (all_living ss) c.args.norms.now c.in-Ok-get_field.reader c.in-Ok-get_field.ensures.found c.requires.may.norms)

pub returns-clause-holds : goal.returns-clause-holds
returns-clause-holds g c ss hold counted some =
    let same = ap (map source_of) c.as_slice.ensures.value ∙ c.in-Ok.ensures.ok in
    subst (λ (n : Option Norms). OnOk c.merge_field.result (WroteField c.args.schema.now c.args.serializer.now.bodies c.merge_field.new.serializer.bodies c.args.field n (index_tokens ss))) c.in-Ok-get_field.ensures.found
    (c.merge_field.ensures.holds ss (subst (λ (fs : List FieldSourceState). SourcesHold c.args.schema.now c.args.field fs ss) (sym same) (fields_hold c.args.schema.now c.args.field (map opened_segment c.args.sources.now) ss c.requires.known hold)) counted some)

pub returns-clause-wrote : goal.returns-clause-wrote
returns-clause-wrote g c some =
    let ss = map opened_segment c.args.sources.now in
    let same = ap (map source_of) c.as_slice.ensures.value ∙ c.in-Ok.ensures.ok in
    let r = c.merge_field.result in
    let old = c.args.serializer.now.bodies in
    let new = c.merge_field.new.serializer.bodies in
    subst (λ (fs : List FieldSourceState). OnOk r (WroteMergedField c.args.schema.now c.args.field c.args.total_num_tokens (norms_of_field c.args.norms.now c.args.field) fs old new)) same
    (subst (λ (n : Option Norms). OnOk r (WroteMergedField c.args.schema.now c.args.field c.args.total_num_tokens n (map source_of c.as_slice.result.now) old new)) c.in-Ok-get_field.ensures.found (c.merge_field.ensures.wrote some))

pub returns-clause-fault : goal.returns-clause-fault
returns-clause-fault g c =
    let same = ap (map source_of) c.as_slice.ensures.value ∙ c.in-Ok.ensures.ok in
    let r = c.merge_field.result in
    let total = c.args.total_num_tokens in
    let old = c.args.serializer.now.bodies in
    let cause = field_fails total (IsMergedFieldFault c.args.schema.now c.args.field total c.in-Ok-get_field.reader (map source_of c.as_slice.result.now) old) c.args.serializer.now c.merge_field.new.serializer r c.requires.open c.merge_field.ensures.none c.merge_field.ensures.ends c.merge_field.ensures.fault in
    subst (λ (fs : List FieldSourceState). IfErr r (λ (e : Fault). (e ≡ OutOfMemory) ⊎ ((0 < total) × IsMergedFieldFault c.args.schema.now c.args.field total (norms_of_field c.args.norms.now c.args.field) fs old e))) same
    (subst (λ (n : Option Norms). IfErr r (λ (e : Fault). (e ≡ OutOfMemory) ⊎ ((0 < total) × IsMergedFieldFault c.args.schema.now c.args.field total n (map source_of c.as_slice.result.now) old e))) c.in-Ok-get_field.ensures.found cause)

pub returns-clause-ends : goal.returns-clause-ends
returns-clause-ends g c =
    field_ends c.args.total_num_tokens c.args.serializer.now c.merge_field.new.serializer c.merge_field.result c.requires.open c.merge_field.ensures.none c.merge_field.ensures.ends c.merge_field.ensures.grow

pub returns-clause-undamaged : goal.returns-clause-undamaged
returns-clause-undamaged g c ss hold =
    let same = ap (map source_of) c.as_slice.ensures.value ∙ c.in-Ok.ensures.ok in
    c.merge_field.ensures.undamaged ss (subst (λ (fs : List FieldSourceState). SourcesHold c.args.schema.now c.args.field fs ss) (sym same) (fields_hold c.args.schema.now c.args.field (map opened_segment c.args.sources.now) ss c.requires.known hold))
