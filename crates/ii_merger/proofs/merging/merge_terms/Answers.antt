use Rattle.std.proofs.Common.{inr, ◌≡◌, ◌∙◌, ◌++◌, ℕ, [], List, Some, Ok, Option, map, refl, sym, ap, subst, arith, Bor}
use Rattle.std.specs.Prelude.{IfErr}
use Rattle.std.specs.Option.{option_map}
use Rattle.ii_base.specs.declared.schema.index_record_option.IndexRecordOption.{IndexRecordOption}
use Rattle.ii_fieldnorm.specs.Readers.{Norms}
use Rattle.ii_termdict.specs.Dictionary.{TermEntry}
use Rattle.ii_termdict.specs.TermMerger.{least_key}
use Rattle.ii_recorder.specs.IndexSerializer.{IsWriting}
use Rattle.ii_recorder.proofs.GrowthLemmas.{AllGrow-trans}
use Rattle.ii_merger.specs.MergeSources.{merged_from, source_of, living_in_sources}
use Rattle.ii_merger.specs.MergedField.{IsSoundTerm, IsTermMergeFault, merged_terms, term_of_entries}
use Rattle.ii_merger.specs.MergedTerm.{CoversBelow}
use Rattle.ii_merger.proofs.FieldMergeLemmas.{IsMergingField, all_infos, err_more, field_all, field_next, field_none, kept_kind, key_fault, lent_dictionaries, may_start, same_mode, same_norms}
use Rattle.ii_merger.proofs.KeyLemmas.{behind_lighter, weight}
use Rattle.ii_merger.proofs.MergeLemmas.{went_well, writes_after, writes_well, writes_none}
use Rattle.ii_merger.proofs.merging.merge_terms.Goals as goal

pub loop-key-init : goal.loop-key-init
loop-key-init g c = record {
  same = refl;
  merging = field_none c.args.entry.now (map source_of c.args.sources.now) c.args.serializer.now.index.now c.args.terms.now (c.requires.terms ∙ lent_dictionaries c.args.sources.now) c.requires.ascending c.requires.between
      (writes_none c.args.serializer.now.index.now c.requires.open);
}

pub merge_term-merged-requires-clause-start : goal.merge_term-merged-requires-clause-start
merge_term-merged-requires-clause-start g c =
    let is : least_key c.loop-key.terms ≡ Some c.in-Some.key.now = sym c.least_key.ensures ∙ ap (option_map (λ (k : Bor (List ℕ)). k.now)) c.in-Some.is in
    may_start c.args.entry.now (map source_of c.args.sources.now) c.args.serializer.now.index.now c.loop-key.terms c.loop-key.serializer.index.now c.loop-key.invariant.merging c.requires.fresh c.in-Some.key.now is

pub merge_term-merged-requires-clause-infos : goal.merge_term-merged-requires-clause-infos
merge_term-merged-requires-clause-infos g c =
    let is : least_key c.loop-key.terms ≡ Some c.in-Some.key.now = sym c.least_key.ensures ∙ ap (option_map (λ (k : Bor (List ℕ)). k.now)) c.in-Some.is in
    c.deref.ensures.value ∙ c.in_default-take.ensures.infos
    ∙ all_infos c.args.entry.now (map source_of c.args.sources.now) c.args.serializer.now.index.now c.loop-key.terms c.loop-key.serializer.index.now c.loop-key.invariant.merging c.requires.fresh c.in-Some.key.now is c.first_infos_are_all.ensures

pub merge_term-merged-requires-clause-covered : goal.merge_term-merged-requires-clause-covered
merge_term-merged-requires-clause-covered g c =
    let norms = same_norms c.args.entry.now (map source_of c.args.sources.now) c.args.serializer.now.index.now c.loop-key.terms c.loop-key.serializer.index.now c.loop-key.invariant.merging c.requires.fresh in
    subst (λ (n : Option Norms). CoversBelow n (living_in_sources (map source_of c.args.sources.now))) (sym norms) c.requires.covered

pub merge_term-merged-requires-clause-kind : goal.merge_term-merged-requires-clause-kind
merge_term-merged-requires-clause-kind g c =
    let mode = same_mode c.args.entry.now (map source_of c.args.sources.now) c.args.serializer.now.index.now c.loop-key.terms c.loop-key.serializer.index.now c.loop-key.invariant.merging c.requires.fresh ∙ c.requires.mode in
    kept_kind c.args.entry.now c.in-Some.key.now c.kind_under-kind.result c.loop-key.serializer.index.now.field.term.mode c.kind_under-kind.ensures mode

pub returns-then-is_err-clause-fault : goal.returns-then-is_err-clause-fault
returns-then-is_err-clause-fault g c initial field tokens norms writing =
    let is : least_key c.loop-key.terms ≡ Some c.in-Some.key.now = sym c.least_key.ensures ∙ ap (option_map (λ (k : Bor (List ℕ)). k.now)) c.in-Some.is in
    let entry = c.args.entry.now in
    let ss = map source_of c.args.sources.now in
    let first = c.args.serializer.now.index.now in
    let now = c.loop-key.serializer.index.now in
    let h = c.loop-key.invariant.merging in
    let ts = merged_terms norms entry ss h.done in
    let fault = subst (λ (k : IndexRecordOption). IfErr c.merge_term-merged.result (IsTermMergeFault k c.in-Some.key.now ss initial now.field.term.mode tokens norms ts)) c.kind_under-kind.ensures
    (c.merge_term-merged.ensures.fault initial field tokens norms ts (h.writing initial field tokens norms writing)) in
    err_more c.merge_term-merged.result _ _ (λ e cause. inr (key_fault entry ss first c.loop-key.terms now h c.requires.fresh c.in-Some.key.now is initial field tokens norms e c.requires.mode cause)) fault

pub returns-then-is_err-clause-grow : goal.returns-then-is_err-clause-grow
returns-then-is_err-clause-grow g c =
    AllGrow-trans c.args.serializer.now.index.now.bodies c.loop-key.serializer.index.now.bodies c.merge_term-merged.new.serializer.index.now.bodies c.loop-key.invariant.merging.grow c.merge_term-merged.ensures.grow

pub loop-key-smaller : goal.loop-key-smaller
loop-key-smaller g c =
    let is : least_key c.loop-key.terms ≡ Some c.in-Some.key.now = sym c.least_key.ensures ∙ ap (option_map (λ (k : Bor (List ℕ)). k.now)) c.in-Some.is in
    omega (arith, ap weight c.in_default-take.ensures.rest, behind_lighter c.in-Some.key.now c.loop-key.terms is)

pub loop-key-preserved : goal.loop-key-preserved
loop-key-preserved g c =
    let is : least_key c.loop-key.terms ≡ Some c.in-Some.key.now = sym c.least_key.ensures ∙ ap (option_map (λ (k : Bor (List ℕ)). k.now)) c.in-Some.is in
    let entry = c.args.entry.now in
    let ss = map source_of c.args.sources.now in
    let key = c.in-Some.key.now in
    let first = c.args.serializer.now.index.now in
    let now = c.loop-key.serializer.index.now in
    let new = c.merge_term-merged.new.serializer.index.now in
    let h = c.loop-key.invariant.merging in
    let went = sym c.is_err.ensures.value ∙ c.if-is_err.false in
    let sound = subst (λ (k : IndexRecordOption). IsSoundTerm k ss key) c.kind_under-kind.ensures (went_well _ c.merge_term-merged.result went c.merge_term-merged.ensures.sound) in
    let next = field_next entry ss first c.loop-key.terms now h c.requires.fresh key is new sound
    (λ initial field tokens norms ts w. subst (λ (k : IndexRecordOption). IsWriting initial new field tokens norms (ts ++ term_of_entries norms k key (merged_from k key 0 ss)) []) c.kind_under-kind.ensures
    (went_well _ c.merge_term-merged.result went (c.merge_term-merged.ensures.writing initial field tokens norms ts w)))
    (went_well _ c.merge_term-merged.result went c.merge_term-merged.ensures.between)
    (writes_after first now new tt (Ok tt) h.ends (writes_well now new c.merge_term-merged.result went c.merge_term-merged.ensures.ends))
    c.merge_term-merged.ensures.grow in
    record {
      same = c.merge_term-merged.ensures.same_reference ∙ c.loop-key.invariant.same;
      merging = subst (λ (ess : List (List TermEntry)). IsMergingField entry ss first ess new) (sym c.in_default-take.ensures.rest) next;
    }

pub returns-clause-wrote : goal.returns-clause-wrote
returns-clause-wrote g c initial field tokens norms writing =
    field_all c.args.entry.now (map source_of c.args.sources.now) c.args.serializer.now.index.now c.loop-key.terms c.loop-key.serializer.index.now c.loop-key.invariant.merging c.requires.fresh
    (sym c.least_key.ensures ∙ ap (option_map (λ (k : Bor (List ℕ)). k.now)) c.in_default.is) initial field tokens norms writing
