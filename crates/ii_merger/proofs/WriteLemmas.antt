-- A field that was written with the terms of sources.
use Rattle.std.proofs.Common.{inl, inr, ◌≡◌, ℕ, List, [], map, Option, Some, Result, Ok, Err, false, refl, sym, ap, ◌∙◌, subst, arith}
use Rattle.std.specs.Prelude.{◌⊎◌, OnOk, slice_get}
use Rattle.ii_io.specs.declared.faults.Fault.{Fault}
use Rattle.ii_io.specs.declared.faults.Fault.TheVariants.{Limit, OutOfMemory, Write}
use Rattle.ii_io.specs.declared.faults.LimitName.TheVariants as limit
use Rattle.ii_io.specs.CountingWriter.{IsFull}
use Rattle.ii_base.specs.declared.schema.index_record_option.IndexRecordOption.{IndexRecordOption}
use Rattle.ii_base.specs.Schema.{SchemaEntry}
use Rattle.ii_definitions.specs.Fields.{option_of}
use Rattle.ii_definitions.specs.Postings.{field_count}
use Rattle.ii_fieldnorm.specs.Readers.{Norms}
use Rattle.ii_recorder.specs.HeldTerms.{HoldsTerms}
use Rattle.ii_recorder.specs.IndexBodies.{AddsBodies, IndexBodiesState, OneIsFull}
use Rattle.ii_recorder.specs.IndexSerializer.{IndexSerializerState, IsFieldFault, IsWriting}
use Rattle.ii_recorder.specs.Terms.{WrittenTerm, field_bodies}
use Rattle.ii_recorder.specs.TokenTerms.{BoundsItsTokens, HoldsItsTokens, field_keys, token_term}
use Rattle.ii_postings_writer.specs.TermLimits.{PassEnds}
use Rattle.ii_postings_writer.specs.WriteFaults.{IsFaultBy}
use Rattle.ii_postings_writer.proofs.FaultLemmas.{closed_fault}
use Rattle.ii_segments.specs.SegmentLaws.{KeysOfSegments}
use Rattle.ii_segments.specs.Segments.{Segment, index_tokens}
use Rattle.ii_merger.specs.MergeSources.{FieldSourceState}
use Rattle.ii_merger.specs.MergedField.{AreMergedKeys, IsKeyFault, IsMergedFieldFault, WroteMergedField, WroteTerms, merged_terms}
use Rattle.ii_merger.specs.SourcesHold.{SourcesHold, WroteField}
use Rattle.ii_merger.proofs.FieldLemmas.{field_readable, field_terms}
use Rattle.ii_merger.proofs.UndamagedLemmas.{entry_of_field}

module _ (entries : List SchemaEntry) (field tokens : ℕ) (norms : Option Norms) (ss : List FieldSourceState) (initial : IndexBodiesState) (entry : SchemaEntry) (is : slice_get entries field ≡ Some entry) where
  -- the option of the field while it is written
  pub own_mode : (now : IndexSerializerState) (ts : List WrittenTerm) → IsWriting initial now field tokens norms ts [] → now.entries ≡ entries → now.field.term.mode ≡ entry.option
  own_mode now ts w same = w.mode ∙ ap (λ (es : List SchemaEntry). option_of es field) same ∙ (entry_of_field entries field entry is).option

  pub wrote_field : (now : IndexSerializerState) (new : IndexBodiesState) (result : Result (Unit {0}) Fault) (wrote : WroteTerms entry ss initial now field tokens norms) → now.entries ≡ entries
      → OnOk result (AddsBodies initial new field (field_bodies now.field.term.mode tokens (merged_terms norms entry ss wrote.keys))) → OnOk result (HoldsTerms now.field.term.mode tokens (field_bodies now.field.term.mode tokens (merged_terms norms entry ss wrote.keys)) (merged_terms norms entry ss wrote.keys))
      → OnOk result (WroteMergedField entries field tokens norms ss initial new)
  wrote_field now new (Err e) wrote same adds holds = tt
  wrote_field now new (Ok u) wrote same adds holds =
      let ts = merged_terms norms entry ss wrote.keys in
      let mode = own_mode now ts wrote.writing same in
      record {
        entry = entry;
        is = is;
        keys = wrote.keys;
        are = wrote.are;
        sound = wrote.sound;
        adds = subst (λ (m : IndexRecordOption). AddsBodies initial new field (field_bodies m tokens ts)) mode adds;
        holds = subst (λ (m : IndexRecordOption). HoldsTerms m tokens (field_bodies m tokens ts) ts) mode holds;
      }

  no_ends : (now : IndexSerializerState) (ts : List WrittenTerm) → IsWriting initial now field tokens norms ts [] → ¬ PassEnds now.field.term.mode ts
  no_ends now ts w (inl far) = absurd (omega (arith, far, w.terms.postings, w.terms.within.0))
  no_ends now ts w (inr far) = absurd (omega (arith, far, w.terms.positions, w.terms.within.1))

  pub field_fault : (now : IndexSerializerState) (e : Fault) (wrote : WroteTerms entry ss initial now field tokens norms) → now.entries ≡ entries → now.field.term_open ≡ false → IsFieldFault now e → IsMergedFieldFault entries field tokens norms ss initial e
  field_fault now e wrote same between fault =
      let ts = merged_terms norms entry ss wrote.keys in
      let mode = own_mode now ts wrote.writing same in
      record { entry = entry; is = is; cause = by mode (closed_fault initial now field tokens norms ts {A = ⊥} {B = ⊥} now.field.term.mode e wrote.writing between refl fault) }
    where
      all : List WrittenTerm
      all = merged_terms norms entry ss wrote.keys

      by : now.field.term.mode ≡ entry.option → IsFaultBy ⊥ ⊥ (OneIsFull initial (field_bodies now.field.term.mode tokens all) ⊎ PassEnds now.field.term.mode all) e
          → (e ≡ OutOfMemory) ⊎ (e ≡ Write) ⊎ IsKeyFault entry ss initial tokens norms e
          ⊎ ((e ≡ Limit limit.Offset) × (IsFull initial.postings.writer 8 ⊎ ((keys : List (List ℕ)) × AreMergedKeys ss keys × OneIsFull initial (field_bodies entry.option tokens (merged_terms norms entry ss keys)))))
      by mode (inl memory) = inl memory
      by mode (inr (inl write)) = inr (inl write)
      by mode (inr (inr (inl sum))) = absurd (sum.1)
      by mode (inr (inr (inr (inl long)))) = absurd (long.1)
      by mode (inr (inr (inr (inr (is, inl full))))) = inr (inr (inr (is, inr (wrote.keys, wrote.are, subst (λ (m : IndexRecordOption). OneIsFull initial (field_bodies m tokens all)) mode full))))
      by mode (inr (inr (inr (inr (is, inr far))))) = absurd (no_ends now all wrote.writing far)

-- a field that was written holds the tokens of the living documents
pub wrote_tokens : KeysOfSegments → HoldsItsTokens → BoundsItsTokens → (entries : List SchemaEntry) (field tokens : ℕ) (norms : Option Norms) (sources : List FieldSourceState) (ss : List Segment) (old new : IndexBodiesState) → SourcesHold entries field sources ss
    → tokens ≡ field_count field (index_tokens ss) → WroteMergedField entries field tokens norms sources old new → WroteField entries old new field norms (index_tokens ss)
wrote_tokens keys law bounded entries field tokens norms sources ss old new hold counted h =
    let own = entry_of_field entries field h.entry h.is in
    let ts = index_tokens ss in
    let option = option_of entries field in
    let bodies = field_bodies h.entry.option tokens (merged_terms norms h.entry sources h.keys) in
    let by_option = subst (λ (m : IndexRecordOption). HoldsTerms m tokens bodies (merged_terms norms h.entry sources h.keys)) (sym own.option) h.holds in
    let by_tokens = subst (λ (n : ℕ). HoldsTerms option n bodies (merged_terms norms h.entry sources h.keys)) counted by_option in
    let by_terms : HoldsTerms option (field_count field ts) bodies (map (token_term norms option field ts) (field_keys field ts)) = subst (HoldsTerms option (field_count field ts) bodies) (field_terms keys entries field h.entry own sources ss hold norms h.keys h.are) by_tokens in
    let readable = field_readable keys entries field h.entry own sources ss hold h.keys h.are h.sound in
    record {
      bodies = bodies;
      adds = h.adds;
      holds = law norms option field ts bodies readable by_terms;
      bounds = λ n is. bounded n option field ts bodies readable (subst (λ (o : Option Norms). HoldsTerms option (field_count field ts) bodies (map (token_term o option field ts) (field_keys field ts))) is by_terms);
    }
