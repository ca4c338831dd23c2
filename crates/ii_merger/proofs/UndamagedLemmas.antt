-- The lists of segments that hold tokens aren't damaged.
use Rattle.std.proofs.Common.{inl, inr, ◌≡◌, ℕ, ◌<◌, ◌==◌, Bool, true, false, List, [], ◌∷◌, length, map, Option, Some, None, refl, sym, ap, ◌∙◌, arith}
use Rattle.std.specs.Prelude.{◌⊎◌, if◌then◌else◌, slice_get}
use Rattle.std.specs.List.{AllByRecursion}
use Rattle.std.proofs.lemmas.Bool.{eq-eqb, lt-ltb, ne_eqb}
use Rattle.ii_io.specs.declared.faults.Fault.{Fault}
use Rattle.ii_io.specs.declared.faults.Fault.TheVariants.{Damaged, Limit, OutOfMemory, SerializerClosed, Write}
use Rattle.ii_io.specs.declared.faults.Part.{Part}
use Rattle.ii_base.specs.declared.schema.index_record_option.IndexRecordOption.{IndexRecordOption}
use Rattle.ii_base.specs.declared.schema.index_record_option.IndexRecordOption.TheVariants.{Basic, WithFreqs, WithFreqsAndPositions}
use Rattle.ii_base.specs.Entries.{Entry}
use Rattle.ii_base.specs.Schema.{SchemaEntry}
use Rattle.ii_definitions.specs.Cut.{cut_entry}
use Rattle.ii_definitions.specs.Postings.{IsCounted, grouped, is_at, tokens_at}
use Rattle.ii_definitions.proofs.GroupedLaws.{grouped_counted, filter_below, grouped_below}
use Rattle.ii_fieldnorm.specs.Readers.{Norms}
use Rattle.ii_io.specs.CountingWriter.{IsFull}
use Rattle.ii_io.specs.declared.faults.LimitName.TheVariants as limit
use Rattle.ii_postings_writer.specs.WriteFaults.{IsFaultBy}
use Rattle.ii_recorder.specs.IndexBodies.{IndexBodiesState, OneIsFull}
use Rattle.ii_recorder.specs.Terms.{WrittenTerm, field_bodies}
use Rattle.ii_segments.specs.Segments.{Segment, is_living}
use Rattle.ii_merger.specs.MergeSources.{FieldSourceState, count_damage, damage_or, entries_damage, entry_damage, source_info, source_damage, list_under, key_damage}
use Rattle.ii_merger.specs.MergedField.{AreMergedKeys, IsKeyFault, IsMergedFieldFault, IsTermMergeFault, kind_under, merged_terms}
use Rattle.ii_merger.specs.SourcesHold.{SourceHolds, SourcesHold}
use Rattle.ii_merger.proofs.FieldLemmas.{IsFieldEntry, cut_are, held_list}

some_freq : (n : ℕ) → 0 < n → (n == 0) ≡ false
some_freq n some = ne_eqb n 0 (λ same. omega (arith, same, some))

cut_sound : (kind : IndexRecordOption) (e : Entry) → IsCounted e → count_damage kind (cut_entry kind e).term_freq (length (cut_entry kind e).positions) ≡ None
cut_sound Basic e counted = refl
cut_sound WithFreqs e counted = rw (some_freq e.term_freq counted.some) refl
cut_sound WithFreqsAndPositions e counted = rw (some_freq e.term_freq counted.some, eq-eqb (length e.positions) e.term_freq counted.many) refl

cut_undamaged : (kind : IndexRecordOption) (alive : List Bool) (e : Entry) → IsCounted e → e.doc < length alive → entry_damage kind alive (cut_entry kind e) ≡ None
cut_undamaged kind alive e counted below = rw (lt-ltb e.doc (length alive) below) (by (is_living alive e.doc))
  where
    by : (b : Bool) → (if b then count_damage kind (cut_entry kind e).term_freq (length (cut_entry kind e).positions) else None) ≡ None
    by true = cut_sound kind e counted
    by false = refl

all_undamaged : (kind : IndexRecordOption) (alive : List Bool) (es : List Entry) → AllByRecursion IsCounted es → AllByRecursion (λ (e : Entry). e.doc < length alive) es → entries_damage kind alive (map (cut_entry kind) es) ≡ None
all_undamaged kind alive [] counted below = refl
all_undamaged kind alive (e ∷ es) counted below = ap (λ (d : Option Part). damage_or d (entries_damage kind alive (map (cut_entry kind) es))) (cut_undamaged kind alive e counted.0 below.0) ∙ all_undamaged kind alive es counted.1 below.1

-- ---- sources that hold tokens
module _ (entries : List SchemaEntry) (field : ℕ) (entry : SchemaEntry) (is_entry : IsFieldEntry entries field entry) (key : List ℕ) where
  abbrev kind : IndexRecordOption
  kind = kind_under entry key

  source_undamaged : (source : FieldSourceState) (s : Segment) → SourceHolds entries field source s → source_damage kind source.alive (list_under kind source (source_info key source)) ≡ None
  source_undamaged source s h =
      let es = grouped (tokens_at field key s.tokens) in
      ap (source_damage kind source.alive) (held_list entries field key kind source s h)
      ∙ ap (entries_damage kind source.alive) (cut_are entries field entry is_entry s.tokens h.tokens.typed key)
      ∙ ap (λ (alive : List Bool). entries_damage kind alive (map (cut_entry kind) es)) h.alive
      ∙ all_undamaged kind s.alive es (grouped_counted (tokens_at field key s.tokens)) (grouped_below (length s.alive) (tokens_at field key s.tokens) (filter_below (length s.alive) (is_at field key) s.tokens h.tokens.below))

  term_undamaged : (sources : List FieldSourceState) (ss : List Segment) → SourcesHold entries field sources ss → key_damage kind key sources ≡ None
  term_undamaged [] [] hold = refl
  term_undamaged [] (s ∷ ss) hold = absurd (hold)
  term_undamaged (c ∷ cs) [] hold = absurd (hold)
  term_undamaged (c ∷ cs) (s ∷ ss) hold = ap (λ (d : Option Part). damage_or d (key_damage kind key cs)) (source_undamaged c s hold.0) ∙ term_undamaged cs ss hold.1

-- ---- faults
-- the entry of a field of the schema
pub entry_of_field : (entries : List SchemaEntry) (field : ℕ) (entry : SchemaEntry) → slice_get entries field ≡ Some entry → IsFieldEntry entries field entry
entry_of_field entries field entry is = record { option = rw is refl; value_type = rw is refl }

module _ (entries : List SchemaEntry) (field : ℕ) (sources : List FieldSourceState) (ss : List Segment) (hold : SourcesHold entries field sources ss) where
  -- no fault of writing is damage
  written_apart : {A B C : Type 0} (e : Fault) (part : Part) → IsFaultBy A B C e → ¬ (e ≡ Damaged part)
  written_apart e part (inl memory) same = absurd (cc)
  written_apart e part (inr (inl write)) same = absurd (cc)
  written_apart e part (inr (inr (inl sum))) same = let is = sum.0 in absurd (cc)
  written_apart e part (inr (inr (inr (inl long)))) same = let is = long.0 in absurd (cc)
  written_apart e part (inr (inr (inr (inr full)))) same = let is = full.0 in absurd (cc)

  cause_apart : (entry : SchemaEntry) (is : slice_get entries field ≡ Some entry) (key : List ℕ) (initial : IndexBodiesState) (tokens : ℕ) (norms : Option Norms) (ts : List WrittenTerm) (e : Fault) (part : Part)
      → IsTermMergeFault (kind_under entry key) key sources initial entry.option tokens norms ts e → ¬ (e ≡ Damaged part)
  cause_apart entry is key initial tokens norms ts e part (inl damaged) same =
      let none = term_undamaged entries field entry (entry_of_field entries field entry is) key sources ss hold in
      let some : None ≡ Some damaged.part = sym none ∙ damaged.is in
      absurd (cc)
  cause_apart entry is key initial tokens norms ts e part (inr fault) same = written_apart e part fault same

  pub no_damage : (tokens : ℕ) (norms : Option Norms) (old : IndexBodiesState) (e : Fault) → (e ≡ SerializerClosed) ⊎ IsMergedFieldFault entries field tokens norms sources old e → (part : Part) → ¬ (e ≡ Damaged part)
  no_damage tokens norms old e (inl closed) part same = absurd (cc)
  no_damage tokens norms old e (inr h) part same = by h.cause
    where
      by : (e ≡ OutOfMemory) ⊎ (e ≡ Write) ⊎ IsKeyFault h.entry sources old tokens norms e
          ⊎ ((e ≡ Limit limit.Offset) × (IsFull old.postings.writer 8 ⊎ ((keys : List (List ℕ)) × AreMergedKeys sources keys × OneIsFull old (field_bodies h.entry.option tokens (merged_terms norms h.entry sources keys))))) → ⊥
      by (inl memory) = absurd (cc)
      by (inr (inl write)) = absurd (cc)
      by (inr (inr (inl k))) = cause_apart h.entry h.is k.key old tokens norms (merged_terms norms h.entry sources k.keys) e part k.cause same
      by (inr (inr (inr full))) = let is = full.0 in absurd (cc)
