-- A term that is merged from sources, one after the other.
use Rattle.std.proofs.Common.{inl, inr, ◌≡◌, ℕ, ◌+◌, ◌<◌, ◌≤◌, Bool, true, false, List, [], ◌∷◌, ◌++◌, length, Result, Ok, Err, refl, sym, ap, ◌∙◌, subst, arith, append_assoc}
use Rattle.std.specs.Prelude.{◌⊎◌, IfErr, OnOk, Option, None, if◌then◌else◌}
use Rattle.std.specs.List.{AllByRecursion}
use Rattle.std.proofs.lemmas.List.{append-nil, map-append}
use Rattle.ii_io.specs.declared.faults.Fault.{Fault}
use Rattle.ii_io.specs.declared.faults.Fault.TheVariants.{SerializerClosed}
use Rattle.ii_io.specs.declared.faults.Part.{Part}
use Rattle.ii_base.specs.declared.doc_id.TheConstants.{TERMINATED}
use Rattle.ii_base.specs.declared.schema.index_record_option.IndexRecordOption.{IndexRecordOption}
use Rattle.ii_base.specs.declared.schema.index_record_option.IndexRecordOption.TheVariants.{Basic}
use Rattle.ii_base.specs.Entries.{Entry, docs_of}
use Rattle.ii_base.specs.Options.{has_freq, has_positions}
use Rattle.ii_alive.specs.Alive.{num_living}
use Rattle.ii_definitions.proofs.ListLaws.{all_both}
use Rattle.ii_fieldnorm.specs.Readers.{Norms}
use Rattle.ii_recorder.specs.FieldTerms.{term_under}
use Rattle.ii_recorder.specs.IndexBodies.{IndexBodiesState}
use Rattle.ii_recorder.specs.IndexSerializer.{EndsWriting, IndexSerializerState, IsTermFault, IsWriting}
use Rattle.ii_recorder.specs.OpenTerm.{OpenTermState}
use Rattle.ii_recorder.specs.Pushed.{AreReadable, FillTooLarge, pushed_deltas, pushed_freqs}
use Rattle.ii_recorder.specs.Terms.{WrittenTerm}
use Rattle.ii_recorder.specs.TokenTerms.{entries_term}
use Rattle.ii_recorder.proofs.PushLemmas.{writing_pushed}
use Rattle.ii_postings_writer.proofs.FaultLemmas.{ended_fault, unless_closed}
use Rattle.ii_postings_writer.specs.WriteFaults.{IsTermFaultAfter}
use Rattle.ii_segments.specs.Segments.{living_entries}
use Rattle.ii_merger.specs.MergeSources.{FieldSourceState, damage_or, entries_under, source_info, source_damage, list_under, merged_from, key_damage, living_in_sources}
use Rattle.ii_merger.specs.MergedField.{IsSoundTerm, IsTermMergeFault, term_of_entries}
use Rattle.ii_merger.specs.MergedTerm.{HasEntries, IsPushFault, IsReadableEntry, LieBetween, MayStart, Merges, skip_of}
use Rattle.ii_merger.proofs.ListingLemmas.{large_more}
use Rattle.ii_merger.proofs.MergeLemmas.{merges_open}
use Rattle.ii_merger.proofs.NumberLemmas.{between_both}
use Rattle.ii_merger.proofs.ReadableLemmas.{are_readable, skip_of_kind}

module _ (key : List ℕ) (kind : IndexRecordOption) (first : IndexSerializerState) (all : List FieldSourceState) where
  -- The sources before those that remain were merged.
  pub record IsMergingTerm (rest : List FieldSourceState) (begun : Bool) (base : ℕ) (now : IndexSerializerState) : Type 0 where
    pub done : List Entry
    pub parts : merged_from kind key 0 all ≡ done ++ merged_from kind key base rest
    pub base_is : base + living_in_sources rest ≡ living_in_sources all
    pub merges : Merges begun key kind first now done
    pub docs : LieBetween 0 base done
    pub readable : AllByRecursion (IsReadableEntry kind) done
    pub damage : key_damage kind key all ≡ key_damage kind key rest

  pub merging_none : IsMergingTerm all false 0 first
  merging_none = record { done = []; parts = refl; base_is = omega arith; merges = (refl, refl); docs = omega arith; readable = tt; damage = refl }

  -- the living entries of a source
  abbrev pub own : ℕ → FieldSourceState → List Entry
  own base s = living_entries base s.alive (entries_under kind s (source_info key s))

  module _ (rest : List FieldSourceState) (begun : Bool) (base : ℕ) (now : IndexSerializerState) (h : IsMergingTerm rest begun base now) where
    pub merging_next : (s : FieldSourceState) (more : List FieldSourceState) (b : Bool) (new : IndexSerializerState) → rest ≡ s ∷ more → Merges b key kind first new (h.done ++ own base s) → LieBetween base (base + num_living s.alive) (own base s)
        → AllByRecursion (IsReadableEntry kind) (own base s) → source_damage kind s.alive (list_under kind s (source_info key s)) ≡ None → IsMergingTerm more b (base + num_living s.alive) new
    merging_next s more b new is merges docs readable none = record {
      done = h.done ++ own base s;
      parts = h.parts ∙ ap (λ (ss : List FieldSourceState). h.done ++ merged_from kind key base ss) is ∙ sym (append_assoc h.done (own base s) (merged_from kind key (base + num_living s.alive) more));
      base_is = omega (arith, h.base_is, ap living_in_sources is);
      merges = merges;
      docs = between_both 0 base (base + num_living s.alive) h.done (own base s) h.docs docs;
      readable = all_both (IsReadableEntry kind) h.done (own base s) h.readable readable;
      damage = h.damage ∙ ap (key_damage kind key) is ∙ ap (λ (d : Option Part). damage_or d (key_damage kind key more)) none;
    }

    pub merging_all : rest ≡ [] → merged_from kind key 0 all ≡ h.done
    merging_all none = h.parts ∙ ap (λ (ss : List FieldSourceState). h.done ++ merged_from kind key base ss) none ∙ append-nil h.done

    -- What is known once all sources were merged.
    pub sound_term : rest ≡ [] → (kind ≡ first.field.term.mode) ⊎ (kind ≡ Basic) → base ≤ TERMINATED → IsSoundTerm kind all key
    sound_term none which low = record {
      sound = h.damage ∙ ap (key_damage kind key) none;
      readable = λ some. subst (AreReadable kind) (sym (merging_all none)) (by begun h.merges (subst (λ (es : List Entry). 0 < length es) (merging_all none) some));
    }
      where
        by : (b : Bool) → Merges b key kind first now h.done → 0 < length h.done → AreReadable kind h.done
        by false merges some = absurd (omega (arith, some, ap length merges.1))
        by true merges some =
            let start = merges.0.start.term in
            let small = subst (λ (t : OpenTermState). ¬ FillTooLarge t.skip_info t.freqs (pushed_freqs kind h.done)) start merges.0.pushed.small in
            let own_small = subst (λ (k : IndexRecordOption). ¬ FillTooLarge k [] (pushed_freqs kind h.done)) (skip_of_kind first.field.term.mode kind which) small in
            are_readable kind base h.done h.readable h.docs low some own_small merges.0.pushed.fit

    -- the lists of a source can't be merged
    pub merging_fault : (s : FieldSourceState) (more : List FieldSourceState) (e : Fault) (initial : IndexBodiesState) (tokens : ℕ) (norms : Option Norms) (ts : List WrittenTerm) → rest ≡ s ∷ more → (kind ≡ first.field.term.mode) ⊎ (kind ≡ Basic)
        → IsPushFault (source_damage kind s.alive (list_under kind s (source_info key s))) (skip_of first.field.term.mode kind) kind (h.done ++ own base s) e → IsTermMergeFault kind key all initial first.field.term.mode tokens norms ts e
    merging_fault s more e initial tokens norms ts is which (inl damaged) = inl (record {
      part = damaged.part;
      is = h.damage ∙ ap (key_damage kind key) is ∙ ap (λ (d : Option Part). damage_or d (key_damage kind key more)) damaged.is;
      reported = damaged.reported;
    })
    merging_fault s more e initial tokens norms ts is which (inr (inl memory)) = inr (inl memory)
    merging_fault s more e initial tokens norms ts is which (inr (inr large)) =
        let later = merged_from kind key (base + num_living s.alive) more in
        let entries : merged_from kind key 0 all ≡ (h.done ++ own base s) ++ later = h.parts ∙ ap (λ (ss : List FieldSourceState). h.done ++ merged_from kind key base ss) is ∙ sym (append_assoc h.done (own base s) later) in
        let skip = skip_of_kind first.field.term.mode kind which in
        let more_large = subst (FillTooLarge (skip_of first.field.term.mode kind) []) (sym (map-append (λ (f : Entry). if has_freq kind then f.term_freq else 0) (h.done ++ own base s) later))
        (large_more (skip_of first.field.term.mode kind) (pushed_freqs kind (h.done ++ own base s)) (pushed_freqs kind later) large.1) in
        inr (inr (inr (inl (
          large.0,
          subst (λ (es : List Entry). FillTooLarge kind [] (pushed_freqs kind es)) (sym entries)
              (subst (λ (k : IndexRecordOption). FillTooLarge k [] (pushed_freqs kind ((h.done ++ own base s) ++ later))) skip more_large),
        ))))

-- ---- the term that is written
no_deltas : (kind : IndexRecordOption) (es : List Entry) → has_positions kind ≡ false → AllByRecursion (IsReadableEntry kind) es → pushed_deltas es ≡ []
no_deltas kind [] none all = refl
no_deltas kind (e ∷ es) none all = rw (all.0.plain none, no_deltas kind es none all.1) refl

kept_deltas : (mode kind : IndexRecordOption) (es : List Entry) → (kind ≡ mode) ⊎ (kind ≡ Basic) → AllByRecursion (IsReadableEntry kind) es → (if has_positions mode then pushed_deltas es else []) ≡ pushed_deltas es
kept_deltas mode kind es which all = by (has_positions mode) refl
  where
    plain : (kind ≡ mode) ⊎ (kind ≡ Basic) → has_positions mode ≡ false → has_positions kind ≡ false
    plain (inl same) none = ap has_positions same ∙ none
    plain (inr basic) none = ap has_positions basic

    by : (b : Bool) → has_positions mode ≡ b → (if b then pushed_deltas es else []) ≡ pushed_deltas es
    by true has = refl
    by false none = sym (no_deltas kind es (plain which none) all)

module _ (key : List ℕ) (kind : IndexRecordOption) (first now : IndexSerializerState) (es : List Entry) where
  term_is : (norms : Option Norms) → HasEntries key kind first now es → (kind ≡ first.field.term.mode) ⊎ (kind ≡ Basic) → AllByRecursion (IsReadableEntry kind) es → first.field.term.norms ≡ norms
      → term_under key now.field.term ≡ entries_term norms kind key es
  term_is norms h which all same =
      let mode = first.field.term.mode in
      ap (λ (s : IndexSerializerState). term_under key s.field.term) h.pushed.ok
      ∙ ap (λ (t : OpenTermState). term_under key (record t { docs = t.docs ++ docs_of es; freqs = t.freqs ++ pushed_freqs kind es; deltas = if has_positions t.mode then t.deltas ++ pushed_deltas es else t.deltas })) h.start.term
      ∙ rw (skip_of_kind mode kind which, kept_deltas mode kind es which all, same) refl

  -- a field whose term is open, and has these entries
  pub still_writing : (initial : IndexBodiesState) (field tokens : ℕ) (norms : Option Norms) (ts : List WrittenTerm) → HasEntries key kind first now es → IsWriting initial first field tokens norms ts [] → IsWriting initial now field tokens norms ts (key ∷ [])
  still_writing initial field tokens norms ts h w =
      subst (λ (s : IndexSerializerState). IsWriting initial s field tokens norms ts (key ∷ [])) (sym h.pushed.ok) (writing_pushed kind initial h.started es field tokens norms ts (key ∷ []) (h.start.writing initial field tokens norms ts w))

  pub written_is : (initial : IndexBodiesState) (field tokens : ℕ) (norms : Option Norms) (ts : List WrittenTerm) (new : IndexSerializerState) → HasEntries key kind first now es → 0 < length es → (kind ≡ first.field.term.mode) ⊎ (kind ≡ Basic) → AllByRecursion (IsReadableEntry kind) es
      → IsWriting initial first field tokens norms ts [] → IsWriting initial new field tokens norms (ts ++ term_under key now.field.term ∷ []) [] → IsWriting initial new field tokens norms (ts ++ term_of_entries norms kind key es) []
  written_is initial field tokens norms ts new h some which all w written =
      subst (λ (us : List WrittenTerm). IsWriting initial new field tokens norms (ts ++ us) []) (ap (λ (t : WrittenTerm). t ∷ []) (term_is norms h which all w.norms_are) ∙ one es some) written
    where
      one : (fs : List Entry) → 0 < length fs → entries_term norms kind key fs ∷ [] ≡ term_of_entries norms kind key fs
      one [] some = absurd (omega (arith, some))
      one (f ∷ fs) some = refl

  -- the term can't be ended
  pub ended_is : (initial : IndexBodiesState) (field tokens : ℕ) (norms : Option Norms) (ts : List WrittenTerm) (e : Fault) → HasEntries key kind first now es → (kind ≡ first.field.term.mode) ⊎ (kind ≡ Basic) → AllByRecursion (IsReadableEntry kind) es
      → IsWriting initial first field tokens norms ts [] → IsTermFault now e → IsTermFaultAfter initial first.field.term.mode tokens ts (entries_term norms kind key es) e
  ended_is initial field tokens norms ts e h which all w fault =
      let small = subst (λ (t : OpenTermState). ¬ FillTooLarge t.skip_info t.freqs (pushed_freqs kind es)) h.start.term h.pushed.small in
      let own_small = subst (λ (k : IndexRecordOption). ¬ FillTooLarge k [] (pushed_freqs kind es)) (skip_of_kind first.field.term.mode kind which) small in
      let mode : now.field.term.mode ≡ first.field.term.mode = ap (λ (s : IndexSerializerState). s.field.term.mode) h.pushed.ok ∙ ap (λ (t : OpenTermState). t.mode) h.start.term in
      ended_fault initial now field tokens norms ts first.field.term.mode key (entries_term norms kind key es) e (still_writing initial field tokens norms ts h w) mode (term_is norms h which all w.norms_are) own_small fault

-- ---- how a term ends
module _ (key : List ℕ) (kind : IndexRecordOption) (first now new : IndexSerializerState) (result : Result (Unit {0}) Fault) (none : now.closed ≡ false → now.field.term_open ≡ false → (result ≡ Ok tt) × (new ≡ now)) where
  none_fault : (P : Fault → Type 0) → result ≡ Ok tt → IfErr result P
  none_fault P is = rw is tt

  pub closing_writing : (begun : Bool) (es : List Entry) → Merges begun key kind first now es → MayStart key first → (kind ≡ first.field.term.mode) ⊎ (kind ≡ Basic) → AllByRecursion (IsReadableEntry kind) es
      → (initial : IndexBodiesState) (field tokens : ℕ) (norms : Option Norms) (ts : List WrittenTerm) → IsWriting initial first field tokens norms ts []
      → (now.field.term_open ≡ true → IsWriting initial now field tokens norms ts (key ∷ []) → OnOk result (IsWriting initial new field tokens norms (ts ++ term_under key now.field.term ∷ []) []))
      → OnOk result (IsWriting initial new field tokens norms (ts ++ term_of_entries norms kind key es) [])
  closing_writing false es h start which all initial field tokens norms ts w ended =
      let done = none (merges_open key kind first false now es start h) (ap (λ (s : IndexSerializerState). s.field.term_open) h.0 ∙ start.between) in
      rw (done.0, h.1, append-nil ts) (subst (λ (s : IndexSerializerState). IsWriting initial s field tokens norms ts []) (sym (done.1 ∙ h.0)) w)
  closing_writing true es h start which all initial field tokens norms ts w ended =
      let inside : now.field.term_open ≡ true = ap (λ (s : IndexSerializerState). s.field.term_open) h.0.pushed.ok ∙ h.0.start.inside in
      by result (ended inside (still_writing key kind first now es initial field tokens norms ts h.0 w))
    where
      by : (r : Result (Unit {0}) Fault) → OnOk r (IsWriting initial new field tokens norms (ts ++ term_under key now.field.term ∷ []) []) → OnOk r (IsWriting initial new field tokens norms (ts ++ term_of_entries norms kind key es) [])
      by (Ok u) written = written_is key kind first now es initial field tokens norms ts new h.0 h.1 which all w written
      by (Err e) written = tt

  pub closing_fault : (begun : Bool) (es : List Entry) (ss : List FieldSourceState) → Merges begun key kind first now es → MayStart key first → (kind ≡ first.field.term.mode) ⊎ (kind ≡ Basic) → AllByRecursion (IsReadableEntry kind) es → merged_from kind key 0 ss ≡ es
      → (initial : IndexBodiesState) (field tokens : ℕ) (norms : Option Norms) (ts : List WrittenTerm) → IsWriting initial first field tokens norms ts [] → EndsWriting now new result
      → IfErr result (λ e. (e ≡ SerializerClosed) ⊎ IsTermFault now e) → IfErr result (IsTermMergeFault kind key ss initial first.field.term.mode tokens norms ts)
  closing_fault false es ss h start which all entries initial field tokens norms ts w ends fault =
      let done = none (merges_open key kind first false now es start h) (ap (λ (s : IndexSerializerState). s.field.term_open) h.0 ∙ start.between) in
      none_fault (IsTermMergeFault kind key ss initial first.field.term.mode tokens norms ts) done.0
  closing_fault true es ss h start which all entries initial field tokens norms ts w ends fault =
      unless_closed result now.closed (IsTermFault now) (IsTermMergeFault kind key ss initial first.field.term.mode tokens norms ts) ends.closing.closed (merges_open key kind first true now es start h)
      (λ e own. inr (subst (λ (fs : List Entry). IsTermFaultAfter initial first.field.term.mode tokens ts (entries_term norms kind key fs) e) (sym entries) (ended_is key kind first now es initial field tokens norms ts e h.0 which all w own))) fault
