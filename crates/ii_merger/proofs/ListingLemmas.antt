-- A list whose living documents are added to a term, one after the other.
use Rattle.std.proofs.Common.{inl, inr, ◌≡◌, ℕ, suc, ◌+◌, ◌≤◌, Bool, true, false, List, [], ◌∷◌, ◌++◌, Ok, refl, sym, ap, ◌∙◌, subst, arith, append_assoc, length-append}
use Rattle.std.specs.Prelude.{Option, None, if◌then◌else◌}
use Rattle.std.proofs.lemmas.List.{append-nil, map-append, take-append-le}
use Rattle.ii_io.specs.declared.faults.Fault.{Fault}
use Rattle.ii_io.specs.declared.faults.Part.{Part}
use Rattle.ii_base.specs.declared.schema.index_record_option.IndexRecordOption.{IndexRecordOption}
use Rattle.ii_base.specs.Entries.{Entry}
use Rattle.ii_base.specs.Options.{has_freq}
use Rattle.ii_alive.specs.Alive.{rank}
use Rattle.ii_alive.proofs.RankLemmas.{rank_mono}
use Rattle.ii_docset.specs.Cursor.{IsAscending, doc_at}
use Rattle.ii_recorder.specs.IndexSerializer.{EndsInMemory, IndexSerializerState}
use Rattle.ii_recorder.specs.Pushed.{FillTooLarge, pushed_freqs}
use Rattle.ii_segments.specs.Segments.{is_living, living_entries}
use Rattle.ii_merger.specs.MergeSources.{damage_or, entries_damage}
use Rattle.ii_merger.specs.MergedTerm.{IsPushFault, LieBetween, MayMerge, MayStart, Merges, skip_of}
use Rattle.ii_merger.proofs.MergeLemmas.{ends_after, ends_same, merges_norms, merges_open}
use Rattle.ii_merger.proofs.NumberLemmas.{between_both, living_both, raise_between, rank_next}
use Rattle.ii_merger.proofs.ReadableLemmas.{damage_both}

pub large_more : (skip_info : IndexRecordOption) (xs ys : List ℕ) → FillTooLarge skip_info [] xs → FillTooLarge skip_info [] (xs ++ ys)
large_more skip_info xs ys h = (h.0, omega (arith, h.1, length-append xs ys), rw (take-append-le (h.0 + 1) xs ys (omega (arith, h.1))) h.2)

-- a fault of entries is one of more entries, after sound ones
pub fault_within : (kind skip_info : IndexRecordOption) (e : Fault) (first damage later : Option Part) (es more : List Entry) → first ≡ None → IsPushFault damage skip_info kind es e → IsPushFault (damage_or first (damage_or damage later)) skip_info kind (es ++ more) e
fault_within kind skip_info e first damage later es more none (inl damaged) =
    inl (record { part = damaged.part; is = rw (none, damaged.is) refl; reported = damaged.reported })
fault_within kind skip_info e first damage later es more none (inr (inl memory)) = inr (inl memory)
fault_within kind skip_info e first damage later es more none (inr (inr large)) =
    inr (inr (large.0, subst (FillTooLarge skip_info []) (sym (map-append (λ (f : Entry). if has_freq kind then f.term_freq else 0) es more)) (large_more skip_info (pushed_freqs kind es) (pushed_freqs kind more) large.1)))

module _ (key : List ℕ) (kind : IndexRecordOption) (alive : List Bool) (base : ℕ) where
  abbrev living : List Entry → List Entry
  living es = living_entries base alive es

  living_one : (e : Entry) → LieBetween (base + rank alive e.doc) (base + rank alive (suc e.doc)) (living (e ∷ []))
  living_one e = by (is_living alive e.doc) refl
    where
      by : (b : Bool) → is_living alive e.doc ≡ b → LieBetween (base + rank alive e.doc) (base + rank alive (suc e.doc)) (living (e ∷ []))
      by true lives = let next = rank_next alive e.doc lives in rw lives (omega arith, omega (arith, next))
      by false dead = let more = rank_mono alive e.doc (suc e.doc) (omega arith) in rw dead (omega (arith, more))

  -- The documents of a list before those that remain were added, if they are alive.
  pub record IsListing (begun : Bool) (first : IndexSerializerState) (all rest : List Entry) (now_begun : Bool) (now : IndexSerializerState) : Type 0 where
    pub done : List Entry
    pub parts : all ≡ done ++ rest
    pub may : MayMerge now_begun key kind now (base + rank alive (doc_at rest))
    pub merges : (old : IndexSerializerState) (es : List Entry) → MayStart key old → Merges begun key kind old first es → Merges now_begun key kind old now (es ++ living done)
    pub sound : entries_damage kind alive done ≡ None
    pub ends : EndsInMemory {A = Unit {0}} first now (Ok tt)
    pub norms : now.field.term.norms ≡ first.field.term.norms

  pub may_open : (begun : Bool) (now : IndexSerializerState) (next : ℕ) → MayMerge begun key kind now next → now.closed ≡ false
  may_open begun now next may = merges_open key kind may.old begun now may.es may.start may.merges

  pub listing_none : (begun : Bool) (first : IndexSerializerState) (all : List Entry) → MayMerge begun key kind first base → IsListing begun first all all begun first
  listing_none begun first all may = record {
    done = [];
    parts = refl;
    may = record { old = may.old; es = may.es; start = may.start; merges = may.merges; docs = raise_between 0 base (base + rank alive (doc_at all)) may.es may.docs (omega arith) };
    merges = λ old es start h. subst (Merges begun key kind old first) (sym (append-nil es)) h;
    sound = refl;
    ends = ends_same first tt (may_open begun first base may);
    norms = refl;
  }

  module _ (begun : Bool) (first : IndexSerializerState) (all rest : List Entry) (now_begun : Bool) (now : IndexSerializerState) (h : IsListing begun first all rest now_begun now) (e : Entry) (more : List Entry) (is : rest ≡ e ∷ more) where
    abbrev Adds : Bool → IndexSerializerState → Type 0
    Adds b new = (old : IndexSerializerState) (es : List Entry) → MayStart key old → Merges now_begun key kind old now es → Merges b key kind old new (es ++ living (e ∷ []))

    all_is : all ≡ (h.done ++ e ∷ []) ++ more
    all_is = h.parts ∙ ap (λ (es : List Entry). h.done ++ es) is ∙ sym (append_assoc h.done (e ∷ []) more)

    living_done : (es : List Entry) → (es ++ living h.done) ++ living (e ∷ []) ≡ es ++ living (h.done ++ e ∷ [])
    living_done es = append_assoc es (living h.done) (living (e ∷ [])) ∙ ap (λ (fs : List Entry). es ++ fs) (sym (living_both base alive h.done (e ∷ [])))

    pub listing_next : (b : Bool) (new : IndexSerializerState) → IsAscending rest → Adds b new → entries_damage kind alive (e ∷ []) ≡ None → EndsInMemory {A = Bool} now new (Ok b) → IsListing begun first all more b new
    listing_next b new ascending adds none ends =
        let here : doc_at rest ≡ e.doc = ap doc_at is in
        let docs : LieBetween 0 (base + rank alive e.doc) h.may.es = subst (λ (d : ℕ). LieBetween 0 (base + rank alive d) h.may.es) here h.may.docs in
        let later : suc e.doc ≤ doc_at more = next_below (subst IsAscending is ascending) in
        let up = rank_mono alive (suc e.doc) (doc_at more) later in
        let adds_may = adds h.may.old h.may.es h.may.start h.may.merges in
        record {
          done = h.done ++ e ∷ [];
          parts = all_is;
          may = record {
            old = h.may.old;
            es = h.may.es ++ living (e ∷ []);
            start = h.may.start;
            merges = adds_may;
            docs = raise_between 0 (base + rank alive (suc e.doc)) (base + rank alive (doc_at more)) (h.may.es ++ living (e ∷ []))
                (between_both 0 (base + rank alive e.doc) (base + rank alive (suc e.doc)) h.may.es (living (e ∷ [])) docs (living_one e)) (omega (arith, up));
          };
          merges = λ old es start m. subst (Merges b key kind old new) (living_done es) (adds old (es ++ living h.done) start (h.merges old es start m));
          sound = damage_both kind alive h.done (e ∷ []) ∙ ap (λ (d : Option Part). damage_or d (entries_damage kind alive (e ∷ []))) h.sound ∙ none;
          ends = ends_after first now new tt (Ok tt) h.ends (as_unit ends);
          norms = merges_norms key kind h.may.old b new (h.may.es ++ living (e ∷ [])) adds_may ∙ sym (merges_norms key kind h.may.old now_begun now h.may.es h.may.merges) ∙ h.norms;
        }
      where
        next_below : IsAscending (e ∷ more) → suc e.doc ≤ doc_at more
        next_below ascending = omega (arith, ascending.0)

        as_unit : EndsInMemory {A = Bool} now new (Ok b) → EndsInMemory {A = Unit {0}} now new (Ok tt)
        as_unit ends = Rattle.ii_merger.proofs.MergeLemmas.ends_as_ok now new b tt ends

    -- the next document is refused
    pub listing_fault : (f : Fault) (old : IndexSerializerState) (es : List Entry) → MayStart key old → Merges begun key kind old first es
        → ((es : List Entry) → Merges now_begun key kind old now es → IsPushFault (entries_damage kind alive (e ∷ [])) (skip_of old.field.term.mode kind) kind (es ++ living (e ∷ [])) f)
        → IsPushFault (entries_damage kind alive all) (skip_of old.field.term.mode kind) kind (es ++ living all) f
    listing_fault f old es start m fault =
        let here = fault (es ++ living h.done) (h.merges old es start m) in
        let skip = skip_of old.field.term.mode kind in
        let whole = fault_within kind skip f (entries_damage kind alive h.done) (entries_damage kind alive (e ∷ [])) (entries_damage kind alive more) ((es ++ living h.done) ++ living (e ∷ [])) (living more) h.sound here in
        let damage : damage_or (entries_damage kind alive h.done) (damage_or (entries_damage kind alive (e ∷ [])) (entries_damage kind alive more)) ≡ entries_damage kind alive all =
        ap (damage_or (entries_damage kind alive h.done)) (sym (damage_both kind alive (e ∷ []) more)) ∙ sym (damage_both kind alive h.done (e ∷ more)) ∙ ap (entries_damage kind alive) (sym (h.parts ∙ ap (λ (fs : List Entry). h.done ++ fs) is)) in
        let entries : ((es ++ living h.done) ++ living (e ∷ [])) ++ living more ≡ es ++ living all =
        ap (λ (fs : List Entry). fs ++ living more) (living_done es) ∙ append_assoc es (living (h.done ++ e ∷ [])) (living more)
        ∙ ap (λ (fs : List Entry). es ++ fs) (sym (living_both base alive (h.done ++ e ∷ []) more) ∙ ap living (sym all_is)) in
        subst (λ (d : Option Part). IsPushFault d skip kind (es ++ living all) f) damage (subst (λ (fs : List Entry). IsPushFault (damage_or (entries_damage kind alive h.done) (damage_or (entries_damage kind alive (e ∷ [])) (entries_damage kind alive more))) skip kind fs f) entries whole)

  -- all documents were added
  pub listing_all : (begun : Bool) (first : IndexSerializerState) (all rest : List Entry) (now_begun : Bool) (now : IndexSerializerState) (h : IsListing begun first all rest now_begun now) → rest ≡ [] → all ≡ h.done
  listing_all begun first all rest now_begun now h none = h.parts ∙ ap (λ (es : List Entry). h.done ++ es) none ∙ append-nil h.done
