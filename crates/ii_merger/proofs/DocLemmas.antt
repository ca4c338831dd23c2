-- The current document of a list, as it is added to a term.
use Rattle.std.proofs.Common.{inl, inr, ◌≡◌, ℕ, ◌+◌, ◌<◌, ◌≤◌, Bool, true, false, List, [], ◌∷◌, ◌++◌, drop, length, take, Ok, Err, refl, sym, ap, ◌∙◌, subst, arith, length-append}
use Rattle.std.specs.Prelude.{◌⊎◌, IsTrue, Option, None, Some}
use Rattle.std.specs.List.{AllByRecursion}
use Rattle.std.proofs.lemmas.Bool.{lt-ltb}
use Rattle.ii_io.specs.declared.faults.Fault.{Fault}
use Rattle.ii_io.specs.declared.faults.Part.{Part}
use Rattle.ii_base.specs.declared.doc_id.TheConstants.{TERMINATED}
use Rattle.ii_base.specs.declared.schema.index_record_option.IndexRecordOption.{IndexRecordOption}
use Rattle.ii_base.specs.Entries.{Entry}
use Rattle.ii_alive.specs.Alive.{num_living, rank}
use Rattle.ii_alive.proofs.RankLemmas.{rank_below}
use Rattle.ii_docset.specs.Cursor.{doc_at, positions_at, term_freq_at}
use Rattle.ii_fieldnorm.specs.Readers.{Norms}
use Rattle.ii_recorder.specs.IndexSerializer.{IndexSerializerState}
use Rattle.ii_recorder.specs.Pushed.{Pushes}
use Rattle.ii_segments.specs.Segments.{is_living, living_entries}
use Rattle.ii_merger.specs.MergeSources.{IsDamageOf, count_damage, damage_or, entries_damage}
use Rattle.ii_merger.specs.MergedTerm.{CoversBelow, HasEntries, IsPushFault, IsStartedTerm, LieBetween, MayMerge, MayPushDoc, Merges, first_under, skip_of}
use Rattle.ii_merger.proofs.ListLemmas.{IsPlain}
use Rattle.ii_merger.proofs.MergeLemmas.{has_may_push, has_more, has_norms, merges_norms, push_fault, started_none}

-- The current entry of a list, and those after it.
pub record IsFirst (es : List Entry) : Type 0 where
  pub entry : Entry
  pub is : es ≡ entry ∷ drop 1 es
  pub alone : take 1 es ≡ entry ∷ []

pub first_of : (es : List Entry) → doc_at es < TERMINATED → IsFirst es
first_of [] low = absurd (omega (arith, low))
first_of (e ∷ es) low = record { entry = e; is = refl; alone = refl }

pub plain_at : (done rest : List Entry) → AllByRecursion IsPlain (done ++ rest) → positions_at rest ≡ []
plain_at [] [] all = refl
plain_at [] (e ∷ es) all = all.0
plain_at (d ∷ done) rest all = plain_at done rest all.1

-- the entry of a living document, under its number
pub first_living : (base : ℕ) (alive : List Bool) (number : ℕ) (es : List Entry) → doc_at es < TERMINATED → is_living alive (doc_at es) ≡ true → number ≡ base + rank alive (doc_at es) → living_entries base alive (take 1 es) ≡ first_under number es
first_living base alive number [] low living is = absurd (omega (arith, low))
first_living base alive number (e ∷ es) low living is = rw living (ap (λ (n : ℕ). (record e { doc = n }) ∷ []) (sym is))

or_none : (d : Option Part) → damage_or d None ≡ d
or_none None = refl
or_none (Some part) = refl

-- the damage of a living document
pub damage_first : (kind : IndexRecordOption) (alive : List Bool) (es : List Entry) → doc_at es < TERMINATED → doc_at es < length alive → is_living alive (doc_at es) ≡ true
    → entries_damage kind alive (take 1 es) ≡ count_damage kind (term_freq_at false es) (length (positions_at es))
damage_first kind alive [] low inside living = absurd (omega (arith, low))
damage_first kind alive (e ∷ es) low inside living = rw (lt-ltb e.doc (length alive) inside, living) (or_none (count_damage kind e.term_freq (length e.positions)))

module _ (key : List ℕ) (kind : IndexRecordOption) where
  -- a term that is started
  pub has_begun : (old : IndexSerializerState) (begun : Bool) (now new : IndexSerializerState) (es : List Entry) → Merges begun key kind old now es → (IsTrue begun → new ≡ now) → (begun ≡ false → IsStartedTerm key kind now new) → HasEntries key kind old new es
  has_begun old true now new es h same start = subst (λ (s : IndexSerializerState). HasEntries key kind old s es) (sym (same refl)) h.0
  has_begun old false now new es h same start = subst (HasEntries key kind old new) (sym h.1) (started_none key kind old new (subst (λ (s : IndexSerializerState). IsStartedTerm key kind s new) h.0 (start refl)))

  pub may_push_doc : (begun : Bool) (now new : IndexSerializerState) (alive : List Bool) (base doc number : ℕ) → MayMerge begun key kind now (base + rank alive doc) → (IsTrue begun → new ≡ now) → (begun ≡ false → IsStartedTerm key kind now new)
      → is_living alive doc ≡ true → number ≡ base + rank alive doc → base + num_living alive ≤ TERMINATED → CoversBelow now.field.term.norms (base + num_living alive) → MayPushDoc kind new number
  may_push_doc begun now new alive base doc number may same start living is high covers =
      let has = has_begun may.old begun now new may.es may.merges same start in
      let norms : now.field.term.norms ≡ new.field.term.norms = merges_norms key kind may.old begun now may.es may.merges ∙ sym (has_norms key kind may.old new may.es has) in
      has_may_push key kind may.old new may.es number (base + num_living alive) has (subst (λ (n : ℕ). LieBetween 0 n may.es) (sym is) may.docs) (omega (arith, is, rank_below alive doc living)) high
      (subst (λ (n : Option Norms). CoversBelow n (base + num_living alive)) norms covers)

  pub merges_doc : (old : IndexSerializerState) (begun : Bool) (now mid new : IndexSerializerState) (es own : List Entry) (number : ℕ) (rest : List Entry) → Merges begun key kind old now es → (IsTrue begun → mid ≡ now) → (begun ≡ false → IsStartedTerm key kind now mid)
      → own ≡ first_under number rest → doc_at rest < TERMINATED → Pushes kind mid new (first_under number rest) (Ok tt) → Merges true key kind old new (es ++ own)
  merges_doc old begun now mid new es own number rest h same start is low pushed =
      let has = has_more key kind old mid new es (first_under number rest) (has_begun old begun now mid es h same start) pushed in
      (subst (λ (fs : List Entry). HasEntries key kind old new (es ++ fs)) (sym is) has, omega (arith, length-append es own, ap length is, one rest low))
    where
      one : (fs : List Entry) → doc_at fs < TERMINATED → length (first_under number fs) ≡ 1
      one [] low = absurd (omega (arith, low))
      one (f ∷ fs) low = refl

  pub fault_doc : (old : IndexSerializerState) (begun : Bool) (now mid new : IndexSerializerState) (es own : List Entry) (number : ℕ) (rest : List Entry) (counts damage : Option Part) (e : Fault) → Merges begun key kind old now es → (IsTrue begun → mid ≡ now) → (begun ≡ false → IsStartedTerm key kind now mid)
      → own ≡ first_under number rest → damage ≡ counts → IsDamageOf counts e ⊎ Pushes kind mid new (first_under number rest) (Err e) → IsPushFault damage (skip_of old.field.term.mode kind) kind (es ++ own) e
  fault_doc old begun now mid new es own number rest counts damage e h same start is of (inl damaged) = inl (record { part = damaged.part; is = of ∙ damaged.is; reported = damaged.reported })
  fault_doc old begun now mid new es own number rest counts damage e h same start is of (inr refused) =
      subst (λ (fs : List Entry). IsPushFault damage (skip_of old.field.term.mode kind) kind (es ++ fs) e) (sym is) (push_fault key kind old mid new es (first_under number rest) damage e (has_begun old begun now mid es h same start) refused)
