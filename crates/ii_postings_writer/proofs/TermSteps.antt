-- The steps that write a term of a field: it is begun, its entries are added, and it is ended.
use Rattle.std.proofs.Common.{Option, Result, Ok, Err, OnOk, ◌≡◌, ℕ, ◌⊎◌, inl, Bool, true, false, List, [], ◌∷◌, ◌++◌, if◌then◌else◌, refl, ap, subst, ◌∙◌}
use Rattle.std.specs.Prelude.{IfErr, IsTrue}
use Rattle.ii_io.specs.declared.faults.Fault.{Fault}
use Rattle.ii_io.specs.declared.faults.Fault.TheVariants.{Limit, OutOfMemory, SerializerClosed}
use Rattle.ii_io.specs.declared.faults.LimitName.TheVariants as limit
use Rattle.ii_base.specs.declared.schema.index_record_option.IndexRecordOption.{IndexRecordOption}
use Rattle.ii_base.specs.declared.schema.index_record_option.IndexRecordOption.TheVariants.{Basic}
use Rattle.ii_base.specs.Options.{has_freq, has_positions}
use Rattle.ii_base.specs.Entries.{Entry}
use Rattle.ii_fieldnorm.specs.Readers.{Norms}
use Rattle.ii_definitions.specs.Fields.{option_of}
use Rattle.ii_recorder.specs.FieldTerms.{term_under}
use Rattle.ii_recorder.specs.OpenTerm.{OpenTermState}
use Rattle.ii_recorder.specs.IndexBodies.{AllGrow, IndexBodiesState}
use Rattle.ii_recorder.specs.IndexSerializer.{EndsInMemory, EndsWriting, IndexSerializerState, IsTermFault, IsWriting}
use Rattle.ii_recorder.specs.Pushed.{FillTooLarge, HaveDeltas, MayPush, Pushes, pushed_freqs}
use Rattle.ii_recorder.specs.Recorded.{entries_of_recorder}
use Rattle.ii_recorder.specs.Terms.{WrittenTerm}
use Rattle.ii_postings_writer.specs.SortedTerms.{IsTold, IsWritable, SortedTerm, written_term}
use Rattle.ii_postings_writer.specs.TermLimits.{HasLargeSum}
use Rattle.ii_postings_writer.specs.TermSteps.{IsBegunTerm}
use Rattle.ii_postings_writer.specs.WriteFaults.{IsTermFaultAfter}
use Rattle.ii_postings_writer.proofs.FaultLemmas.{ended_fault, unless_closed}
use Rattle.ii_postings_writer.proofs.FieldEndings.{ends_after_none, ends_in_memory, grow_by_none, not_closed, push_apart, push_fault}
use Rattle.ii_postings_writer.proofs.SerializeLemmas.{always_on_ok, pushed_writing}
use Rattle.ii_postings_writer.proofs.TermIndexLemmas.{on_ok}

-- How the steps end.
pub record WritesTerm (old new : IndexSerializerState) (t : SortedTerm) (result : Result (Unit {0}) Fault) : Type 0 where
  pub writing : (initial : IndexBodiesState) (field tokens : ℕ) (norms : Option Norms) (ts : List WrittenTerm) → IsWriting initial old field tokens norms ts []
      → OnOk result (IsWriting initial new field tokens norms (ts ++ written_term norms (option_of old.entries field) t ∷ []) [])
  pub told : OnOk result (IsTold old.field.term.mode t)
  pub between : OnOk result (new.field.term_open ≡ false)
  pub ends : EndsWriting old new result
  pub grow : AllGrow old.bodies new.bodies
  pub fault : (initial : IndexBodiesState) (field tokens : ℕ) (norms : Option Norms) (ts : List WrittenTerm) → IsWriting initial old field tokens norms ts []
      → IfErr result (IsTermFaultAfter initial (option_of old.entries field) tokens ts (written_term norms (option_of old.entries field) t))

counts_kept : (b : Bool) (mode : IndexRecordOption) → IsTrue (has_freq (if b then mode else Basic)) → IsTrue b
counts_kept true mode has = refl
counts_kept false mode has = has

module _ (s mid : IndexSerializerState) (t : SortedTerm) (unclosed : s.closed ≡ false) where
  -- memory wasn't enough to begin the term
  pub not_begun : (e : Fault) → EndsInMemory {A = Unit {0}} s mid (Err e) → e ≡ OutOfMemory → WritesTerm s mid t (Err e)
  not_begun e ends memory = record {
    writing = λ initial field tokens norms ts w. tt;
    told = tt;
    between = tt;
    ends = ends_in_memory s mid e (λ is. absurd (cc)) ends;
    grow = grow_by_none s.bodies mid.bodies ends.bodies;
    fault = λ initial field tokens norms ts w. inl memory;
  }

  module _ (begun : IsBegunTerm s mid t) where
    abbrev entries : List Entry
    entries = entries_of_recorder t.recorder

    pub may_push_all : IsWritable s.field.term.norms t → MayPush t.recorder.option mid entries
    may_push_all writable =
        let is = begun.term in
        record {
          inside = λ opened. begun.inside;
          ascending = λ opened. rw is writable.ascending;
          counted = λ opened has. writable.counted (counts_kept (has_freq t.recorder.option) s.field.term.mode (rw is at has));
          covered = λ opened. rw is writable.covered;
        }

    large_sum : (norms : Option Norms) → FillTooLarge mid.field.term.skip_info mid.field.term.freqs (pushed_freqs t.recorder.option entries) → HasLargeSum (written_term norms s.field.term.mode t)
    large_sum norms large = subst (λ (u : OpenTermState). FillTooLarge u.skip_info u.freqs (pushed_freqs t.recorder.option entries)) begun.term large

    -- its entries weren't added
    pub not_pushed : (new : IndexSerializerState) (e : Fault) → Pushes t.recorder.option mid new entries (Err e) → WritesTerm s new t (Err e)
    not_pushed new e pushes = record {
      writing = λ initial field tokens norms ts w. tt;
      told = tt;
      between = tt;
      ends = ends_after_none s mid new (Err e) unclosed begun.ends.closing.closes.ok begun.ends.entries begun.ends.bodies (ends_in_memory mid new e (push_apart e pushes.only) pushes.ends);
      grow = grow_by_none s.bodies new.bodies (pushes.ends.bodies ∙ begun.ends.bodies);
      fault = λ initial field tokens norms ts w.
          (let large = λ (is : e ≡ Limit limit.BlockFrequencySum). subst (λ (mode : IndexRecordOption). HasLargeSum (written_term norms mode t)) w.mode (large_sum norms (pushes.limit (ap Err is))) in
          push_fault e (not_closed e mid.closed pushes.ends.closing.closed begun.ends.closing.closes.ok) large pushes.only);
    }

    -- they were
    module _ (pushed : IndexSerializerState) (pushes : Pushes t.recorder.option mid pushed entries (Ok tt)) (located : IsTrue (has_positions t.recorder.option) → HaveDeltas entries) where
      is_told : IsTold s.field.term.mode t
      is_told = record {
        small = subst (λ (u : OpenTermState). ¬ FillTooLarge u.skip_info u.freqs (pushed_freqs t.recorder.option entries)) begun.term pushes.small;
        fit = pushes.fit;
        located = located;
      }

      module _ (initial : IndexBodiesState) (field tokens : ℕ) (norms : Option Norms) (ts : List WrittenTerm) (w : IsWriting initial s field tokens norms ts []) where
        whole : IsWriting initial pushed field tokens norms ts (t.key ∷ [])
        whole = pushed_writing t.recorder.option entries initial mid pushed field tokens norms ts (t.key ∷ []) pushes.ok (begun.writing initial field tokens norms ts w)

        same : term_under t.key pushed.field.term ≡ written_term norms (option_of s.entries field) t
        same =
            let here : term_under t.key pushed.field.term ≡ written_term s.field.term.norms s.field.term.mode t = ap (λ (n : IndexSerializerState). term_under t.key n.field.term) pushes.ok ∙ rw begun.term refl in
            here
            ∙ ap (λ (n : Option Norms). written_term n s.field.term.mode t) w.norms_are
            ∙ ap (λ (mode : IndexRecordOption). written_term norms mode t) w.mode

      -- and the term was ended, or refused
      pub ended : (new : IndexSerializerState) (result : Result (Unit {0}) Fault)
          → ((initial : IndexBodiesState) (field tokens : ℕ) (norms : Option Norms) (ts : List WrittenTerm) (key : List ℕ) → IsTrue pushed.field.term_open → IsWriting initial pushed field tokens norms ts (key ∷ [])
          → OnOk result (IsWriting initial new field tokens norms (ts ++ term_under key pushed.field.term ∷ []) []))
          → OnOk result (new.field.term_open ≡ false) → EndsWriting pushed new result → AllGrow pushed.bodies new.bodies → IfErr result (λ e. (e ≡ SerializerClosed) ⊎ IsTermFault pushed e) → WritesTerm s new t result
      ended new result writing between ends grow fault = record {
        writing = λ initial field tokens norms ts w.
            on_ok result _ _ (λ v. subst (λ (u : WrittenTerm). IsWriting initial new field tokens norms (ts ++ u ∷ []) []) (same initial field tokens norms ts w) v)
            (writing initial field tokens norms ts t.key (ap (λ (n : IndexSerializerState). n.field.term_open) pushes.ok ∙ begun.inside) (whole initial field tokens norms ts w));
        told = always_on_ok result _ is_told;
        between = between;
        ends = ends_after_none s pushed new result unclosed pushes.ends.closing.closes.ok (pushes.ends.entries ∙ begun.ends.entries) (pushes.ends.bodies ∙ begun.ends.bodies) ends;
        grow = subst (λ (b : IndexBodiesState). AllGrow b new.bodies) (pushes.ends.bodies ∙ begun.ends.bodies) grow;
        fault = λ initial field tokens norms ts w.
            (let now = whole initial field tokens norms ts w in
            let kept = now.mode ∙ ap (λ es. option_of es field) (pushes.ends.entries ∙ begun.ends.entries) in
            let small = subst (λ (mode : IndexRecordOption). ¬ HasLargeSum (written_term norms mode t)) w.mode is_told.small in
            unless_closed result pushed.closed _ _ ends.closing.closed pushes.ends.closing.closes.ok
            (λ e f. ended_fault initial pushed field tokens norms ts (option_of s.entries field) t.key _ e now kept (same initial field tokens norms ts w) small f) fault);
      }

-- a term was begun under its key
pub begins : (s mid : IndexSerializerState) (t : SortedTerm) (key : List ℕ) (counted : Bool) (result : Result (Unit {0}) Fault) → key ≡ t.key → counted ≡ has_freq t.recorder.option
    → ((initial : IndexBodiesState) (field tokens : ℕ) (norms : Option Norms) (ts : List WrittenTerm) → IsWriting initial s field tokens norms ts [] → OnOk result (IsWriting initial mid field tokens norms ts (key ∷ [])))
    → OnOk result (mid.field.term ≡ record s.field.term { skip_info = if counted then s.field.term.mode else Basic; docs = []; freqs = []; deltas = [] })
    → OnOk result (mid.field.term_open ≡ true) → EndsInMemory s mid result → OnOk result (IsBegunTerm s mid t)
begins s mid t key counted (Ok tt) same kept writing term inside ends = record {
  writing = λ initial field tokens norms ts w. subst (λ (k : List ℕ). IsWriting initial mid field tokens norms ts (k ∷ [])) same (writing initial field tokens norms ts w);
  term = term ∙ rw kept refl;
  inside = inside;
  ends = ends;
}
begins s mid t key counted (Err e) same kept writing term inside ends = tt
