-- The terms of a field that are written in a loop.
use Rattle.std.proofs.Common.{Option, Result, Ok, suc, ◌+◌, ◌<◌, ◌⊎◌, inl, inr, arith, append-nil, append_assoc, take, drop, map, length, get_or, ◌≡◌, ℕ, false, List, [], ◌∷◌, ◌++◌, refl, sym, ap, ◌∙◌, subst, true≢false}
use Rattle.std.specs.List.{AllByRecursion}
use Rattle.std.proofs.lemmas.List.{map-append}
use Rattle.ii_io.specs.declared.faults.Fault.{Fault}
use Rattle.ii_io.proofs.WriteSteps.{full_more}
use Rattle.ii_base.specs.Schema.{SchemaEntry}
use Rattle.ii_base.specs.declared.schema.index_record_option.IndexRecordOption.{IndexRecordOption}
use Rattle.ii_fieldnorm.specs.Readers.{Norms}
use Rattle.ii_termdict.specs.ReadBack.{AreAscending}
use Rattle.ii_definitions.specs.Fields.{option_of}
use Rattle.ii_definitions.proofs.ListLaws.{all_after}
use Rattle.ii_recorder.specs.Endings.{CountsOnce}
use Rattle.ii_recorder.specs.IndexBodies.{AllGrow, IndexBodiesState, OneIsFull, failed_calls}
use Rattle.ii_recorder.specs.IndexSerializer.{EndsWriting, IndexSerializerState, IsInField, IsWriting}
use Rattle.ii_recorder.specs.Terms.{IsShort, WrittenTerm, open_bodies, positions_body, postings_bytes}
use Rattle.ii_recorder.proofs.GrowthLemmas.{AllGrow-trans}
use Rattle.ii_postings_writer.specs.declared.sorted_terms.TermOfField.{TermOfField}
use Rattle.ii_postings_writer.specs.SortedTerms.{IsTold, IsWritable, state_of, written_term}
use Rattle.ii_postings_writer.specs.TermLimits.{HasLargeSum, IsLong, IsWithin, PassEnds}
use Rattle.ii_postings_writer.specs.WriteFaults.{IsTermFaultAfter, IsTermsFaultAfter}
use Rattle.ii_postings_writer.proofs.FaultLemmas.{all_within_limits, fault_more, first_at, length-more, length-postings, located, split_written}
use Rattle.ii_postings_writer.proofs.FieldEndings.{grow_by_none}
use Rattle.ii_postings_writer.proofs.SerializeLemmas.{all_written, key_of, next_above, next_written, one_more_told, writable_at, written_keys}

-- The first k terms were written to a field.
pub record IsSerializing (terms : List TermOfField) (k : ℕ) (old now : IndexSerializerState) : Type 0 where
  pub writing : (initial : IndexBodiesState) (field tokens : ℕ) (norms : Option Norms) (ts : List WrittenTerm) → IsWriting initial old field tokens norms ts []
      → IsWriting initial now field tokens norms (ts ++ all_written norms (option_of old.entries field) (take k terms)) []
  pub told : AllByRecursion (IsTold old.field.term.mode) (map state_of (take k terms))
  pub between : now.field.term_open ≡ false
  pub ends : EndsWriting {A = Unit {0}} old now (Ok tt)
  pub grow : AllGrow old.bodies now.bodies

-- a call that wrote nothing to an open serializer
pub none_ends : (s : IndexSerializerState) → s.closed ≡ false → EndsWriting {A = Unit {0}} s s (Ok tt)
none_ends s unclosed = record {
  entries = refl;
  failures = record {
    once = record { ok = refl; write = ((λ is. absurd (cc)), (λ low. absurd (omega (arith, low)))); by_one = λ is. absurd (cc) };
    terms_kept = omega (arith);
    postings_kept = omega (arith);
    positions_kept = omega (arith);
  };
  closing = record {
    closes = record { ok = unclosed; err = tt };
    refused = λ closed. refl;
    closed = ((λ is. absurd (cc)), (λ closed. absurd (true≢false (sym closed ∙ unclosed))));
  };
}

-- a call after one that went well
pub ends_then : {A : Type 0} (old mid new : IndexSerializerState) (r : Result A Fault) → old.closed ≡ false → EndsWriting {A = Unit {0}} old mid (Ok tt) → EndsWriting mid new r → EndsWriting old new r
ends_then old mid new r unclosed first ends =
    let none : failed_calls mid.bodies ≡ failed_calls old.bodies = first.failures.once.ok in
    record {
      entries = ends.entries ∙ first.entries;
      failures = record {
        once = subst (λ (n : ℕ). CountsOnce n (failed_calls new.bodies) r) none ends.failures.once;
        terms_kept = omega (arith, first.failures.terms_kept, ends.failures.terms_kept);
        postings_kept = omega (arith, first.failures.postings_kept, ends.failures.postings_kept);
        positions_kept = omega (arith, first.failures.positions_kept, ends.failures.positions_kept);
      };
      closing = record {
        closes = ends.closing.closes;
        refused = λ closed. absurd (true≢false (sym closed ∙ unclosed));
        closed = ((λ is. absurd (true≢false (sym (ends.closing.closed.0 is) ∙ first.closing.closes.ok))), (λ closed. absurd (true≢false (sym closed ∙ unclosed))));
      };
    }

-- before the first term
pub starts : (terms : List TermOfField) (s : IndexSerializerState) → s.closed ≡ false → s.field.term_open ≡ false → IsSerializing terms 0 s s
starts terms s unclosed between = record {
  writing = λ initial field tokens norms ts w. subst (λ (us : List WrittenTerm). IsWriting initial s field tokens norms us []) (sym (append-nil ts)) w;
  told = tt;
  between = between;
  ends = none_ends s unclosed;
  grow = grow_by_none s.bodies s.bodies refl;
}

-- terms with room for more, without it for some of them
room_after : (mode : IndexRecordOption) (tokens : ℕ) (initial : IndexBodiesState) (ts us : List WrittenTerm) → OneIsFull initial (open_bodies mode tokens ts) ⊎ PassEnds mode ts
    → OneIsFull initial (open_bodies mode tokens (ts ++ us)) ⊎ PassEnds mode (ts ++ us)
room_after mode tokens initial ts us (inl (inl terms)) = inl (inl terms)
room_after mode tokens initial ts us (inl (inr (inl postings))) =
    inl (inr (inl (full_more initial.postings.writer (length (open_bodies mode tokens ts).postings) (length (open_bodies mode tokens (ts ++ us)).postings) (omega (arith, length-postings mode tokens ts us)) postings)))
room_after mode tokens initial ts us (inl (inr (inr positions))) =
    inl (inr (inr (full_more initial.positions.writer (length (positions_body mode ts)) (length (positions_body mode (ts ++ us))) (omega (arith, length-more (located mode tokens) ts us)) positions)))
room_after mode tokens initial ts us (inr (inl far)) = inr (inl (omega (arith, far, length-more postings_bytes ts us)))
room_after mode tokens initial ts us (inr (inr far)) = inr (inr (omega (arith, far, length-more (located mode tokens) ts us)))

-- a term that can't be written, among others
terms_fault : (initial : IndexBodiesState) (mode : IndexRecordOption) (tokens : ℕ) (ts before : List WrittenTerm) (t : WrittenTerm) (after all : List WrittenTerm) (e : Fault) → all ≡ before ++ t ∷ after → AllByRecursion (IsWithin mode) before
    → IsTermFaultAfter initial mode tokens (ts ++ before) t e → IsTermsFaultAfter initial mode tokens ts all e
terms_fault initial mode tokens ts before t after all e is within fault =
    let whole : ((ts ++ before) ++ t ∷ []) ++ after ≡ ts ++ (before ++ t ∷ after) = append_assoc (ts ++ before) (t ∷ []) after ∙ append_assoc ts before (t ∷ after) in
    subst (λ (us : List WrittenTerm). IsTermsFaultAfter initial mode tokens ts us e) (sym is)
    (fault_more e (first_at (IsWithin mode) HasLargeSum before after t within) (first_at (IsWithin mode) (IsLong mode) before after t within)
    (λ room. subst (λ (us : List WrittenTerm). OneIsFull initial (open_bodies mode tokens us) ⊎ PassEnds mode us) whole
    (room_after mode tokens initial ((ts ++ before) ++ t ∷ []) after room)) fault)

module _ (terms : List TermOfField) (k : ℕ) (old now : IndexSerializerState) (unclosed : old.closed ≡ false) (s : IsSerializing terms k old now) where
  pub now_unclosed : now.closed ≡ false
  now_unclosed = s.ends.closing.closes.ok

  module _ (known : IsInField old) where
    abbrev written : IsWriting known.initial now known.field known.tokens known.norms (known.ts ++ all_written known.norms (option_of old.entries known.field) (take k terms)) []
    written = s.writing known.initial known.field known.tokens known.norms known.ts known.writing

    same_norms : now.field.term.norms ≡ old.field.term.norms
    same_norms = written.norms_are ∙ sym known.writing.norms_are

    same_mode : now.field.term.mode ≡ old.field.term.mode
    same_mode = written.mode ∙ ap (λ (es : List SchemaEntry). option_of es known.field) s.ends.entries ∙ sym known.writing.mode

    -- the keys so far
    keys_now : now.field.places.keys ≡ old.field.places.keys ++ map key_of (take k terms)
    keys_now =
        let mode = option_of old.entries known.field in
        let us = all_written known.norms mode (take k terms) in
        let key = λ (t : WrittenTerm). t.key in
        written.terms.keys
        ∙ append-nil (map key (known.ts ++ us))
        ∙ map-append key known.ts us
        ∙ ap (λ (ks : List (List ℕ)). ks ++ map key us) (sym (append-nil (map key known.ts)) ∙ sym known.writing.terms.keys)
        ∙ ap (λ (ks : List (List ℕ)). old.field.places.keys ++ ks) (written_keys known.norms mode (take k terms))

    -- the next term
    module _ (t : TermOfField) (low : k < length terms) (is : t ≡ get_or terms k t) where
      pub key_above : AreAscending (old.field.places.keys ++ map (λ (u : TermOfField). (state_of u).key) terms) → AreAscending (now.field.places.keys ++ (state_of t).key ∷ [])
      key_above ascending =
          subst (λ (u : TermOfField). AreAscending (now.field.places.keys ++ (state_of u).key ∷ [])) (sym is)
          (next_above terms k t old.field.places.keys now.field.places.keys low ascending keys_now)

      pub may_write : AllByRecursion (IsWritable old.field.term.norms) (map state_of terms) → IsWritable now.field.term.norms (state_of t)
      may_write all =
          subst (λ (n : Option Norms). IsWritable n (state_of t)) (sym same_norms)
          (subst (λ (u : TermOfField). IsWritable old.field.term.norms (state_of u)) (sym is) (writable_at old.field.term.norms terms k t low all))

      -- and it was written
      pub goes_on : (new : IndexSerializerState) → ((initial : IndexBodiesState) (field tokens : ℕ) (norms : Option Norms) (ts : List WrittenTerm) → IsWriting initial now field tokens norms ts []
          → IsWriting initial new field tokens norms (ts ++ written_term norms (option_of now.entries field) (state_of t) ∷ []) []) → IsTold now.field.term.mode (state_of t) → new.field.term_open ≡ false
          → EndsWriting {A = Unit {0}} now new (Ok tt) → AllGrow now.bodies new.bodies → IsSerializing terms (k + 1) old new
      goes_on new writes told between ends grow = record {
        writing = λ initial field tokens norms ts w.
            (let before = all_written norms (option_of old.entries field) (take k terms) in
            let next = written_term norms (option_of now.entries field) (state_of t) in
            subst (λ (us : List WrittenTerm). IsWriting initial new field tokens norms us [])
            (append_assoc ts before (next ∷ []) ∙ ap (λ (us : List WrittenTerm). ts ++ us) (next_written norms old.entries now.entries field terms k t low is s.ends.entries))
            (writes initial field tokens norms (ts ++ before) (s.writing initial field tokens norms ts w)));
        told = one_more_told old.field.term.mode terms k t low is (subst (λ (m : IndexRecordOption). IsTold m (state_of t)) same_mode told) s.told;
        between = between;
        ends = ends_then old now new (Ok tt) unclosed s.ends ends;
        grow = AllGrow-trans old.bodies now.bodies new.bodies s.grow grow;
      }

      -- or it wasn't
      pub term_fault : (initial : IndexBodiesState) (field tokens : ℕ) (norms : Option Norms) (ts : List WrittenTerm) (e : Fault) → IsWriting initial old field tokens norms ts []
          → ((initial : IndexBodiesState) (field tokens : ℕ) (norms : Option Norms) (ts : List WrittenTerm) → IsWriting initial now field tokens norms ts []
          → IsTermFaultAfter initial (option_of now.entries field) tokens ts (written_term norms (option_of now.entries field) (state_of t)) e)
          → IsTermsFaultAfter initial (option_of old.entries field) tokens ts (all_written norms (option_of old.entries field) terms) e
      term_fault initial field tokens norms ts e w faults =
          let mode = option_of old.entries field in
          let before = all_written norms mode (take k terms) in
          let state = written_term norms mode (state_of t) in
          let after = all_written norms mode (drop (suc k) terms) in
          let now_w = s.writing initial field tokens norms ts w in
          let own : IsTermFaultAfter initial mode tokens (ts ++ before) state e =
          subst (λ (es : List SchemaEntry). IsTermFaultAfter initial (option_of es field) tokens (ts ++ before) (written_term norms (option_of es field) (state_of t)) e) s.ends.entries (faults initial field tokens norms (ts ++ before) now_w) in
          let kept : now.field.term.mode ≡ mode = now_w.mode ∙ ap (λ (es : List SchemaEntry). option_of es field) s.ends.entries in
          let told = subst (λ (m : IndexRecordOption). AllByRecursion (IsTold m) (map state_of (take k terms))) (sym same_mode ∙ kept) s.told in
          let short = all_after (IsShort mode) ts before (subst (λ (m : IndexRecordOption). AllByRecursion (IsShort m) (ts ++ before)) kept now_w.terms.short) in
          terms_fault initial mode tokens ts before state after (all_written norms mode terms) e (split_written norms mode terms k t low is) (all_within_limits norms mode (take k terms) told short) own
