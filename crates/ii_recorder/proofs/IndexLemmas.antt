-- What the files of an index hold after a term is ended.
use Rattle.std.proofs.Common.{◌≡◌, ℕ, ◌+◌, ◌^◌, ◌<◌, List, [], ◌∷◌, ◌++◌, length, map, refl, sym, ◌∙◌, ap, arith, length-append, append_assoc, Option, Result, Ok, Err}
use Rattle.std.specs.Prelude.{OnOk}
use Rattle.ii_io.specs.declared.faults.Fault.{Fault}
use Rattle.std.proofs.lemmas.List.{append-nil}
use Rattle.std.proofs.lemmas.Grind.{flat_map-append}
use Rattle.std.specs.List.{flat_map}
use Rattle.ii_base.specs.declared.schema.index_record_option.IndexRecordOption.{IndexRecordOption}
use Rattle.ii_io.specs.CompositeWrite.{CompositeWriteState, AddsBody}
use Rattle.ii_io.specs.CountingWriter.{CountingWriterState, Wrote}
use Rattle.ii_io.proofs.WriteSteps.{Wrote-trans, wrote_nothing}
use Rattle.ii_io.specs.Numbers.{le_bytes}
use Rattle.ii_fieldnorm.specs.Readers.{Norms}
use Rattle.ii_termstore.specs.declared.term_info.TermInfo.{TermInfo}
use Rattle.ii_termstore.specs.TermInfos.{term_info_from}
use Rattle.ii_recorder.specs.Terms.{FieldBodies, IsShort, WrittenTerm, postings_bytes, positions_bytes, positions_body, infos_from, open_bodies, field_bodies}
use Rattle.ii_termdict.specs.Written.{written_dictionary}
use Rattle.ii_recorder.specs.TermPlaces.{TermPlacesState, with_term}
use Rattle.ii_recorder.specs.FieldTerms.{EndsTerm, HasTerms, bytes_of, term_under}
use Rattle.ii_recorder.specs.IndexSerializer.{IndexSerializerState, IsWriting}
use Rattle.ii_recorder.specs.IndexBodies.{IndexBodiesState, AddsBodies, AddsBytes, AddsMore}
use Rattle.ii_layout.proofs.BoundLemmas.{all_push}

-- a body with more bytes
body_more : (initial old new : CompositeWriteState) (field : ℕ) (xs ys : List ℕ) → AddsBody initial old field xs → AddsBytes old new ys → AddsBody initial new field (xs ++ ys)
body_more initial old new field xs ys h more = record {
  writer = Wrote-trans initial.writer old.writer new.writer xs ys h.writer more.writer;
  base = more.base ∙ h.base;
  starts = more.starts ∙ h.starts;
}

infos_more : (mode : IndexRecordOption) (a p : ℕ) (ts : List WrittenTerm) (t : WrittenTerm) →
    infos_from mode a p (ts ++ t ∷ [])
    ≡ infos_from mode a p ts
    ++ term_info_from (length t.docs) (a + length (flat_map postings_bytes ts)) (a + length (flat_map postings_bytes ts) + length (postings_bytes t))
    (p + length (positions_body mode ts)) (p + length (positions_body mode ts) + length (positions_bytes mode t.deltas)) ∷ []
infos_more mode a p [] t =
    let here : a + 0 ≡ a = omega arith in
    let there : p + 0 ≡ p = omega arith in
    rw (here, there) refl
infos_more mode a p (u ∷ us) t =
    let xs = postings_bytes u in
    let ys = positions_bytes mode u.deltas in
    let here : a + length (xs ++ flat_map postings_bytes us) ≡ a + length xs + length (flat_map postings_bytes us) = omega (arith, length-append xs (flat_map postings_bytes us)) in
    let there : p + length (ys ++ positions_body mode us) ≡ p + length ys + length (positions_body mode us) = omega (arith, length-append ys (positions_body mode us)) in
    rw (here, there) (ap (λ (is : List TermInfo). term_info_from (length u.docs) a (a + length xs) p (p + length ys) ∷ is) (infos_more mode (a + length xs) (p + length ys) us t))

-- the bytes of a row with one more at its end
more_bytes : (f : WrittenTerm → List ℕ) (ts : List WrittenTerm) (t : WrittenTerm) → flat_map f (ts ++ t ∷ []) ≡ flat_map f ts ++ f t
more_bytes f ts t = flat_map-append f ts (t ∷ []) ∙ ap (λ (bs : List ℕ). flat_map f ts ++ bs) (append-nil (f t))

more_length : (f : WrittenTerm → List ℕ) (ts : List WrittenTerm) (t : WrittenTerm) → length (flat_map f ts) + length (f t) ≡ length (flat_map f (ts ++ t ∷ []))
more_length f ts t = sym (ap length (more_bytes f ts t) ∙ length-append (flat_map f ts) (f t))

more_keys : (ts : List WrittenTerm) (t : WrittenTerm) → map (λ (u : WrittenTerm). u.key) ts ++ t.key ∷ [] ≡ map (λ (u : WrittenTerm). u.key) (ts ++ t ∷ []) ++ []
more_keys [] t = refl
more_keys (u ∷ us) t = ap (λ (ks : List (List ℕ)). u.key ∷ ks) (more_keys us t)

infos_at_start : (mode : IndexRecordOption) (ts : List WrittenTerm) (t : WrittenTerm) →
    infos_from mode 0 0 (ts ++ t ∷ [])
    ≡ infos_from mode 0 0 ts
    ++ term_info_from (length t.docs) (length (flat_map postings_bytes ts)) (length (flat_map postings_bytes ts) + length (postings_bytes t))
    (length (positions_body mode ts)) (length (positions_body mode ts) + length (positions_bytes mode t.deltas)) ∷ []
infos_at_start mode ts t =
    let here : 0 + length (flat_map postings_bytes ts) ≡ length (flat_map postings_bytes ts) = omega arith in
    let there : 0 + length (positions_body mode ts) ≡ length (positions_body mode ts) = omega arith in
    let law = infos_more mode 0 0 ts t in
    rw (here, there) at law

-- one term more
has_terms_more : (mode : IndexRecordOption) (old new : TermPlacesState) (ts : List WrittenTerm) (t : WrittenTerm) → HasTerms mode old ts (t.key ∷ [])
    → new ≡ with_term old (length t.docs) (length (postings_bytes t)) (length (positions_bytes mode t.deltas)) → IsShort mode t
    → (new.postings_end < 2 ^ 56) × (new.positions_end < 2 ^ 56) → HasTerms mode new (ts ++ t ∷ []) []
has_terms_more mode old new ts t h is short within = record {
  keys = rw is (h.keys ∙ more_keys ts t);
  infos = rw is (rw (h.infos, h.postings, h.positions) (sym (infos_at_start mode ts t)));
  postings = rw is (rw h.postings (more_length postings_bytes ts t));
  positions = rw is (rw h.positions (more_length (λ (u : WrittenTerm). positions_bytes mode u.deltas) ts t));
  ascending = rw is h.ascending;
  short = all_push (IsShort mode) ts t h.short short;
  within = within;
}

-- and in the files
bodies_more : (initial old new : IndexBodiesState) (field tokens : ℕ) (mode : IndexRecordOption) (ts : List WrittenTerm) (t : WrittenTerm) → AddsBodies initial old field (open_bodies mode tokens ts)
    → AddsMore old new (record { terms = []; postings = postings_bytes t; positions = positions_bytes mode t.deltas }) → AddsBodies initial new field (open_bodies mode tokens (ts ++ t ∷ []))
bodies_more initial old new field tokens mode ts t h more =
    let postings = body_more initial.postings old.postings new.postings field (le_bytes 8 tokens ++ flat_map postings_bytes ts) (postings_bytes t) h.postings more.postings in
    let positions = body_more initial.positions old.positions new.positions field (positions_body mode ts) (positions_bytes mode t.deltas) h.positions more.positions in
    record {
      terms = body_more initial.terms old.terms new.terms field [] [] h.terms more.terms;
      postings = rw (more_bytes postings_bytes ts t, ← append_assoc (le_bytes 8 tokens) (flat_map postings_bytes ts) (postings_bytes t)) postings;
      positions = rw (more_bytes (λ (u : WrittenTerm). positions_bytes mode u.deltas) ts t) positions;
    }

pub term_ended : (initial : IndexBodiesState) (old new : IndexSerializerState) (field tokens : ℕ) (norms : Option Norms) (ts : List WrittenTerm) (key : List ℕ) → IsWriting initial old field tokens norms ts (key ∷ [])
    → EndsTerm old.field new.field → AddsMore old.bodies new.bodies (bytes_of old.field.term) → new.entries ≡ old.entries → IsWriting initial new field tokens norms (ts ++ term_under key old.field.term ∷ []) []
term_ended initial old new field tokens norms ts key h ends more same =
    let t = term_under key old.field.term in
    record {
      counted = h.counted;
      mode = rw (ends.left.mode, same) h.mode;
      norms_are = ends.left.norms ∙ h.norms_are;
      bodies = rw ends.left.mode (bodies_more initial old.bodies new.bodies field tokens old.field.term.mode ts t h.bodies more);
      terms = rw ends.left.mode (has_terms_more old.field.term.mode old.field.places new.field.places ts t h.terms ends.places ends.short ends.within);
    }

pub on_ok_both : {A B C : Type 0} (result : Result (Unit {0}) Fault) → (A → B → C) → OnOk result A → OnOk result B → OnOk result C
on_ok_both (Ok u) f a b = f a b
on_ok_both (Err e) f a b = tt

-- the postings and the positions of a term were written to their files
pub term_wrote : (result : Result (Unit {0}) Fault) (old : IndexBodiesState) (postings positions : CountingWriterState) (more : FieldBodies) → more.terms ≡ [] → OnOk result (Wrote old.postings.writer postings more.postings) → OnOk result (Wrote old.positions.writer positions more.positions)
    → OnOk result (AddsMore old (record old { postings = record old.postings { writer = postings }; positions = record old.positions { writer = positions } }) more)
term_wrote (Ok u) old postings positions more none p q = record {
  terms = record { writer = rw none (wrote_nothing old.terms.writer); base = refl; starts = refl; closed = refl };
  postings = record { writer = p; base = refl; starts = refl; closed = refl };
  positions = record { writer = q; base = refl; starts = refl; closed = refl };
}
term_wrote (Err e) old postings positions more none p q = tt

-- a field whose dictionary was written
pub field_finished : (initial old new : IndexBodiesState) (field tokens : ℕ) (mode : IndexRecordOption) (ts : List WrittenTerm) (places : TermPlacesState) → AddsBodies initial old field (open_bodies mode tokens ts)
    → HasTerms mode places ts [] → AddsMore old new (record { terms = written_dictionary places.keys places.infos; postings = []; positions = [] }) → AddsBodies initial new field (field_bodies mode tokens ts)
field_finished initial old new field tokens mode ts places h has more =
    let keys = has.keys ∙ append-nil (map (λ (t : WrittenTerm). t.key) ts) in
    let postings = body_more initial.postings old.postings new.postings field (le_bytes 8 tokens ++ flat_map postings_bytes ts) [] h.postings more.postings in
    let positions = body_more initial.positions old.positions new.positions field (positions_body mode ts) [] h.positions more.positions in
    record {
      terms = rw (keys, has.infos) at (body_more initial.terms old.terms new.terms field [] (written_dictionary places.keys places.infos) h.terms more.terms);
      postings = rw append-nil at postings;
      positions = rw append-nil at positions;
    }

pub on_ok_then : {A B : Type 0} (result : Result (Unit {0}) Fault) → (A → B) → OnOk result A → OnOk result B
on_ok_then (Ok u) f a = f a
on_ok_then (Err e) f a = tt
