-- Why terms, fields and contexts can't be written.
use Rattle.std.proofs.Common.{Option, ◌≡◌, ℕ, zero, suc, ◌+◌, ◌-◌, ◌<◌, ◌⊎◌, inl, inr, Bool, false, List, [], ◌∷◌, ◌++◌, length, map, take, drop, get_or, Result, Ok, Err, refl, sym, ap, ◌∙◌, subst, arith, length-append, append-nil, add-zero, true≢false}
use Rattle.std.specs.Prelude.{◌↔◌, IsTrue, slice_index_or, IsErrOf, IfErr}
use Rattle.std.specs.List.{AllByRecursion, flat_map}
use Rattle.std.proofs.lemmas.Grind.{flat_map-append}
use Rattle.std.proofs.lemmas.List.{map-append}
use Rattle.ii_io.specs.declared.faults.Fault.{Fault}
use Rattle.ii_io.specs.declared.faults.Fault.TheVariants.{Limit, OutOfMemory, SerializerClosed, Write}
use Rattle.ii_io.specs.declared.faults.LimitName.TheVariants as limit
use Rattle.ii_io.specs.Composite.{Body, bodies_bytes}
use Rattle.ii_io.specs.CompositeWrite.{CompositeWriteState, HasBodies}
use Rattle.ii_io.specs.CountingWriter.{CountingWriterState, IsFull}
use Rattle.ii_io.specs.NumberLemmas.{length_le_bytes}
use Rattle.ii_io.specs.Numbers.{le_bytes}
use Rattle.ii_base.specs.Schema.{SchemaEntry}
use Rattle.ii_base.specs.declared.schema.index_record_option.IndexRecordOption.{IndexRecordOption}
use Rattle.ii_termdict.specs.Written.{written_dictionary}
use Rattle.ii_recorder.specs.FieldTerms.{FieldTermsState, HasNoRoom, closing_bytes, dictionary_of, term_under}
use Rattle.ii_recorder.specs.IndexBodies.{OneIsFull, IndexBodiesState}
use Rattle.ii_recorder.specs.IndexSerializer.{IndexSerializerState, IsFieldFault, IsTermFault, IsWriting}
use Rattle.ii_recorder.specs.Terms.{IsShort, WrittenTerm, field_bodies, open_bodies, positions_body, positions_bytes, postings_bytes}
use Rattle.ii_postings_writer.specs.FieldParts.{FieldPart, HasFields, HoldsPart, bodies_of, first_parts, parts_of, positions_of_part, postings_body, terms_body, tokens_in, written_terms}
use Rattle.ii_postings_writer.specs.PostingsWriter.{PostingsWriterState}
use Rattle.ii_postings_writer.specs.SortedTerms.{norms_in, IsTold, SortedTerm, state_of, written_term}
use Rattle.ii_postings_writer.specs.declared.sorted_terms.TermOfField.{TermOfField}
use Rattle.ii_definitions.specs.Fields.{option_of}
use Rattle.ii_postings_writer.specs.TermLimits.{AreWithin, FirstOf, HasLargeSum, IsLong, IsWithin, PassEnds}
use Rattle.ii_postings_writer.specs.WriteFaults.{FirstPartEnds, IsFaultBy, IsPartFault, IsPartsFault, IsTermFaultAfter, IsTermsFaultAfter, IsWithinPart, all_bodies}
use Rattle.ii_postings_writer.proofs.PartLemmas.{one_more_part, part_of, some_part}
use Rattle.ii_postings_writer.proofs.SerializeLemmas.{all_written}
use Rattle.ii_io.proofs.WriteSteps.{full_before, full_more}
use Rattle.ii_fieldnorm.specs.Readers.{Norms}

module _ {X : Type 0} (Q P : X → Type 0) where
  -- the first of some is the first of more
  first_before : (xs ys : List X) → FirstOf Q P xs → FirstOf Q P (xs ++ ys)
  first_before [] ys f = absurd f
  first_before (x ∷ xs) ys (inl p) = inl p
  first_before (x ∷ xs) ys (inr later) = inr (later.0, first_before xs ys later.1)

  -- the first after others
  pub first_at : (xs ys : List X) (x : X) → AllByRecursion Q xs → P x → FirstOf Q P (xs ++ x ∷ ys)
  first_at [] ys x all p = inl p
  first_at (y ∷ xs) ys x all p = inr (all.0, first_at xs ys x all.1 p)

module _ {X : Type 0} (f : X → List ℕ) where
  pub length-more : (xs ys : List X) → length (flat_map f (xs ++ ys)) ≡ length (flat_map f xs) + length (flat_map f ys)
  length-more xs ys = ap length (flat_map-append f xs ys) ∙ length-append (flat_map f xs) (flat_map f ys)

  length-one : (x : X) → length (flat_map f (x ∷ [])) ≡ length (f x)
  length-one x = ap length (append-nil (f x))

  length-next : (xs : List X) (x : X) → length (flat_map f (xs ++ x ∷ [])) ≡ length (flat_map f xs) + length (f x)
  length-next xs x = omega (arith, length-more xs (x ∷ []), length-one x)

-- causes that follow from others
pub fault_more : {A B C D E F : Type 0} (e : Fault) → (A → D) → (B → E) → (C → F) → IsFaultBy A B C e → IsFaultBy D E F e
fault_more e f g h (inl memory) = inl memory
fault_more e f g h (inr (inl write)) = inr (inl write)
fault_more e f g h (inr (inr (inl sum))) = inr (inr (inl (sum.0, f sum.1)))
fault_more e f g h (inr (inr (inr (inl long)))) = inr (inr (inr (inl (long.0, g long.1))))
fault_more e f g h (inr (inr (inr (inr full)))) = inr (inr (inr (inr (full.0, h full.1))))

module _ (mode : IndexRecordOption) (tokens : ℕ) where
  pub length-postings : (ts us : List WrittenTerm) → length (le_bytes 8 tokens ++ flat_map postings_bytes (ts ++ us)) ≡ length (le_bytes 8 tokens ++ flat_map postings_bytes ts) + length (flat_map postings_bytes us)
  length-postings ts us =
      omega (arith, length-append (le_bytes 8 tokens) (flat_map postings_bytes (ts ++ us)), length-append (le_bytes 8 tokens) (flat_map postings_bytes ts), length-more postings_bytes ts us)

  abbrev pub located : WrittenTerm → List ℕ
  located t = positions_bytes mode t.deltas

  -- there is no room for terms, and for a field that begins with them
  abbrev NoRoom : IndexBodiesState → List WrittenTerm → Type 0
  NoRoom initial ts = OneIsFull initial (field_bodies mode tokens ts) ⊎ PassEnds mode ts

  room_more : (initial : IndexBodiesState) (ts us : List WrittenTerm) → OneIsFull initial (open_bodies mode tokens ts) ⊎ PassEnds mode ts → NoRoom initial (ts ++ us)
  room_more initial ts us (inl (inl terms)) = inl (inl (full_more initial.terms.writer 0 (length (field_bodies mode tokens (ts ++ us)).terms) (omega (arith)) terms))
  room_more initial ts us (inl (inr (inl postings))) =
      inl (inr (inl (full_more initial.postings.writer (length (open_bodies mode tokens ts).postings) (length (field_bodies mode tokens (ts ++ us)).postings) (omega (arith, length-postings ts us)) postings)))
  room_more initial ts us (inl (inr (inr positions))) =
      inl (inr (inr (full_more initial.positions.writer (length (positions_body mode ts)) (length (positions_body mode (ts ++ us))) (omega (arith, length-more located ts us)) positions)))
  room_more initial ts us (inr (inl far)) = inr (inl (omega (arith, far, length-more postings_bytes ts us)))
  room_more initial ts us (inr (inr far)) = inr (inr (omega (arith, far, length-more located ts us)))

  -- the terms of a field that can't be written
  pub terms_of_part : (initial : IndexBodiesState) (ts : List WrittenTerm) (e : Fault) → IsTermsFaultAfter initial mode tokens [] ts e
      → IsFaultBy (FirstOf (IsWithin mode) HasLargeSum ts) (FirstOf (IsWithin mode) (IsLong mode) ts) (NoRoom initial ts) e
  terms_of_part initial ts e fault = fault_more e (λ large. large) (λ long. long) (λ room. subst (NoRoom initial) (append-nil ts) (room_more initial ts [] room)) fault

  pub begin_full : (initial : IndexBodiesState) (ts : List WrittenTerm) → IsFull initial.postings.writer 8 → NoRoom initial ts
  begin_full initial ts full =
      inl (inr (inl (full_more initial.postings.writer 8 (length (field_bodies mode tokens ts).postings) (omega (arith, length-append (le_bytes 8 tokens) (flat_map postings_bytes ts), length_le_bytes 8 tokens)) full)))

closing_is : (s : FieldTermsState) → s.term_open ≡ false → closing_bytes s ≡ dictionary_of s
closing_is s between = rw between refl

-- What is known where terms of a field were written.
module _ (initial : IndexBodiesState) (s : IndexSerializerState) (field tokens : ℕ) (norms : Option Norms) (ts : List WrittenTerm) where
  abbrev mode : IndexRecordOption
  mode = s.field.term.mode

  no_room : (key : List ℕ) → IsWriting initial s field tokens norms ts (key ∷ []) → HasNoRoom s.field.term s.field.places s.bodies.postings.writer s.bodies.positions.writer
      → let all = ts ++ term_under key s.field.term ∷ [] in OneIsFull initial (open_bodies mode tokens all) ⊎ PassEnds mode all
  no_room key w (inl full) =
      let t = term_under key s.field.term in
      inl (inr (inl (full_before initial.postings.writer s.bodies.postings.writer (open_bodies mode tokens ts).postings (length (postings_bytes t)) (length (open_bodies mode tokens (ts ++ t ∷ [])).postings) w.bodies.postings.writer
      (omega (arith, length-postings mode tokens ts (t ∷ []), length-one postings_bytes t)) full)))
  no_room key w (inr (inl full)) =
      let t = term_under key s.field.term in
      inl (inr (inr (full_before initial.positions.writer s.bodies.positions.writer (positions_body mode ts) (length (positions_bytes mode t.deltas)) (length (positions_body mode (ts ++ t ∷ []))) w.bodies.positions.writer
      (omega (arith, length-next (located mode tokens) ts t)) full.1)))
  no_room key w (inr (inr (inl far))) = inr (inl (omega (arith, far, w.terms.postings, length-next postings_bytes ts (term_under key s.field.term))))
  no_room key w (inr (inr (inr far))) = inr (inr (omega (arith, far, w.terms.positions, length-next (located mode tokens) ts (term_under key s.field.term))))

  own_fault : (key : List ℕ) (e : Fault) → IsWriting initial s field tokens norms ts (key ∷ []) → ¬ HasLargeSum (term_under key s.field.term) → IsTermFault s e → IsTermFaultAfter initial mode tokens ts (term_under key s.field.term) e
  own_fault key e w small (inl memory) = inl memory
  own_fault key e w small (inr (inl write)) = inr (inl write)
  own_fault key e w small (inr (inr (inl full))) = inr (inr (inr (inr (full.0, no_room key w full.1))))
  own_fault key e w small (inr (inr (inr long))) = inr (inr (inr (inl (long.0, (small, long.1)))))

  -- the next term can't be ended
  pub ended_fault : (kept : IndexRecordOption) (key : List ℕ) (t : WrittenTerm) (e : Fault) → IsWriting initial s field tokens norms ts (key ∷ []) → mode ≡ kept → term_under key s.field.term ≡ t → ¬ HasLargeSum t → IsTermFault s e
      → IsTermFaultAfter initial kept tokens ts t e
  ended_fault kept key t e w same is small fault =
      subst (λ (m : IndexRecordOption). IsTermFaultAfter initial m tokens ts t e) same
      (subst (λ (u : WrittenTerm). IsTermFaultAfter initial mode tokens ts u e) is (own_fault key e w (subst (λ (u : WrittenTerm). ¬ HasLargeSum u) (sym is) small) fault))

  dictionary_full : IsWriting initial s field tokens norms ts [] → OneIsFull s.bodies (dictionary_of s.field) → OneIsFull initial (field_bodies mode tokens ts)
  dictionary_full w (inl full) =
      let keys = w.terms.keys ∙ append-nil (map (λ (t : WrittenTerm). t.key) ts) in
      let bytes : written_dictionary s.field.places.keys s.field.places.infos ≡ (field_bodies mode tokens ts).terms = rw (keys, w.terms.infos) refl in
      inl (full_before initial.terms.writer s.bodies.terms.writer [] (length (written_dictionary s.field.places.keys s.field.places.infos)) (length (field_bodies mode tokens ts).terms) w.bodies.terms.writer
      (omega (arith, ap length bytes)) full)
  dictionary_full w (inr (inl full)) =
      inr (inl (full_before initial.postings.writer s.bodies.postings.writer (open_bodies mode tokens ts).postings 0 (length (field_bodies mode tokens ts).postings) w.bodies.postings.writer (omega (arith)) full))
  dictionary_full w (inr (inr full)) =
      inr (inr (full_before initial.positions.writer s.bodies.positions.writer (positions_body mode ts) 0 (length (positions_body mode ts)) w.bodies.positions.writer (omega (arith)) full))

  -- the field can't be ended
  pub closed_fault : {A B : Type 0} (kept : IndexRecordOption) (e : Fault) → IsWriting initial s field tokens norms ts [] → s.field.term_open ≡ false → mode ≡ kept → IsFieldFault s e → IsFaultBy A B (NoRoom kept tokens initial ts) e
  closed_fault kept e w between same (inl inside) = absurd (true≢false (sym inside.0 ∙ between))
  closed_fault kept e w between same (inr (inl write)) = inr (inl write)
  closed_fault kept e w between same (inr (inr full)) =
      inr (inr (inr (inr (full.0, subst (λ (m : IndexRecordOption). NoRoom m tokens initial ts) same (inl (dictionary_full w (subst (OneIsFull s.bodies) (closing_is s.field between) full.1)))))))

pub all_within_limits : (norms : Option Norms) (kept : IndexRecordOption) (us : List TermOfField) → AllByRecursion (IsTold kept) (map state_of us) → AllByRecursion (IsShort kept) (all_written norms kept us) → AllByRecursion (IsWithin kept) (all_written norms kept us)
all_within_limits norms kept [] told short = tt
all_within_limits norms kept (u ∷ us) told short = ((told.0.small, short.0), all_within_limits norms kept us told.1 short.1)

-- terms that were written pass no limit
pub written_within : (initial : IndexBodiesState) (s : IndexSerializerState) (field tokens : ℕ) (norms : Option Norms) (kept : IndexRecordOption) (us : List TermOfField) → s.field.term.mode ≡ kept → IsWriting initial s field tokens norms (all_written norms kept us) [] → AllByRecursion (IsTold kept) (map state_of us)
    → AreWithin kept (all_written norms kept us)
written_within initial s field tokens norms kept us same w told = record {
  terms = all_within_limits norms kept us told (subst (λ (m : IndexRecordOption). AllByRecursion (IsShort m) (all_written norms kept us)) same w.terms.short);
  ends = none;
}
  where
    none : ¬ PassEnds kept (all_written norms kept us)
    none (inl far) = absurd (omega (arith, far, w.terms.postings, w.terms.within.0))
    none (inr far) = absurd (omega (arith, far, w.terms.positions, ap (λ (m : IndexRecordOption). length (positions_body m (all_written norms kept us))) same, w.terms.within.1))

-- The parts of an index.
module _ (entries : List SchemaEntry) (initial : IndexBodiesState) where
  module _ (body : FieldPart → Body) where
    abbrev pub bytes_in : List FieldPart → List ℕ
    bytes_in ps = bodies_bytes (map body ps)

    length-bodies : (ps qs : List FieldPart) → length (bytes_in (ps ++ qs)) ≡ length (bytes_in ps) + length (bytes_in qs)
    length-bodies ps qs = ap (λ (bs : List Body). length (bodies_bytes bs)) (map-append body ps qs) ∙ length-more (λ (b : Body). b.bytes) (map body ps) (map body qs)

    length-body : (ps : List FieldPart) (p : FieldPart) → length (bytes_in (ps ++ p ∷ [])) ≡ length (bytes_in ps) + length (body p).bytes
    length-body ps p = omega (arith, length-bodies ps (p ∷ []), length-one (λ (b : Body). b.bytes) (body p))

    part_full : (writer : CountingWriterState) (c : CompositeWriteState) (fs : List FieldPart) (p : FieldPart) → HasBodies writer c (map body fs) → IsFull c.writer (length (body p).bytes) → IsFull writer (length (bytes_in (fs ++ p ∷ [])))
    part_full writer c fs p has full = full_before writer c.writer (bytes_in fs) (length (body p).bytes) (length (bytes_in (fs ++ p ∷ []))) has.writer (omega (arith, length-body fs p)) full

    parts_full : (writer : CountingWriterState) (ps qs : List FieldPart) → IsFull writer (length (bytes_in ps)) → IsFull writer (length (bytes_in (ps ++ qs)))
    parts_full writer ps qs full = full_more writer (length (bytes_in ps)) (length (bytes_in (ps ++ qs))) (omega (arith, length-bodies ps qs)) full

  abbrev NoRoomFor : List FieldPart → Type 0
  NoRoomFor ps = OneIsFull initial (all_bodies entries ps) ⊎ FirstPartEnds entries ps

  -- how a part passes a limit of its terms, or their ends
  abbrev ByTerm : (IndexRecordOption → WrittenTerm → Type 0) → FieldPart → Type 0
  ByTerm P p = FirstOf (IsWithin (option_of entries p.field)) (P (option_of entries p.field)) (written_terms entries p)

  abbrev ByEnds : FieldPart → Type 0
  ByEnds p = PassEnds (option_of entries p.field) (written_terms entries p)

  all_within : (fs : List FieldPart) → AllByRecursion (HoldsPart entries) fs → AllByRecursion (IsWithinPart entries) fs
  all_within [] held = tt
  all_within (f ∷ fs) held = (held.0.within, all_within fs held.1)

  part_room : (now : IndexBodiesState) (fs : List FieldPart) (p : FieldPart) → HasFields entries initial now fs → OneIsFull now (bodies_of entries p) ⊎ ByEnds p → NoRoomFor (fs ++ p ∷ [])
  part_room now fs p has (inl (inl full)) = inl (inl (part_full (terms_body entries) initial.terms.writer now.terms fs p has.terms full))
  part_room now fs p has (inl (inr (inl full))) = inl (inr (inl (part_full (postings_body entries) initial.postings.writer now.postings fs p has.postings full)))
  part_room now fs p has (inl (inr (inr full))) = inl (inr (inr (part_full (positions_of_part entries) initial.positions.writer now.positions fs p has.positions full)))
  part_room now fs p has (inr far) = inr (first_at (IsWithinPart entries) ByEnds fs [] p (all_within fs has.held) far)

  -- the next part can't be written
  pub next_fault : (now : IndexBodiesState) (fs : List FieldPart) (p : FieldPart) (e : Fault) → HasFields entries initial now fs → IsPartFault entries now p e → IsPartsFault entries initial (fs ++ p ∷ []) e
  next_fault now fs p e has fault =
      let within = all_within fs has.held in
      fault_more e (first_at (IsWithinPart entries) (ByTerm (λ mode. HasLargeSum)) fs [] p within) (first_at (IsWithinPart entries) (ByTerm IsLong) fs [] p within) (part_room now fs p has) fault

  parts_room : (ps qs : List FieldPart) → NoRoomFor ps → NoRoomFor (ps ++ qs)
  parts_room ps qs (inl (inl full)) = inl (inl (parts_full (terms_body entries) initial.terms.writer ps qs full))
  parts_room ps qs (inl (inr (inl full))) = inl (inr (inl (parts_full (postings_body entries) initial.postings.writer ps qs full)))
  parts_room ps qs (inl (inr (inr full))) = inl (inr (inr (parts_full (positions_of_part entries) initial.positions.writer ps qs full)))
  parts_room ps qs (inr far) = inr (first_before (IsWithinPart entries) ByEnds ps qs far)

  parts_fault : (ps qs : List FieldPart) (e : Fault) → IsPartsFault entries initial ps e → IsPartsFault entries initial (ps ++ qs) e
  parts_fault ps qs e fault = fault_more e (first_before (IsWithinPart entries) (ByTerm (λ mode. HasLargeSum)) ps qs) (first_before (IsWithinPart entries) (ByTerm IsLong) ps qs) (parts_room ps qs) fault

  -- nor can the first fields, and more of them
  pub more_fault : (writers : List PostingsWriterState) (readers : List Body) (terms : List (List SortedTerm)) (k j : ℕ) (e : Fault) → IsPartsFault entries initial (first_parts entries writers readers terms k) e → IsPartsFault entries initial (first_parts entries writers readers terms (k + j)) e
  more_fault writers readers terms k zero e fault = subst (λ (n : ℕ). IsPartsFault entries initial (first_parts entries writers readers terms n) e) (omega (arith)) fault
  more_fault writers readers terms k (suc j) e fault =
      let all = more_fault writers readers terms k j e fault in
      let next = subst (λ (ps : List FieldPart). IsPartsFault entries initial ps e) (sym (one_more_part entries writers readers terms (k + j))) (parts_fault (first_parts entries writers readers terms (k + j)) _ e all) in
      subst (λ (n : ℕ). IsPartsFault entries initial (first_parts entries writers readers terms n) e) (omega (arith)) next

-- The next field has terms.
pub record IsNextField (first entries : List SchemaEntry) (lists : List (List SortedTerm)) (n field : ℕ) (terms : List SortedTerm) : Type 0 where
  pub schema : entries ≡ first
  pub number : field ≡ n
  pub at : terms ≡ slice_index_or lists n []
  pub some : 0 < length terms
  pub low : n < length lists

module _ (first entries : List SchemaEntry) (writers : List PostingsWriterState) (readers : List Body) (lists : List (List SortedTerm)) (n field : ℕ) (terms : List SortedTerm) (is : IsNextField first entries lists n field terms) where
  abbrev part : List SchemaEntry → FieldPart
  part es = part_of es field (tokens_in writers field) (norms_in readers field) terms

  with_part : first_parts first writers readers lists (n + 1) ≡ first_parts first writers readers lists n ++ part first ∷ []
  with_part =
      let at : parts_of first n (tokens_in writers n) (norms_in readers n) (slice_index_or lists n []) ≡ part first ∷ [] = rw (← is.at, ← is.number) (some_part first field (tokens_in writers field) (norms_in readers field) terms is.some) in
      one_more_part first writers readers lists n ∙ ap (λ (ps : List FieldPart). first_parts first writers readers lists n ++ ps) at

  pub some_parts : (k : ℕ) → 0 < length (first_parts first writers readers lists (n + 1 + k))
  some_parts zero = omega (arith, ap length with_part, length-append (first_parts first writers readers lists n) (part first ∷ []), ap (λ (m : ℕ). length (first_parts first writers readers lists m)) (add-zero (n + 1)))
  some_parts (suc k) =
      let at = n + 1 + k in
      let more : 0 < length (first_parts first writers readers lists (at + 1)) =
      omega (arith, some_parts k, ap length (one_more_part first writers readers lists at), length-append (first_parts first writers readers lists at) (parts_of first at (tokens_in writers at) (norms_in readers at) (slice_index_or lists at []))) in
      subst (λ (m : ℕ). 0 < length (first_parts first writers readers lists m)) (omega (arith)) more

  pub all_some : 0 < length (first_parts first writers readers lists (length lists))
  all_some =
      let low = is.low in
      subst (λ (m : ℕ). 0 < length (first_parts first writers readers lists m)) (omega (arith, low)) (some_parts (length lists - (n + 1)))

  -- and can't be written
  pub field_fault : (initial now : IndexBodiesState) (e : Fault) → HasFields first initial now (first_parts first writers readers lists n) → (e ≡ SerializerClosed) ⊎ IsPartFault entries now (part entries) e
      → (e ≡ SerializerClosed) ⊎ IsPartsFault first initial (first_parts first writers readers lists (length lists)) e
  field_fault initial now e has (inl closed) = inl closed
  field_fault initial now e has (inr fault) =
      let own = subst (λ (es : List SchemaEntry). IsPartFault es now (part es) e) is.schema fault in
      let next = subst (λ (ps : List FieldPart). IsPartsFault first initial ps e) (sym with_part) (next_fault first initial now (first_parts first writers readers lists n) (part first) e has own) in
      let low = is.low in
      inr (subst (λ (m : ℕ). IsPartsFault first initial (first_parts first writers readers lists m) e) (omega (arith, low)) (more_fault first initial writers readers lists (n + 1) (length lists - (n + 1)) e next))

-- a field without terms adds no part
pub no_part : (first : List SchemaEntry) (writers : List PostingsWriterState) (readers : List Body) (lists : List (List SortedTerm)) (n : ℕ) (terms : List SortedTerm) → terms ≡ slice_index_or lists n [] → terms ≡ []
    → first_parts first writers readers lists n ≡ [] → first_parts first writers readers lists (n + 1) ≡ []
no_part first writers readers lists n terms at none before =
    let here : slice_index_or lists n [] ≡ [] = sym at ∙ none in
    one_more_part first writers readers lists n ∙ rw (before, here) refl

-- a term of a field, between the others
pub split_written : (norms : Option Norms) (mode : IndexRecordOption) (terms : List TermOfField) (k : ℕ) (t : TermOfField) → k < length terms → t ≡ get_or terms k t
    → all_written norms mode terms ≡ all_written norms mode (take k terms) ++ written_term norms mode (state_of t) ∷ all_written norms mode (drop (suc k) terms)
split_written norms mode [] k t low is = absurd (omega (arith, low))
split_written norms mode (u ∷ us) zero t low is = ap (λ (v : TermOfField). written_term norms mode (state_of v) ∷ all_written norms mode us) (sym is)
split_written norms mode (u ∷ us) (suc k) t low is = ap (λ (ts : List WrittenTerm). written_term norms mode (state_of u) ∷ ts) (split_written norms mode us k t (omega (arith, low)) is)

-- the field can't be started
pub begun_fault : {A B : Type 0} (kept : IndexRecordOption) (tokens : ℕ) (initial : IndexBodiesState) (ts : List WrittenTerm) (e : Fault) → (e ≡ Limit limit.Offset → IsFull initial.postings.writer 8)
    → (e ≡ OutOfMemory) ⊎ (e ≡ Write) ⊎ (e ≡ Limit limit.Offset) ⊎ (e ≡ SerializerClosed) → (e ≡ SerializerClosed) ⊎ IsFaultBy A B (NoRoom kept tokens initial ts) e
begun_fault kept tokens initial ts e full (inl memory) = inr (inl memory)
begun_fault kept tokens initial ts e full (inr (inl write)) = inr (inr (inl write))
begun_fault kept tokens initial ts e full (inr (inr (inl offset))) = inr (inr (inr (inr (inr (offset, begin_full kept tokens initial ts (full offset))))))
begun_fault kept tokens initial ts e full (inr (inr (inr closed))) = inl closed

-- a call to an open serializer isn't refused for being closed
pub unless_closed : {T : Type 0} (r : Result T Fault) (closed : Bool) (P Q : Fault → Type 0) → IsErrOf r SerializerClosed ↔ IsTrue closed → closed ≡ false → ((e : Fault) → P e → Q e) → IfErr r (λ e. (e ≡ SerializerClosed) ⊎ P e) → IfErr r Q
unless_closed (Ok x) closed P Q iff unclosed f fault = tt
unless_closed (Err e) closed P Q iff unclosed f (inl is) = absurd (true≢false (sym (iff.0 (ap Err is)) ∙ unclosed))
unless_closed (Err e) closed P Q iff unclosed f (inr fault) = f e fault
