-- No limit depends on bounds: parts exceed a limit if they do so without norms.
use Rattle.std.proofs.Common.{inl, inr, ◌≡◌, ℕ, zero, suc, ◌+◌, ◌≤◌, ◌<◌, ◌^◌, List, [], ◌∷◌, ◌++◌, length, map, Option, None, refl, sym, ap, ◌∙◌, subst, arith, length-append}
use Rattle.std.specs.Prelude.{◌⊎◌, slice_index_or}
use Rattle.std.specs.List.{AllByRecursion, flat_map, range_with_len}
use Rattle.ii_io.specs.Composite.{Body, bodies_bytes, places_from, table_bytes, written_composite}
use Rattle.ii_io.specs.declared.composite_file.place.Place.{Place}
use Rattle.ii_io.specs.Numbers.{le_bytes}
use Rattle.ii_io.specs.CountingWriter.{IsFull}
use Rattle.ii_io.specs.declared.faults.Fault.{Fault}
use Rattle.ii_base.specs.Entries.{docs_of}
use Rattle.ii_base.specs.Schema.{SchemaEntry}
use Rattle.ii_base.specs.declared.schema.index_record_option.IndexRecordOption.{IndexRecordOption}
use Rattle.ii_fieldnorm.specs.Readers.{Norms}
use Rattle.ii_layout.proofs.BoundLaws.{bounds_take_no_room}
use Rattle.ii_termstore.specs.declared.term_info.TermInfo.{TermInfo}
use Rattle.ii_termstore.specs.TermInfos.{term_info_from}
use Rattle.ii_termdict.specs.Written.{written_dictionary}
use Rattle.ii_definitions.specs.Fields.{option_of}
use Rattle.ii_recorder.specs.IndexBodies.{IndexBodiesState, OneIsFull}
use Rattle.ii_recorder.specs.Pushed.{pushed_freqs}
use Rattle.ii_recorder.specs.Recorded.{entries_of_recorder}
use Rattle.ii_recorder.specs.Terms.{WrittenTerm, infos_from, positions_body, positions_bytes, postings_bytes}
use Rattle.ii_postings_writer.specs.FieldParts.{FieldPart, first_parts, parts_of, positions_of_part, postings_body, terms_body, tokens_in, written_terms}
use Rattle.ii_postings_writer.specs.PostingsWriter.{PostingsWriterState}
use Rattle.ii_postings_writer.specs.SortedTerms.{SortedTerm, norms_in, term_option, written_term}
use Rattle.ii_postings_writer.specs.TermLimits.{AreWithin, FirstOf, HasLargeSum, IsLong, IsWithin, PassEnds}
use Rattle.ii_postings_writer.specs.WriteFaults.{FirstInParts, FirstPartEnds, IsPartsFault, IsWithinPart, all_bodies}
use Rattle.ii_postings_writer.proofs.FaultLemmas.{fault_more}

first_over : {X Y : Type 0} (f g : X → Y) (Q P : Y → Type 0) → ((x : X) → Q (f x) → Q (g x)) → ((x : X) → P (f x) → P (g x)) → (xs : List X) → FirstOf Q P (map f xs) → FirstOf Q P (map g xs)
first_over f g Q P within passes [] found = found
first_over f g Q P within passes (x ∷ xs) (inl here) = inl (passes x here)
first_over f g Q P within passes (x ∷ xs) (inr later) = inr (within x later.0, first_over f g Q P within passes xs later.1)

first_as : {X : Type 0} (f : X → X) (Q P : X → Type 0) → ((x : X) → Q x → Q (f x)) → ((x : X) → P x → P (f x)) → (xs : List X) → FirstOf Q P xs → FirstOf Q P (map f xs)
first_as f Q P within passes [] found = found
first_as f Q P within passes (x ∷ xs) (inl here) = inl (passes x here)
first_as f Q P within passes (x ∷ xs) (inr later) = inr (within x later.0, first_as f Q P within passes xs later.1)

module _ (norms : Option Norms) (mode : IndexRecordOption) where
  abbrev own : List SortedTerm → List WrittenTerm
  own ss = map (written_term norms mode) ss

  abbrev plain : List SortedTerm → List WrittenTerm
  plain ss = map (written_term None mode) ss

  same_room : (s : SortedTerm) → length (postings_bytes (written_term norms mode s)) ≡ length (postings_bytes (written_term None mode s))
  same_room s = bounds_take_no_room norms (term_option mode s) (docs_of (entries_of_recorder s.recorder)) (pushed_freqs s.recorder.option (entries_of_recorder s.recorder))

  postings_room : (ss : List SortedTerm) → length (flat_map postings_bytes (own ss)) ≡ length (flat_map postings_bytes (plain ss))
  postings_room [] = refl
  postings_room (s ∷ ss) =
      let first = same_room s in
      let rest = postings_room ss in
      omega (
        arith,
        length-append (postings_bytes (written_term norms mode s)) (flat_map postings_bytes (own ss)),
        length-append (postings_bytes (written_term None mode s)) (flat_map postings_bytes (plain ss)),
      )

  positions_are : (ss : List SortedTerm) → positions_body mode (own ss) ≡ positions_body mode (plain ss)
  positions_are [] = refl
  positions_are (s ∷ ss) = ap (λ (bs : List ℕ). positions_bytes mode (written_term None mode s).deltas ++ bs) (positions_are ss)

  keys_are : (ss : List SortedTerm) → map (λ (t : WrittenTerm). t.key) (own ss) ≡ map (λ (t : WrittenTerm). t.key) (plain ss)
  keys_are [] = refl
  keys_are (s ∷ ss) = ap (λ (ks : List (List ℕ)). s.key ∷ ks) (keys_are ss)

  infos_are : (a p : ℕ) (ss : List SortedTerm) → infos_from mode a p (own ss) ≡ infos_from mode a p (plain ss)
  infos_are a p [] = refl
  infos_are a p (s ∷ ss) =
      let t = written_term None mode s in
      let end = p + length (positions_bytes mode t.deltas) in
      ap (λ (n : ℕ). term_info_from (length t.docs) a (a + n) p end ∷ infos_from mode (a + n) end (own ss)) (same_room s)
      ∙ ap (λ (is : List TermInfo). term_info_from (length t.docs) a (a + length (postings_bytes t)) p end ∷ is) (infos_are (a + length (postings_bytes t)) end ss)

  pub terms_room : (ss : List SortedTerm) → length (written_dictionary (map (λ (t : WrittenTerm). t.key) (own ss)) (infos_from mode 0 0 (own ss)))
      ≡ length (written_dictionary (map (λ (t : WrittenTerm). t.key) (plain ss)) (infos_from mode 0 0 (plain ss)))
  terms_room ss = λ j. length (written_dictionary (keys_are ss j) (infos_are 0 0 ss j))

  stays_within : (s : SortedTerm) → IsWithin mode (written_term norms mode s) → IsWithin mode (written_term None mode s)
  stays_within s w = (w.0, (subst (λ (n : ℕ). n < 2 ^ 32) (same_room s) w.1.0, w.1.1))

  stays_long : (s : SortedTerm) → IsLong mode (written_term norms mode s) → IsLong mode (written_term None mode s)
  stays_long s (small, inl long) = (small, inl (subst (λ (n : ℕ). 2 ^ 32 ≤ n) (same_room s) long))
  stays_long s (small, inr long) = (small, inr long)

  end_late : (ss : List SortedTerm) → PassEnds mode (own ss) → PassEnds mode (plain ss)
  end_late ss (inl far) = inl (subst (λ (n : ℕ). 2 ^ 56 ≤ n) (postings_room ss) far)
  end_late ss (inr far) = inr (subst (λ (bs : List ℕ). 2 ^ 56 ≤ length bs) (positions_are ss) far)

  ended_late : (ss : List SortedTerm) → PassEnds mode (plain ss) → PassEnds mode (own ss)
  ended_late ss (inl far) = inl (subst (λ (n : ℕ). 2 ^ 56 ≤ n) (sym (postings_room ss)) far)
  ended_late ss (inr far) = inr (subst (λ (bs : List ℕ). 2 ^ 56 ≤ length bs) (sym (positions_are ss)) far)

  each_within : (ss : List SortedTerm) → AllByRecursion (IsWithin mode) (own ss) → AllByRecursion (IsWithin mode) (plain ss)
  each_within [] all = tt
  each_within (s ∷ ss) all = (stays_within s all.0, each_within ss all.1)

  all_within : (ss : List SortedTerm) → AreWithin mode (own ss) → AreWithin mode (plain ss)
  all_within ss h = record { terms = each_within ss h.terms; ends = λ far. h.ends (ended_late ss far) }

-- a part without norms
abbrev pub bare : FieldPart → FieldPart
bare p = record { field = p.field; tokens = p.tokens; norms = None; terms = p.terms }

module _ (entries : List SchemaEntry) where
  -- Bodies of parts that have as many bytes without norms.
  module _ (body : FieldPart → Body) (own_field : (p : FieldPart) → (body p).field ≡ p.field) (room : (p : FieldPart) → length (body p).bytes ≡ length (body (bare p)).bytes) where
    bodies_room : (ps : List FieldPart) → length (bodies_bytes (map body ps)) ≡ length (bodies_bytes (map body (map bare ps)))
    bodies_room [] = refl
    bodies_room (p ∷ ps) =
        let first = room p in
        let rest = bodies_room ps in
        omega (arith, length-append (body p).bytes (bodies_bytes (map body ps)), length-append (body (bare p)).bytes (bodies_bytes (map body (map bare ps))))

    places_are : (start : ℕ) (ps : List FieldPart) → places_from start (map body ps) ≡ places_from start (map body (map bare ps))
    places_are start [] = refl
    places_are start (p ∷ ps) =
        let field = own_field p ∙ sym (own_field (bare p)) in
        ap (λ (n : ℕ). record { field = (body p).field; start = start; end = start + n } ∷ places_from (start + n) (map body ps)) (room p)
        ∙ ap (λ (f : ℕ). record { field = f; start = start; end = start + length (body (bare p)).bytes } ∷ places_from (start + length (body (bare p)).bytes) (map body ps)) field
        ∙ ap (λ (places : List Place). record { field = (body (bare p)).field; start = start; end = start + length (body (bare p)).bytes } ∷ places) (places_are (start + length (body (bare p)).bytes) ps)

    pub file_room : (ps : List FieldPart) → length (written_composite (map body ps)) ≡ length (written_composite (map body (map bare ps)))
    file_room ps =
        let bytes = bodies_room ps in
        let table = ap (λ (places : List Place). length (table_bytes places)) (places_are 0 ps) in
        omega (
          arith,
          length-append (bodies_bytes (map body ps)) (table_bytes (places_from 0 (map body ps))),
          length-append (bodies_bytes (map body (map bare ps))) (table_bytes (places_from 0 (map body (map bare ps)))),
        )

  pub bare_terms : (p : FieldPart) → length (terms_body entries p).bytes ≡ length (terms_body entries (bare p)).bytes
  bare_terms p = terms_room p.norms (option_of entries p.field) p.terms

  pub bare_postings : (p : FieldPart) → length (postings_body entries p).bytes ≡ length (postings_body entries (bare p)).bytes
  bare_postings p =
      let rest = postings_room p.norms (option_of entries p.field) p.terms in
      omega (arith, length-append (le_bytes 8 p.tokens) (flat_map postings_bytes (written_terms entries p)), length-append (le_bytes 8 p.tokens) (flat_map postings_bytes (written_terms entries (bare p))))

  pub bare_positions : (p : FieldPart) → length (positions_of_part entries p).bytes ≡ length (positions_of_part entries (bare p)).bytes
  bare_positions p = ap length (positions_are p.norms (option_of entries p.field) p.terms)

  within_bare : (p : FieldPart) → IsWithinPart entries p → IsWithinPart entries (bare p)
  within_bare p within = all_within p.norms (option_of entries p.field) p.terms within

  large_in_bare : (ps : List FieldPart) → FirstInParts (λ mode. HasLargeSum) entries ps → FirstInParts (λ mode. HasLargeSum) entries (map bare ps)
  large_in_bare ps found =
      first_as bare (IsWithinPart entries) (λ (p : FieldPart). FirstOf (IsWithin (option_of entries p.field)) HasLargeSum (written_terms entries p)) within_bare
      (λ p here. first_over (written_term p.norms (option_of entries p.field)) (written_term None (option_of entries p.field)) (IsWithin (option_of entries p.field)) HasLargeSum (stays_within p.norms (option_of entries p.field)) (λ s large. large) p.terms here)
      ps found

  long_in_bare : (ps : List FieldPart) → FirstInParts IsLong entries ps → FirstInParts IsLong entries (map bare ps)
  long_in_bare ps found =
      first_as bare (IsWithinPart entries) (λ (p : FieldPart). FirstOf (IsWithin (option_of entries p.field)) (IsLong (option_of entries p.field)) (written_terms entries p)) within_bare
      (λ p here. first_over (written_term p.norms (option_of entries p.field)) (written_term None (option_of entries p.field)) (IsWithin (option_of entries p.field)) (IsLong (option_of entries p.field)) (stays_within p.norms (option_of entries p.field)) (stays_long p.norms (option_of entries p.field)) p.terms here)
      ps found

  ends_in_bare : (ps : List FieldPart) → FirstPartEnds entries ps → FirstPartEnds entries (map bare ps)
  ends_in_bare ps found =
      first_as bare (IsWithinPart entries) (λ (p : FieldPart). PassEnds (option_of entries p.field) (written_terms entries p)) within_bare (λ p here. end_late p.norms (option_of entries p.field) p.terms here) ps found

  full_with_bare : (initial : IndexBodiesState) (ps : List FieldPart) → OneIsFull initial (all_bodies entries ps) → OneIsFull initial (all_bodies entries (map bare ps))
  full_with_bare initial ps (inl full) = inl (subst (IsFull initial.terms.writer) (bodies_room (terms_body entries) (λ p. refl) bare_terms ps) full)
  full_with_bare initial ps (inr (inl full)) = inr (inl (subst (IsFull initial.postings.writer) (bodies_room (postings_body entries) (λ p. refl) bare_postings ps) full))
  full_with_bare initial ps (inr (inr full)) = inr (inr (subst (IsFull initial.positions.writer) (bodies_room (positions_of_part entries) (λ p. refl) bare_positions ps) full))

  -- parts that can't be written can't be so without norms
  pub bare_fault : (initial : IndexBodiesState) (ps : List FieldPart) (e : Fault) → IsPartsFault entries initial ps e → IsPartsFault entries initial (map bare ps) e
  bare_fault initial ps e fault = fault_more e (large_in_bare ps) (long_in_bare ps) room fault
    where
      room : OneIsFull initial (all_bodies entries ps) ⊎ FirstPartEnds entries ps → OneIsFull initial (all_bodies entries (map bare ps)) ⊎ FirstPartEnds entries (map bare ps)
      room (inl full) = inl (full_with_bare initial ps full)
      room (inr far) = inr (ends_in_bare ps far)

  -- the first fields without norms
  module _ (writers : List PostingsWriterState) (readers : List Body) (lists : List (List SortedTerm)) where
    abbrev parts_at : List Body → ℕ → List FieldPart
    parts_at given field = parts_of entries field (tokens_in writers field) (norms_in given field) (slice_index_or lists field [])

    bare_from : (first k : ℕ) → map bare (flat_map (parts_at readers) (range_with_len first k)) ≡ flat_map (parts_at []) (range_with_len first k)
    bare_from first zero = refl
    bare_from first (suc k) = by (slice_index_or lists first []) (flat_map (parts_at readers) (range_with_len (first + 1) k)) (flat_map (parts_at []) (range_with_len (first + 1) k)) (bare_from (first + 1) k)
      where
        by : (l : List SortedTerm) (ps qs : List FieldPart) → map bare ps ≡ qs
            → map bare (parts_of entries first (tokens_in writers first) (norms_in readers first) l ++ ps) ≡ parts_of entries first (tokens_in writers first) None l ++ qs
        by [] ps qs same = same
        by (t ∷ us) ps qs same = ap (λ (rs : List FieldPart). record { field = first; tokens = tokens_in writers first; norms = None; terms = t ∷ us } ∷ rs) same

    pub bare_parts : (n : ℕ) → map bare (first_parts entries writers readers lists n) ≡ first_parts entries writers [] lists n
    bare_parts n = bare_from 0 n
