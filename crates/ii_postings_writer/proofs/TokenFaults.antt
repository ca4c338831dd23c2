-- Why the terms of a context can't be written, by the tokens that it has.
use Rattle.std.proofs.Common.{inl, inr, ◌≡◌, ℕ, zero, suc, ◌+◌, ◌≤◌, ◌<◌, ◌^◌, true, false, List, [], ◌∷◌, ◌++◌, length, map, refl, sym, ap, ◌∙◌, subst, arith, None, nat_lt, zero-add}
use Rattle.std.specs.Prelude.{◌⊎◌, filter, slice_index_or}
use Rattle.std.specs.List.{AllByRecursion, flat_map, range_with_len}
use Rattle.std.specs.List.Sorted.{IsStrictlySortedBy}
use Rattle.std.specs.Cmp.Lexicographic.{slice_cmp}
use Rattle.std.specs.Ordering.{nat_cmp}
use Rattle.std.specs.Map.{keys_of}
use Rattle.std.proofs.lemmas.Bool.{lt-ltb}
use Rattle.std.proofs.lemmas.List.FromFn.{get_or-map-range_with_len}
use Rattle.ii_io.specs.Composite.{Body, bodies_bytes, written_composite}
use Rattle.ii_io.specs.CompositeWrite.{CompositeWriteState, HasBodies}
use Rattle.ii_io.specs.CountingWriter.{CountingWriterState}
use Rattle.ii_io.specs.declared.faults.Fault.{Fault}
use Rattle.ii_base.specs.Schema.{SchemaEntry}
use Rattle.ii_base.specs.declared.schema.index_record_option.IndexRecordOption.{IndexRecordOption}
use Rattle.ii_definitions.specs.Fields.{option_of}
use Rattle.ii_definitions.specs.Tokens.{IndexToken}
use Rattle.ii_recorder.specs.IndexBodies.{OneIsFull, IndexBodiesState}
use Rattle.ii_recorder.specs.IndexSerializer.{IndexSerializerState}
use Rattle.ii_recorder.specs.Terms.{FieldBodies, WrittenTerm, field_bodies}
use Rattle.ii_postings_writer.specs.FieldParts.{FieldPart, WroteContext, bodies_of, first_parts, parts_of, positions_of_part, postings_body, terms_body, tokens_in, written_terms}
use Rattle.ii_postings_writer.specs.HeldBodies.{HaveTokens}
use Rattle.ii_postings_writer.specs.IndexingContext.{TermIndex}
use Rattle.ii_postings_writer.specs.IndexingTerm.{AreTermBytes}
use Rattle.ii_postings_writer.specs.PostingsWriter.{PostingsWriterState}
use Rattle.ii_postings_writer.specs.SortedTerms.{SortedTerm, terms_in, written_term}
use Rattle.ii_postings_writer.specs.TermLimits.{AreWithin, FirstOf, HasLargeSum, IsLong, IsWithin, PassEnds}
use Rattle.ii_postings_writer.specs.TokenFiles.{FirstEnds, FirstTerm, token_terms, file_bodies, token_bodies}
use Rattle.ii_recorder.specs.TokenTerms.{field_keys}
use Rattle.ii_postings_writer.specs.WriteFaults.{FirstInParts, FirstPartEnds, IsContextFault, IsPartsFault, IsTokensFault, IsWithinPart, all_bodies, bodies_of_tokens}
use Rattle.ii_postings_writer.proofs.FaultLemmas.{fault_more}
use Rattle.ii_postings_writer.proofs.HeldBodies.{sorted_tokens}
use Rattle.ii_postings_writer.proofs.PartLemmas.{part_of}
use Rattle.ii_postings_writer.proofs.TokenTerms.{HasFieldTokens, field_written, keys_written}
use Rattle.ii_postings_writer.proofs.BareParts.{bare_fault, bare_parts, bare_positions, bare_postings, bare_terms, file_room}

-- Of the parts of fields, the first of which P holds, as the first field.
module _ (entries : List SchemaEntry) (n : ℕ) (tokens : ℕ → ℕ) (terms : ℕ → List SortedTerm) (Q P : FieldPart → Type 0) (R S : ℕ → Type 0)
    (within : (field : ℕ) → field < n → Q (part_of entries field (tokens field) None (terms field)) → R field)
    (passes : (field : ℕ) → field < n → P (part_of entries field (tokens field) None (terms field)) → S field)
    (empty : (field : ℕ) → field < n → terms field ≡ [] → R field) where
  abbrev parts : ℕ → List FieldPart
  parts field = parts_of entries field (tokens field) None (terms field)

  first_field : (first k : ℕ) → first + k ≤ n → FirstOf Q P (flat_map parts (range_with_len first k)) → FirstOf R S (range_with_len first k)
  first_field first zero low found = absurd found
  first_field first (suc k) low found = by_case (terms first) refl (first_field (first + 1) k (omega (arith, low))) found
    where
      by_case : (l : List SortedTerm) → terms first ≡ l → (FirstOf Q P (flat_map parts (range_with_len (first + 1) k)) → FirstOf R S (range_with_len (first + 1) k))
          → FirstOf Q P (parts_of entries first (tokens first) None l ++ flat_map parts (range_with_len (first + 1) k)) → FirstOf R S (first ∷ range_with_len (first + 1) k)
      by_case [] is rest later = inr (empty first (omega (arith, low)) is, rest later)
      by_case (t ∷ us) is rest (inl here) = inl (passes first (omega (arith, low)) (subst (λ (l : List SortedTerm). P (part_of entries first (tokens first) None l)) (sym is) here))
      by_case (t ∷ us) is rest (inr later) = inr (within first (omega (arith, low)) (subst (λ (l : List SortedTerm). Q (part_of entries first (tokens first) None l)) (sym is) later.0), rest later.1)

-- What a sorted context has of tokens.
pub record HasTokensSorted (entries : List SchemaEntry) (writers : List PostingsWriterState) (sorted : TermIndex) (ts : List IndexToken) : Type 0 where
  pub few : length entries < 2 ^ 32
  pub whole : AllByRecursion AreTermBytes (keys_of sorted)
  pub ascending : IsStrictlySortedBy (slice_cmp nat_cmp) (keys_of sorted)
  pub tokens : HaveTokens entries sorted writers ts

module _ (entries : List SchemaEntry) (writers : List PostingsWriterState) (sorted : TermIndex) (ts : List IndexToken) (h : HasTokensSorted entries writers sorted ts) where
  abbrev n : ℕ
  n = length entries

  abbrev lists : List (List SortedTerm)
  lists = map (λ (field : ℕ). terms_in field sorted) (range_with_len 0 n)

  abbrev list_at : ℕ → List SortedTerm
  list_at field = slice_index_or lists field []

  list_is : (field : ℕ) → field < n → list_at field ≡ terms_in field sorted
  list_is field inside = get_or-map-range_with_len (λ (f : ℕ). terms_in f sorted) 0 n field field [] inside (zero-add field)

  has_field : (field : ℕ) → field < n → HasFieldTokens (option_of entries field) field sorted ts
  has_field field inside =
      let few = h.few in
      let small : field < 2 ^ 32 = omega (arith, inside, few) in
      record { small = small; whole = h.whole; ascending = h.ascending; records = λ key. h.tokens.records field key small }

  -- the terms of a field are those of its tokens
  terms_are : (field : ℕ) → field < n → map (written_term None (option_of entries field)) (list_at field) ≡ token_terms entries ts field
  terms_are field inside =
      ap (map (written_term None (option_of entries field))) (list_is field inside) ∙ field_written None (option_of entries field) field sorted ts (has_field field inside)

  keys_in_list : (field : ℕ) → field < n → map (λ (s : SortedTerm). s.key) (list_at field) ≡ field_keys field ts
  keys_in_list field inside = ap (map (λ (s : SortedTerm). s.key)) (list_is field inside) ∙ keys_written None (option_of entries field) field sorted ts (has_field field inside)

  -- so are its bodies
  bodies_are : (field : ℕ) → field < n → bodies_of entries (part_of entries field (tokens_in writers field) None (list_at field)) ≡ token_bodies entries ts field
  bodies_are field inside =
      ap (field_bodies (option_of entries field) (tokens_in writers field)) (terms_are field inside)
      ∙ ap (λ (m : ℕ). field_bodies (option_of entries field) m (token_terms entries ts field)) (h.tokens.counted field inside)

  none_within : (field : ℕ) → field < n → list_at field ≡ [] → AreWithin (option_of entries field) (token_terms entries ts field)
  none_within field inside none = subst (AreWithin (option_of entries field)) (ap (map (written_term None (option_of entries field))) (sym none) ∙ terms_are field inside) no_terms
    where
      no_ends : ¬ PassEnds (option_of entries field) []
      no_ends (inl far) = absurd (omega (arith, far))
      no_ends (inr far) = absurd (omega (arith, far))

      no_terms : AreWithin (option_of entries field) []
      no_terms = record { terms = tt; ends = no_ends }

  abbrev all_parts : List FieldPart
  all_parts = first_parts entries writers [] lists n

  first_term : (P : IndexRecordOption → WrittenTerm → Type 0) → FirstInParts P entries all_parts → FirstTerm P entries ts
  first_term P found =
      first_field entries n (tokens_in writers) list_at (IsWithinPart entries) (λ (p : FieldPart). FirstOf (IsWithin (option_of entries p.field)) (P (option_of entries p.field)) (written_terms entries p))
      (λ field. AreWithin (option_of entries field) (token_terms entries ts field)) (λ field. FirstOf (IsWithin (option_of entries field)) (P (option_of entries field)) (token_terms entries ts field))
      (λ field inside held. subst (AreWithin (option_of entries field)) (terms_are field inside) held)
      (λ field inside here. subst (FirstOf (IsWithin (option_of entries field)) (P (option_of entries field))) (terms_are field inside) here)
      none_within 0 n (omega (arith)) found

  first_ends : FirstPartEnds entries all_parts → FirstEnds entries ts
  first_ends found =
      first_field entries n (tokens_in writers) list_at (IsWithinPart entries) (λ (p : FieldPart). PassEnds (option_of entries p.field) (written_terms entries p))
      (λ field. AreWithin (option_of entries field) (token_terms entries ts field)) (λ field. PassEnds (option_of entries field) (token_terms entries ts field))
      (λ field inside held. subst (AreWithin (option_of entries field)) (terms_are field inside) held)
      (λ field inside here. subst (PassEnds (option_of entries field)) (terms_are field inside) here)
      none_within 0 n (omega (arith)) found

  -- The bodies of a file.
  module _ (part : FieldBodies → List ℕ) where
    abbrev part_body : FieldPart → Body
    part_body p = record { field = p.field; bytes = part (bodies_of entries p) }

    abbrev own_body : ℕ → Body
    own_body field = record { field = field; bytes = part (token_bodies entries ts field) }

    bodies_from : (first k : ℕ) → first + k ≤ n → map part_body (flat_map (λ (field : ℕ). parts_of entries field (tokens_in writers field) None (list_at field)) (range_with_len first k))
        ≡ map own_body (filter (λ (field : ℕ). nat_lt 0 (length (field_keys field ts))) (range_with_len first k))
    bodies_from first zero low = refl
    bodies_from first (suc k) low = by_case (list_at first) refl (bodies_from (first + 1) k (omega (arith, low)))
      where
        inside : first < n
        inside = omega (arith, low)

        by_case : (l : List SortedTerm) → list_at first ≡ l → map part_body (flat_map (λ (field : ℕ). parts_of entries field (tokens_in writers field) None (list_at field)) (range_with_len (first + 1) k))
            ≡ map own_body (filter (λ (field : ℕ). nat_lt 0 (length (field_keys field ts))) (range_with_len (first + 1) k))
            → map part_body (parts_of entries first (tokens_in writers first) None l ++ flat_map (λ (field : ℕ). parts_of entries field (tokens_in writers field) None (list_at field)) (range_with_len (first + 1) k))
            ≡ map own_body (filter (λ (field : ℕ). nat_lt 0 (length (field_keys field ts))) (first ∷ range_with_len (first + 1) k))
        by_case [] is rest =
            let none : nat_lt 0 (length (field_keys first ts)) ≡ false = ap (λ (ks : List (List ℕ)). nat_lt 0 (length ks)) (sym (keys_in_list first inside) ∙ ap (map (λ (s : SortedTerm). s.key)) is) in
            rw none rest
        by_case (t ∷ us) is rest =
            let many : length (field_keys first ts) ≡ suc (length (map (λ (s : SortedTerm). s.key) us)) = ap length (sym (keys_in_list first inside) ∙ ap (map (λ (s : SortedTerm). s.key)) is) in
            let some : nat_lt 0 (length (field_keys first ts)) ≡ true = lt-ltb 0 (length (field_keys first ts)) (omega (arith, many)) in
            let here : part_body (part_of entries first (tokens_in writers first) None (t ∷ us)) ≡ own_body first =
            ap (λ (l : List SortedTerm). part_body (part_of entries first (tokens_in writers first) None l)) (sym is) ∙ ap (λ (b : FieldBodies). record { field = first; bytes = part b }) (bodies_are first inside) in
            rw some (rw (here, rest) refl)

    pub file_is : map part_body all_parts ≡ file_bodies part entries ts
    file_is = bodies_from 0 n (omega (arith))

  bodies_same : all_bodies entries all_parts ≡ bodies_of_tokens entries ts
  bodies_same =
      ap (λ (bs : List Body). record (all_bodies entries all_parts) { terms = bodies_bytes bs }) (file_is (λ b. b.terms))
      ∙ ap (λ (bs : List Body). record (all_bodies entries all_parts) { terms = bodies_bytes (file_bodies (λ b. b.terms) entries ts); postings = bodies_bytes bs }) (file_is (λ b. b.postings))
      ∙ ap (λ (bs : List Body). record (bodies_of_tokens entries ts) { positions = bodies_bytes bs }) (file_is (λ b. b.positions))

  parts_fault : (initial : IndexBodiesState) (e : Fault) → IsPartsFault entries initial all_parts e → IsTokensFault entries initial ts e
  parts_fault initial e fault = fault_more e (first_term (λ mode. HasLargeSum)) (first_term IsLong) room fault
    where
      room : OneIsFull initial (all_bodies entries all_parts) ⊎ FirstPartEnds entries all_parts → OneIsFull initial (bodies_of_tokens entries ts) ⊎ FirstEnds entries ts
      room (inl full) = inl (subst (OneIsFull initial) bodies_same full)
      room (inr far) = inr (first_ends far)

-- so a context with tokens can't be written
pub tokens_fault : (old : IndexSerializerState) (writers : List PostingsWriterState) (readers : List Body) (terms : TermIndex) (ts : List IndexToken) (e : Fault) → length old.entries < 2 ^ 32 → HaveTokens old.entries terms writers ts → IsContextFault old writers readers terms e
    → IsTokensFault old.entries old.bodies ts e
tokens_fault old writers readers terms ts e few has fault =
    let n = length old.entries in
    let lists = map (λ (field : ℕ). terms_in field fault.sorted) (range_with_len 0 (length old.entries)) in
    let tokens = sorted_tokens old.entries terms fault.sorted writers ts fault.same has in
    let plain = subst (λ (ps : List FieldPart). IsPartsFault old.entries old.bodies ps e) (bare_parts old.entries writers readers lists n) (bare_fault old.entries old.bodies (first_parts old.entries writers readers lists n) e fault.cause) in
    parts_fault old.entries writers fault.sorted ts (record { few = few; whole = fault.whole; ascending = fault.ascending; tokens = tokens }) old.bodies e plain

-- A file has bodies, and as many bytes as with other bodies.
pub record HasFile (initial : CountingWriterState) (now : CompositeWriteState) (wanted : List Body) : Type 0 where
  pub bodies : List Body
  pub has : HasBodies initial now bodies
  pub room : length (written_composite bodies) ≡ length (written_composite wanted)

-- The files of tokens, before the tables are written.
pub record HasFiles (entries : List SchemaEntry) (initial now : IndexBodiesState) (ts : List IndexToken) : Type 0 where
  pub terms : HasFile initial.terms.writer now.terms (file_bodies (λ b. b.terms) entries ts)
  pub postings : HasFile initial.postings.writer now.postings (file_bodies (λ b. b.postings) entries ts)
  pub positions : HasFile initial.positions.writer now.positions (file_bodies (λ b. b.positions) entries ts)

-- and once it was written, the files have as many bytes as its bodies
pub wrote_files : (old now : IndexSerializerState) (writers : List PostingsWriterState) (readers : List Body) (terms : TermIndex) (ts : List IndexToken) → length old.entries < 2 ^ 32 → HaveTokens old.entries terms writers ts → WroteContext old now writers readers terms
    → HasFiles old.entries old.bodies now.bodies ts
wrote_files old now writers readers terms ts few has context =
    let wrote = context.wrote in
    let h : HasTokensSorted old.entries writers context.sorted ts = record { few = few; whole = wrote.whole; ascending = wrote.ascending; tokens = sorted_tokens old.entries terms context.sorted writers ts wrote.same has } in
    let n = length old.entries in
    let lists = map (λ (field : ℕ). terms_in field context.sorted) (range_with_len 0 (length old.entries)) in
    let parts = first_parts old.entries writers readers lists n in
    let plain = bare_parts old.entries writers readers lists n in
    record {
      terms = record {
        bodies = map (terms_body old.entries) parts;
        has = wrote.fields.terms;
        room = file_room old.entries (terms_body old.entries) (λ p. refl) (bare_terms old.entries) parts
            ∙ ap (λ (ps : List FieldPart). length (written_composite (map (terms_body old.entries) ps))) plain ∙ ap (λ (bs : List Body). length (written_composite bs)) (file_is old.entries writers context.sorted ts h (λ b. b.terms));
      };
      postings = record {
        bodies = map (postings_body old.entries) parts;
        has = wrote.fields.postings;
        room = file_room old.entries (postings_body old.entries) (λ p. refl) (bare_postings old.entries) parts
            ∙ ap (λ (ps : List FieldPart). length (written_composite (map (postings_body old.entries) ps))) plain ∙ ap (λ (bs : List Body). length (written_composite bs)) (file_is old.entries writers context.sorted ts h (λ b. b.postings));
      };
      positions = record {
        bodies = map (positions_of_part old.entries) parts;
        has = wrote.fields.positions;
        room = file_room old.entries (positions_of_part old.entries) (λ p. refl) (bare_positions old.entries) parts
            ∙ ap (λ (ps : List FieldPart). length (written_composite (map (positions_of_part old.entries) ps))) plain ∙ ap (λ (bs : List Body). length (written_composite bs)) (file_is old.entries writers context.sorted ts h (λ b. b.positions));
      };
    }
