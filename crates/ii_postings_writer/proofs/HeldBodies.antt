-- The bodies of all fields hold their tokens.
use Rattle.std.proofs.Common.{Result, Ok, Err, OnOk, zero-add, ◌≡◌, ℕ, zero, suc, ◌+◌, ◌≤◌, ◌<◌, ◌^◌, Bool, true, false, List, [], ◌∷◌, ◌++◌, length, map, Option, Some, None, refl, sym, ap, ◌∙◌, subst, arith, nat_eq, nat_lt}
use Rattle.std.specs.Prelude.{is_some, slice_index_or}
use Rattle.std.specs.List.{AllByRecursion, flat_map, range_with_len}
use Rattle.std.specs.List.Sorted.{IsStrictlySortedBy}
use Rattle.std.specs.Cmp.Lexicographic.{slice_cmp}
use Rattle.std.specs.Ordering.{nat_cmp}
use Rattle.std.specs.Map.{keys_of}
use Rattle.std.proofs.lemmas.Bool.{eq-eqb, eqb-true, eqb-false, lt-ltb, ltb-true, ltb-false, ne_eqb}
use Rattle.std.proofs.lemmas.List.FromFn.{get_or-map-range_with_len}
use Rattle.ii_io.specs.Composite.{Body, body_of}
use Rattle.ii_base.specs.Schema.{SchemaEntry}
use Rattle.ii_definitions.specs.Fields.{option_of}
use Rattle.ii_definitions.specs.Files.{HasField, HoldsField}
use Rattle.ii_definitions.specs.Postings.{field_count, kind_of, tokens_at}
use Rattle.ii_definitions.specs.Tokens.{IndexToken}
use Rattle.ii_recorder.specs.Recorded.{RecorderState}
use Rattle.ii_postings_writer.specs.FieldParts.{FieldPart, HoldsPart, WroteTerms, bodies_of, first_parts, parts_of, positions_of_part, postings_body, terms_body, tokens_in}
use Rattle.std.specs.Prelude.{MatchOption}
use Rattle.ii_base.specs.declared.schema.index_record_option.IndexRecordOption.{IndexRecordOption}
use Rattle.ii_postings_writer.specs.HeldBodies.{BodiesHold, HaveTokens, WroteTokens}
use Rattle.ii_postings_writer.specs.IndexingTerm.{AreTermBytes, field_bytes}
use Rattle.ii_postings_writer.specs.Records.{HasPostings}
use Rattle.ii_postings_writer.proofs.HeldFields.{IsKnown, all_known, each_found, found_in, some_terms, some_tokens}
use Rattle.ii_postings_writer.proofs.TokenTerms.{HasFieldTokens, bounds_field, holds_field}
use Rattle.ii_recorder.specs.TokenTerms.{BoundsItsTokens, HoldsItsTokens}
use Rattle.ii_postings_writer.proofs.SortedLemmas.{kept_writable}
use Rattle.ii_recorder.specs.IndexSerializer.{IndexSerializerState}
use Rattle.ii_postings_writer.specs.IndexingContext.{TermIndex, recorder_of}
use Rattle.ii_postings_writer.specs.PostingsWriter.{PostingsWriterState}
use Rattle.ii_postings_writer.specs.SortedTerms.{norms_in, MayBeWritten, SortedTerm, terms_in}
use Rattle.ii_postings_writer.proofs.PartLemmas.{part_of}
use Rattle.ii_fieldnorm.specs.Readers.{Norms, norms_of_ids}
use Rattle.ii_definitions.specs.TrueBounds.{HasTrueTerms, HaveTrueBodies}
use Rattle.std.specs.Option.{option_map}
use Rattle.ii_definitions.proofs.GroupedLaws.{count_none}

module _ (entries : List SchemaEntry) (writers : List PostingsWriterState) (readers : List Body) (lists : List (List SortedTerm)) where
  abbrev pub list_at : ℕ → List SortedTerm
  list_at field = slice_index_or lists field []

  abbrev pub part_list : ℕ → List FieldPart
  part_list field = parts_of entries field (tokens_in writers field) (norms_in readers field) (list_at field)

  -- the part of a field
  abbrev pub own_part : ℕ → FieldPart
  own_part field = part_of entries field (tokens_in writers field) (norms_in readers field) (list_at field)

  module _ (body : FieldPart → Body) (same : (p : FieldPart) → (body p).field ≡ p.field) where
    passed : (field first tokens : ℕ) (norms : Option Norms) (l : List SortedTerm) (rest : List FieldPart) → (first ≡ field → ⊥) → body_of field (map body (parts_of entries first tokens norms l ++ rest)) ≡ body_of field (map body rest)
    passed field first tokens norms [] rest apart = refl
    passed field first tokens norms (t ∷ ts) rest apart =
        let p = part_of entries first tokens norms (t ∷ ts) in
        let other : nat_eq (body p).field field ≡ false = ne_eqb (body p).field field (λ e. apart (sym (same p) ∙ e)) in
        rw other refl

    -- no field before these has a body, and none after them
    none_past : (field first k : ℕ) → field < first → body_of field (map body (flat_map part_list (range_with_len first k))) ≡ None
    none_past field first zero low = refl
    none_past field first (suc k) low =
        passed field first (tokens_in writers first) (norms_in readers first) (list_at first) (flat_map part_list (range_with_len (first + 1) k)) (λ e. absurd (omega (arith, e, low))) ∙ none_past field (first + 1) k (omega (arith, low))

    none_before : (field first k : ℕ) → first + k ≤ field → body_of field (map body (flat_map part_list (range_with_len first k))) ≡ None
    none_before field first zero high = refl
    none_before field first (suc k) high =
        passed field first (tokens_in writers first) (norms_in readers first) (list_at first) (flat_map part_list (range_with_len (first + 1) k)) (λ e. absurd (omega (arith, e, high))) ∙ none_before field (first + 1) k (omega (arith, high))

    -- the body of a field, if it has terms
    abbrev pub own_body : ℕ → List SortedTerm → Option (List ℕ)
    own_body field [] = None
    own_body field (t ∷ ts) = Some (body (part_of entries field (tokens_in writers field) (norms_in readers field) (t ∷ ts))).bytes

    here : (field : ℕ) (l : List SortedTerm) (rest : List FieldPart) → body_of field (map body rest) ≡ None → body_of field (map body (parts_of entries field (tokens_in writers field) (norms_in readers field) l ++ rest)) ≡ own_body field l
    here field [] rest none = none
    here field (t ∷ ts) rest none =
        let p = part_of entries field (tokens_in writers field) (norms_in readers field) (t ∷ ts) in
        let is : nat_eq (body p).field field ≡ true = eq-eqb (body p).field field (same p) in
        rw is refl

    found_at : (field first k : ℕ) → first ≤ field → field < first + k → body_of field (map body (flat_map part_list (range_with_len first k))) ≡ own_body field (list_at field)
    found_at field first zero low high = absurd (omega (arith, low, high))
    found_at field first (suc k) low high = by_case (nat_eq first field) refl (found_at field (first + 1) k)
      where
        by_case : (b : Bool) → nat_eq first field ≡ b → (first + 1 ≤ field → field < first + 1 + k → body_of field (map body (flat_map part_list (range_with_len (first + 1) k))) ≡ own_body field (list_at field))
            → body_of field (map body (flat_map part_list (range_with_len first (suc k)))) ≡ own_body field (list_at field)
        by_case true is later =
            let own : first ≡ field = eqb-true first field is in
            subst (λ (f : ℕ). body_of field (map body (flat_map part_list (range_with_len f (suc k)))) ≡ own_body field (list_at field)) (sym own)
            (here field (list_at field) (flat_map part_list (range_with_len (field + 1) k)) (none_past field (field + 1) k (omega (arith))))
        by_case false other later =
            let apart = eqb-false first field other in
            passed field first (tokens_in writers first) (norms_in readers first) (list_at first) (flat_map part_list (range_with_len (first + 1) k)) apart ∙ later (omega (arith, low, apart)) (omega (arith, high))

    pub own_found : (field n : ℕ) → field < n → body_of field (map body (first_parts entries writers readers lists n)) ≡ own_body field (list_at field)
    own_found field n inside = found_at field 0 n (omega (arith)) (omega (arith, inside))

    pub none_found : (field n : ℕ) → n ≤ field → body_of field (map body (first_parts entries writers readers lists n)) ≡ None
    none_found field n outside = none_before field 0 n (omega (arith, outside))

  held_here : (field : ℕ) (l : List SortedTerm) (rest : List FieldPart) → 0 < length l → AllByRecursion (HoldsPart entries) (parts_of entries field (tokens_in writers field) (norms_in readers field) l ++ rest) → HoldsPart entries (part_of entries field (tokens_in writers field) (norms_in readers field) l)
  held_here field [] rest some all = absurd (omega (arith, some))
  held_here field (t ∷ ts) rest some all = all.0

  held_later : (field tokens : ℕ) (norms : Option Norms) (l : List SortedTerm) (rest : List FieldPart) → AllByRecursion (HoldsPart entries) (parts_of entries field tokens norms l ++ rest) → AllByRecursion (HoldsPart entries) rest
  held_later field tokens norms [] rest all = all
  held_later field tokens norms (t ∷ ts) rest all = all.1

  held_from : (field first k : ℕ) → first ≤ field → field < first + k → 0 < length (list_at field) → AllByRecursion (HoldsPart entries) (flat_map part_list (range_with_len first k)) → HoldsPart entries (own_part field)
  held_from field first zero low high some all = absurd (omega (arith, low, high))
  held_from field first (suc k) low high some all = by_case (nat_eq first field) refl (held_from field (first + 1) k)
    where
      by_case : (b : Bool) → nat_eq first field ≡ b → (first + 1 ≤ field → field < first + 1 + k → 0 < length (list_at field) → AllByRecursion (HoldsPart entries) (flat_map part_list (range_with_len (first + 1) k)) → HoldsPart entries (own_part field))
          → HoldsPart entries (own_part field)
      by_case true is later =
          let own : first ≡ field = eqb-true first field is in
          held_here field (list_at field) (flat_map part_list (range_with_len (field + 1) k)) some (subst (λ (f : ℕ). AllByRecursion (HoldsPart entries) (part_list f ++ flat_map part_list (range_with_len (f + 1) k))) own all)
      by_case false other later =
          let apart = eqb-false first field other in
          later (omega (arith, low, apart)) (omega (arith, high)) some (held_later first (tokens_in writers first) (norms_in readers first) (list_at first) (flat_map part_list (range_with_len (first + 1) k)) all)

  -- the bodies of a field that was written hold its terms
  pub part_held : (field n : ℕ) → field < n → 0 < length (list_at field) → AllByRecursion (HoldsPart entries) (first_parts entries writers readers lists n) → HoldsPart entries (own_part field)
  part_held field n inside some all = held_from field 0 n (omega (arith)) (omega (arith, inside)) some all

-- What is known of a sorted context that was written, and of its tokens.
pub record IsWritten (entries : List SchemaEntry) (writers : List PostingsWriterState) (readers : List Body) (sorted : TermIndex) (ts : List IndexToken) : Type 0 where
  pub few : length entries < 2 ^ 32
  pub whole : AllByRecursion AreTermBytes (keys_of sorted)
  pub ascending : IsStrictlySortedBy (slice_cmp nat_cmp) (keys_of sorted)
  pub may : AllByRecursion (λ (t : List ℕ × RecorderState). MayBeWritten (length entries) readers t.0 t.1) sorted
  pub tokens : HaveTokens entries sorted writers ts

module _ (law : HoldsItsTokens) (entries : List SchemaEntry) (writers : List PostingsWriterState) (readers : List Body) (sorted : TermIndex) (ts : List IndexToken) (w : IsWritten entries writers readers sorted ts) where
  abbrev n : ℕ
  n = length entries

  abbrev lists : List (List SortedTerm)
  lists = map (λ (field : ℕ). terms_in field sorted) (range_with_len 0 n)

  abbrev mode_of : ℕ → IndexRecordOption
  mode_of field = option_of entries field

  list_is : (field : ℕ) → field < n → slice_index_or lists field [] ≡ terms_in field sorted
  list_is field inside = get_or-map-range_with_len (λ (f : ℕ). terms_in f sorted) 0 n field field [] inside (zero-add field)

  fits : (field : ℕ) → field < n → field < 2 ^ 32
  fits field inside = omega (arith, inside, w.few)

  records_in : (field : ℕ) → field < n → (key : List ℕ) → MatchOption (recorder_of sorted (field_bytes field ++ key)) (tokens_at field key ts ≡ []) (HasPostings (kind_of (mode_of field) (tokens_at field key ts)) (tokens_at field key ts))
  records_in field inside key = w.tokens.records field key (fits field inside)

  has_tokens : (field : ℕ) → field < n → HasFieldTokens (mode_of field) field sorted ts
  has_tokens field inside = record { small = fits field inside; whole = w.whole; ascending = w.ascending; records = records_in field inside }

  module _ (held : AllByRecursion (HoldsPart entries) (first_parts entries writers readers lists n)) where
    part_is_held : (field : ℕ) → field < n → 0 < length (terms_in field sorted) → HoldsPart entries (part_of entries field (tokens_in writers field) (norms_in readers field) (terms_in field sorted))
    part_is_held field inside some =
        let here = list_is field inside in
        subst (λ (l : List SortedTerm). HoldsPart entries (part_of entries field (tokens_in writers field) (norms_in readers field) l)) here
        (part_held entries writers readers lists field n inside (subst (λ (l : List SortedTerm). 0 < length l) (sym here) some) held)

    known_in : (field : ℕ) → field < n → AllByRecursion (IsKnown (norms_in readers field) (mode_of field) field sorted) (terms_in field sorted)
    known_in field inside = by_case (terms_in field sorted) refl
      where
        by_case : (l : List SortedTerm) → terms_in field sorted ≡ l → AllByRecursion (IsKnown (norms_in readers field) (mode_of field) field sorted) (terms_in field sorted)
        by_case [] is = subst (AllByRecursion (IsKnown (norms_in readers field) (mode_of field) field sorted)) (sym is) tt
        by_case (t ∷ us) is =
            let some : 0 < length (terms_in field sorted) = subst (λ (l : List SortedTerm). 0 < length l) (sym is) (omega (arith)) in
            all_known (norms_in readers field) (mode_of field) field sorted (terms_in field sorted) (found_in field sorted sorted w.whole (each_found sorted w.ascending)) (kept_writable n field readers sorted w.may) (part_is_held field inside some).told

    present_own : (body : FieldPart → Body) (same : (p : FieldPart) → (body p).field ≡ p.field) (field : ℕ) → field < n → is_some (own_body entries writers readers lists body same field (terms_in field sorted)) ≡ nat_lt 0 (field_count field ts)
    present_own body same field inside = by_case (terms_in field sorted) refl
      where
        by_case : (l : List SortedTerm) → terms_in field sorted ≡ l → is_some (own_body entries writers readers lists body same field (terms_in field sorted)) ≡ nat_lt 0 (field_count field ts)
        by_case [] is = rw is (sym (count_zero (field_count field ts) refl))
          where
            count_zero : (m : ℕ) → field_count field ts ≡ m → nat_lt 0 (field_count field ts) ≡ false
            count_zero zero none = rw none refl
            count_zero (suc m) some =
                let terms = some_terms (norms_in readers field) (mode_of field) field (fits field inside) sorted ts (records_in field inside) (omega (arith, some)) in
                absurd (omega (arith, terms, ap length is))
        by_case (t ∷ us) is =
            let some : 0 < length (terms_in field sorted) = subst (λ (l : List SortedTerm). 0 < length l) (sym is) (omega (arith)) in
            let count = some_tokens (norms_in readers field) (mode_of field) field (fits field inside) sorted ts (records_in field inside) (known_in field inside) some in
            rw is (sym (lt-ltb 0 (field_count field ts) count))

    has_field : (body : FieldPart → Body) (same : (p : FieldPart) → (body p).field ≡ p.field) (field : ℕ) → HasField field (map body (first_parts entries writers readers lists n)) ts
    has_field body same field = by_case (nat_lt field n) refl
      where
        by_case : (b : Bool) → nat_lt field n ≡ b → HasField field (map body (first_parts entries writers readers lists n)) ts
        by_case true is =
            let inside = ltb-true field n is in
            ap is_some (own_found entries writers readers lists body same field n inside ∙ ap (own_body entries writers readers lists body same field) (list_is field inside)) ∙ present_own body same field inside
        by_case false is =
            let outside : n ≤ field = ltb-false field n is in
            ap is_some (none_found entries writers readers lists body same field n outside) ∙ sym (ap (nat_lt 0) (count_none field n ts w.tokens.known outside))

    own_some : (body : FieldPart → Body) (same : (p : FieldPart) → (body p).field ≡ p.field) (field : ℕ) (l : List SortedTerm) (bytes : List ℕ) → own_body entries writers readers lists body same field l ≡ Some bytes
        → (0 < length l) × ((body (part_of entries field (tokens_in writers field) (norms_in readers field) l)).bytes ≡ bytes)
    own_some body same field [] bytes is = absurd (cc)
    own_some body same field (t ∷ us) bytes is = let found : (body (part_of entries field (tokens_in writers field) (norms_in readers field) (t ∷ us))).bytes ≡ bytes = cc in (omega (arith), found)

    body_is : (body : FieldPart → Body) (same : (p : FieldPart) → (body p).field ≡ p.field) (field : ℕ) (bytes : List ℕ) → field < n → body_of field (map body (first_parts entries writers readers lists n)) ≡ Some bytes
        → (0 < length (terms_in field sorted)) × ((body (part_of entries field (tokens_in writers field) (norms_in readers field) (terms_in field sorted))).bytes ≡ bytes)
    body_is body same field bytes inside found =
        own_some body same field (terms_in field sorted) bytes (sym (ap (own_body entries writers readers lists body same field) (list_is field inside)) ∙ sym (own_found entries writers readers lists body same field n inside) ∙ found)

    held_fields : (field : ℕ) (t p q : List ℕ) → body_of field (map (terms_body entries) (first_parts entries writers readers lists n)) ≡ Some t → body_of field (map (postings_body entries) (first_parts entries writers readers lists n)) ≡ Some p
        → body_of field (map (positions_of_part entries) (first_parts entries writers readers lists n)) ≡ Some q → HoldsField (mode_of field) field t p q ts
    held_fields field t p q at_terms at_postings at_positions = by_case (nat_lt field n) refl
      where
        inside_holds : field < n → HoldsField (mode_of field) field t p q ts
        inside_holds inside =
            let terms = body_is (terms_body entries) (λ f. refl) field t inside at_terms in
            let postings = body_is (postings_body entries) (λ f. refl) field p inside at_postings in
            let positions = body_is (positions_of_part entries) (λ f. refl) field q inside at_positions in
            let own = part_of entries field (tokens_in writers field) (norms_in readers field) (terms_in field sorted) in
            let holds = holds_field (norms_in readers field) (mode_of field) field sorted ts (has_tokens field inside) law (tokens_in writers field) (bodies_of entries own) (w.tokens.counted field inside)
            (part_is_held field inside terms.0).terms (known_in field inside) in
            subst (λ (bytes : List ℕ). HoldsField (mode_of field) field bytes p q ts) terms.1
            (subst (λ (bytes : List ℕ). HoldsField (mode_of field) field (bodies_of entries own).terms bytes q ts) postings.1
            (subst (λ (bytes : List ℕ). HoldsField (mode_of field) field (bodies_of entries own).terms (bodies_of entries own).postings bytes ts) positions.1 holds))

        by_case : (b : Bool) → nat_lt field n ≡ b → HoldsField (mode_of field) field t p q ts
        by_case true is = inside_holds (ltb-true field n is)
        by_case false is =
            let none = none_found entries writers readers lists (terms_body entries) (λ f. refl) field n (ltb-false field n is) in
            absurd (cc)

    -- the bodies of all fields hold the tokens
    pub bodies_hold : BodiesHold mode_of (map (terms_body entries) (first_parts entries writers readers lists n)) (map (postings_body entries) (first_parts entries writers readers lists n)) (map (positions_of_part entries) (first_parts entries writers readers lists n)) ts
    bodies_hold = record {
      present = λ field. (has_field (terms_body entries) (λ f. refl) field, has_field (postings_body entries) (λ f. refl) field, has_field (positions_of_part entries) (λ f. refl) field);
      fields = held_fields;
    }

    bounded_fields : BoundsItsTokens → (field : ℕ) (t p ids : List ℕ) → body_of field (map (terms_body entries) (first_parts entries writers readers lists n)) ≡ Some t → body_of field (map (postings_body entries) (first_parts entries writers readers lists n)) ≡ Some p
        → body_of field readers ≡ Some ids → HasTrueTerms (mode_of field) (norms_of_ids ids) t p
    bounded_fields bounds field t p ids at_terms at_postings normed = by_case (nat_lt field n) refl
      where
        inside_holds : field < n → HasTrueTerms (mode_of field) (norms_of_ids ids) t p
        inside_holds inside =
            let terms = body_is (terms_body entries) (λ f. refl) field t inside at_terms in
            let postings = body_is (postings_body entries) (λ f. refl) field p inside at_postings in
            let own = part_of entries field (tokens_in writers field) (norms_in readers field) (terms_in field sorted) in
            let norms : norms_in readers field ≡ Some (norms_of_ids ids) = ap (option_map norms_of_ids) normed in
            let bounded = bounds_field (norms_in readers field) (mode_of field) field sorted ts (has_tokens field inside) bounds (norms_of_ids ids) norms (tokens_in writers field) (bodies_of entries own) (w.tokens.counted field inside)
            (part_is_held field inside terms.0).terms (known_in field inside) in
            subst (λ (bytes : List ℕ). HasTrueTerms (mode_of field) (norms_of_ids ids) bytes p) terms.1
            (subst (λ (bytes : List ℕ). HasTrueTerms (mode_of field) (norms_of_ids ids) (bodies_of entries own).terms bytes) postings.1 bounded)

        by_case : (b : Bool) → nat_lt field n ≡ b → HasTrueTerms (mode_of field) (norms_of_ids ids) t p
        by_case true is = inside_holds (ltb-true field n is)
        by_case false is =
            let none = none_found entries writers readers lists (terms_body entries) (λ f. refl) field n (ltb-false field n is) in
            absurd (cc)

    -- and their bounds are true by the norms
    pub bodies_bound : BoundsItsTokens → HaveTrueBodies mode_of (map (terms_body entries) (first_parts entries writers readers lists n)) (map (postings_body entries) (first_parts entries writers readers lists n)) readers
    bodies_bound bounds = record { fields = bounded_fields bounds }

pub sorted_tokens : (entries : List SchemaEntry) (terms sorted : TermIndex) (writers : List PostingsWriterState) (ts : List IndexToken) → ((bytes : List ℕ) → recorder_of sorted bytes ≡ recorder_of terms bytes) → HaveTokens entries terms writers ts → HaveTokens entries sorted writers ts
sorted_tokens entries terms sorted writers ts same has = record {
  records = λ field key small. subst (λ (o : Option RecorderState). MatchOption o (tokens_at field key ts ≡ []) (HasPostings (kind_of (option_of entries field) (tokens_at field key ts)) (tokens_at field key ts))) (sym (same (field_bytes field ++ key))) (has.records field key small);
  counted = has.counted;
  known = has.known;
}

-- the fields of parts
parts_below : (entries : List SchemaEntry) (writers : List PostingsWriterState) (readers : List Body) (terms : List (List SortedTerm)) (first count limit : ℕ) → first + count ≤ limit
    → AllByRecursion (λ (p : FieldPart). p.field < limit) (flat_map (λ (field : ℕ). parts_of entries field (tokens_in writers field) (norms_in readers field) (slice_index_or terms field [])) (range_with_len first count))
parts_below entries writers readers terms first zero limit low = tt
parts_below entries writers readers terms first (suc count) limit low = by (slice_index_or terms first []) (flat_map (λ (field : ℕ). parts_of entries field (tokens_in writers field) (norms_in readers field) (slice_index_or terms field [])) (range_with_len (first + 1) count)) (parts_below entries writers readers terms (first + 1) count limit (omega (arith, low)))
  where
    by : (ts : List SortedTerm) (rest : List FieldPart) → AllByRecursion (λ (p : FieldPart). p.field < limit) rest → AllByRecursion (λ (p : FieldPart). p.field < limit) (parts_of entries first (tokens_in writers first) (norms_in readers first) ts ++ rest)
    by [] rest h = h
    by (t ∷ us) rest h = (omega (arith, low), h)

parts_known : (entries : List SchemaEntry) (writers : List PostingsWriterState) (readers : List Body) (terms : List (List SortedTerm)) (n : ℕ) → AllByRecursion (λ (p : FieldPart). p.field < n) (first_parts entries writers readers terms n)
parts_known entries writers readers terms n = parts_below entries writers readers terms 0 n n (omega arith)

-- how a call ends that writes the terms of a context with tokens
pub wrote_tokens : {A E : Type 0} (result : Result A E) → HoldsItsTokens → BoundsItsTokens → (old new : IndexSerializerState) (writers : List PostingsWriterState) (readers : List Body) (terms sorted : TermIndex) (ts : List IndexToken) → IsWritten old.entries writers readers sorted ts
    → OnOk result (WroteTerms old new writers readers terms sorted) → OnOk result (WroteTokens old new readers ts)
wrote_tokens (Ok x) law bounds old new writers readers terms sorted ts w wrote = record {
  fs = first_parts old.entries writers readers (map (λ (field : ℕ). terms_in field sorted) (range_with_len 0 (length old.entries))) (length old.entries);
  known = parts_known old.entries writers readers (map (λ (field : ℕ). terms_in field sorted) (range_with_len 0 (length old.entries))) (length old.entries);
  fields = wrote.fields;
  held = bodies_hold law old.entries writers readers sorted ts w wrote.fields.held;
  bounds = bodies_bound law old.entries writers readers sorted ts w wrote.fields.held bounds;
}
wrote_tokens (Err e) law bounds old new writers readers terms sorted ts w wrote = tt
