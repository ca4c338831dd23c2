-- The readers of the fields of an index, and what is requested of them.
use Rattle.std.proofs.Common.{◌≡◌, ◌∙◌, ℕ, zero, suc, ◌+◌, ◌<◌, ◌≤◌, Bool, true, false, List, [], ◌∷◌, ◌++◌, Option, None, Some, Ok, Err, Result, inl, inr, length, map, nat_lt, refl, sym, ap, subst, arith}
use Rattle.std.specs.Prelude.{◌⊎◌, slice_get}
use Rattle.std.specs.List.{enumerate_from}
use Rattle.std.proofs.lemmas.Bool.{ltb-false, ltb-true}
use Rattle.std.proofs.lemmas.Option.{slice_get_past}
use Rattle.ii_io.specs.Composite.{Body, composite}
use Rattle.ii_io.specs.Parts.{◌>>=◌}
use Rattle.ii_io.specs.declared.faults.Part.{Part}
use Rattle.ii_base.specs.Schema.{SchemaEntry}
use Rattle.ii_base.specs.declared.schema.index_record_option.IndexRecordOption.{IndexRecordOption}
use Rattle.ii_reader.specs.InvertedIndexReader.{InvertedIndexReaderState}
use Rattle.ii_reader.specs.OpenIndex.{IndexBodies, OpenIndexState, all_or_first, field_readers, index_of_files, reader_of_field}
use Rattle.ii_warmup.specs.IndexParts.{ArePartsOf, HoldIndex, IsWarmupFault, KnownBodies, KnownTables, requests}
use Rattle.ii_warmup.specs.Faults.{IsCopyFault}
use Rattle.ii_file_slice.specs.declared.faults.FileFault.{FileFault}
use Rattle.ii_file_slice.specs.declared.faults.FileFault.TheVariants.{Index}
use Rattle.ii_io.specs.declared.faults.Fault.TheVariants.{Limit, OutOfMemory}
use Rattle.ii_io.specs.declared.faults.LimitName.TheVariants.{Offset}
use Rattle.ii_query_parser.specs.declared.query.Query.{Query}
use Rattle.ii_warmup.specs.declared.terms.QueryRange.{QueryRange}
use Rattle.ii_warmup.specs.declared.terms.QueryTerm.{QueryTerm}
use Rattle.ii_warmup.specs.Parts.{IsPartOf, IsPartOfField}
use Rattle.ii_warmup.specs.QueryTerms.{QueryRangeState, QueryTermState, query_ranges, range_view, requested_of, requested_terms, requests_of, term_view}
use Rattle.ii_warmup.specs.Warmup.{all_lie, all_sound}

-- what is well
abbrev fine : {A : Type 0} → A → Result A Part
fine x = Ok x

inside : {A : Type 0} {x y : A} → fine x ≡ Ok y → x ≡ y
inside is = cc

-- ---- the files of an index
-- The bodies of the files of an index, and the readers over them.
pub record IndexOfBodies (terms postings positions fieldnorms : Option (List ℕ)) (entries : List SchemaEntry) (index : OpenIndexState) : Type 0 where
  pub bodies : IndexBodies
  pub tables : KnownTables terms postings positions bodies
  pub norms : KnownBodies fieldnorms index.fieldnorms
  pub readers : field_readers bodies entries ≡ Ok index.readers

module _ (terms postings positions fieldnorms : Option (List ℕ)) (entries : List SchemaEntry) (index : OpenIndexState) (h : HoldIndex terms postings positions fieldnorms entries index) where
  with_readers : (ts ps qs ns : List Body) → composite h.terms_bytes ≡ Some ts → composite h.postings_bytes ≡ Some ps → composite h.positions_bytes ≡ Some qs → composite h.norms_bytes ≡ Some ns
      → (found : Result (List InvertedIndexReaderState) Part) → field_readers (record { terms = ts; postings = ps; positions = qs }) entries ≡ found
      → (found >>= λ (readers : List InvertedIndexReaderState). fine (record { readers = readers; fieldnorms = ns })) ≡ Ok index → IndexOfBodies terms postings positions fieldnorms entries index
  with_readers ts ps qs ns t p q n (Err part) read is = absurd (cc)
  with_readers ts ps qs ns t p q n (Ok readers) read is =
      let made : OpenIndexState = record { readers = readers; fieldnorms = ns } in
      let same : made ≡ index = inside is in
      record {
        bodies = record { terms = ts; postings = ps; positions = qs };
        tables = record {
          terms_are = record { bytes = h.terms_bytes; known_is = h.terms_are; bodies_are = t };
          postings_are = record { bytes = h.postings_bytes; known_is = h.postings_are; bodies_are = p };
          positions_are = record { bytes = h.positions_bytes; known_is = h.positions_are; bodies_are = q };
        };
        norms = record { bytes = h.norms_bytes; known_is = h.norms_are; bodies_are = n ∙ ap (λ (i : OpenIndexState). Some i.fieldnorms) same };
        readers = read ∙ ap (λ (i : OpenIndexState). fine i.readers) same;
      }

  by_tables : (t p q n : Option (List Body)) → composite h.terms_bytes ≡ t → composite h.postings_bytes ≡ p → composite h.positions_bytes ≡ q → composite h.norms_bytes ≡ n
      → index_of_files h.terms_bytes h.postings_bytes h.positions_bytes h.norms_bytes entries ≡ Ok index → IndexOfBodies terms postings positions fieldnorms entries index
  by_tables None p q n t_is p_is q_is n_is is = let none = rw t_is at is in absurd (cc)
  by_tables (Some ts) None q n t_is p_is q_is n_is is = let none = rw (t_is, p_is) at is in absurd (cc)
  by_tables (Some ts) (Some ps) None n t_is p_is q_is n_is is = let none = rw (t_is, p_is, q_is) at is in absurd (cc)
  by_tables (Some ts) (Some ps) (Some qs) None t_is p_is q_is n_is is = let none = rw (t_is, p_is, q_is, n_is) at is in absurd (cc)
  by_tables (Some ts) (Some ps) (Some qs) (Some ns) t_is p_is q_is n_is is =
      with_readers ts ps qs ns t_is p_is q_is n_is (field_readers (record { terms = ts; postings = ps; positions = qs }) entries) refl (rw (t_is, p_is, q_is, n_is) at is)

  pub index_of_bodies : IndexOfBodies terms postings positions fieldnorms entries index
  index_of_bodies = by_tables (composite h.terms_bytes) (composite h.postings_bytes) (composite h.positions_bytes) (composite h.norms_bytes) refl refl refl refl h.index_is

-- ---- the reader of a field
-- An item was found at a place of a list.
pub record FoundAt {A : Type 0} (found : Result A Part) (xs : List A) (i : ℕ) : Type 0 where
  pub item : A
  pub there : slice_get xs i ≡ Some item
  pub given : found ≡ Ok item

taken_apart : {A : Type 0} (found : Result A Part) (others : Result (List A) Part) (xs : List A) → (found >>= λ (x : A). others >>= λ (ys : List A). fine (x ∷ ys)) ≡ Ok xs
    → (x : A) × (ys : List A) × (found ≡ Ok x) × (others ≡ Ok ys) × (x ∷ ys ≡ xs)
taken_apart (Err part) others xs is = absurd (cc)
taken_apart (Ok x) (Err part) xs is = absurd (cc)
taken_apart (Ok x) (Ok ys) xs is = (x, ys, refl, refl, inside is)

found_at : {A : Type 0} (give : ℕ × SchemaEntry → Result A Part) (n : ℕ) (entries : List SchemaEntry) (xs : List A) → all_or_first (map give (enumerate_from n entries)) ≡ Ok xs
    → (i : ℕ) (entry : SchemaEntry) → slice_get entries i ≡ Some entry → FoundAt (give (n + i, entry)) xs i
found_at give n [] xs is i entry at = absurd (cc)
found_at {A} give n (e ∷ es) xs is zero entry at =
    let (x, ys, first, others, both) = taken_apart (give (n, e)) (all_or_first (map give (enumerate_from (n + 1) es))) xs is in
    let own : e ≡ entry = cc in
    let same : n ≡ n + 0 = omega arith in
    record { item = x; there = ap (λ (zs : List A). slice_get zs 0) (sym both); given = ap (λ (k : ℕ). give (k, entry)) (sym same) ∙ ap (λ (f : SchemaEntry). give (n, f)) (sym own) ∙ first }
found_at {A} give n (e ∷ es) xs is (suc i) entry at =
    let (x, ys, first, others, both) = taken_apart (give (n, e)) (all_or_first (map give (enumerate_from (n + 1) es))) xs is in
    let later = found_at give (n + 1) es ys others i entry at in
    let same : n + 1 + i ≡ n + suc i = omega arith in
    record { item = later.item; there = ap (λ (zs : List A). slice_get zs (suc i)) (sym both) ∙ later.there; given = ap (λ (k : ℕ). give (k, entry)) (sym same) ∙ later.given }

pub reader_at : (bodies : IndexBodies) (entries : List SchemaEntry) (whole : List InvertedIndexReaderState) (i : ℕ) (entry : SchemaEntry) → field_readers bodies entries ≡ Ok whole → slice_get entries i ≡ Some entry → FoundAt (reader_of_field bodies i entry.option) whole i
reader_at bodies entries whole i entry is at =
    let same : 0 + i ≡ i = omega arith in
    subst (λ (k : ℕ). FoundAt (reader_of_field bodies k entry.option) whole i) same (found_at (λ (f : ℕ × SchemaEntry). reader_of_field bodies f.0 f.1.option) 0 entries whole is i entry at)

-- ---- the readers of all fields
front_item : {A : Type 0} (xs : List A) (y : A) (i : ℕ) → i < length xs → slice_get (xs ++ y ∷ []) i ≡ slice_get xs i
front_item [] y i inside = absurd (omega arith)
front_item (x ∷ xs) y zero inside = refl
front_item (x ∷ xs) y (suc i) inside = front_item xs y i (omega arith)

last_item : {A : Type 0} (xs : List A) (y : A) (i : ℕ) → i ≡ length xs → slice_get (xs ++ y ∷ []) i ≡ Some y
last_item [] y zero end = refl
last_item [] y (suc i) end = absurd (omega arith)
last_item (x ∷ xs) y zero end = absurd (omega arith)
last_item (x ∷ xs) y (suc i) end = last_item xs y i (omega arith)

module _ (requested : ℕ → List ℕ → Option IndexRecordOption) (whole : List InvertedIndexReaderState) where
  -- The fields before n have parts.
  abbrev pub ArePartsBefore : ℕ → List InvertedIndexReaderState → Type 0
  ArePartsBefore n parts = (field : ℕ) → field < n → IsPartOfField (requested field) (slice_get parts field) (slice_get whole field)

  pub parts_next : (n : ℕ) (parts : List InvertedIndexReaderState) (part own : InvertedIndexReaderState) → n ≡ length parts → ArePartsBefore n parts → slice_get whole n ≡ Some own → IsPartOf (requested n) part own → ArePartsBefore (n + 1) (parts ++ part ∷ [])
  parts_next n parts part own size before there is field low = by (nat_lt field n) refl
    where
      by : (b : Bool) → nat_lt field n ≡ b → IsPartOfField (requested field) (slice_get (parts ++ part ∷ []) field) (slice_get whole field)
      by true less =
          let low_here : field < n = ltb-true field n less in
          rw (front_item parts part field (omega (arith, low_here, size))) (before field low_here)
      by false more =
          let same : n ≡ field = omega (arith, ltb-false field n more, low) in
          subst (λ (f : ℕ). IsPartOfField (requested f) (slice_get (parts ++ part ∷ []) f) (slice_get whole f)) same
          (rw (last_item parts part n size, there) is)

  pub parts_end : (n : ℕ) (parts : List InvertedIndexReaderState) → n ≡ length parts → length whole ≤ n → ArePartsBefore n parts → ArePartsOf requested parts whole
  parts_end n parts size end before field = by (nat_lt field n) refl
    where
      by : (b : Bool) → nat_lt field n ≡ b → IsPartOfField (requested field) (slice_get parts field) (slice_get whole field)
      by true less = before field (ltb-true field n less)
      by false more =
          let high = ltb-false field n more in
          rw (slice_get_past parts field (omega (arith, high, size)), slice_get_past whole field (omega (arith, high, end))) tt

-- the fault of a field is one of the index
pub fault_of_field : (requested : ℕ → List ℕ → Option IndexRecordOption) (whole : List InvertedIndexReaderState) (field : ℕ) (reader : InvertedIndexReaderState) (e : FileFault) → slice_get whole field ≡ Some reader
    → IsCopyFault (all_lie (requested field) reader) (all_sound (requested field) reader.terms) e → IsWarmupFault requested whole e
fault_of_field requested whole field reader e there (inl memory) = inl memory
fault_of_field requested whole field reader e there (inr (inl limit)) = inr (inl limit)
fault_of_field requested whole field reader e there (inr (inr (inl range))) = inr (inr (inl (range.0, record { field = field; reader = reader; there = there; fails = range.1 })))
fault_of_field requested whole field reader e there (inr (inr (inr long))) = inr (inr (inr (long.0, record { field = field; reader = reader; there = there; fails = long.1 })))

pub memory_or_limit : (requested : ℕ → List ℕ → Option IndexRecordOption) (whole : List InvertedIndexReaderState) (e : FileFault) → (e ≡ Index OutOfMemory) ⊎ (e ≡ Index (Limit Offset)) → IsWarmupFault requested whole e
memory_or_limit requested whole e (inl memory) = inl memory
memory_or_limit requested whole e (inr limit) = inr (inl limit)

-- ---- the terms and files of a call
pub same_requests : (terms : List QueryTerm) (ranges : List QueryRange) (query : Query) → map term_view terms ≡ requested_terms query → map range_view ranges ≡ query_ranges query → requests_of terms ranges ≡ requests query
same_requests terms ranges query terms_are ranges_are =
    let F : List QueryTermState → List QueryRangeState → ℕ → List ℕ → Option IndexRecordOption = λ ts rs field key. requested_of ts rs field key in
    ap (λ (ts : List QueryTermState). F ts (map range_view ranges)) terms_are ∙ ap (λ (rs : List QueryRangeState). F (requested_terms query) rs) ranges_are

pub same_tables : {H : Type 0} (bytes : H → Option (List ℕ)) (t p q terms postings positions : H) (bodies : IndexBodies) → t ≡ terms → p ≡ postings → q ≡ positions → KnownTables (bytes terms) (bytes postings) (bytes positions) bodies → KnownTables (bytes t) (bytes p) (bytes q) bodies
same_tables {H} bytes t p q terms postings positions bodies t_is p_is q_is k =
    subst (λ (x : H). KnownTables (bytes x) (bytes p) (bytes q) bodies) (sym t_is) (subst (λ (x : H). KnownTables (bytes terms) (bytes x) (bytes q) bodies) (sym p_is) (subst (λ (x : H). KnownTables (bytes terms) (bytes postings) (bytes x) bodies) (sym q_is) k))
