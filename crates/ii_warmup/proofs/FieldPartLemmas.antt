-- A field that a query doesn't name, and the reader over a field's bodies.
use Rattle.std.proofs.Common.{◌≡◌, ◌∙◌, ℕ, ◌==◌, ◌&&◌, ◌||◌, Bool, true, false, List, [], ◌∷◌, Option, None, Some, Ok, Err, Result, bytes_eq, is_some, refl, sym, ap, subst}
use Rattle.std.specs.List.{list_any}
use Rattle.std.specs.Option.{option_map}
use Rattle.std.proofs.Math.Bool.{and-false}
use Rattle.ii_io.specs.Composite.{Body, body_of, composite}
use Rattle.ii_io.specs.declared.faults.Fault.TheVariants.{Damaged}
use Rattle.ii_io.specs.Numbers.{number_at}
use Rattle.ii_io.specs.declared.faults.Part.{Part}
use Rattle.ii_io.specs.declared.faults.Part.TheVariants.{Composite}
use Rattle.ii_base.specs.declared.schema.index_record_option.IndexRecordOption.{IndexRecordOption}
use Rattle.ii_base.specs.declared.schema.index_record_option.IndexRecordOption.TheVariants.{Basic, WithFreqsAndPositions}
use Rattle.ii_check.specs.declared.validation.Validation.TheVariants.{Complete}
use Rattle.ii_file_slice.specs.FileSlice.{slice_if}
use Rattle.ii_file_slice.specs.declared.faults.FileFault.{FileFault}
use Rattle.ii_file_slice.specs.declared.faults.FileFault.TheVariants.{Index}
use Rattle.ii_query_parser.specs.Ranges.{in_range}
use Rattle.ii_reader.specs.InvertedIndexReader.{InvertedIndexReaderState, reader_of_none}
use Rattle.ii_reader.specs.OpenIndex.{IndexBodies, reader_of_bodies, reader_of_field}
use Rattle.ii_termdict.specs.Dictionary.{TermEntry, dictionary}
use Rattle.ii_warmup.specs.IndexParts.{KnownBodies, KnownTables}
use Rattle.ii_warmup.specs.Parts.{IsPartOf}
use Rattle.ii_warmup.specs.QueryTerms.{QueryRangeState, QueryTermState, names_field, names_key, requested_of, serves}
use Rattle.ii_warmup.specs.Warmup.{known_reader, wanted_entries}

-- ---- a field that isn't named
or_parts : (a b : Bool) → (a || b) ≡ false → (a ≡ false) × (b ≡ false)
or_parts true b is = absurd (cc)
or_parts false b is = (refl, is)

-- a stronger test than one that fails for all
none_stronger : {A : Type 0} (f g : A → Bool) (xs : List A) → ((x : A) → g x ≡ false → f x ≡ false) → list_any g xs ≡ false → list_any f xs ≡ false
none_stronger f g [] stronger none = refl
none_stronger f g (x ∷ xs) stronger none =
    let both = or_parts (g x) (list_any g xs) none in
    rw (stronger x both.0) (none_stronger f g xs stronger both.1)

middle_fails : (a b c : Bool) → b ≡ false → (a && b && c) ≡ false
middle_fails a b c fails = rw (fails, and-false) refl

pub none_requested : (terms : List QueryTermState) (ranges : List QueryRangeState) (field : ℕ) → names_field terms ranges field ≡ false → (key : List ℕ) → requested_of terms ranges field key ≡ None
none_requested terms ranges field unnamed key =
    let none = or_parts (list_any (λ (t : QueryTermState). t.term.field == field) terms) (list_any (λ (r : QueryRangeState). r.range.prefix.field == field) ranges) unnamed in
    let no_key : (option : IndexRecordOption) → names_key option terms ranges field key ≡ false =
    λ option. rw (
      none_stronger (λ (t : QueryTermState). serves option t.option && (t.term.field == field) && bytes_eq t.term.value key) (λ (t : QueryTermState). t.term.field == field) terms (λ t other. middle_fails (serves option t.option) (t.term.field == field) (bytes_eq t.term.value key) other) none.0,
      none_stronger (λ (r : QueryRangeState). serves option r.option && (r.range.prefix.field == field) && in_range r.range key) (λ (r : QueryRangeState). r.range.prefix.field == field) ranges (λ r other. middle_fails (serves option r.option) (r.range.prefix.field == field) (in_range r.range key) other) none.1,
    ) refl in
    rw (no_key WithFreqsAndPositions, no_key Basic) refl

module _ (requested : List ℕ → Option IndexRecordOption) (none : (key : List ℕ) → requested key ≡ None) where
  pub no_terms : (entries : List TermEntry) → wanted_entries requested entries ≡ []
  no_terms [] = refl
  no_terms (e ∷ es) = rw (none e.0) (no_terms es)

-- a key of which something is requested is a term's, where no range is of the field
kept : (a b c : Bool) → (b && c) ≡ false → (a && b && c) ≡ false
kept true b c fails = fails
kept false b c fails = refl

pub requested_of_term : (terms : List QueryTermState) (ranges : List QueryRangeState) (field : ℕ) → list_any (λ (r : QueryRangeState). r.range.prefix.field == field) ranges ≡ false → (key : List ℕ) → is_some (requested_of terms ranges field key) ≡ true
    → list_any (λ (t : QueryTermState). (t.term.field == field) && bytes_eq t.term.value key) terms ≡ true
requested_of_term terms ranges field no_range key some = by (list_any (λ (t : QueryTermState). (t.term.field == field) && bytes_eq t.term.value key) terms) refl
  where
    by : (b : Bool) → list_any (λ (t : QueryTermState). (t.term.field == field) && bytes_eq t.term.value key) terms ≡ b → b ≡ true
    by true is = refl
    by false is =
        let no_key : (option : IndexRecordOption) → names_key option terms ranges field key ≡ false =
        λ option. rw (
          none_stronger (λ (t : QueryTermState). serves option t.option && (t.term.field == field) && bytes_eq t.term.value key) (λ (t : QueryTermState). (t.term.field == field) && bytes_eq t.term.value key) terms (λ t other. kept (serves option t.option) (t.term.field == field) (bytes_eq t.term.value key) other) is,
          none_stronger (λ (r : QueryRangeState). serves option r.option && (r.range.prefix.field == field) && in_range r.range key) (λ (r : QueryRangeState). r.range.prefix.field == field) ranges (λ r other. middle_fails (serves option r.option) (r.range.prefix.field == field) (in_range r.range key) other) no_range,
        ) refl in
        let none : requested_of terms ranges field key ≡ None = rw (no_key WithFreqsAndPositions, no_key Basic) refl in
        let both = rw none at some in
        absurd (cc)

-- a reader over no terms has all that is requested of it
pub part_of_none : (requested : List ℕ → Option IndexRecordOption) (option : IndexRecordOption) (whole : InvertedIndexReaderState) → reader_of_none option ≡ whole → IsPartOf requested (reader_of_none option) whole
part_of_none requested option whole is = subst (IsPartOf requested (reader_of_none option)) is (record { keys = refl; docs = λ key wanted o asked served. refl; option = refl; num_tokens = refl })

-- ---- the bodies of a field
abbrev fine : {A : Type 0} → A → Result A Part
fine x = Ok x

inside : {A : Type 0} {x y : A} → fine x ≡ Ok y → x ≡ y
inside is = cc

-- A slice of a file is the body of a field.
pub record IsBody (start len : ℕ) (known body : Option (List ℕ)) : Type 0 where
  pub bytes : List ℕ
  pub there : body ≡ Some bytes
  pub slice : slice_if start len known ≡ Some bytes

pub body_of_slice : (start len : ℕ) (known : Option (List ℕ)) (bytes : List ℕ) (body : Option (List ℕ)) → known ≡ Some bytes → Some (slice_if start len (Some bytes)) ≡ option_map (λ (b : List ℕ). Some b) body → IsBody start len known body
body_of_slice start len known bytes None known_is is = absurd (cc)
body_of_slice start len known bytes (Some b) known_is is =
    let same : slice_if start len (Some bytes) ≡ Some b = cc in
    record { bytes = b; there = refl; slice = ap (slice_if start len) known_is ∙ same }

pub no_body_of_slice : (body : Option (List ℕ)) → None ≡ option_map (λ (b : List ℕ). Some b) body → body ≡ None
no_body_of_slice None is = refl
no_body_of_slice (Some b) is = absurd (cc)

module _ (bodies : IndexBodies) (field : ℕ) (option : IndexRecordOption) (whole : InvertedIndexReaderState) (is : reader_of_field bodies field option ≡ Ok whole) where
  -- a field without terms
  pub none_there : body_of field bodies.terms ≡ None → reader_of_none option ≡ whole
  none_there none = let both = rw none at is in cc

  -- a field with terms has all bodies
  pub lacks_postings : (t : List ℕ) → body_of field bodies.terms ≡ Some t → body_of field bodies.postings ≡ None → ⊥
  lacks_postings t there none = let both = rw (there, none) at is in absurd (cc)

  pub lacks_positions : (t p : List ℕ) → body_of field bodies.terms ≡ Some t → body_of field bodies.postings ≡ Some p → body_of field bodies.positions ≡ None → ⊥
  lacks_positions t p there with_postings none = let both = rw (there, with_postings, none) at is in absurd (cc)

-- The dictionary of a field, and the reader over the terms that are read.
pub record ReadsField (option : IndexRecordOption) (t p q : List ℕ) (whole : InvertedIndexReaderState) : Type 0 where
  pub entries : dictionary t ≡ Ok whole.terms
  pub known : known_reader whole.terms (Some p) (Some q) option ≡ Some whole

reads_bodies : (option : IndexRecordOption) (t p q : List ℕ) (whole : InvertedIndexReaderState) (found : Result (List TermEntry) Part) (counted : Option (ℕ × List ℕ)) → dictionary t ≡ found → number_at 8 p ≡ counted
    → reader_of_bodies option t p q ≡ Ok whole → ReadsField option t p q whole
reads_bodies option t p q whole (Err part) counted read number is = let none = rw read at is in absurd (cc)
reads_bodies option t p q whole (Ok entries) None read number is = let none = rw (read, number) at is in absurd (cc)
reads_bodies option t p q whole (Ok entries) (Some c) read number is =
    let made : InvertedIndexReaderState = record { terms = entries; postings = c.1; positions = q; option = option; num_tokens = c.0; validation = Complete } in
    let given : fine made ≡ Ok whole = rw (read, number) at is in
    let same : made ≡ whole = inside given in
    subst (ReadsField option t p q) same (record { entries = read; known = rw number refl })

pub reads_field : (bodies : IndexBodies) (field : ℕ) (option : IndexRecordOption) (t p q : List ℕ) (whole : InvertedIndexReaderState) → body_of field bodies.terms ≡ Some t → body_of field bodies.postings ≡ Some p → body_of field bodies.positions ≡ Some q
    → reader_of_field bodies field option ≡ Ok whole → ReadsField option t p q whole
reads_field bodies field option t p q whole t_is p_is q_is is =
    reads_bodies option t p q whole (dictionary t) (number_at 8 p) refl refl (rw (t_is, p_is, q_is) at is)

-- ---- tables that are there
pub table_there : (known : Option (List ℕ)) (bodies : List Body) (e : FileFault) (k : KnownBodies known bodies) → ((part : Part) → e ≡ Index (Damaged part) → part ≡ Composite) → (e ≡ Index (Damaged Composite) → composite k.bytes ≡ None) → (part : Part) → e ≡ Index (Damaged part) → ⊥
table_there known bodies e k only damaged part is =
    let none = damaged (is ∙ ap (λ (p : Part). Index (Damaged p)) (only part is)) in
    let both : Some bodies ≡ None = sym k.bodies_are ∙ none in
    absurd (cc)

-- ---- a field of known tables
-- The slices of a field's three bodies, and the reader over them.
pub record FieldSlices (option : IndexRecordOption) (whole : InvertedIndexReaderState) (t_start t_len p_start p_len q_start q_len : ℕ) (terms postings positions : Option (List ℕ)) : Type 0 where
  pub t : List ℕ
  pub p : List ℕ
  pub q : List ℕ
  pub t_is : slice_if t_start t_len terms ≡ Some t
  pub p_is : slice_if p_start p_len postings ≡ Some p
  pub q_is : slice_if q_start q_len positions ≡ Some q
  pub reads : ReadsField option t p q whole

pub field_slices : (bodies : IndexBodies) (field : ℕ) (option : IndexRecordOption) (whole : InvertedIndexReaderState) (t_start t_len p_start p_len q_start q_len : ℕ) (terms postings positions : Option (List ℕ)) (k : KnownTables terms postings positions bodies) → reader_of_field bodies field option ≡ Ok whole
    → Some (slice_if t_start t_len (Some k.terms_are.bytes)) ≡ option_map (λ (b : List ℕ). Some b) (body_of field bodies.terms)
    → Some (slice_if p_start p_len (Some k.postings_are.bytes)) ≡ option_map (λ (b : List ℕ). Some b) (body_of field bodies.postings)
    → Some (slice_if q_start q_len (Some k.positions_are.bytes)) ≡ option_map (λ (b : List ℕ). Some b) (body_of field bodies.positions)
    → FieldSlices option whole t_start t_len p_start p_len q_start q_len terms postings positions
field_slices bodies field option whole t_start t_len p_start p_len q_start q_len terms postings positions k is t_body p_body q_body =
    let t = body_of_slice t_start t_len terms k.terms_are.bytes (body_of field bodies.terms) k.terms_are.known_is t_body in
    let p = body_of_slice p_start p_len postings k.postings_are.bytes (body_of field bodies.postings) k.postings_are.known_is p_body in
    let q = body_of_slice q_start q_len positions k.positions_are.bytes (body_of field bodies.positions) k.positions_are.known_is q_body in
    record { t = t.bytes; p = p.bytes; q = q.bytes; t_is = t.slice; p_is = p.slice; q_is = q.slice; reads = reads_field bodies field option t.bytes p.bytes q.bytes whole t.there p.there q.there is }
