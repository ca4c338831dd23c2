-- Files with true bounds open as an index with true bounds.
use Rattle.std.proofs.Common.{◌≡◌, ◌∙◌, ◌+◌, ◌∷◌, [], ℕ, zero, suc, List, Option, None, Some, Ok, Err, map, refl, sym, ap, subst, arith}
use Rattle.std.specs.Prelude.{Result, ok_or, slice_get}
use Rattle.std.specs.List.{enumerate_from}
use Rattle.std.specs.Option.{option_map}
use Rattle.ii_io.specs.declared.faults.Part.{Part}
use Rattle.ii_io.specs.declared.faults.Part.TheVariants.{Composite, TokenCount}
use Rattle.ii_io.specs.Parts.{◌>>=◌}
use Rattle.ii_io.specs.StepLemmas.{some-same}
use Rattle.ii_io.specs.Composite.{Body, body_of, composite}
use Rattle.ii_io.specs.Numbers.{number_at}
use Rattle.ii_base.specs.Schema.{SchemaEntry}
use Rattle.ii_base.specs.declared.schema.index_record_option.IndexRecordOption.{IndexRecordOption}
use Rattle.ii_fieldnorm.specs.Readers.{Norms, norms_of_ids}
use Rattle.ii_layout.specs.WrittenBounds.{HasTrueBounds}
use Rattle.ii_termstore.specs.declared.term_info.TermInfo.{TermInfo}
use Rattle.ii_termdict.specs.Dictionary.{TermEntry, dictionary, info_under}
use Rattle.ii_definitions.specs.Fields.{option_of}
use Rattle.ii_definitions.specs.Files.{bytes_in}
use Rattle.ii_definitions.specs.TrueBounds.{HasTrueTerms}
use Rattle.ii_check.specs.declared.validation.Validation.TheVariants.{Complete}
use Rattle.ii_reader.specs.InvertedIndexReader.{InvertedIndexReaderState, reader_over, trusted_reader}
use Rattle.ii_reader.specs.OpenIndex.{IndexBodies, OpenIndexState, all_or_first, field_readers, reader_if, reader_of_field, trusted_index}
use Rattle.ii_ram.specs.TrueBounds.{IndexHasTrueBounds, OpensTrueBounds}

-- The field of a schema that gave a result.
record Gave {A : Type 0} (give : ℕ × SchemaEntry → Result A Part) (n : ℕ) (entries : List SchemaEntry) (i : ℕ) (x : A) : Type 0 where
  entry : SchemaEntry
  at : slice_get entries i ≡ Some entry
  gave : give (n + i, entry) ≡ Ok x

-- what is well
abbrev pub fine : {A : Type 0} → A → Result A Part
fine x = Ok x

-- it has one value
pub inside_ok : {A : Type 0} (x y : A) → fine x ≡ Ok y → x ≡ y
inside_ok x y is = cc

-- results that are all well
joined : {A : Type 0} (found : Result A Part) (others : Result (List A) Part) (xs : List A) (P : A → List A → Type 0) → ((y : A) (ys : List A) → found ≡ Ok y → others ≡ Ok ys → xs ≡ y ∷ ys → P y ys) → (Goal : Type 0) → ((y : A) (ys : List A) → P y ys → Goal)
    → (found >>= λ (y : A). others >>= λ (ys : List A). Ok (y ∷ ys)) ≡ Ok xs → Goal
joined (Err part) others xs P each Goal goal is = absurd (cc)
joined (Ok y) (Err part) xs P each Goal goal is = absurd (cc)
joined (Ok y) (Ok ys) xs P each Goal goal is = goal y ys (each y ys refl refl (sym (inside_ok (y ∷ ys) xs is)))

each_gave : {A : Type 0} (give : ℕ × SchemaEntry → Result A Part) (n : ℕ) (entries : List SchemaEntry) (xs : List A) → all_or_first (map give (enumerate_from n entries)) ≡ Ok xs
    → (i : ℕ) (x : A) → slice_get xs i ≡ Some x → Gave give n entries i x
each_gave {A} give n [] xs is i x at =
    let none : slice_get xs i ≡ None = ap (λ (ys : List A). slice_get ys i) (sym (inside_ok [] xs is)) ∙ nothing i in
    absurd (not_both (slice_get xs i) none at)
  where
    nothing : (k : ℕ) → ◌≡◌ {A = Option A} (slice_get [] k) None
    nothing zero = refl
    nothing (suc k) = refl

    not_both : (o : Option A) → o ≡ None → o ≡ Some x → ⊥
    not_both o none some = cc
each_gave {A} give n (e ∷ es) xs is i x at =
    joined (give (n, e)) (all_or_first (map give (enumerate_from (n + 1) es))) xs (λ y ys. Gave give n (e ∷ es) i x)
    (λ y ys first others whole. by i y ys first (λ k here. each_gave give (n + 1) es ys others k x here) (ap (λ (zs : List A). slice_get zs i) (sym whole) ∙ at)) (Gave give n (e ∷ es) i x) (λ y ys gave. gave) is
  where
    by : (k : ℕ) (y : A) (ys : List A) → give (n, e) ≡ Ok y → ((j : ℕ) → slice_get ys j ≡ Some x → Gave give (n + 1) es j x) → slice_get (y ∷ ys) k ≡ Some x → Gave give n (e ∷ es) k x
    by zero y ys first others here =
        let same : n ≡ n + 0 = omega arith in
        record { entry = e; at = refl; gave = subst (λ (m : ℕ). give (m, e) ≡ Ok x) same (first ∙ ap fine (some-same here)) }
    by (suc k) y ys first others here =
        let rest = others k here in
        let same : n + 1 + k ≡ n + suc k = omega arith in
        record { entry = rest.entry; at = rest.at; gave = subst (λ (m : ℕ). give (m, rest.entry) ≡ Ok x) same rest.gave }

-- the reader of a field with terms has the bounds of its bodies
reader_bound : (option : IndexRecordOption) (norms : Norms) (t p q : Option (List ℕ)) (reader : InvertedIndexReaderState) (key : List ℕ) (info : TermInfo)
    → ((terms postings : List ℕ) → t ≡ Some terms → p ≡ Some postings → HasTrueTerms option norms terms postings) → reader_if option t p q ≡ Ok reader → info_under key reader.terms ≡ Some info
    → HasTrueBounds norms reader.option info.doc_freq (bytes_in reader.postings info.postings_range)
reader_bound option norms None p q reader key info bounded is found =
    let none : info_under key reader.terms ≡ None = ap (λ (r : InvertedIndexReaderState). info_under key r.terms) (sym (inside_ok _ reader is)) in
    absurd (not_both (info_under key reader.terms) none found)
  where
    not_both : (o : Option TermInfo) → o ≡ None → o ≡ Some info → ⊥
    not_both o none some = cc
reader_bound option norms (Some terms) None q reader key info bounded is found = absurd (cc)
reader_bound option norms (Some terms) (Some postings) None reader key info bounded is found = absurd (cc)
reader_bound option norms (Some terms) (Some postings) (Some positions) reader key info bounded is found = by (dictionary terms) refl is
  where
    counted_by : (entries : List TermEntry) → dictionary terms ≡ Ok entries → (o : Option (ℕ × List ℕ)) → number_at 8 postings ≡ o
        → ok_or (option_map (λ (counted : ℕ × List ℕ). record { terms = entries; postings = counted.1; positions = positions; option = option; num_tokens = counted.0; validation = Complete }) o) TokenCount ≡ Ok reader
        → HasTrueBounds norms reader.option info.doc_freq (bytes_in reader.postings info.postings_range)
    counted_by entries sorted None counted made = absurd (cc)
    counted_by entries sorted (Some c) counted made =
        let same = inside_ok _ reader made in
        let there : info_under key entries ≡ Some info = ap (λ (r : InvertedIndexReaderState). info_under key r.terms) same ∙ found in
        subst (λ (r : InvertedIndexReaderState). HasTrueBounds norms r.option info.doc_freq (bytes_in r.postings info.postings_range)) same
        ((bounded terms postings refl refl).each entries c key info sorted counted there)

    by : (d : Result (List TermEntry) Part) → dictionary terms ≡ d → (d >>= λ (entries : List TermEntry). ok_or (reader_over entries postings positions option) TokenCount) ≡ Ok reader
        → HasTrueBounds norms reader.option info.doc_freq (bytes_in reader.postings info.postings_range)
    by (Err part) sorted made = absurd (cc)
    by (Ok entries) sorted made = counted_by entries sorted (number_at 8 postings) refl made

-- an index, by the bodies of its files
abbrev index_of : Option (List Body) → Option (List Body) → Option (List Body) → Option (List Body) → List SchemaEntry → Result OpenIndexState Part
index_of t p q n entries =
    (ok_or t Composite >>= λ (a : List Body). ok_or p Composite >>= λ (b : List Body). ok_or q Composite >>= λ (c : List Body). fine (record { terms = a; postings = b; positions = c }))
    >>= λ (bodies : IndexBodies). ok_or n Composite >>= λ (norms : List Body). field_readers bodies entries >>= λ (readers : List InvertedIndexReaderState). fine (record { readers = readers; fieldnorms = norms })

pub opens_true_bounds : OpensTrueBounds
opens_true_bounds entries terms postings positions fieldnorms index h is = by (composite terms) (composite postings) (composite positions) (composite fieldnorms) refl refl refl is
  where
    readers_bound : (a b c norms : List Body) → composite terms ≡ Some a → composite postings ≡ Some b → composite fieldnorms ≡ Some norms
        → (r : Result (List InvertedIndexReaderState) Part) → field_readers (record { terms = a; postings = b; positions = c }) entries ≡ r
        → (r >>= λ (readers : List InvertedIndexReaderState). fine (record { readers = readers; fieldnorms = norms })) ≡ Ok index → IndexHasTrueBounds index
    readers_bound a b c norms t_is p_is n_is (Err part) read made = absurd (cc)
    readers_bound a b c norms t_is p_is n_is (Ok readers) read made =
        let same = inside_ok _ index made in
        let bodies : IndexBodies = record { terms = a; postings = b; positions = c } in
        subst IndexHasTrueBounds same (record {
          each = λ field reader ids key info at normed found.
              let gave = each_gave (λ (f : ℕ × SchemaEntry). reader_of_field bodies f.0 f.1.option) 0 entries readers read field reader at in
              let option : gave.entry.option ≡ option_of entries field = rw gave.at refl in
              let none_more : 0 + field ≡ field = omega arith in
              let own : reader_of_field bodies field gave.entry.option ≡ Ok reader = subst (λ (k : ℕ). reader_of_field bodies k gave.entry.option ≡ Ok reader) none_more gave.gave in
              reader_bound gave.entry.option (norms_of_ids ids) (body_of field a) (body_of field b) (body_of field c) reader key info
              (λ t p t_at p_at. subst (λ (o : IndexRecordOption). HasTrueTerms o (norms_of_ids ids) t p) (sym option) ((h.bodies a b norms t_is p_is n_is).fields field t p ids t_at p_at normed)) own found;
        })

    by : (t p q n : Option (List Body)) → composite terms ≡ t → composite postings ≡ p → composite fieldnorms ≡ n → index_of t p q n entries ≡ Ok index → IndexHasTrueBounds index
    by None p q n t_is p_is n_is made = absurd (cc)
    by (Some a) None q n t_is p_is n_is made = absurd (cc)
    by (Some a) (Some b) None n t_is p_is n_is made = absurd (cc)
    by (Some a) (Some b) (Some c) None t_is p_is n_is made = absurd (cc)
    by (Some a) (Some b) (Some c) (Some norms) t_is p_is n_is made = readers_bound a b c norms t_is p_is n_is (field_readers (record { terms = a; postings = b; positions = c }) entries) refl made

-- The reader that became a trusted one.
record Own (readers : List InvertedIndexReaderState) (field : ℕ) (trusted : InvertedIndexReaderState) : Type 0 where
  reader : InvertedIndexReaderState
  at : slice_get readers field ≡ Some reader
  is : trusted_reader reader ≡ trusted

-- a trusted index has the same bounds
pub trusted_bounds : (index : OpenIndexState) → IndexHasTrueBounds index → IndexHasTrueBounds (trusted_index index)
trusted_bounds index h = record {
  each = λ field reader ids key info at normed found.
      let own = trusted_at index.readers field reader at in
      let there : info_under key own.reader.terms ≡ Some info = ap (λ (r : InvertedIndexReaderState). info_under key r.terms) own.is ∙ found in
      subst (λ (r : InvertedIndexReaderState). HasTrueBounds (norms_of_ids ids) r.option info.doc_freq (bytes_in r.postings info.postings_range)) own.is (h.each field own.reader ids key info own.at normed there);
}
  where
    trusted_at : (readers : List InvertedIndexReaderState) (field : ℕ) (trusted : InvertedIndexReaderState) → slice_get (map trusted_reader readers) field ≡ Some trusted → Own readers field trusted
    trusted_at [] field trusted at = absurd (no_reader field at)
      where
        no_reader : (k : ℕ) → ◌≡◌ {A = Option InvertedIndexReaderState} (slice_get [] k) (Some trusted) → ⊥
        no_reader zero is = absurd (cc)
        no_reader (suc k) is = absurd (cc)
    trusted_at (r ∷ rs) zero trusted at = record { reader = r; at = refl; is = some-same at }
    trusted_at (r ∷ rs) (suc field) trusted at = let rest = trusted_at rs field trusted at in record { reader = rest.reader; at = rest.at; is = rest.is }
