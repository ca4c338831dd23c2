-- The documents of terms, in each segment.
use Rattle.std.proofs.Common.{◌≡◌, ◌∙◌, ◌<◌, ◌≤◌, ◌+◌, ℕ, zero, suc, Bool, true, false, List, [], ◌∷◌, ◌++◌, Option, None, Result, Ok, Err, add-one, ap, append-nil, append_assoc, arith, drop, filter, get_or, inl, inr, length, map, refl, sym, take}
use Rattle.std.specs.Prelude.{slice_get}
use Rattle.std.specs.List.{AllByRecursion, range_with_len}
use Rattle.std.proofs.Math.Seq.{drop-cons}
use Rattle.std.proofs.lemmas.List.{drop_all, map-append}
use Rattle.ii_io.specs.declared.faults.Fault.{Fault}
use Rattle.ii_io.specs.declared.faults.Part.{Part}
use Rattle.ii_io.specs.Parts.{◌>>=◌}
use Rattle.ii_base.specs.Entries.{Entry, docs_of}
use Rattle.ii_base.specs.Terms.{TermState}
use Rattle.ii_base.specs.declared.schema.index_record_option.IndexRecordOption.TheVariants.{Basic}
use Rattle.ii_definitions.proofs.ListLaws.{all_both}
use Rattle.ii_docset.specs.Cursor.{IsSound}
use Rattle.ii_reader.specs.InvertedIndexReader.{InvertedIndexReaderState, IsRefusal}
use Rattle.ii_reader.specs.OpenIndex.{OpenIndexState, all_or_first}
use Rattle.ii_reader.proofs.IndexLemmas.{in_front, in_front_of_none, one_more}
use Rattle.ii_search.specs.Found.{docs_of_term, docs_under}
use Rattle.ii_segments.specs.Segments.{is_living}
use Rattle.ii_segments.proofs.CountLaws.{living_within}
use Rattle.nequllpa_searching.specs.Deleting.{docs_of_terms, docs_with_term, docs_with_terms, is_among}
use Rattle.nequllpa_searching.proofs.FindingLemmas.{all_living, living_of}
use Rattle.nequllpa_searching.proofs.QueryLemmas.{refused_then}

-- ---- the living documents of a term
pub term_docs : (index : OpenIndexState) (alive : List Bool) (term : TermState) (es : List Entry) (docs : List ℕ) → docs_of_term Basic index term ≡ Ok es → IsSound es → docs ≡ take (length alive) (living_of alive es) → docs_with_term index alive term ≡ Ok docs
term_docs index alive term es docs found sound docs_is = rw found (ap (λ (ds : List ℕ). Ok ds) (sym (all_living alive es docs sound docs_is)))

pub term_docs_refused : (index : OpenIndexState) (alive : List Bool) (term : TermState) (fault : Fault) → IsRefusal (docs_of_term Basic index term) fault → IsRefusal (docs_with_term index alive term) fault
term_docs_refused index alive term fault refused = refused_then (docs_of_term Basic index term) (λ (es : List Entry). Ok (living_of alive es)) fault refused

-- none of a field that the index doesn't have
pub no_field : (index : OpenIndexState) (alive : List Bool) (term : TermState) (docs : List ℕ) → length index.readers ≤ term.field → docs ≡ [] → docs_with_term index alive term ≡ Ok docs
no_field index alive term docs past none =
    let no_reader : slice_get index.readers term.field ≡ None = none_at index.readers term.field past in
    ap (λ (r : Option InvertedIndexReaderState). docs_under Basic term.value r >>= λ (es : List Entry). Ok (living_of alive es)) no_reader ∙ ap (λ (ds : List ℕ). Ok ds) (sym none)
  where
    none_at : {A : Type 0} (xs : List A) (i : ℕ) → length xs ≤ i → slice_get xs i ≡ None
    none_at [] i past = refl
    none_at (x ∷ xs) zero past = absurd (omega (arith, past))
    none_at (x ∷ xs) (suc i) past = none_at xs i (omega (arith, past))

-- all of them are documents of the segment
living_below : (alive : List Bool) (docs : List ℕ) → AllByRecursion (λ (doc : ℕ). doc < length alive) (filter (is_living alive) docs)
living_below alive [] = tt
living_below alive (d ∷ ds) = by (is_living alive d) refl (living_below alive ds)
  where
    by : (b : Bool) → is_living alive d ≡ b → AllByRecursion (λ (doc : ℕ). doc < length alive) (filter (is_living alive) ds) → AllByRecursion (λ (doc : ℕ). doc < length alive) (filter (is_living alive) (d ∷ ds))
    by true lives rest = rw lives (living_within alive d lives, rest)
    by false dead rest = rw dead rest

term_below : (index : OpenIndexState) (alive : List Bool) (term : TermState) (docs : List ℕ) (found : Result (List Entry) Part) → docs_of_term Basic index term ≡ found → docs_with_term index alive term ≡ Ok docs → AllByRecursion (λ (doc : ℕ). doc < length alive) docs
term_below index alive term docs (Ok es) is with_term =
    let same : ◌≡◌ {A = Result (List ℕ) Part} (Ok (living_of alive es)) (Ok docs) = rw is at with_term in
    let docs_are : living_of alive es ≡ docs = cc in
    rw (← docs_are) (living_below alive (docs_of es))
term_below index alive term docs (Err part) is with_term = absurd (let same : ◌≡◌ {A = Result (List ℕ) Part} (Err part) (Ok docs) = rw is at with_term in cc)

-- ---- those of one term after the other
-- Documents are those of a term, and then others.
pub record IsFirst (index : OpenIndexState) (alive : List Bool) (term : TermState) (others : Result (List ℕ) Part) (docs : List ℕ) : Type 0 where
  pub first : List ℕ
  pub more : List ℕ
  pub found : docs_with_term index alive term ≡ Ok first
  pub found_more : others ≡ Ok more
  pub are : docs ≡ first ++ more

pub first_of : (index : OpenIndexState) (alive : List Bool) (term : TermState) (found others : Result (List ℕ) Part) (docs : List ℕ) → docs_with_term index alive term ≡ found
    → (found >>= λ (first : List ℕ). others >>= λ (more : List ℕ). Ok (first ++ more)) ≡ Ok docs → IsFirst index alive term others docs
first_of index alive term (Ok first) (Ok more) docs is e = record { first = first; more = more; found = is; found_more = refl; are = cc }
first_of index alive term (Ok first) (Err part) docs is e = absurd cc
first_of index alive term (Err part) others docs is e = absurd cc

terms_below : (index : OpenIndexState) (alive : List Bool) (terms : List TermState) (docs : List ℕ) → docs_of_terms index alive terms ≡ Ok docs → AllByRecursion (λ (doc : ℕ). doc < length alive) docs
terms_below index alive [] docs found = let none : [] ≡ docs = cc in rw (← none) tt
terms_below index alive (term ∷ terms) docs found =
    let f = first_of index alive term (docs_with_term index alive term) (docs_of_terms index alive terms) docs refl found in
    rw f.are
    (all_both (λ (doc : ℕ). doc < length alive) f.first f.more
    (term_below index alive term f.first (docs_of_term Basic index term) refl f.found)
    (terms_below index alive terms f.more f.found_more))

module _ (index : OpenIndexState) (alive : List Bool) (terms : List TermState) where
  -- The documents of the terms before a place, in front of those of the terms from there on, are all.
  abbrev pub IsGathering : ℕ → List ℕ → Type 0
  IsGathering i docs = docs_of_terms index alive terms ≡ in_front docs (docs_of_terms index alive (drop i terms))

  pub terms_first : IsGathering 0 []
  terms_first = in_front_of_none (docs_of_terms index alive terms)

  term_at : (i : ℕ) (term d : TermState) → i < length terms → term ≡ get_or terms i d → drop i terms ≡ term ∷ drop (i + 1) terms
  term_at i term d inside is = drop-cons terms i d inside ∙ rw (is, add-one i) refl

  after_both : (docs more : List ℕ) (others : Result (List ℕ) Part) → in_front docs (others >>= λ (xs : List ℕ). Ok (more ++ xs)) ≡ in_front (docs ++ more) others
  after_both docs more (Ok xs) = ap (λ (ds : List ℕ). Ok ds) (sym (append_assoc docs more xs))
  after_both docs more (Err part) = refl

  pub terms_next : (i : ℕ) (docs found more : List ℕ) (term d : TermState) → i < length terms → term ≡ get_or terms i d → docs_with_term index alive term ≡ Ok found → more ≡ docs ++ found → IsGathering i docs → IsGathering (i + 1) more
  terms_next i docs found more term d inside is given more_is gathering =
      let left = docs_of_terms index alive (drop (i + 1) terms) in
      let e : docs_of_terms index alive terms ≡ in_front docs (docs_with_term index alive term >>= λ (first : List ℕ). left >>= λ (others : List ℕ). Ok (first ++ others)) =
      gathering ∙ ap (λ (ts : List TermState). in_front docs (docs_of_terms index alive ts)) (term_at i term d inside is) in
      let f : docs_of_terms index alive terms ≡ in_front docs (left >>= λ (others : List ℕ). Ok (found ++ others)) =
      e ∙ ap (λ (r : Result (List ℕ) Part). in_front docs (r >>= λ (first : List ℕ). left >>= λ (others : List ℕ). Ok (first ++ others))) given in
      f ∙ after_both docs found left ∙ ap (λ (ds : List ℕ). in_front ds left) (sym more_is)

  pub terms_refused : (i : ℕ) (docs : List ℕ) (term d : TermState) (fault : Fault) → i < length terms → term ≡ get_or terms i d → IsRefusal (docs_with_term index alive term) fault → IsGathering i docs → IsRefusal (docs_of_terms index alive terms) fault
  terms_refused i docs term d fault inside is (inl memory) gathering = inl memory
  terms_refused i docs term d fault inside is (inr (part, why, err)) gathering =
      let left = docs_of_terms index alive (drop (i + 1) terms) in
      inr (
        part,
        why,
        gathering ∙ ap (λ (ts : List TermState). in_front docs (docs_of_terms index alive ts)) (term_at i term d inside is)
            ∙ ap (λ (r : Result (List ℕ) Part). in_front docs (r >>= λ (first : List ℕ). left >>= λ (others : List ℕ). Ok (first ++ others))) err,
      )

  pub terms_all : (i : ℕ) (docs : List ℕ) → length terms ≤ i → IsGathering i docs → docs_of_terms index alive terms ≡ Ok docs
  terms_all i docs end gathering =
      gathering ∙ ap (λ (ts : List TermState). in_front docs (docs_of_terms index alive ts)) (drop_all i terms end) ∙ ap (λ (ds : List ℕ). Ok ds) (append-nil docs)

  -- in ascending order, each once
  pub once_found : (docs once : List ℕ) → docs_of_terms index alive terms ≡ Ok docs → ((n : ℕ) → AllByRecursion (λ (doc : ℕ). doc < n) docs → once ≡ filter (is_among docs) (range_with_len 0 n)) → docs_with_terms index alive terms ≡ Ok once
  once_found docs once found is =
      ap (λ (r : Result (List ℕ) Part). r >>= λ (ds : List ℕ). Ok (filter (is_among ds) (range_with_len 0 (length alive)))) found ∙ ap (λ (ds : List ℕ). Ok ds) (sym (is (length alive) (terms_below index alive terms docs found)))

  pub once_refused : (fault : Fault) → IsRefusal (docs_of_terms index alive terms) fault → IsRefusal (docs_with_terms index alive terms) fault
  once_refused fault refused = refused_then (docs_of_terms index alive terms) (λ (ds : List ℕ). Ok (filter (is_among ds) (range_with_len 0 (length alive)))) fault refused

-- ---- what each of several gives
module _ {S A B : Type 0} (give : S → Result A Part) (view : B → A) (all : List S) where
  -- What those before a place give, in front of what those from there on give, is all.
  abbrev pub IsGoing : ℕ → List B → Type 0
  IsGoing i done = all_or_first (map give all) ≡ in_front (map view done) (all_or_first (map give (drop i all)))

  pub each_first : (done : List B) → done ≡ [] → IsGoing 0 done
  each_first done none = in_front_of_none (all_or_first (map give all)) ∙ ap (λ (ds : List B). in_front (map view ds) (all_or_first (map give all))) (sym none)

  item_at : (i : ℕ) (s d : S) → i < length all → s ≡ get_or all i d → drop i all ≡ s ∷ drop (i + 1) all
  item_at i s d inside is = drop-cons all i d inside ∙ rw (is, add-one i) refl

  pub each_next : (i : ℕ) (done more : List B) (found : B) (s d : S) → i < length all → s ≡ get_or all i d → give s ≡ Ok (view found) → more ≡ done ++ found ∷ [] → IsGoing i done → IsGoing (i + 1) more
  each_next i done more found s d inside is given more_is going =
      let e : all_or_first (map give all) ≡ in_front (map view done) (all_or_first (give s ∷ map give (drop (i + 1) all))) = going ∙ ap (λ (ss : List S). in_front (map view done) (all_or_first (map give ss))) (item_at i s d inside is) in
      one_more (all_or_first (map give all)) (map view done) (give s) (map give (drop (i + 1) all)) (view found) e given
      ∙ ap (λ (ds : List A). in_front ds (all_or_first (map give (drop (i + 1) all)))) (sym (ap (map view) more_is ∙ map-append view done (found ∷ [])))

  pub each_refused : (i : ℕ) (done : List B) (s d : S) (fault : Fault) → i < length all → s ≡ get_or all i d → IsRefusal (give s) fault → IsGoing i done → IsRefusal (all_or_first (map give all)) fault
  each_refused i done s d fault inside is (inl memory) going = inl memory
  each_refused i done s d fault inside is (inr (part, why, err)) going =
      let e : all_or_first (map give all) ≡ in_front (map view done) (all_or_first (give s ∷ map give (drop (i + 1) all))) = going ∙ ap (λ (ss : List S). in_front (map view done) (all_or_first (map give ss))) (item_at i s d inside is) in
      inr (part, why, e ∙ rw err refl)

  pub each_all : (i : ℕ) (done : List B) → length all ≤ i → IsGoing i done → all_or_first (map give all) ≡ Ok (map view done)
  each_all i done end going =
      going ∙ ap (λ (ss : List S). in_front (map view done) (all_or_first (map give ss))) (drop_all i all end) ∙ ap (λ (ds : List A). Ok ds) (append-nil (map view done))
