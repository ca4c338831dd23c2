-- An index that has what a query reads of another one is the same for the query.
use Rattle.std.proofs.Common.{◌≡◌, ◌∙◌, ℕ, Bool, true, false, ◌&&◌, ◌==◌, List, [], ◌∷◌, ◌++◌, Option, None, Some, Result, bytes_eq, eq-eqb, filter, is_some, map, refl, ap}
use Rattle.std.specs.Prelude.{slice_get}
use Rattle.std.specs.List.{AllByRecursion, list_any}
use Rattle.std.proofs.Math.Bool.{or-true}
use Rattle.std.proofs.lemmas.Slice.Eq.{bytes_eq-Decides}
use Rattle.ii_io.specs.declared.faults.Part.{Part}
use Rattle.ii_base.specs.Entries.{Entry}
use Rattle.ii_base.specs.declared.schema.index_record_option.IndexRecordOption.{IndexRecordOption}
use Rattle.ii_base.specs.declared.schema.index_record_option.IndexRecordOption.TheVariants.{Basic, WithFreqs, WithFreqsAndPositions}
use Rattle.ii_query_parser.specs.declared.query.Query.{Query}
use Rattle.ii_query_parser.specs.Ranges.{in_range}
use Rattle.ii_reader.specs.InvertedIndexReader.{InvertedIndexReaderState}
use Rattle.ii_reader.specs.OpenIndex.{OpenIndexState}
use Rattle.ii_search.specs.Found.{docs_under}
use Rattle.ii_termdict.specs.Dictionary.{entry_keys}
use Rattle.ii_warmup.specs.QueryTerms.{QueryRangeState, QueryTermState, names_key, query_ranges, requested_of, requested_terms, serves}
use Rattle.ii_warmup.specs.Parts.{IsPartFor, IsPartOfField, PartsAreSame, PartsFindTheSame}
use Rattle.ii_warmup.specs.SameFor.{SameRange, SameTerm, range_docs}
use Rattle.ii_warmup.proofs.FoundLemmas.{found_as_there}

-- a test that one item of a list passes
any_here : {A : Type 0} (f : A → Bool) (front : List A) (x : A) (rest : List A) → f x ≡ true → list_any f (front ++ x ∷ rest) ≡ true
any_here f [] x rest passes = rw passes refl
any_here f (y ∷ ys) x rest passes = rw (any_here f ys x rest passes) (or-true (f y))

-- what holds for an item at any place holds for each
each_place : {A : Type 0} (P : A → Type 0) (xs : List A) → ((front rest : List A) (x : A) → xs ≡ front ++ x ∷ rest → P x) → AllByRecursion P xs
each_place P [] h = tt
each_place {A} P (x ∷ xs) h = (h [] xs x refl, each_place P xs (λ front rest y is. h (x ∷ front) rest y (ap (λ (ys : List A). x ∷ ys) is)))

-- an option serves itself
serves_itself : (option : IndexRecordOption) → serves option option ≡ true
serves_itself Basic = refl
serves_itself WithFreqs = refl
serves_itself WithFreqsAndPositions = refl

-- a list that is filtered twice, where the first filter keeps what the second one does
filtered_twice : {B : Type 0} (p q : List ℕ → Bool) (f g : List ℕ → B) → ((key : List ℕ) → p key ≡ true → (q key ≡ true) × (f key ≡ g key)) → (ks : List (List ℕ)) → map f (filter p (filter q ks)) ≡ map g (filter p ks)
filtered_twice p q f g keeps [] = refl
filtered_twice {B} p q f g keeps (k ∷ ks) = by (filtered_twice p q f g keeps ks) (p k) refl (q k) refl
  where
    by : map f (filter p (filter q ks)) ≡ map g (filter p ks) → (b : Bool) → p k ≡ b → (c : Bool) → q k ≡ c → map f (filter p (filter q (k ∷ ks))) ≡ map g (filter p (k ∷ ks))
    by rest true passes true kept = rw (kept, passes, (keeps k passes).1) (ap (λ (later : List B). g k ∷ later) rest)
    by rest true passes false lost = let kept = (keeps k passes).0 in absurd (cc)
    by rest false fails true kept = rw (kept, fails) rest
    by rest false fails false lost = rw (lost, fails) rest

module _ (terms : List QueryTermState) (ranges : List QueryRangeState) (field : ℕ) (key : List ℕ) where
  -- A key that is named with an option is requested so that it serves the option.
  pub record IsRequested (option : IndexRecordOption) : Type 0 where
    pub wanted : IndexRecordOption
    pub is : requested_of terms ranges field key ≡ Some wanted
    pub served : serves option wanted ≡ true

  with_documents : names_key Basic terms ranges field key ≡ true → (b : Bool) → names_key WithFreqsAndPositions terms ranges field key ≡ b → (option : IndexRecordOption) → serves option Basic ≡ true → IsRequested option
  with_documents named true all option served = record { wanted = WithFreqsAndPositions; is = rw all refl; served = or-true _ }
  with_documents named false none option served = record { wanted = Basic; is = rw (none, named) refl; served = served }

  requested : (option : IndexRecordOption) → names_key option terms ranges field key ≡ true → IsRequested option
  requested Basic named = with_documents named (names_key WithFreqsAndPositions terms ranges field key) refl Basic refl
  requested WithFreqs named = with_documents named (names_key WithFreqsAndPositions terms ranges field key) refl WithFreqs refl
  requested WithFreqsAndPositions named = record { wanted = WithFreqsAndPositions; is = rw named refl; served = refl }

module _ (query : Query) (part whole : OpenIndexState) (parts : IsPartFor query part whole) where
  abbrev request : ℕ → List ℕ → Option IndexRecordOption
  request field = requested_of (requested_terms query) (query_ranges query) field

  -- the documents of a key that is named
  same_docs : (field : ℕ) (key : List ℕ) (option : IndexRecordOption) → names_key option (requested_terms query) (query_ranges query) field key ≡ true
      → docs_under option key (slice_get part.readers field) ≡ docs_under option key (slice_get whole.readers field)
  same_docs field key option named = by (slice_get part.readers field) (slice_get whole.readers field) (parts field)
    where
      by : (p w : Option InvertedIndexReaderState) → IsPartOfField (request field) p w → docs_under option key p ≡ docs_under option key w
      by None None h = refl
      by None (Some w) h = absurd h
      by (Some p) None h = absurd h
      by (Some p) (Some w) h = let r = requested (requested_terms query) (query_ranges query) field key option named in h.docs key r.wanted option r.is r.served

  term_named : (front rest : List QueryTermState) (t : QueryTermState) → requested_terms query ≡ front ++ t ∷ rest → names_key t.option (requested_terms query) (query_ranges query) t.term.field t.term.value ≡ true
  term_named front rest t is =
      let test = λ (u : QueryTermState). serves t.option u.option && (u.term.field == t.term.field) && bytes_eq u.term.value t.term.value in
      let passes : test t ≡ true = rw (serves_itself t.option, eq-eqb t.term.field t.term.field refl, (bytes_eq-Decides t.term.value t.term.value).1 refl) refl in
      let found : list_any test (requested_terms query) ≡ true = ap (list_any test) is ∙ any_here test front t rest passes in
      rw found refl

  range_named : (front rest : List QueryRangeState) (r : QueryRangeState) (key : List ℕ) → query_ranges query ≡ front ++ r ∷ rest → in_range r.range key ≡ true → names_key r.option (requested_terms query) (query_ranges query) r.range.prefix.field key ≡ true
  range_named front rest r key is inside =
      let test = λ (s : QueryRangeState). serves r.option s.option && (s.range.prefix.field == r.range.prefix.field) && in_range s.range key in
      let passes : test r ≡ true = rw (serves_itself r.option, eq-eqb r.range.prefix.field r.range.prefix.field refl, inside) refl in
      let found : list_any test (query_ranges query) ≡ true = ap (list_any test) is ∙ any_here test front r rest passes in
      rw found (or-true _)

  same_range : (r : QueryRangeState) → ((key : List ℕ) → in_range r.range key ≡ true → names_key r.option (requested_terms query) (query_ranges query) r.range.prefix.field key ≡ true) → SameRange part whole r
  same_range r named = by (slice_get part.readers r.range.prefix.field) (slice_get whole.readers r.range.prefix.field) (parts r.range.prefix.field)
    where
      by : (p w : Option InvertedIndexReaderState) → IsPartOfField (request r.range.prefix.field) p w → range_docs r.option r.range p ≡ range_docs r.option r.range w
      by None None h = refl
      by None (Some w) h = absurd h
      by (Some p) None h = absurd h
      by (Some p) (Some w) h =
          let field = r.range.prefix.field in
          let asked = λ (key : List ℕ). is_some (request field key) in
          let keeps : (key : List ℕ) → in_range r.range key ≡ true → (asked key ≡ true) × ((key, docs_under r.option key (Some p)) ≡ (key, docs_under r.option key (Some w))) =
          λ key inside. let q = requested (requested_terms query) (query_ranges query) field key r.option (named key inside) in
          (ap is_some q.is, ap (λ (found : Result (List Entry) Part). (key, found)) (h.docs key q.wanted r.option q.is q.served)) in
          ap (λ (keys : List (List ℕ)). map (λ (key : List ℕ). (key, docs_under r.option key (Some p))) (filter (in_range r.range) keys)) h.keys
          ∙ filtered_twice (in_range r.range) asked (λ key. (key, docs_under r.option key (Some p))) (λ key. (key, docs_under r.option key (Some w))) keeps (entry_keys w.terms)

pub parts_are_same : PartsAreSame
parts_are_same query part whole parts = record {
  terms = each_place (SameTerm part whole) (requested_terms query) (λ front rest t is. same_docs query part whole parts t.term.field t.term.value t.option (term_named query part whole parts front rest t is));
  ranges = each_place (SameRange part whole) (query_ranges query) (λ front rest r is. same_range query part whole parts r (λ key inside. range_named query part whole parts front rest r key is inside));
}

pub parts_find_the_same : PartsFindTheSame
parts_find_the_same query part whole parts = found_as_there query part whole (parts_are_same query part whole parts)
