-- The documents of terms, by the tokens that a segment holds.
use Rattle.std.proofs.Common.{◌≡◌, ◌∙◌, ◌<◌, ◌&&◌, ◌||◌, ℕ, Bool, true, false, List, [], ◌∷◌, Result, Ok, Err, ap, filter, length, nat_eq, refl, sym}
use Rattle.std.specs.List.{AllByRecursion, list_any, range_with_len}
use Rattle.std.proofs.lemmas.Bool.{eqb-true, lt-ltb}
use Rattle.std.proofs.lemmas.List.Folds.{list_any-append}
use Rattle.ii_io.specs.declared.faults.Part.{Part}
use Rattle.ii_base.specs.Entries.{Entry, docs_of}
use Rattle.ii_base.specs.Schema.{SchemaEntry}
use Rattle.ii_base.specs.Terms.{TermState}
use Rattle.ii_base.specs.declared.schema.index_record_option.IndexRecordOption.TheVariants.{Basic}
use Rattle.ii_definitions.specs.Tokens.{IndexToken}
use Rattle.ii_docset.specs.Intersection.{has_doc}
use Rattle.ii_query_parser.specs.declared.query.Query.TheVariants.{Term}
use Rattle.ii_query_parser.specs.Queries.{QueryTree, has_fields, holds_for_all, is_token_of, is_within, keeps_positions, phrase_has_positions, phrase_is_within, tree_matches}
use Rattle.ii_query_parser.proofs.QueryLemmas.{term_tree}
use Rattle.ii_reader.specs.OpenIndex.{IndexHolds, OpenIndexState}
use Rattle.ii_search.specs.Found.{docs_of_term, tree_found}
use Rattle.ii_search.proofs.FoundLemmas.{gives_matches}
use Rattle.ii_segments.specs.Segments.{is_living}
use Rattle.nequllpa_searching.specs.Deleting.{docs_of_terms, docs_with_term, docs_with_terms, has_one_of, is_among}
use Rattle.nequllpa_searching.proofs.DeletingLemmas.{first_of}

-- ---- the documents of one term
one_of_docs : (es : List Entry) (doc : ℕ) → is_among (docs_of es) doc ≡ has_doc es doc
one_of_docs [] doc = refl
one_of_docs (e ∷ es) doc = ap (λ (b : Bool). nat_eq e.doc doc || b) (one_of_docs es doc)

one_that_passes : (p : ℕ → Bool) (docs : List ℕ) (doc : ℕ) → is_among (filter p docs) doc ≡ (p doc && is_among docs doc)
one_that_passes p [] doc = and_false (p doc)
  where
    and_false : (b : Bool) → false ≡ (b && false)
    and_false true = refl
    and_false false = refl
one_that_passes p (d ∷ ds) doc = by (p d) (nat_eq d doc) refl refl (one_that_passes p ds doc)
  where
    by : (b same : Bool) → p d ≡ b → nat_eq d doc ≡ same → is_among (filter p ds) doc ≡ (p doc && is_among ds doc) → is_among (filter p (d ∷ ds)) doc ≡ (p doc && is_among (d ∷ ds) doc)
    by true true passes same rest =
        let here : p doc ≡ true = ap p (sym (eqb-true d doc same)) ∙ passes in
        rw (passes, same, here) refl
    by true false passes same rest = rw (passes, same) rest
    by false true fails same rest =
        let here : p doc ≡ false = ap p (sym (eqb-true d doc same)) ∙ fails in
        rw (fails, same) (rest ∙ rw here refl)
    by false false fails same rest = rw (fails, same) rest

term_held : (entries : List SchemaEntry) (n : ℕ) (index : OpenIndexState) (ts : List IndexToken) (term : TermState) (es : List Entry) → IndexHolds entries n index ts → term.field < length entries → docs_of_term Basic index term ≡ Ok es
    → (doc : ℕ) → has_doc es doc ≡ list_any (is_token_of term doc) ts
term_held entries n index ts term es holds known found doc =
    let count = length entries in
    let fields : has_fields count (Term term) ≡ true = ap (holds_for_all (is_within count) (phrase_is_within count)) (term_tree term) ∙ lt-ltb term.field count known in
    let positions : keeps_positions entries (Term term) ≡ true = ap (holds_for_all (λ (t : TermState). true) (phrase_has_positions entries)) (term_tree term) in
    let g = gives_matches entries n index ts (Term term) holds fields positions in
    let given : docs_of_term Basic index term ≡ Ok g.es = ap (tree_found index) (sym (term_tree term)) ∙ g.is in
    let same : es ≡ g.es = ok_same es g.es (sym found ∙ given) in
    ap (λ (fs : List Entry). has_doc fs doc) same ∙ g.exact doc ∙ ap (λ (t : QueryTree). tree_matches t ts doc) (term_tree term)
  where
    ok_same : (a b : List Entry) → ◌≡◌ {A = Result (List Entry) Part} (Ok a) (Ok b) → a ≡ b
    ok_same a b is = cc

module _ (entries : List SchemaEntry) (n : ℕ) (index : OpenIndexState) (ts : List IndexToken) (alive : List Bool) (holds : IndexHolds entries n index ts) where
  term_docs_held : (term : TermState) (docs : List ℕ) (found : Result (List Entry) Part) → term.field < length entries → docs_of_term Basic index term ≡ found → docs_with_term index alive term ≡ Ok docs
      → (doc : ℕ) → is_among docs doc ≡ (is_living alive doc && list_any (is_token_of term doc) ts)
  term_docs_held term docs (Ok es) known is given doc =
      let same : ◌≡◌ {A = Result (List ℕ) Part} (Ok (filter (is_living alive) (docs_of es))) (Ok docs) = rw is at given in
      let docs_are : filter (is_living alive) (docs_of es) ≡ docs = cc in
      ap (λ (ds : List ℕ). is_among ds doc) (sym docs_are) ∙ one_that_passes (is_living alive) (docs_of es) doc
      ∙ ap (λ (b : Bool). is_living alive doc && b) (one_of_docs es doc ∙ term_held entries n index ts term es holds known is doc)
  term_docs_held term docs (Err part) known is given doc = absurd (let same : ◌≡◌ {A = Result (List ℕ) Part} (Err part) (Ok docs) = rw is at given in cc)

  -- ---- those of one term after the other
  terms_docs_held : (terms : List TermState) (docs : List ℕ) → AllByRecursion (λ (t : TermState). t.field < length entries) terms → docs_of_terms index alive terms ≡ Ok docs
      → (doc : ℕ) → is_among docs doc ≡ (is_living alive doc && has_one_of terms ts doc)
  terms_docs_held [] docs known given doc =
      let none : [] ≡ docs = cc in
      ap (λ (ds : List ℕ). is_among ds doc) (sym none) ∙ and_false (is_living alive doc)
    where
      and_false : (b : Bool) → false ≡ (b && false)
      and_false true = refl
      and_false false = refl
  terms_docs_held (term ∷ terms) docs known given doc =
      let f = first_of index alive term (docs_with_term index alive term) (docs_of_terms index alive terms) docs refl given in
      ap (λ (ds : List ℕ). is_among ds doc) f.are ∙ list_any-append (λ (d : ℕ). nat_eq d doc) f.first f.more
      ∙ ap (λ (b : Bool). b || is_among f.more doc) (term_docs_held term f.first (docs_of_term Basic index term) known.0 refl f.found doc)
      ∙ ap (λ (b : Bool). (is_living alive doc && list_any (is_token_of term doc) ts) || b) (terms_docs_held terms f.more known.1 f.found_more doc)
      ∙ sym (both (is_living alive doc) (list_any (is_token_of term doc) ts) (has_one_of terms ts doc))
    where
      both : (a b c : Bool) → (a && (b || c)) ≡ ((a && b) || (a && c))
      both true b c = refl
      both false b c = refl

  same_filter : (p q : ℕ → Bool) (docs : List ℕ) → ((doc : ℕ) → p doc ≡ q doc) → filter p docs ≡ filter q docs
  same_filter p q [] same = refl
  same_filter p q (d ∷ ds) same = by (q d) refl (same_filter p q ds same)
    where
      by : (b : Bool) → q d ≡ b → filter p ds ≡ filter q ds → filter p (d ∷ ds) ≡ filter q (d ∷ ds)
      by true passes rest = rw (same d ∙ passes, passes) (ap (λ (xs : List ℕ). d ∷ xs) rest)
      by false fails rest = rw (same d ∙ fails, fails) rest

  -- exactly the living documents that have a token of one of the terms
  pub key_docs_held : (terms : List TermState) (docs : List ℕ) → AllByRecursion (λ (t : TermState). t.field < length entries) terms → docs_with_terms index alive terms ≡ Ok docs
      → docs ≡ filter (λ (doc : ℕ). is_living alive doc && has_one_of terms ts doc) (range_with_len 0 (length alive))
  key_docs_held terms docs known given = by (docs_of_terms index alive terms) refl
    where
      by : (found : Result (List ℕ) Part) → docs_of_terms index alive terms ≡ found → docs ≡ filter (λ (doc : ℕ). is_living alive doc && has_one_of terms ts doc) (range_with_len 0 (length alive))
      by (Ok all) is =
          let same : ◌≡◌ {A = Result (List ℕ) Part} (Ok (filter (is_among all) (range_with_len 0 (length alive)))) (Ok docs) = rw is at given in
          let docs_are : filter (is_among all) (range_with_len 0 (length alive)) ≡ docs = cc in
          sym docs_are ∙ same_filter (is_among all) (λ (doc : ℕ). is_living alive doc && has_one_of terms ts doc) (range_with_len 0 (length alive)) (terms_docs_held terms all known is)
      by (Err part) is = absurd (let same : ◌≡◌ {A = Result (List ℕ) Part} (Err part) (Ok docs) = rw is at given in cc)
