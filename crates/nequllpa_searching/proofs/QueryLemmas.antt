-- The terms that a query wants, and their positions.
use Rattle.std.proofs.Common.{◌≡◌, ◌∙◌, ◌<◌, ◌≤◌, ◌+◌, ℕ, zero, suc, Bool, Bor, true, ◌&&◌, List, [], ◌∷◌, ◌++◌, add-one, append-nil, arith, get_or, map, take, drop, length, nat_lt, Option, Result, Ok, Err, inl, inr, refl, sym, ap}
use Rattle.std.specs.List.{list_all}
use Rattle.std.proofs.Math.Seq.{drop-cons}
use Rattle.std.proofs.lemmas.Bool.{and_parts, ltb-true}
use Rattle.std.proofs.lemmas.List.{map-append}
use Rattle.std.proofs.lemmas.List.Folds.{list_all-append}
use Rattle.ii_io.specs.declared.faults.Fault.{Fault}
use Rattle.ii_io.specs.declared.faults.Fault.TheVariants.{OutOfMemory}
use Rattle.ii_io.specs.declared.faults.Part.{Part}
use Rattle.ii_io.specs.Parts.{◌>>=◌}
use Rattle.ii_base.specs.Entries.{Entry, document}
use Rattle.ii_base.specs.Terms.{TermState}
use Rattle.ii_base.specs.declared.schema.index_record_option.IndexRecordOption.TheVariants.{WithFreqsAndPositions}
use Rattle.ii_docset.specs.Cursor.{IsAscending, IsSound}
use Rattle.ii_reader.specs.InvertedIndexReader.{IsRefusal}
use Rattle.ii_reader.specs.OpenIndex.{OpenIndexState, all_or_first}
use Rattle.ii_reader.proofs.IndexLemmas.{in_front, in_front_of_none, one_more}
use Rattle.ii_query_parser.specs.declared.query.PhraseTerm.{PhraseTerm}
use Rattle.ii_query_parser.specs.declared.query.Query.{Query}
use Rattle.ii_search.specs.Found.{docs_of_term, found_in}
use Rattle.ii_query_parser.specs.Queries.{QueryTree, QueryTrees, all_below, any_of, each_of, has_fields, hold_for_all, holds_for_all, is_within, no_tree, nothing, one_phrase, one_phrase_prefix, one_range, one_term, phrase_is_within, tree, tree_of, without}
use Rattle.ii_query_parser.proofs.PhrasePrefixLemmas.{fields_of_each}
use Rattle.nequllpa_searching.specs.declared.finding.TermPositions.{TermPositions}
use Rattle.nequllpa_searching.specs.Finding.{first_docs, found_places, places_view, term_places, tree_terms, trees_terms, wanted_terms}
use Rattle.nequllpa_searching.proofs.FindingLemmas.{living_ascend, living_of}
use Rattle.nequllpa_searching.specs.Positions.{positions_in_doc}

-- what is refused, is refused with all that comes after it
pub refused_then : {A B : Type 0} (found : Result A Part) (after : A → Result B Part) (fault : Fault) → IsRefusal found fault → IsRefusal (found >>= after) fault
refused_then found after fault (inl memory) = inl memory
refused_then found after fault (inr (part, why, err)) = inr (part, why, rw err refl)

-- an allocation failure is a refusal of anything
pub refused_memory : {A : Type 0} (found : Result A Part) (fault : Fault) → fault ≡ OutOfMemory → IsRefusal found fault
refused_memory found fault memory = inl memory

-- the first living documents, of all that were found
pub docs_found : (index : OpenIndexState) (alive : List Bool) (query : Query) (limit : ℕ) (es : List Entry) (docs : List ℕ) → found_in index query ≡ Ok es → docs ≡ take limit (living_of alive es) → first_docs index alive query limit ≡ Ok docs
docs_found index alive query limit es docs found docs_is = rw (found, docs_is) refl

pub docs_found_ascend : (alive : List Bool) (limit : ℕ) (es : List Entry) (docs : List ℕ) → IsSound es → docs ≡ take limit (living_of alive es) → IsAscending (map document docs)
docs_found_ascend alive limit es docs sound docs_is = rw docs_is (living_ascend alive limit es sound.ascending)

pub docs_refused : (index : OpenIndexState) (alive : List Bool) (query : Query) (limit : ℕ) (fault : Fault) → IsRefusal (found_in index query) fault → IsRefusal (first_docs index alive query limit) fault
docs_refused index alive query limit fault refused = refused_then (found_in index query) (λ (es : List Entry). Ok (take limit (living_of alive es))) fault refused

-- the positions of a term, by its list
pub term_found : (index : OpenIndexState) (docs : List ℕ) (term : TermState) (es : List Entry) (places : List (Option (List ℕ))) → docs_of_term WithFreqsAndPositions index term ≡ Ok es → places ≡ map (positions_in_doc es) docs → term_places index docs term ≡ Ok places
term_found index docs term es places found places_is = rw (found, places_is) refl

pub term_refused : (index : OpenIndexState) (docs : List ℕ) (term : TermState) (fault : Fault) → IsRefusal (docs_of_term WithFreqsAndPositions index term) fault → IsRefusal (term_places index docs term) fault
term_refused index docs term fault refused = refused_then (docs_of_term WithFreqsAndPositions index term) (λ (es : List Entry). Ok (map (positions_in_doc es) docs)) fault refused

-- the fields of the wanted terms are those of an index
fields_of : (n : ℕ) (others : List PhraseTerm) → list_all (λ (o : PhraseTerm). nat_lt o.term.field n) others ≡ list_all (λ (t : TermState). nat_lt t.field n) (map (λ (o : PhraseTerm). o.term) others)
fields_of n [] = refl
fields_of n (o ∷ os) = ap (λ (b : Bool). nat_lt o.term.field n && b) (fields_of n os)

both : (n : ℕ) (first other : List TermState) → list_all (λ (t : TermState). nat_lt t.field n) first ≡ true → list_all (λ (t : TermState). nat_lt t.field n) other ≡ true → list_all (λ (t : TermState). nat_lt t.field n) (first ++ other) ≡ true
both n first other a b = rw (list_all-append (λ (t : TermState). nat_lt t.field n) first other, a, b) refl

mutual
  tree_fields : (n : ℕ) (q : QueryTree) → holds_for_all (is_within n) (phrase_is_within n) q ≡ true → list_all (λ (t : TermState). nat_lt t.field n) (tree_terms q) ≡ true
  tree_fields n nothing fields = refl
  tree_fields n (all_below m) fields = refl
  tree_fields n (one_term term) fields = rw fields refl
  tree_fields n (one_phrase first others slop) fields = rw (← fields_of n others) fields
  tree_fields n (one_phrase_prefix phrase) fields =
      let each = and_parts (nat_lt phrase.first.field n) (list_all (λ (o : PhraseTerm). nat_lt o.term.field n) phrase.others.items && nat_lt phrase.last.prefix.field n) (sym (fields_of_each n phrase) ∙ fields) in
      let others = and_parts (list_all (λ (o : PhraseTerm). nat_lt o.term.field n) phrase.others.items) (nat_lt phrase.last.prefix.field n) each.1 in
      rw (← fields_of n phrase.others.items, each.0, others.0) refl
  tree_fields n (one_range range) fields = refl
  tree_fields n (each_of qs) fields = trees_fields n qs fields
  tree_fields n (any_of qs) fields = trees_fields n qs fields
  tree_fields n (without first other) fields =
      tree_fields n first (and_parts (holds_for_all (is_within n) (phrase_is_within n) first) (holds_for_all (is_within n) (phrase_is_within n) other) fields).0

  trees_fields : (n : ℕ) (qs : QueryTrees) → hold_for_all (is_within n) (phrase_is_within n) qs ≡ true → list_all (λ (t : TermState). nat_lt t.field n) (trees_terms qs) ≡ true
  trees_fields n no_tree fields = refl
  trees_fields n (tree q qs) fields =
      let h = and_parts (holds_for_all (is_within n) (phrase_is_within n) q) (hold_for_all (is_within n) (phrase_is_within n) qs) fields in
      both n (tree_terms q) (trees_terms qs) (tree_fields n q h.0) (trees_fields n qs h.1)

pub wanted_fields : (n : ℕ) (query : Query) → has_fields n query ≡ true → list_all (λ (t : TermState). nat_lt t.field n) (wanted_terms query) ≡ true
wanted_fields n query fields = tree_fields n (tree_of query) fields

pub wanted_known : (n : ℕ) (query : Query) (terms : List TermState) → has_fields n query ≡ true → terms ≡ wanted_terms query → list_all (λ (t : TermState). nat_lt t.field n) terms ≡ true
wanted_known n query terms fields wanted = rw wanted (wanted_fields n query fields)

-- borrowed terms
abbrev pub lent : List (Bor TermState) → List TermState
lent terms = map (λ (t : Bor TermState). t.now) terms

-- The places of the terms before a place, in front of those of the terms from there on, are all; and the fields of these are those of the index.
pub record IsPlacingTerms (index : OpenIndexState) (docs : List ℕ) (terms : List (Bor TermState)) (i : ℕ) (places : List TermPositions) : Type 0 where
  pub placed : all_or_first (map (term_places index docs) (lent terms)) ≡ in_front (map places_view places) (all_or_first (map (term_places index docs) (lent (drop i terms))))
  pub fields : list_all (λ (t : TermState). nat_lt t.field (length index.readers)) (lent (drop i terms)) ≡ true

pub terms_first : (index : OpenIndexState) (docs : List ℕ) (terms : List (Bor TermState)) → list_all (λ (t : TermState). nat_lt t.field (length index.readers)) (lent terms) ≡ true → IsPlacingTerms index docs terms 0 []
terms_first index docs terms fields = record { placed = in_front_of_none (all_or_first (map (term_places index docs) (lent terms))); fields = fields }

-- the term at a place
at_place : (terms : List (Bor TermState)) (i : ℕ) (t d : Bor TermState) → i < length terms → t ≡ get_or terms i d → drop i terms ≡ t ∷ drop (i + 1) terms
at_place terms i t d inside is = drop-cons terms i d inside ∙ rw (is, add-one i) refl

pub terms_field : (index : OpenIndexState) (docs : List ℕ) (terms : List (Bor TermState)) (i : ℕ) (places : List TermPositions) (t d : Bor TermState) → i < length terms → t ≡ get_or terms i d → IsPlacingTerms index docs terms i places → t.now.field < length index.readers
terms_field index docs terms i places t d inside is placing =
    let fields = rw (at_place terms i t d inside is) at placing.fields in
    ltb-true t.now.field (length index.readers) (and_parts (nat_lt t.now.field (length index.readers)) (list_all (λ (u : TermState). nat_lt u.field (length index.readers)) (lent (drop (i + 1) terms))) fields).0

pub terms_next : (index : OpenIndexState) (docs : List ℕ) (terms : List (Bor TermState)) (i : ℕ) (places more : List TermPositions) (t d : Bor TermState) (place : TermPositions) → i < length terms → t ≡ get_or terms i d → term_places index docs t.now ≡ Ok (places_view place)
    → more ≡ places ++ place ∷ [] → IsPlacingTerms index docs terms i places → IsPlacingTerms index docs terms (i + 1) more
terms_next index docs terms i places more t d place inside is found more_is placing =
    let left = lent (drop (i + 1) terms) in
    let e : all_or_first (map (term_places index docs) (lent terms)) ≡ in_front (map places_view places) (all_or_first (term_places index docs t.now ∷ map (term_places index docs) left)) = rw (at_place terms i t d inside is) at placing.placed in
    record {
      placed = rw (more_is, map-append places_view places (place ∷ [])) (one_more (all_or_first (map (term_places index docs) (lent terms))) (map places_view places) (term_places index docs t.now) (map (term_places index docs) left) (places_view place) e found);
      fields = (and_parts (nat_lt t.now.field (length index.readers)) (list_all (λ (u : TermState). nat_lt u.field (length index.readers)) left) (rw (at_place terms i t d inside is) at placing.fields)).1;
    }

pub terms_refused : (index : OpenIndexState) (docs : List ℕ) (terms : List (Bor TermState)) (i : ℕ) (places : List TermPositions) (t d : Bor TermState) (fault : Fault) → i < length terms → t ≡ get_or terms i d → IsRefusal (term_places index docs t.now) fault
    → IsPlacingTerms index docs terms i places → IsRefusal (all_or_first (map (term_places index docs) (lent terms))) fault
terms_refused index docs terms i places t d fault inside is (inl memory) placing = inl memory
terms_refused index docs terms i places t d fault inside is (inr (part, why, err)) placing =
    let left = lent (drop (i + 1) terms) in
    let e : all_or_first (map (term_places index docs) (lent terms)) ≡ in_front (map places_view places) (all_or_first (term_places index docs t.now ∷ map (term_places index docs) left)) = rw (at_place terms i t d inside is) at placing.placed in
    inr (part, why, e ∙ rw err refl)

pub terms_all : (index : OpenIndexState) (docs : List ℕ) (terms : List (Bor TermState)) (i : ℕ) (places : List TermPositions) → length terms ≤ i → IsPlacingTerms index docs terms i places → all_or_first (map (term_places index docs) (lent terms)) ≡ Ok (map places_view places)
terms_all index docs terms i places end placing =
    let e : all_or_first (map (term_places index docs) (lent terms)) ≡ in_front (map places_view places) (Ok []) = rw (drop-end i terms end) at placing.placed in
    e ∙ ap (λ (ps : List (List (Option (List ℕ)))). Ok ps) (append-nil (map places_view places))
  where
    drop-end : (i : ℕ) (ts : List (Bor TermState)) → length ts ≤ i → drop i ts ≡ []
    drop-end zero [] h = refl
    drop-end (suc i) [] h = refl
    drop-end zero (t ∷ ts) h = absurd (omega arith)
    drop-end (suc i) (t ∷ ts) h = drop-end i ts (omega arith)

-- the terms that a query wants, as a slice
pub wanted_slice : (n : ℕ) (query : Query) (terms slice : List (Bor TermState)) → has_fields n query ≡ true → slice ≡ terms → lent terms ≡ wanted_terms query → list_all (λ (t : TermState). nat_lt t.field n) (lent slice) ≡ true
wanted_slice n query terms slice fields same wanted = wanted_known n query (lent slice) fields (ap lent same ∙ wanted)

pub wanted_found : (index : OpenIndexState) (docs : List ℕ) (query : Query) (terms slice : List (Bor TermState)) (places : List (List (Option (List ℕ)))) → slice ≡ terms → lent terms ≡ wanted_terms query
    → all_or_first (map (term_places index docs) (lent slice)) ≡ Ok places → all_or_first (map (term_places index docs) (wanted_terms query)) ≡ Ok places
wanted_found index docs query terms slice places same wanted placed = ap (λ (ts : List TermState). all_or_first (map (term_places index docs) ts)) (sym (ap lent same ∙ wanted)) ∙ placed

pub wanted_refused : (index : OpenIndexState) (docs : List ℕ) (query : Query) (terms slice : List (Bor TermState)) (fault : Fault) → slice ≡ terms → lent terms ≡ wanted_terms query
    → IsRefusal (all_or_first (map (term_places index docs) (lent slice))) fault → IsRefusal (all_or_first (map (term_places index docs) (wanted_terms query))) fault
wanted_refused index docs query terms slice fault same wanted (inl memory) = inl memory
wanted_refused index docs query terms slice fault same wanted (inr (part, why, err)) = inr (part, why, ap (λ (ts : List TermState). all_or_first (map (term_places index docs) ts)) (sym (ap lent same ∙ wanted)) ∙ err)

pub ascend_slice : (docs slice : List ℕ) → slice ≡ docs → IsAscending (map document docs) → IsAscending (map document slice)
ascend_slice docs slice same h = rw same h

-- what a search finds, of its parts
pub found_all : (index : OpenIndexState) (alive : List Bool) (query : Query) (limit : ℕ) (docs slice : List ℕ) (places : List (List (Option (List ℕ)))) → first_docs index alive query limit ≡ Ok docs → slice ≡ docs
    → all_or_first (map (term_places index slice) (wanted_terms query)) ≡ Ok places → found_places index alive query limit ≡ Ok (record { docs = docs; places = places })
found_all index alive query limit docs slice places first same placed =
    let e : all_or_first (map (term_places index docs) (wanted_terms query)) ≡ Ok places = ap (λ (ds : List ℕ). all_or_first (map (term_places index ds) (wanted_terms query))) (sym same) ∙ placed in
    rw (first, e) refl

pub found_refused : (index : OpenIndexState) (alive : List Bool) (query : Query) (limit : ℕ) (docs slice : List ℕ) (fault : Fault) → first_docs index alive query limit ≡ Ok docs → slice ≡ docs
    → IsRefusal (all_or_first (map (term_places index slice) (wanted_terms query))) fault → IsRefusal (found_places index alive query limit) fault
found_refused index alive query limit docs slice fault first same (inl memory) = inl memory
found_refused index alive query limit docs slice fault first same (inr (part, why, err)) =
    let e : all_or_first (map (term_places index docs) (wanted_terms query)) ≡ Err part = ap (λ (ds : List ℕ). all_or_first (map (term_places index ds) (wanted_terms query))) (sym same) ∙ err in
    inr (part, why, rw (first, e) refl)
