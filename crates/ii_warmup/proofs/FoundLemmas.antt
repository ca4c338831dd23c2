-- What is found depends on the terms and the ranges of a query alone.
use Rattle.std.proofs.Common.{◌≡◌, ◌∙◌, ℕ, List, [], ◌∷◌, ◌++◌, Result, map, refl, sym, ap}
use Rattle.std.specs.Prelude.{slice_get}
use Rattle.std.specs.List.{AllByRecursion}
use Rattle.ii_io.specs.declared.faults.Part.{Part}
use Rattle.ii_base.specs.declared.schema.index_record_option.IndexRecordOption.TheVariants.{Basic, WithFreqsAndPositions}
use Rattle.ii_base.specs.Entries.{Entry}
use Rattle.ii_query.specs.Combined.{intersection_of, union_of}
use Rattle.ii_query_parser.specs.declared.phrase_prefix.PhrasePrefix.{PhrasePrefix}
use Rattle.ii_query_parser.specs.declared.query.PhraseTerm.{PhraseTerm}
use Rattle.ii_query_parser.specs.Queries as queries
use Rattle.ii_query_parser.specs.Queries.{QueryTree, QueryTrees, others_with, tree_of}
use Rattle.ii_reader.specs.OpenIndex.{OpenIndexState, all_or_first}
use Rattle.ii_search.specs.Found.{combined_lists, docs_of_term, docs_under, keys_in, lists_found, phrase_parts_of, phrase_with, tree_found}
use Rattle.ii_warmup.specs.QueryTerms.{phrase_requests, tree_ranges, tree_terms, trees_ranges, trees_terms}
use Rattle.ii_warmup.specs.SameFor.{FoundAsThere, SameRange, SameTerm}

-- what holds for each of two lists
both_all : {A : Type 0} (P : A → Type 0) (xs ys : List A) → AllByRecursion P (xs ++ ys) → AllByRecursion P xs × AllByRecursion P ys
both_all P [] ys h = (tt, h)
both_all P (x ∷ xs) ys h = let rest = both_all P xs ys h.1 in ((h.0, rest.0), rest.1)

-- a key and its value
abbrev keyed : {B : Type 0} → (List ℕ → B) → List ℕ → List ℕ × B
keyed f key = (key, f key)

-- lists of keys with equal values give equal lists of what these values decide
same_values : {B C : Type 0} (f g : List ℕ → B) (F G : List ℕ → C) → ((key : List ℕ) → f key ≡ g key → F key ≡ G key)
    → (ks ls : List (List ℕ)) → map (keyed f) ks ≡ map (keyed g) ls → map F ks ≡ map G ls
same_values f g F G decides [] [] same = refl
same_values f g F G decides [] (l ∷ ls) same = absurd (cc)
same_values f g F G decides (k ∷ ks) [] same = absurd (cc)
same_values {B} f g F G decides (k ∷ ks) (l ∷ ls) same =
    let rest : map (keyed f) ks ≡ map (keyed g) ls = cc in
    let both : keyed f k ≡ keyed g l = cc in
    let key : k ≡ l = ap (λ (e : List ℕ × B). e.0) both in
    let value : f k ≡ g l = ap (λ (e : List ℕ × B). e.1) both in
    let first : F k ≡ G k = decides k (value ∙ ap g (sym key)) in
    rw (first, key, same_values f g F G decides ks ls rest) refl

module _ (index other : OpenIndexState) where
  -- the terms of a phrase after the first one
  parts_same : (others : List PhraseTerm) → AllByRecursion (SameTerm index other) (phrase_requests others) → phrase_parts_of index others ≡ phrase_parts_of other others
  parts_same [] h = refl
  parts_same (o ∷ os) h = rw (h.0, parts_same os h.1) refl

  parts_with : (p : PhrasePrefix) (others : List PhraseTerm) (o : PhraseTerm) → AllByRecursion (SameTerm index other) (phrase_requests others) → docs_of_term WithFreqsAndPositions index o.term ≡ docs_of_term WithFreqsAndPositions other o.term
      → phrase_parts_of index (others ++ o ∷ []) ≡ phrase_parts_of other (others ++ o ∷ [])
  parts_with p [] o h last = rw last refl
  parts_with p (x ∷ xs) o h last = rw (h.0, parts_with p xs o h.1 last) refl

  mutual
    tree_same : (q : QueryTree) → AllByRecursion (SameTerm index other) (tree_terms q) → AllByRecursion (SameRange index other) (tree_ranges q) → tree_found index q ≡ tree_found other q
    tree_same queries.nothing terms ranges = refl
    tree_same (queries.all_below n) terms ranges = refl
    tree_same (queries.one_term term) terms ranges = terms.0
    tree_same (queries.one_phrase first others slop) terms ranges = rw (terms.0, parts_same others terms.1) refl
    tree_same (queries.one_phrase_prefix phrase) terms ranges =
        let last = phrase.last in
        let field = last.prefix.field in
        let each : (key : List ℕ) → docs_under WithFreqsAndPositions key (slice_get index.readers field) ≡ docs_under WithFreqsAndPositions key (slice_get other.readers field) → phrase_with index phrase key ≡ phrase_with other phrase key =
        λ key same. rw (terms.0, parts_with phrase phrase.others.items (record { distance = phrase.distance; term = record { field = field; value = key } }) terms.1 same) refl in
        ap (λ (found : List (Result (List Entry) Part)). combined_lists union_of (all_or_first found))
        (same_values (λ (key : List ℕ). docs_under WithFreqsAndPositions key (slice_get index.readers field)) (λ (key : List ℕ). docs_under WithFreqsAndPositions key (slice_get other.readers field))
        (phrase_with index phrase) (phrase_with other phrase) each (keys_in last (slice_get index.readers field)) (keys_in last (slice_get other.readers field)) ranges.0)
    tree_same (queries.one_range range) terms ranges =
        let field = range.prefix.field in
        let f = λ (key : List ℕ). docs_under Basic key (slice_get index.readers field) in
        let g = λ (key : List ℕ). docs_under Basic key (slice_get other.readers field) in
        ap (λ (found : List (Result (List Entry) Part)). combined_lists union_of (all_or_first found))
        (same_values f g f g (λ key same. same) (keys_in range (slice_get index.readers field)) (keys_in range (slice_get other.readers field)) ranges.0)
    tree_same (queries.each_of qs) terms ranges = ap (combined_lists intersection_of) (trees_same qs terms ranges)
    tree_same (queries.any_of qs) terms ranges = ap (combined_lists union_of) (trees_same qs terms ranges)
    tree_same (queries.without first second) terms ranges =
        let t = both_all (SameTerm index other) (tree_terms first) (tree_terms second) terms in
        let r = both_all (SameRange index other) (tree_ranges first) (tree_ranges second) ranges in
        rw (tree_same first t.0 r.0, tree_same second t.1 r.1) refl

    trees_same : (qs : QueryTrees) → AllByRecursion (SameTerm index other) (trees_terms qs) → AllByRecursion (SameRange index other) (trees_ranges qs) → lists_found index qs ≡ lists_found other qs
    trees_same queries.no_tree terms ranges = refl
    trees_same (queries.tree q qs) terms ranges =
        let t = both_all (SameTerm index other) (tree_terms q) (trees_terms qs) terms in
        let r = both_all (SameRange index other) (tree_ranges q) (trees_ranges qs) ranges in
        rw (tree_same q t.0 r.0, trees_same qs t.1 r.1) refl

pub found_as_there : FoundAsThere
found_as_there query index other same = tree_same index other (tree_of query) same.terms same.ranges
