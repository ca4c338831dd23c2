-- Segments that have what a query reads of other ones have as many documents with each of its terms.
use Rattle.std.proofs.Common.{◌≡◌, ◌∙◌, ℕ, ◌+◌, Bool, true, false, ◌&&◌, ◌||◌, ◌==◌, List, [], ◌∷◌, ◌++◌, bytes_eq, eq-eqb, map, refl, sym, ap}
use Rattle.std.specs.Prelude.{slice_get}
use Rattle.std.specs.List.{AllByRecursion, list_any}
use Rattle.std.proofs.Math.Bool.{or-true}
use Rattle.std.proofs.lemmas.Slice.Eq.{bytes_eq-Decides}
use Rattle.ii_alive.specs.Alive.{num_living}
use Rattle.ii_base.specs.Terms.{TermState}
use Rattle.ii_base.specs.declared.schema.index_record_option.IndexRecordOption.TheVariants.{Basic}
use Rattle.ii_definitions.proofs.ListLaws.{all_both}
use Rattle.ii_query_parser.specs.declared.query.PhraseTerm.{PhraseTerm}
use Rattle.ii_query_parser.specs.declared.query.Query.{Query}
use Rattle.ii_query_parser.specs.declared.query.Query.TheVariants.{Term}
use Rattle.ii_query_parser.specs.Queries as queries
use Rattle.ii_query_parser.specs.Queries.{QueryTree, QueryTrees, tree_of}
use Rattle.ii_search.specs.Found.{found_in}
use Rattle.ii_segment_search.specs.Searcher.{OpenSegmentState, found_from, total_living}
use Rattle.ii_statistics.proofs.ListedLemmas.{term_found}
use Rattle.ii_statistics.specs.Statistics as statistics
use Rattle.ii_statistics.specs.Statistics.{doc_freq_in, num_found}
use Rattle.ii_warmup.specs.QueryTerms.{QueryTermState, names_key, phrase_requests, query_ranges, requested_terms, serves, tree_terms, trees_terms, with_positions}
use Rattle.ii_part_ranking.specs.PartStatistics.{ArePartSegments, PartsCountTheSame}
use Rattle.ii_part_ranking.proofs.PartLemmas.{same_docs}

-- whether a term of a query is this one
abbrev is_term : TermState → QueryTermState → Bool
is_term t u = serves Basic u.option && (u.term.field == t.field) && bytes_eq u.term.value t.value

-- A term is one of those that a query reads.
abbrev IsAmongTerms : List QueryTermState → TermState → Type 0
IsAmongTerms all t = list_any (is_term t) all ≡ true

itself : (t : TermState) → ((t.field == t.field) && bytes_eq t.value t.value) ≡ true
itself t = rw (eq-eqb t.field t.field refl, (bytes_eq-Decides t.value t.value).1 refl) refl

or_first : (a r s : Bool) → (r ≡ true → s ≡ true) → (a || r) ≡ true → (a || s) ≡ true
or_first true r s more h = refl
or_first false r s more h = more h

any_before : (f : QueryTermState → Bool) (xs ys : List QueryTermState) → list_any f xs ≡ true → list_any f (xs ++ ys) ≡ true
any_before f [] ys h = absurd (cc)
any_before f (x ∷ xs) ys h = or_first (f x) (list_any f xs) (list_any f (xs ++ ys)) (λ more. any_before f xs ys more) h

any_after : (f : QueryTermState → Bool) (xs ys : List QueryTermState) → list_any f ys ≡ true → list_any f (xs ++ ys) ≡ true
any_after f [] ys h = h
any_after f (x ∷ xs) ys h = rw (any_after f xs ys h) (or-true (f x))

among_before : (xs ys : List QueryTermState) (ts : List TermState) → AllByRecursion (IsAmongTerms xs) ts → AllByRecursion (IsAmongTerms (xs ++ ys)) ts
among_before xs ys [] h = tt
among_before xs ys (t ∷ ts) h = (any_before (is_term t) xs ys h.0, among_before xs ys ts h.1)

among_after : (xs ys : List QueryTermState) (ts : List TermState) → AllByRecursion (IsAmongTerms ys) ts → AllByRecursion (IsAmongTerms (xs ++ ys)) ts
among_after xs ys [] h = tt
among_after xs ys (t ∷ ts) h = (any_after (is_term t) xs ys h.0, among_after xs ys ts h.1)

later_among : (others : List PhraseTerm) → AllByRecursion (IsAmongTerms (phrase_requests others)) (map (λ (o : PhraseTerm). o.term) others)
later_among [] = tt
later_among (o ∷ os) = (rw (itself o.term) refl, among_after (phrase_requests (o ∷ [])) (phrase_requests os) (map (λ (p : PhraseTerm). p.term) os) (later_among os))

-- the terms of a query that count for its scores are among those that it reads
mutual
  terms_among : (q : QueryTree) → AllByRecursion (IsAmongTerms (tree_terms q)) (statistics.tree_terms q)
  terms_among queries.nothing = tt
  terms_among (queries.all_below n) = tt
  terms_among (queries.one_term term) = (rw (itself term) refl, tt)
  terms_among (queries.one_phrase first others slop) =
      (rw (itself first) refl, among_after (with_positions first ∷ []) (phrase_requests others) (map (λ (o : PhraseTerm). o.term) others) (later_among others))
  terms_among (queries.one_phrase_prefix phrase) = tt
  terms_among (queries.one_range range) = tt
  terms_among (queries.each_of qs) = all_among qs
  terms_among (queries.any_of qs) = all_among qs
  terms_among (queries.without first other) =
      all_both (IsAmongTerms (tree_terms first ++ tree_terms other)) (statistics.tree_terms first) (statistics.tree_terms other)
      (among_before (tree_terms first) (tree_terms other) (statistics.tree_terms first) (terms_among first))
      (among_after (tree_terms first) (tree_terms other) (statistics.tree_terms other) (terms_among other))

  all_among : (qs : QueryTrees) → AllByRecursion (IsAmongTerms (trees_terms qs)) (statistics.trees_terms qs)
  all_among queries.no_tree = tt
  all_among (queries.tree q qs) =
      all_both (IsAmongTerms (tree_terms q ++ trees_terms qs)) (statistics.tree_terms q) (statistics.trees_terms qs)
      (among_before (tree_terms q) (trees_terms qs) (statistics.tree_terms q) (terms_among q))
      (among_after (tree_terms q) (trees_terms qs) (statistics.trees_terms qs) (all_among qs))

same_in_each : (query : Query) (t : TermState) (base : ℕ) (parts whole : List OpenSegmentState) → IsAmongTerms (requested_terms query) t → ArePartSegments query parts whole → found_from (Term t) base parts ≡ found_from (Term t) base whole
same_in_each query t base [] [] among h = refl
same_in_each query t base [] (w ∷ ws) among h = absurd h
same_in_each query t base (p ∷ ps) [] among h = absurd h
same_in_each query t base (p ∷ ps) (w ∷ ws) among h =
    let named : names_key Basic (requested_terms query) (query_ranges query) t.field t.value ≡ true = rw among refl in
    let docs = same_docs Basic refl (requested_terms query) (query_ranges query) t.field t.value (slice_get p.index.readers t.field) (slice_get w.index.readers t.field) (h.0.0 t.field) named in
    let found : found_in p.index (Term t) ≡ found_in w.index (Term t) = term_found p.index t ∙ docs ∙ sym (term_found w.index t) in
    let rest = same_in_each query t (base + num_living p.alive) ps ws among h.1 in
    rw (found, rest, h.0.1) refl

same_living : (query : Query) (parts whole : List OpenSegmentState) → ArePartSegments query parts whole → total_living parts ≡ total_living whole
same_living query [] [] h = refl
same_living query [] (w ∷ ws) h = absurd h
same_living query (p ∷ ps) [] h = absurd h
same_living query (p ∷ ps) (w ∷ ws) h = rw (h.0.1, same_living query ps ws h.1) refl

same_freqs : (query : Query) (parts whole : List OpenSegmentState) → ArePartSegments query parts whole → (ts : List TermState) → AllByRecursion (IsAmongTerms (requested_terms query)) ts → AllByRecursion (λ (t : TermState). doc_freq_in parts t ≡ doc_freq_in whole t) ts
same_freqs query parts whole h [] among = tt
same_freqs query parts whole h (t ∷ ts) among = (ap num_found (same_in_each query t 0 parts whole among.0 h), same_freqs query parts whole h ts among.1)

pub parts_count_the_same : PartsCountTheSame
parts_count_the_same query parts whole h = (same_living query parts whole h, same_freqs query parts whole h (statistics.query_terms query) (terms_among (tree_of query)))
