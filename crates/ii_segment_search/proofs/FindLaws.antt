-- The documents that match a query in an index of segments.
use Rattle.std.proofs.Common.{◌≡◌, ℕ, ◌+◌, ◌≤◌, Bool, true, false, List, [], ◌∷◌, ◌++◌, length, map, refl, sym, ap, subst, ◌∙◌, arith, append_assoc}
use Rattle.std.specs.Prelude.{filter}
use Rattle.std.specs.List.{AllByRecursion, range_with_len}
use Rattle.std.proofs.lemmas.List.Elements.{filter-append}
use Rattle.ii_base.specs.Schema.{SchemaEntry}
use Rattle.ii_alive.specs.Alive.{num_living, rank}
use Rattle.ii_query_parser.specs.declared.query.Query.{Query}
use Rattle.ii_query_parser.specs.Queries.{covers_docs, matches}
use Rattle.ii_segments.specs.Segments.{AreSegmentTokens, Segment, index_tokens, is_living, living_docs, num_docs_of}
use Rattle.ii_segments.proofs.CountLaws.{ranks_of_living}
use Rattle.ii_segment_search.specs.SegmentSearch.{FindsInSegments, found_in_segments}
use Rattle.ii_segment_search.proofs.LocalLaws.{search_is_local}
use Rattle.ii_segments.proofs.MergeLaws.{docs_of_both}
use Rattle.ii_definitions.proofs.ListLaws.{range_append}

filter_of_map : {A B : Type 0} (f : A → B) (p : B → Bool) (xs : List A) → filter p (map f xs) ≡ map f (filter (λ (x : A). p (f x)) xs)
filter_of_map f p [] = refl
filter_of_map f p (x ∷ xs) = by (p (f x)) refl (filter_of_map f p xs)
  where
    by : (b : Bool) → p (f x) ≡ b → filter p (map f xs) ≡ map f (filter (λ y. p (f y)) xs) → filter p (map f (x ∷ xs)) ≡ map f (filter (λ y. p (f y)) (x ∷ xs))
    by true kept others = rw kept (ap (λ (l : List _). f x ∷ l) others)
    by false lost others = rw lost others

filter_kept : {A : Type 0} (f g p : A → Bool) (xs : List A) → ((x : A) → p x ≡ true → f x ≡ g x) → filter f (filter p xs) ≡ filter g (filter p xs)
filter_kept f g p [] same = refl
filter_kept f g p (x ∷ xs) same = by (p x) refl (filter_kept f g p xs same)
  where
    tested : (b : Bool) → g x ≡ b → f x ≡ g x → filter f (filter p xs) ≡ filter g (filter p xs) → filter f (x ∷ filter p xs) ≡ filter g (x ∷ filter p xs)
    tested true is equal others = rw (equal ∙ is, is) (ap (λ (l : List _). x ∷ l) others)
    tested false not equal others = rw (equal ∙ not, not) others

    by : (b : Bool) → p x ≡ b → filter f (filter p xs) ≡ filter g (filter p xs) → filter f (filter p (x ∷ xs)) ≡ filter g (filter p (x ∷ xs))
    by true kept others = rw kept (tested (g x) refl (same x kept) others)
    by false lost others = rw lost others

module _ (entries : List SchemaEntry) (query : Query) (n : ℕ) (covers : covers_docs n query ≡ true) where
  -- the documents of one segment
  found_in_first : (before after : List Segment) (s : Segment) → AllByRecursion (AreSegmentTokens entries) (before ++ s ∷ after) → num_docs_of (before ++ s ∷ after) ≤ n → length s.alive ≤ n
      → filter (matches query (index_tokens (before ++ s ∷ after))) (range_with_len (num_docs_of before) (num_living s.alive))
      ≡ map (λ (doc : ℕ). num_docs_of before + rank s.alive doc) (filter (matches query s.tokens) (living_docs s.alive))
  found_in_first before after s are docs own =
      let found = matches query (index_tokens (before ++ s ∷ after)) in
      let number : ℕ → ℕ = λ doc. num_docs_of before + rank s.alive doc in
      ap (filter found) (sym (ranks_of_living (num_docs_of before) s.alive))
      ∙ filter_of_map number found (living_docs s.alive)
      ∙ ap (map number)
      (filter_kept (λ (doc : ℕ). found (number doc)) (matches query s.tokens) (is_living s.alive) (range_with_len 0 (length s.alive))
      (λ doc living. search_is_local entries query before after s doc n are living docs own covers))

  found_after : (before ss : List Segment) → AllByRecursion (AreSegmentTokens entries) (before ++ ss) → num_docs_of (before ++ ss) ≤ n → AllByRecursion (λ (s : Segment). length s.alive ≤ n) ss
      → filter (matches query (index_tokens (before ++ ss))) (range_with_len (num_docs_of before) (num_docs_of ss)) ≡ found_in_segments query (num_docs_of before) ss
  found_after before [] are docs own = refl
  found_after before (s ∷ ss) are docs own =
      let base = num_docs_of before in
      let living = num_living s.alive in
      let found = matches query (index_tokens (before ++ s ∷ ss)) in
      let joined : (before ++ s ∷ []) ++ ss ≡ before ++ s ∷ ss = append_assoc before (s ∷ []) ss in
      let next : num_docs_of (before ++ s ∷ []) ≡ base + living = let both = docs_of_both before (s ∷ []) in omega (arith, both) in
      let others : filter (matches query (index_tokens ((before ++ s ∷ []) ++ ss))) (range_with_len (num_docs_of (before ++ s ∷ [])) (num_docs_of ss)) ≡ found_in_segments query (num_docs_of (before ++ s ∷ [])) ss =
      found_after (before ++ s ∷ []) ss (subst (AllByRecursion (AreSegmentTokens entries)) (sym joined) are) (subst (λ (all : List Segment). num_docs_of all ≤ n) (sym joined) docs) own.1 in
      let later : filter found (range_with_len (base + living) (num_docs_of ss)) ≡ found_in_segments query (base + living) ss =
      ap (λ (all : List Segment). filter (matches query (index_tokens all)) (range_with_len (base + living) (num_docs_of ss))) (sym joined)
      ∙ ap (λ (m : ℕ). filter (matches query (index_tokens ((before ++ s ∷ []) ++ ss))) (range_with_len m (num_docs_of ss))) (sym next)
      ∙ others
      ∙ ap (λ (m : ℕ). found_in_segments query m ss) next in
      ap (filter found) (range_append base living (num_docs_of ss))
      ∙ filter-append found (range_with_len base living) (range_with_len (base + living) (num_docs_of ss))
      ∙ ap (λ (l : List ℕ). l ++ filter found (range_with_len (base + living) (num_docs_of ss))) (found_in_first before ss s are docs own.0)
      ∙ ap (λ (l : List ℕ). map (λ (doc : ℕ). base + rank s.alive doc) (filter (matches query s.tokens) (living_docs s.alive)) ++ l) later

pub finds_in_segments : FindsInSegments
finds_in_segments entries query ss n are docs own covers = found_after entries query n covers [] ss are docs own
