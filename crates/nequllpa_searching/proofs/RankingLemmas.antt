-- The best documents of open segments.
use Rattle.std.proofs.Common.{◌≡◌, ◌∙◌, ℕ, ◌+◌, ◌-◌, ◌^◌, ◌<◌, ◌≤◌, ◌&&◌, Bool, true, false, List, [], ◌∷◌, ap, arith, drop, if◌then◌else◌, length, map, min, nat_lt, refl, subst, sym, take}
use Rattle.std.specs.List.{All, AllByRecursion, AllZip, Contains, list_all}
use Rattle.std.proofs.lemmas.Bool.{and_parts, le-ltb, lt-ltb, ltb-true}
use Rattle.std.proofs.lemmas.List.{take_all}
use Rattle.std.proofs.lemmas.List.Elements.{All-contains_itself, All-drop, All-take}
use Rattle.std.proofs.lemmas.List.Sorted.{All-permutation}
use Rattle.ii_base.specs.Schema.{SchemaEntry}
use Rattle.ii_bm25.specs.Statistics.{Statistics}
use Rattle.ii_query_parser.specs.declared.query.Query.{Query}
use Rattle.ii_query_parser.specs.Queries.{has_fields}
use Rattle.ii_ranking.specs.Segments.{segments_scored}
use Rattle.ii_scorer.specs.declared.top_docs.TopDocs.{TopDocs}
use Rattle.ii_scorer.specs.TopDocs.{AreBest}
use Rattle.ii_segment_search.specs.Searcher.{HaveFields, OpenSegmentState, total_living}
use Rattle.ii_statistics.specs.Statistics.{AreSameFor, query_terms}
use Rattle.ii_statistics.proofs.StatisticsLaws.{same_segments, same_shares_in}
use Rattle.nequllpa_searching.specs.Explained.{IsExplained}
use Rattle.nequllpa_searching.specs.OpenedNumbers.{may_rank, open_segment, rankable}
use Rattle.nequllpa_opening.specs.declared.opened.Opened.{Opened}

-- ---- a test of each element, one after the other
module _ {A : Type 0} (f : A → Bool) (xs rest : List A) (x : A) (at : xs ≡ x ∷ rest) where
  step : (b : Bool) → f x ≡ b → list_all f xs ≡ (b && list_all f rest)
  step b is = ap (list_all f) at ∙ ap (λ (c : Bool). c && list_all f rest) is

  -- an element that fails
  pub each_fails : (all : Bool) → f x ≡ false → list_all f xs ≡ all → all ≡ false
  each_fails all is whole = sym whole ∙ step false is

  -- or the rest is left
  pub each_next : (all : Bool) → f x ≡ true → list_all f xs ≡ all → list_all f rest ≡ all
  each_next all is whole = sym (step true is) ∙ whole

pub each_ended : {A : Type 0} (f : A → Bool) (xs : List A) (all : Bool) → xs ≡ [] → list_all f xs ≡ all → all ≡ true
each_ended f xs all none whole = sym whole ∙ ap (list_all f) none

-- one number more of a sum that is cut
pub capped : (sum count new later both all : ℕ) → new ≡ min (sum + count) (2 ^ 64 - 1) → both ≡ count + later → min (2 ^ 64 - 1) (sum + both) ≡ all → min (2 ^ 64 - 1) (new + later) ≡ all
capped sum count new later both all added parted whole = omega (arith, added, parted, whole)

-- ---- segments that can be ranked
module _ (query : Query) where
  abbrev fields_of : Opened → Bool
  fields_of o = has_fields (length o.index.readers) query

  each_has : (os : List Opened) → list_all fields_of os ≡ true → HaveFields query (map open_segment os)
  each_has [] is = tt
  each_has (o ∷ os) is = let h = and_parts (fields_of o) (list_all fields_of os) is in (h.0, each_has os h.1)

  pub may_fields : (os : List Opened) → may_rank query os ≡ true → HaveFields query (map open_segment os)
  may_fields os may = each_has os (and_parts (list_all fields_of os) (nat_lt (total_living (map open_segment os)) (2 ^ 32)) may).0

  pub may_few : (os : List Opened) → may_rank query os ≡ true → total_living (map open_segment os) < 2 ^ 32
  may_few os may = ltb-true (total_living (map open_segment os)) (2 ^ 32) (and_parts (list_all fields_of os) (nat_lt (total_living (map open_segment os)) (2 ^ 32)) may).1

  -- none are ranked that lack a field
  pub none_without_fields : (os : List Opened) → list_all fields_of os ≡ false → 0 ≡ length (rankable query os)
  none_without_fields os is = rw is refl

  -- or are too many
  pub none_of_many : (os : List Opened) (n : ℕ) → list_all fields_of os ≡ true → n ≡ min (2 ^ 64 - 1) (total_living (map open_segment os)) → 4294967295 < n → 0 ≡ length (rankable query os)
  none_of_many os n is cut many =
      let large : nat_lt (total_living (map open_segment os)) 4294967296 ≡ false = le-ltb (total_living (map open_segment os)) 4294967296 (omega (arith, cut, many)) in
      rw (is, large) refl

  pub all_of_few : (os : List Opened) (n : ℕ) → list_all fields_of os ≡ true → n ≡ min (2 ^ 64 - 1) (total_living (map open_segment os)) → n ≤ 4294967295 → length os ≡ length (rankable query os)
  all_of_few os n is cut few =
      let small : nat_lt (total_living (map open_segment os)) 4294967296 ≡ true = lt-ltb (total_living (map open_segment os)) 4294967296 (omega (arith, cut, few)) in
      rw (is, small) refl

  -- the first of them, as many as are ranked
  pub ranked_first : (os first : List Opened) (n : ℕ) → first ≡ take n os → n ≡ length (rankable query os) → first ≡ rankable query os
  ranked_first os first n is many = is ∙ ap (λ (k : ℕ). take k os) many ∙ by (may_rank query os) refl
    where
      by : (may : Bool) → may_rank query os ≡ may → take (length (rankable query os)) os ≡ rankable query os
      by true may = rw may (take_all (length os) os (omega arith))
      by false may = rw may refl

  pub ranked_may : (os : List Opened) → may_rank query (rankable query os) ≡ true
  ranked_may os = by (may_rank query os) refl
    where
      by : (may : Bool) → may_rank query os ≡ may → may_rank query (rankable query os) ≡ true
      by true may = ap (may_rank query) (ap (λ (b : Bool). if b then os else []) may) ∙ may
      by false may = ap (may_rank query) (ap (λ (b : Bool). if b then os else []) may)

-- ---- by numbers that are the same
zip_weaker : {A B : Type 0} (R S : A → B → Type 0) (xs : List A) (ys : List B) → ((x : A) (y : B) → R x y → S x y) → AllZip R xs ys → AllZip S xs ys
zip_weaker R S [] [] weaker zip = tt
zip_weaker R S [] (y ∷ ys) weaker zip = absurd zip
zip_weaker R S (x ∷ xs) [] weaker zip = absurd zip
zip_weaker R S (x ∷ xs) (y ∷ ys) weaker zip = (weaker x y zip.0, zip_weaker R S xs ys weaker zip.1)

module _ (a b : Statistics) (docs : a.num_docs ≡ b.num_docs) (query : Query) (same : AllByRecursion (AreSameFor a b) (query_terms query)) (segments : List OpenSegmentState) where
  -- the best are the same
  pub best_alike : (how : TopDocs) (best : List (ℕ × ℕ)) → AreBest how (segments_scored a query 0 segments) best → AreBest how (segments_scored b query 0 segments) best
  best_alike how best are = subst (λ (scored : List (ℕ × ℕ)). AreBest how scored best) (same_segments a b docs query same 0 segments) are

  -- and what their scores are made of
  pub explained_alike : (is_json : Bool) (entries : List SchemaEntry) (best : List (ℕ × ℕ)) (texts : List (List ℕ)) → AllZip (IsExplained a query segments is_json entries) best texts → AllZip (IsExplained b query segments is_json entries) best texts
  explained_alike is_json entries best texts all =
      zip_weaker (IsExplained a query segments is_json entries) (IsExplained b query segments is_json entries) best texts
      (λ one text h. record {
        shares = h.shares;
        are = record {
          here = λ before after s doc is lives number. h.are.here before after s doc is lives number ∙ same_shares_in a b docs query same s doc;
          none = h.are.none;
        };
        sum = h.sum;
        prints = h.prints;
      }) all

-- the best documents are of those that have a score
pub best_scored : (docs : TopDocs) (scored best : List (ℕ × ℕ)) → AreBest docs scored best → All (Contains scored) best
best_scored docs scored best b =
    subst (All (Contains scored)) (sym b.best_are) (All-take (Contains scored) docs.limit (drop docs.offset b.ranked)
    (All-drop (Contains scored) docs.offset b.ranked (All-permutation (Contains scored) scored b.ranked b.are_ranked.same (All-contains_itself scored))))
