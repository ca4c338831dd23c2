-- The living documents that segments list for a query, counted segment by segment.
use Rattle.std.proofs.Common.{◌≡◌, ◌∙◌, inl, inr, ℕ, zero, suc, ◌+◌, ◌<◌, ◌≤◌, Bool, true, not, List, [], ◌∷◌, ◌++◌, None, Some, Result, Ok, Err, append-nil, append_assoc, ap, arith, drop, filter, length, length-append, refl, subst, sym}
use Rattle.std.specs.List.{AllByRecursion}
use Rattle.std.proofs.lemmas.List.{length-map}
use Rattle.std.proofs.lemmas.List.Filters.{length-filter_both}
use Rattle.ii_alive.specs.Alive.{num_living, rank}
use Rattle.ii_base.specs.Entries.{Entry}
use Rattle.ii_base.specs.Terms.{TermState}
use Rattle.ii_base.specs.declared.schema.index_record_option.IndexRecordOption.TheVariants.{Basic}
use Rattle.ii_definitions.proofs.ListLaws.{all_both, all_weaker}
use Rattle.ii_docset.specs.Alive.{alive_in}
use Rattle.ii_docset.specs.Cursor.{IsAscending}
use Rattle.ii_docset.specs.Intersection.{has_doc}
use Rattle.ii_io.specs.declared.faults.Fault.{Fault}
use Rattle.ii_io.specs.declared.faults.Part.{Part}
use Rattle.ii_living_docs.proofs.FoundLemmas.{living_found}
use Rattle.ii_query_parser.specs.declared.query.Query.{Query}
use Rattle.ii_query_parser.specs.declared.query.Query.TheVariants.{Term}
use Rattle.ii_query_parser.specs.Queries.{has_fields}
use Rattle.ii_query_parser.proofs.QueryLemmas.{term_tree}
use Rattle.ii_ranking.specs.Scores.{IsScoreFault, damage_of}
use Rattle.ii_reader.specs.InvertedIndexReader.{IsRefusal}
use Rattle.ii_reader.specs.OpenIndex.{OpenIndexState}
use Rattle.ii_search.specs.Found.{combined, docs_of_term, found_in, tree_found}
use Rattle.ii_segments.specs.Segments.{entry_at_rank, is_living, living_docs, living_entries}
use Rattle.ii_segments.proofs.CountLaws.{living_length}
use Rattle.ii_segment_search.specs.Searcher.{HaveFields, OpenSegmentState, found_from, total_living}
use Rattle.ii_statistics.specs.Listed.{CountsLiving, HaveField, IsListed}
use Rattle.ii_statistics.specs.Statistics.{num_found, query_terms}
use Rattle.ii_statistics.proofs.TermLemmas.{terms_below}

-- ---- how many they are
many_living : (base : ℕ) (alive : List Bool) (es : List Entry) → length (living_entries base alive es) ≡ alive_in alive es
many_living base alive es = length-map (filter (λ (e : Entry). is_living alive e.doc) es) (entry_at_rank base alive)

-- no more than all living documents
pub living_few : (alive : List Bool) (es : List Entry) → IsAscending es → alive_in alive es ≤ num_living alive
living_few alive es up =
    let number : ℕ → ℕ = λ doc. 0 + rank alive doc in
    let found = living_found 0 alive (has_doc es) es up (λ doc. refl) in
    let kept = filter (has_doc es) (living_docs alive) in
    let same : alive_in alive es ≡ length kept =
    sym (many_living 0 alive es) ∙ sym (length-map (living_entries 0 alive es) (λ (e : Entry). e.doc)) ∙ ap length found ∙ length-map kept number in
    let less = length-filter_both (has_doc es) (λ x. not (has_doc es x)) (λ x. refl) (living_docs alive) in
    omega (arith, same, living_length alive, less)

-- ---- one segment after the other
module _ (query : Query) where
  -- how many living documents are in a list that opens
  abbrev freq_of_list : List Bool → Result (List Entry) Part → ℕ
  freq_of_list alive (Ok es) = alive_in alive es
  freq_of_list alive (Err part) = 0

  -- how many living documents of segments their lists have
  abbrev pub freqs : List OpenSegmentState → ℕ
  freqs [] = 0
  freqs (s ∷ ss) = freq_of_list s.alive (found_in s.index query) + freqs ss

  -- What is found in segments, as many documents as their lists have.
  record FindsAll (base : ℕ) (segments : List OpenSegmentState) : Type 0 where
    es : List Entry
    is : found_from query base segments ≡ Ok es
    many : length es ≡ freqs segments

  finds_all : (base : ℕ) (segments : List OpenSegmentState) → AllByRecursion (IsListed query) segments → FindsAll base segments
  finds_all base [] listed = record { es = []; is = refl; many = refl }
  finds_all base (s ∷ ss) listed =
      let first = listed.0 in
      let later = finds_all (base + num_living s.alive) ss listed.1 in
      let living = living_entries base s.alive first.es in
      let here : length living ≡ freq_of_list s.alive (found_in s.index query) = many_living base s.alive first.es ∙ sym (ap (freq_of_list s.alive) first.found) in
      record {
        es = living ++ later.es;
        is = rw (first.found, later.is) refl;
        many = length-append living later.es ∙ (λ j. here j + later.many j);
      }

  -- so their number is the sum
  pub freqs_found : (base : ℕ) (segments : List OpenSegmentState) → AllByRecursion (IsListed query) segments → num_found (found_from query base segments) ≡ freqs segments
  freqs_found base segments listed = let h = finds_all base segments listed in ap num_found h.is ∙ h.many

  -- and no list is damaged
  pub listed_sound : (base : ℕ) (segments : List OpenSegmentState) → AllByRecursion (IsListed query) segments → damage_of (found_from query base segments) ≡ None
  listed_sound base segments listed = ap damage_of (finds_all base segments listed).is

  damage_next : (base : ℕ) (s : OpenSegmentState) (ss : List OpenSegmentState) (es : List Entry) → found_in s.index query ≡ Ok es → damage_of (found_from query base (s ∷ ss)) ≡ damage_of (found_from query (base + num_living s.alive) ss)
  damage_next base s ss es found = rw found (by (found_from query (base + num_living s.alive) ss))
    where
      by : (r : Result (List Entry) Part) → damage_of (combined (λ (fs gs : List Entry). living_entries base s.alive fs ++ gs) (Ok es) r) ≡ damage_of r
      by (Ok gs) = refl
      by (Err part) = refl

  damage_here : (base : ℕ) (s : OpenSegmentState) (ss : List OpenSegmentState) (part : Part) → found_in s.index query ≡ Err part → damage_of (found_from query base (s ∷ ss)) ≡ Some part
  damage_here base s ss part failed = rw failed refl

  -- The living documents of the segments that were taken from a list were added up.
  pub record IsAdding (all left : List OpenSegmentState) (total : ℕ) : Type 0 where
    pub base : ℕ
    pub taken : List OpenSegmentState
    pub whole : taken ++ left ≡ all
    pub added : total + freqs left ≡ freqs all
    pub sound : damage_of (found_from query base left) ≡ damage_of (found_from query 0 all)
    pub few : total ≤ base
    pub living : base + total_living left ≡ total_living all
    pub listed : AllByRecursion (IsListed query) taken

  pub adding_first : (all : List OpenSegmentState) → IsAdding all all 0
  adding_first all = record { base = 0; taken = []; whole = refl; added = omega arith; sound = refl; few = omega arith; living = omega arith; listed = tt }

  module _ (all left rest : List OpenSegmentState) (total : ℕ) (s : OpenSegmentState) (at : left ≡ s ∷ rest) (h : IsAdding all left total) where
    living_at : h.base + num_living s.alive + total_living rest ≡ total_living all
    living_at = let living = h.living in let step = ap total_living at in omega (arith, living, step)

    -- one segment more has no more documents than all
    pub adding_few : (n : ℕ) → CountsLiving (found_in s.index query) s.alive n → total_living all < 4294967296 → total + n < 4294967296
    adding_few n counts few =
        let own = living_few s.alive counts.es counts.ascending in
        let many = counts.many in
        let before = h.few in
        let living = living_at in
        omega (arith, own, many, before, living, few)

    pub adding_next : (n new : ℕ) → CountsLiving (found_in s.index query) s.alive n → new ≡ total + n → IsAdding all rest new
    adding_next n new counts is =
        let own = living_few s.alive counts.es counts.ascending in
        let many = counts.many in
        let before = h.few in
        let freq = ap (freq_of_list s.alive) counts.opens in
        let step = ap freqs at in
        let whole = h.added in
        record {
          base = h.base + num_living s.alive;
          taken = h.taken ++ s ∷ [];
          whole = append_assoc h.taken (s ∷ []) rest ∙ ap (λ (ss : List OpenSegmentState). h.taken ++ ss) (sym at) ∙ h.whole;
          added = omega (arith, freq, step, whole, many, is);
          sound = sym (damage_next h.base s rest counts.es counts.opens) ∙ sym (ap (λ (ss : List OpenSegmentState). damage_of (found_from query h.base ss)) at) ∙ h.sound;
          few = omega (arith, own, many, before, is);
          living = living_at;
          listed = all_both (IsListed query) h.taken (s ∷ []) h.listed (record { es = counts.es; found = counts.opens; ascending = counts.ascending }, tt);
        }

    pub adding_refused : (fault : Fault) → IsRefusal (found_in s.index query) fault → IsScoreFault (damage_of (found_from query 0 all)) fault
    adding_refused fault (inl memory) = inl memory
    adding_refused fault (inr (part, is, failed)) =
        inr (part, is, sym h.sound ∙ ap (λ (ss : List OpenSegmentState). damage_of (found_from query h.base ss)) at ∙ damage_here h.base s rest part failed)

  module _ (all left : List OpenSegmentState) (total : ℕ) (none : left ≡ []) (h : IsAdding all left total) where
    pub added_listed : AllByRecursion (IsListed query) all
    added_listed = subst (AllByRecursion (IsListed query)) (sym (append-nil h.taken) ∙ ap (λ (ss : List OpenSegmentState). h.taken ++ ss) (sym none) ∙ h.whole) h.listed

    pub added_all : total ≡ num_found (found_from query 0 all)
    added_all =
        let sum = freqs_found 0 all added_listed in
        let whole = h.added in
        let left = ap freqs none in
        omega (arith, sum, whole, left)

-- ---- terms
-- the documents of a term, by its query
pub term_found : (index : OpenIndexState) (term : TermState) → found_in index (Term term) ≡ docs_of_term Basic index term
term_found index term = ap (tree_found index) (term_tree term)

-- what holds of each element of a list holds of the one at a place
pub all_dropped : {A : Type 0} (P : A → Type 0) (xs : List A) (i : ℕ) (x : A) (rest : List A) → AllByRecursion P xs → drop i xs ≡ x ∷ rest → P x
all_dropped P [] zero x rest all at = absurd (cc)
all_dropped P [] (suc i) x rest all at = absurd (cc)
all_dropped P (y ∷ ys) zero x rest all at = let same : y ≡ x = cc in subst P same all.0
all_dropped P (y ∷ ys) (suc i) x rest all at = all_dropped P ys i x rest all.1 at

each_of_each : (P : OpenSegmentState → TermState → Type 0) (segments : List OpenSegmentState) (terms : List TermState) → AllByRecursion (λ (s : OpenSegmentState). AllByRecursion (P s) terms) segments
    → AllByRecursion (λ (t : TermState). AllByRecursion (λ (s : OpenSegmentState). P s t) segments) terms
each_of_each P segments [] all = tt
each_of_each P segments (t ∷ ts) all =
    let both : OpenSegmentState → Type 0 = λ s. P s t × AllByRecursion (P s) ts in
    (all_weaker both (λ (s : OpenSegmentState). P s t) segments (λ s h. h.0) all, each_of_each P segments ts (all_weaker both (λ (s : OpenSegmentState). AllByRecursion (P s) ts) segments (λ s h. h.1) all))

-- the fields of a query's terms are those of each segment
pub terms_known : (query : Query) (segments : List OpenSegmentState) → HaveFields query segments → AllByRecursion (λ (t : TermState). HaveField segments t.field) (query_terms query)
terms_known query segments fields =
    each_of_each (λ (s : OpenSegmentState) (t : TermState). t.field < length s.index.readers) segments (query_terms query)
    (all_weaker (λ (s : OpenSegmentState). has_fields (length s.index.readers) query ≡ true) (λ (s : OpenSegmentState). AllByRecursion (λ (t : TermState). t.field < length s.index.readers) (query_terms query)) segments
    (λ s has. terms_below (length s.index.readers) query has) fields)
