-- The numbers that are counted for a query are those of the segments.
use Rattle.std.proofs.Common.{◌≡◌, ◌∙◌, ◌⊎◌, inl, inr, ℕ, suc, ◌+◌, ◌<◌, ◌≤◌, ◌==◌, ◌&&◌, Bool, true, false, List, [], ◌∷◌, add-one, ap, arith, bytes_eq, drop, get_or, length, map, refl, sym, true≢false}
use Rattle.std.specs.List.{AllByRecursion}
use Rattle.std.specs.Cmp.Lexicographic.{bytes_decides}
use Rattle.std.proofs.Math.Seq.{drop-cons}
use Rattle.std.proofs.lemmas.List.{drop_all, length-map}
use Rattle.std.proofs.lemmas.Bool.{and_parts, eq-eqb, eqb-true}
use Rattle.ii_base.specs.Terms.{TermState}
use Rattle.ii_definitions.proofs.ListLaws.{mapped_at}
use Rattle.ii_segment_search.specs.Searcher.{OpenSegmentState}
use Rattle.ii_statistics.specs.Statistics.{AreSameFor, CountsState, counts_of_term, counts_view, doc_freq_in, freq_of, query_statistics, segments_statistics, tokens_of}
use Rattle.ii_statistics.specs.declared.statistics.QueryStatistics.{QueryStatistics}
use Rattle.ii_statistics.specs.declared.statistics.TermCounts.{TermCounts}

-- A term is one of some.
abbrev IsIn : TermState → List TermState → Type 0
IsIn t [] = ⊥
IsIn t (x ∷ xs) = (x ≡ t) ⊎ IsIn t xs

-- what holds of each term holds of all
each_in : (P : TermState → Type 0) (left : List TermState) → ((t : TermState) → IsIn t left → P t) → AllByRecursion P left
each_in P [] each = tt
each_in P (x ∷ xs) each = (each x (inl refl), each_in P xs (λ t inside. each t (inr inside)))

-- a test of a field and a key tells a term
same_terms : (x t : TermState) → ((x.field == t.field) && bytes_eq x.value t.value) ≡ true → x ≡ t
same_terms x t is =
    let h = and_parts (x.field == t.field) (bytes_eq x.value t.value) is in
    let field : x.field ≡ t.field = eqb-true x.field t.field h.0 in
    let value : x.value ≡ t.value = (bytes_decides x.value t.value).0 h.1 in
    λ j. record { field = field j; value = value j }

same_test : (x t : TermState) → x ≡ t → ((x.field == t.field) && bytes_eq x.value t.value) ≡ true
same_test x t same = rw (eq-eqb x.field t.field (ap (λ (s : TermState). s.field) same), (bytes_decides x.value t.value).1 (ap (λ (s : TermState). s.value) same)) refl

module _ (by_field : ℕ → ℕ) (segments : List OpenSegmentState) where
  -- the first number of documents with the key of a term is that of the term
  freq_found : (all : List TermState) (t : TermState) → IsIn t all → freq_of (map (counts_of_term by_field segments) all) t.field t.value ≡ doc_freq_in segments t
  freq_found [] t inside = absurd inside
  freq_found (x ∷ xs) t inside = by (λ later. freq_found xs t later) ((x.field == t.field) && bytes_eq x.value t.value) refl inside
    where
      by : (IsIn t xs → freq_of (map (counts_of_term by_field segments) xs) t.field t.value ≡ doc_freq_in segments t) → (b : Bool) → ((x.field == t.field) && bytes_eq x.value t.value) ≡ b → IsIn t (x ∷ xs)
          → freq_of (map (counts_of_term by_field segments) (x ∷ xs)) t.field t.value ≡ doc_freq_in segments t
      by others true is inside = rw is (ap (doc_freq_in segments) (same_terms x t is))
      by others false is (inl same) = absurd (true≢false (sym (same_test x t same) ∙ is))
      by others false is (inr later) = rw is (others later)

  -- the first number of tokens of a field is that of the field
  tokens_found : (all : List TermState) (t : TermState) → IsIn t all → tokens_of (map (counts_of_term by_field segments) all) t.field ≡ by_field t.field
  tokens_found [] t inside = absurd inside
  tokens_found (x ∷ xs) t inside = by (λ later. tokens_found xs t later) (x.field == t.field) refl inside
    where
      by : (IsIn t xs → tokens_of (map (counts_of_term by_field segments) xs) t.field ≡ by_field t.field) → (b : Bool) → (x.field == t.field) ≡ b → IsIn t (x ∷ xs)
          → tokens_of (map (counts_of_term by_field segments) (x ∷ xs)) t.field ≡ by_field t.field
      by others true is inside = rw is (ap by_field (eqb-true x.field t.field is))
      by others false is (inl same) = absurd (true≢false (sym (eq-eqb x.field t.field (ap (λ (u : TermState). u.field) same)) ∙ is))
      by others false is (inr later) = rw is (others later)

  -- what was counted for terms is what the segments have
  pub counted_same : (q : QueryStatistics) (terms : List TermState) → map counts_view q.terms.items ≡ map (counts_of_term by_field segments) terms → AllByRecursion (AreSameFor (query_statistics q) (segments_statistics by_field segments)) terms
  counted_same q terms are = each_in (AreSameFor (query_statistics q) (segments_statistics by_field segments)) terms (λ t inside. record {
    num_tokens = ap (λ (cs : List CountsState). tokens_of cs t.field) are ∙ tokens_found terms t inside;
    doc_freq = ap (λ (cs : List CountsState). freq_of cs t.field t.value) are ∙ freq_found terms t inside;
  })

-- ---- what is at a place
pub dropped_at : {A : Type 0} (xs : List A) (i : ℕ) (x : A) → i < length xs → x ≡ get_or xs i x → drop i xs ≡ x ∷ drop (i + 1) xs
dropped_at xs i x inside is = drop-cons xs i x inside ∙ ap (λ y. y ∷ drop (suc i) xs) (sym is) ∙ ap (λ (n : ℕ). x ∷ drop n xs) (sym (add-one i))

counts_at : (cs : List TermCounts) (i : ℕ) (c : TermCounts) → i < length cs → c ≡ get_or cs i c → drop i (map counts_view cs) ≡ counts_view c ∷ drop (i + 1) (map counts_view cs)
counts_at cs i c inside is = mapped_at counts_view cs i c inside is

module _ (cs : List TermCounts) (i : ℕ) where
  module _ (c : TermCounts) (inside : i < length cs) (is : c ≡ get_or cs i c) where
    -- the numbers are of the term
    pub freq_here : (field : ℕ) (key : List ℕ) → ((c.term.now.field == field) && bytes_eq c.term.now.value key) ≡ true → freq_of (drop i (map counts_view cs)) field key ≡ c.doc_freq
    freq_here field key test = ap (λ (ds : List CountsState). freq_of ds field key) (counts_at cs i c inside is) ∙ rw test refl

    pub tokens_here : (field : ℕ) → (c.term.now.field == field) ≡ true → tokens_of (drop i (map counts_view cs)) field ≡ c.num_tokens
    tokens_here field test = ap (λ (ds : List CountsState). tokens_of ds field) (counts_at cs i c inside is) ∙ rw test refl

    -- or those that are left may be
    pub freq_later : (field : ℕ) (key : List ℕ) → ((c.term.now.field == field) && bytes_eq c.term.now.value key) ≡ false → freq_of (drop (i + 1) (map counts_view cs)) field key ≡ freq_of (drop i (map counts_view cs)) field key
    freq_later field key test = sym (ap (λ (ds : List CountsState). freq_of ds field key) (counts_at cs i c inside is) ∙ rw test refl)

    pub tokens_later : (field : ℕ) → (c.term.now.field == field) ≡ false → tokens_of (drop (i + 1) (map counts_view cs)) field ≡ tokens_of (drop i (map counts_view cs)) field
    tokens_later field test = sym (ap (λ (ds : List CountsState). tokens_of ds field) (counts_at cs i c inside is) ∙ rw test refl)

  -- no numbers are left
  pub freq_none : (field : ℕ) (key : List ℕ) → length cs ≤ i → freq_of (drop i (map counts_view cs)) field key ≡ 0
  freq_none field key end = let many = length-map cs counts_view in ap (λ (ds : List CountsState). freq_of ds field key) (drop_all i (map counts_view cs) (omega (arith, many, end)))

  pub tokens_none : (field : ℕ) → length cs ≤ i → tokens_of (drop i (map counts_view cs)) field ≡ 0
  tokens_none field end = let many = length-map cs counts_view in ap (λ (ds : List CountsState). tokens_of ds field) (drop_all i (map counts_view cs) (omega (arith, many, end)))
