-- A document of segments scores by the tokens of all of them what it scores by those of its own segment.
use Rattle.std.proofs.Common.{◌≡◌, ◌∙◌, ℕ, zero, suc, ◌+◌, ◌<◌, ◌≤◌, ◌≢◌, ◌==◌, ◌&&◌, Bool, true, false, true≢false, List, [], ◌∷◌, ◌++◌, None, Some, filter, if◌then◌else◌, length, map, min, nat_eq, refl, sym, ap, arith}
use Rattle.std.specs.Prelude.{count_by}
use Rattle.std.specs.List.{AllByRecursion, list_any}
use Rattle.std.proofs.lemmas.Bool.{and_parts, ne_eqb}
use Rattle.std.proofs.lemmas.List.Sums.{sum_by-append, sum_by-cons}
use Rattle.ii_base.specs.Options.{has_freq}
use Rattle.ii_base.specs.Schema.{SchemaEntry}
use Rattle.ii_base.specs.Terms.{TermState}
use Rattle.ii_alive.specs.Alive.{num_living, rank}
use Rattle.ii_alive.proofs.RankLemmas.{one, rank_below}
use Rattle.ii_bm25.specs.Bm25.{bm25_score, bm25_weight}
use Rattle.ii_bm25.specs.Statistics.{Statistics, idfs_of}
use Rattle.ii_bm25.specs.declared.bm25.TheConstants.{SCORE_ONE}
use Rattle.ii_fieldnorm.specs.Norms.{id_of_norm}
use Rattle.ii_definitions.specs.Fields.{option_of}
use Rattle.ii_definitions.specs.Norms.{has_norms}
use Rattle.ii_definitions.specs.Postings.{is_at}
use Rattle.ii_definitions.specs.Tokens.{IndexToken}
use Rattle.ii_query_parser.specs.declared.query.PhraseTerm.{PhraseTerm}
use Rattle.ii_query_parser.specs.Queries as queries
use Rattle.ii_query_parser.specs.Queries.{QueryTree, QueryTrees, are_of_texts, follow_near, has_positions_in, hold_for_all, holds_for_all, is_text_key, is_token_of, others_with, phrase_has_positions, tree_covers, tree_of, trees_cover}
use Rattle.ii_segments.specs.Segments.{AreSegmentTokens, Segment, at_rank, index_tokens, is_key_of_text_in, is_living, living_tokens, num_docs_of, tokens_from}
use Rattle.ii_segments.proofs.CountLaws.{all_weaker, test_by_rank, tokens_after}
use Rattle.ii_segments.proofs.MergedLaws.{IsTyped, index_typed, merged_is_segment}
use Rattle.ii_segments.proofs.MergeLaws.{below, from_append, of_living}
use Rattle.ii_segment_search.proofs.LocalLaws.{bound_local, follow_local, phrase_prefix_local, range_local, text_of_some, typed_own}
use Rattle.ii_scorer.specs.Combinations.{any_of, each_of, unless}
use Rattle.ii_ranking.specs.OneIndex.{ScoresAreLocal}
use Rattle.ii_ranking.specs.Scores.{if_occurs, phrase_score, score_by, scored_by_tokens, term_score, tree_score, tree_scores}
use Rattle.ii_ranking.specs.TokenCounts.{AreOrdered, num_tokens_of, phrase_starts_within, term_count}
use Rattle.ii_ranking.proofs.CountLaws.{terms_score_by_counts}
use Rattle.ii_ranking.proofs.MatchLaws.{phrases_score_by_starts}

-- ---- how many tokens of a document pass a test, which only asks whether a token is of the document
module _ (test : Bool → IndexToken → Bool) (none : (t : IndexToken) → test false t ≡ false) (stays : (b : Bool) (t : IndexToken) (doc : ℕ) → test b (record t { doc = doc }) ≡ test b t) where
  abbrev of_doc : ℕ → IndexToken → Bool
  of_doc doc t = test (t.doc == doc) t

  count_cons : (doc : ℕ) (t : IndexToken) (ts : List IndexToken) → count_by (of_doc doc) (t ∷ ts) ≡ one (of_doc doc t) + count_by (of_doc doc) ts
  count_cons doc t ts = sum_by-cons (λ (u : IndexToken). one (of_doc doc u)) t ts

  count_apart : (doc : ℕ) (ts : List IndexToken) → AllByRecursion (λ (t : IndexToken). t.doc ≢ doc) ts → count_by (of_doc doc) ts ≡ 0
  count_apart doc [] apart = refl
  count_apart doc (t ∷ ts) apart =
      let other : nat_eq t.doc doc ≡ false = ne_eqb t.doc doc apart.0 in
      let nothing : one (of_doc doc t) ≡ 0 = ap (λ (b : Bool). one (test b t)) other ∙ ap one (none t) in
      omega (arith, count_cons doc t ts, nothing, count_apart doc ts apart.1)

  count_of_living : (base : ℕ) (alive : List Bool) (doc : ℕ) → is_living alive doc ≡ true → (ts : List IndexToken)
      → count_by (of_doc (base + rank alive doc)) (map (at_rank base alive) (filter (of_living alive) ts)) ≡ count_by (of_doc doc) ts
  count_of_living base alive doc lives [] = refl
  count_of_living base alive doc lives (t ∷ ts) = by (of_living alive t) refl (count_of_living base alive doc lives ts)
    where
      by : (b : Bool) → of_living alive t ≡ b
          → count_by (of_doc (base + rank alive doc)) (map (at_rank base alive) (filter (of_living alive) ts)) ≡ count_by (of_doc doc) ts
          → count_by (of_doc (base + rank alive doc)) (map (at_rank base alive) (filter (of_living alive) (t ∷ ts))) ≡ count_by (of_doc doc) (t ∷ ts)
      by true living others = rw living
          (count_cons (base + rank alive doc) (at_rank base alive t) (map (at_rank base alive) (filter (of_living alive) ts))
          ∙ ap (λ (b : Bool). one (test b (at_rank base alive t)) + count_by (of_doc (base + rank alive doc)) (map (at_rank base alive) (filter (of_living alive) ts))) (test_by_rank base alive doc 0 lives t.doc living)
          ∙ ap (λ (b : Bool). one b + count_by (of_doc (base + rank alive doc)) (map (at_rank base alive) (filter (of_living alive) ts))) (stays (t.doc == doc) t (base + rank alive t.doc))
          ∙ ap (λ (n : ℕ). one (of_doc doc t) + n) others
          ∙ sym (count_cons doc t ts))
      by false dead others =
          let other : nat_eq t.doc doc ≡ false = ne_eqb t.doc doc (λ same. true≢false (sym lives ∙ ap (is_living alive) (sym same) ∙ dead)) in
          let nothing : one (of_doc doc t) ≡ 0 = ap (λ (b : Bool). one (test b t)) other ∙ ap one (none t) in
          let step = count_cons doc t ts in
          let added : count_by (of_doc doc) ts ≡ count_by (of_doc doc) (t ∷ ts) = omega (arith, step, nothing) in
          rw dead (others ∙ added)

  -- the number of a living document's tokens in an index, and in its segment
  count_local : (before after : List Segment) (s : Segment) (doc : ℕ) → is_living s.alive doc ≡ true
      → count_by (of_doc (num_docs_of before + rank s.alive doc)) (index_tokens (before ++ s ∷ after)) ≡ count_by (of_doc doc) s.tokens
  count_local before after s doc lives =
      let base = num_docs_of before in
      let n = num_living s.alive in
      let number = base + rank s.alive doc in
      let start : 0 + base ≡ base = omega arith in
      let first = tokens_from 0 before in
      let own = living_tokens base s in
      let later = tokens_from (base + n) after in
      let small = rank_below s.alive doc lives in
      let split : index_tokens (before ++ s ∷ after) ≡ first ++ (own ++ later) = from_append 0 before (s ∷ after) ∙ ap (λ (m : ℕ). first ++ tokens_from m (s ∷ after)) start in
      let none_before : count_by (of_doc number) first ≡ 0 = count_apart number first (all_weaker first (λ t early same. omega (arith, early, same)) (below 0 base before (omega arith))) in
      let none_after : count_by (of_doc number) later ≡ 0 = count_apart number later (all_weaker later (λ t late same. omega (arith, late, same, small)) (tokens_after (base + n) after)) in
      let all_of = sum_by-append (λ (t : IndexToken). one (of_doc number t)) first (own ++ later) in
      let own_of = sum_by-append (λ (t : IndexToken). one (of_doc number t)) own later in
      let here = count_of_living base s.alive doc lives s.tokens in
      ap (count_by (of_doc number)) split ∙ omega (arith, all_of, own_of, none_before, none_after, here)

-- ---- keys of texts
any_counted : (p : IndexToken → Bool) (ts : List IndexToken) → 0 < count_by p ts → list_any p ts ≡ true
any_counted p [] some = absurd (omega (arith, some))
any_counted p (t ∷ ts) some = by (p t) refl (sum_by-cons (λ (u : IndexToken). one (p u)) t ts) (any_counted p ts)
  where
    by : (b : Bool) → p t ≡ b → count_by p (t ∷ ts) ≡ one (p t) + count_by p ts → (0 < count_by p ts → list_any p ts ≡ true) → list_any p (t ∷ ts) ≡ true
    by true is step later = rw is refl
    by false not step later =
        let nothing : one (p t) ≡ 0 = ap one not in
        rw not (later (omega (arith, some, step, nothing)))

either_way : (f : Bool → ℕ → ℕ) → ((b : Bool) → f b 0 ≡ 0) → (b c : Bool) (n : ℕ) → (0 < n → b ≡ c) → f b n ≡ f c n
either_way f none b c zero same = none b ∙ sym (none c)
either_way f none b c (suc n) same = ap (λ (d : Bool). f d (suc n)) (same (omega arith))

module _ (schema : List SchemaEntry) (ts : List IndexToken) (typed : AllByRecursion (IsTyped schema) ts) (doc : ℕ) where
  -- how often a term occurs, by the type of its key
  abbrev counted_as : TermState → Bool → ℕ → ℕ
  counted_as term text n = if text && has_freq (option_of schema term.field) then n else min 1 n

  no_count : (term : TermState) (text : Bool) → counted_as term text 0 ≡ 0
  no_count term text = by (text && has_freq (option_of schema term.field))
    where
      by : (b : Bool) → (if b then 0 else min 1 0) ≡ 0
      by true = refl
      by false = refl

  count_by_type : (term : TermState) → term_count schema ts term doc ≡ counted_as term (is_key_of_text_in schema term.field term.value) (num_tokens_of ts term doc)
  count_by_type term =
      either_way (counted_as term) (no_count term) (is_text_key term ts) (is_key_of_text_in schema term.field term.value) (num_tokens_of ts term doc)
      (λ some. text_of_some schema term.field term.value (is_token_of term doc) (λ t is. (and_parts (t.doc == doc) (is_at term.field term.value t) is).1) ts typed (any_counted (is_token_of term doc) ts some))

  -- how often a phrase begins, by the type of its first key
  abbrev starts_at : ℕ → TermState → List PhraseTerm → IndexToken → Bool
  starts_at slop first others t = is_token_of first doc t && follow_near slop ts doc others t.position

  abbrev begun_as : Bool → ℕ → ℕ
  begun_as text n = if text then n else 0

  no_start : (text : Bool) → begun_as text 0 ≡ 0
  no_start true = refl
  no_start false = refl

  starts_by_type : (slop : ℕ) (first : TermState) (others : List PhraseTerm) → phrase_starts_within slop ts first others doc ≡ begun_as (is_key_of_text_in schema first.field first.value) (count_by (starts_at slop first others) ts)
  starts_by_type slop first others =
      either_way begun_as no_start (is_text_key first ts) (is_key_of_text_in schema first.field first.value) (count_by (starts_at slop first others) ts)
      (λ some. text_of_some schema first.field first.value (starts_at slop first others)
      (λ t is. (and_parts (t.doc == doc) (is_at first.field first.value t) (and_parts (is_token_of first doc t) (follow_near slop ts doc others t.position) is).0).1) ts typed (any_counted (starts_at slop first others) ts some))

-- ---- the parts of a query
module _ (schema : List SchemaEntry) (st : Statistics) (before after : List Segment) (s : Segment) (doc : ℕ) where
  abbrev all : List IndexToken
  all = index_tokens (before ++ s ∷ after)

  abbrev number : ℕ
  number = num_docs_of before + rank s.alive doc

  module _ (lives : is_living s.alive doc ≡ true) (all_typed : AllByRecursion (IsTyped schema) all) (own_typed : AllByRecursion (IsTyped schema) s.tokens) (all_ordered : AreOrdered all) (own_ordered : AreOrdered s.tokens) where
    norm_local : (field : ℕ) → (scored_by_tokens schema all st).norm_id field number ≡ (scored_by_tokens schema s.tokens st).norm_id field doc
    norm_local field = ap (λ (n : ℕ). if has_norms schema field then id_of_norm n else 1) (count_local (λ b t. b && (t.field == field)) (λ t. refl) (λ b t d. refl) before after s doc lives)

    score_local : (terms : List TermState) (field : ℕ) → score_by (scored_by_tokens schema all st) terms field number ≡ score_by (scored_by_tokens schema s.tokens st) terms field doc
    score_local terms field = ap (λ (id : ℕ). λ (count : ℕ). bm25_score (bm25_weight (idfs_of st terms) st.num_docs (st.num_tokens field)) id count) (norm_local field)

    term_count_local : (term : TermState) → term_count schema all term number ≡ term_count schema s.tokens term doc
    term_count_local term =
        count_by_type schema all all_typed number term
        ∙ ap (counted_as schema s.tokens own_typed doc term (is_key_of_text_in schema term.field term.value)) (count_local (λ b t. b && is_at term.field term.value t) (λ t. refl) (λ b t d. refl) before after s doc lives)
        ∙ sym (count_by_type schema s.tokens own_typed doc term)

    term_local : (term : TermState) → term_score (scored_by_tokens schema all st) term number ≡ term_score (scored_by_tokens schema s.tokens st) term doc
    term_local term =
        terms_score_by_counts schema all st term number all_ordered
        ∙ (λ j. if_occurs (score_local (term ∷ []) term.field j) (term_count_local term j))
        ∙ sym (terms_score_by_counts schema s.tokens st term doc own_ordered)

    starts_local : (slop : ℕ) (first : TermState) (others : List PhraseTerm) → phrase_starts_within slop all first others number ≡ phrase_starts_within slop s.tokens first others doc
    starts_local slop first others =
        let follows : (t : IndexToken) → (is_token_of first number t && follow_near slop all number others t.position) ≡ (is_token_of first number t && follow_near slop s.tokens doc others t.position) =
        λ t. ap (λ (b : Bool). is_token_of first number t && b) (follow_local schema before after s doc lives all_typed own_typed slop others t.position) in
        starts_by_type schema all all_typed number slop first others
        ∙ ap (begun_as schema s.tokens own_typed doc (is_key_of_text_in schema first.field first.value))
        ((λ j. count_by (λ (t : IndexToken). follows t j) all)
        ∙ count_local (λ b t. b && is_at first.field first.value t && follow_near slop s.tokens doc others t.position) (λ t. refl) (λ b t d. refl) before after s doc lives)
        ∙ sym (starts_by_type schema s.tokens own_typed doc slop first others)

    phrase_local : (first : TermState) (others : List PhraseTerm) (slop : ℕ) → phrase_has_positions schema first others ≡ true
        → phrase_score (scored_by_tokens schema all st) first others slop number ≡ phrase_score (scored_by_tokens schema s.tokens st) first others slop doc
    phrase_local first others slop keeps =
        phrases_score_by_starts schema all st first others slop number all_ordered keeps
        ∙ (λ j. if_occurs (score_local (first ∷ map (λ (o : PhraseTerm). o.term) others) first.field j) (starts_local slop first others j))
        ∙ sym (phrases_score_by_starts schema s.tokens st first others slop doc own_ordered keeps)

    module _ (n : ℕ) (docs : num_docs_of (before ++ s ∷ after) ≤ n) (own : length s.alive ≤ n) where
      mutual
        tree_local : (q : QueryTree) → tree_covers n q ≡ true → holds_for_all (λ (t : TermState). true) (phrase_has_positions schema) q ≡ true
            → tree_score (scored_by_tokens schema all st) q number ≡ tree_score (scored_by_tokens schema s.tokens st) q doc
        tree_local queries.nothing covers keeps = refl
        tree_local (queries.all_below m) covers keeps = ap (λ (b : Bool). if b then Some SCORE_ONE else None) (bound_local schema before after s doc lives all_typed own_typed n m docs own covers)
        tree_local (queries.one_term term) covers keeps = term_local term
        tree_local (queries.one_phrase first others slop) covers keeps = phrase_local first others slop keeps
        tree_local (queries.one_phrase_prefix phrase) covers keeps =
            ap (λ (b : Bool). if phrase_has_positions schema phrase.first (others_with phrase phrase.last.prefix.value) && b then Some SCORE_ONE else None) (phrase_prefix_local schema before after s doc lives all_typed own_typed phrase)
        tree_local (queries.one_range range) covers keeps = ap (λ (b : Bool). if b then Some SCORE_ONE else None) (range_local schema before after s doc lives all_typed own_typed range)
        tree_local (queries.each_of qs) covers keeps = ap each_of (trees_local qs covers keeps)
        tree_local (queries.any_of qs) covers keeps = ap any_of (trees_local qs covers keeps)
        tree_local (queries.without first other) covers keeps =
            let c = and_parts (tree_covers n first) (tree_covers n other) covers in
            let k = and_parts (holds_for_all (λ (t : TermState). true) (phrase_has_positions schema) first) (holds_for_all (λ (t : TermState). true) (phrase_has_positions schema) other) keeps in
            let one = tree_local first c.0 k.0 in
            let two = tree_local other c.1 k.1 in
            λ j. unless (one j) (two j)

        trees_local : (qs : QueryTrees) → trees_cover n qs ≡ true → hold_for_all (λ (t : TermState). true) (phrase_has_positions schema) qs ≡ true
            → tree_scores (scored_by_tokens schema all st) qs number ≡ tree_scores (scored_by_tokens schema s.tokens st) qs doc
        trees_local queries.no_tree covers keeps = refl
        trees_local (queries.tree q qs) covers keeps =
            let c = and_parts (tree_covers n q) (trees_cover n qs) covers in
            let k = and_parts (holds_for_all (λ (t : TermState). true) (phrase_has_positions schema) q) (hold_for_all (λ (t : TermState). true) (phrase_has_positions schema) qs) keeps in
            let one = tree_local q c.0 k.0 in
            let others = trees_local qs c.1 k.1 in
            λ j. one j ∷ others j

ordered_own : (schema : List SchemaEntry) (before after : List Segment) (s : Segment) → AllByRecursion (AreSegmentTokens schema) (before ++ s ∷ after) → AreOrdered s.tokens
ordered_own schema [] after s are = are.0.ordered
ordered_own schema (b ∷ before) after s are = ordered_own schema before after s are.1

pub scores_are_local : ScoresAreLocal
scores_are_local schema st query before after s doc n are lives keeps docs own covers =
    tree_local schema st before after s doc lives (index_typed schema (before ++ s ∷ after) are) (typed_own schema before after s are) (merged_is_segment schema (before ++ s ∷ after) are).ordered (ordered_own schema before after s are) n docs own (tree_of query) covers keeps
