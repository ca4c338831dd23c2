-- A query matches a document of an index of segments as it matches it in its segment.
use Rattle.std.proofs.Common.{◌≡◌, ℕ, ◌+◌, ◌<◌, ◌≤◌, ◌≢◌, ◌==◌, ◌&&◌, ◌||◌, Bool, true, false, not, List, [], ◌∷◌, ◌++◌, length, map, min, nat_eq, nat_le, nat_lt, refl, sym, ap, ◌∙◌, arith}
use Rattle.std.specs.Prelude.{filter}
use Rattle.std.specs.List.{AllByRecursion, list_all, list_any, range_with_len}
use Rattle.std.proofs.lemmas.Bool.{and_parts, eqb-true, leb-true, lt-ltb, ne_eqb}
use Rattle.std.proofs.lemmas.List.Folds.{list_any-append}
use Rattle.std.specs.Cmp.Lexicographic.{bytes_decides}
use Rattle.std.specs.Prelude.{bytes_eq}
use Rattle.ii_base.specs.declared.doc_id.TheConstants.{TERMINATED}
use Rattle.ii_base.specs.Schema.{SchemaEntry}
use Rattle.ii_base.specs.Terms.{TermState}
use Rattle.ii_alive.specs.Alive.{num_living, rank}
use Rattle.ii_alive.proofs.RankLemmas.{rank_below}
use Rattle.ii_definitions.specs.Postings.{is_at, tokens_at}
use Rattle.ii_definitions.specs.Tokens.{IndexToken}
use Rattle.ii_query_parser.specs.declared.phrase_prefix.PhrasePrefix.{PhrasePrefix}
use Rattle.ii_query_parser.specs.declared.query.PhraseTerm.{PhraseTerm}
use Rattle.ii_query_parser.specs.declared.term_range.TermRange.{TermRange}
use Rattle.ii_query_parser.specs.Ranges.{in_range}
use Rattle.ii_query_parser.specs.Queries.{QueryTree, QueryTrees, all_below, all_match, any_matches, any_of, are_of_texts, each_of, follow_near, has_phrase_prefix, has_phrase_within, has_tree, is_in_slop, is_text_key, is_token_in, is_token_of, no_tree, nothing, one_phrase, one_phrase_prefix, one_range, one_term, others_with, stands_near, tree, tree_covers, tree_matches, tree_of, trees_cover, without}
use Rattle.ii_segments.specs.Segments.{AreSegmentTokens, Segment, at_rank, index_tokens, is_key_of_text_in, is_living, living_tokens, num_docs_of, tokens_from}
use Rattle.ii_segments.proofs.CountLaws.{all_weaker, living_within, test_by_rank, tokens_after}
use Rattle.ii_segments.proofs.MergedLaws.{IsTyped, index_typed}
use Rattle.ii_segments.proofs.MergeLaws.{below, docs_of_both, from_append, of_living}
use Rattle.ii_segment_search.specs.SegmentSearch.{SearchIsLocal}
use Rattle.ii_search.proofs.PhrasePrefixMatches.{key_of_document}
use Rattle.ii_search.proofs.RangeMatches.{any_alike}

all_same : {A : Type 0} (f g : A → Bool) (xs : List A) → ((x : A) → f x ≡ g x) → list_all f xs ≡ list_all g xs
all_same f g [] same = refl
all_same f g (x ∷ xs) same = ap (λ (b : Bool). b && list_all f xs) (same x) ∙ ap (λ (b : Bool). g x && b) (all_same f g xs same)

and_none : (b : Bool) → (b && false) ≡ false
and_none true = refl
and_none false = refl

-- ---- a test of a document's tokens, which only asks whether a token is of the document
module _ (test : Bool → IndexToken → Bool) (none : (t : IndexToken) → test false t ≡ false) (stays : (b : Bool) (t : IndexToken) (doc : ℕ) → test b (record t { doc = doc }) ≡ test b t) where
  abbrev pub of_doc : ℕ → IndexToken → Bool
  of_doc doc t = test (t.doc == doc) t

  any_apart : (doc : ℕ) (ts : List IndexToken) → AllByRecursion (λ (t : IndexToken). t.doc ≢ doc) ts → list_any (of_doc doc) ts ≡ false
  any_apart doc [] apart = refl
  any_apart doc (t ∷ ts) apart =
      let other : nat_eq t.doc doc ≡ false = ne_eqb t.doc doc apart.0 in
      ap (λ (b : Bool). test b t || list_any (of_doc doc) ts) other ∙ ap (λ (b : Bool). b || list_any (of_doc doc) ts) (none t) ∙ any_apart doc ts apart.1

  any_of_living : (base : ℕ) (alive : List Bool) (doc : ℕ) → is_living alive doc ≡ true → (ts : List IndexToken)
      → list_any (of_doc (base + rank alive doc)) (map (at_rank base alive) (filter (of_living alive) ts)) ≡ list_any (of_doc doc) ts
  any_of_living base alive doc lives [] = refl
  any_of_living base alive doc lives (t ∷ ts) = by (of_living alive t) refl (any_of_living base alive doc lives ts)
    where
      number : ℕ
      number = base + rank alive doc

      by : (b : Bool) → of_living alive t ≡ b
          → list_any (of_doc (base + rank alive doc)) (map (at_rank base alive) (filter (of_living alive) ts)) ≡ list_any (of_doc doc) ts
          → list_any (of_doc (base + rank alive doc)) (map (at_rank base alive) (filter (of_living alive) (t ∷ ts))) ≡ list_any (of_doc doc) (t ∷ ts)
      by true living others = rw living
          (ap (λ (b : Bool). of_doc (base + rank alive doc) (at_rank base alive t) || b) others
          ∙ ap (λ (b : Bool). test b (at_rank base alive t) || list_any (of_doc doc) ts) (test_by_rank base alive doc 0 lives t.doc living)
          ∙ ap (λ (b : Bool). b || list_any (of_doc doc) ts) (stays (t.doc == doc) t (base + rank alive t.doc)))
      by false dead others =
          let other : nat_eq t.doc doc ≡ false = ne_eqb t.doc doc (λ same. absurd (let living : is_living alive t.doc ≡ true = ap (is_living alive) same ∙ lives in cc)) in
          rw dead (others ∙ sym (ap (λ (b : Bool). test b t || list_any (of_doc doc) ts) other ∙ ap (λ (b : Bool). b || list_any (of_doc doc) ts) (none t)))

  -- the test of a living document in an index, and in its segment
  pub any_local : (before after : List Segment) (s : Segment) (doc : ℕ) → is_living s.alive doc ≡ true
      → list_any (of_doc (num_docs_of before + rank s.alive doc)) (index_tokens (before ++ s ∷ after)) ≡ list_any (of_doc doc) s.tokens
  any_local before after s doc lives =
      let base = num_docs_of before in
      let n = num_living s.alive in
      let number = base + rank s.alive doc in
      let start : 0 + base ≡ base = omega arith in
      let first = tokens_from 0 before in
      let own = living_tokens base s in
      let later = tokens_from (base + n) after in
      let small = rank_below s.alive doc lives in
      let split : index_tokens (before ++ s ∷ after) ≡ first ++ (own ++ later) = from_append 0 before (s ∷ after) ∙ ap (λ (m : ℕ). first ++ tokens_from m (s ∷ after)) start in
      let none_before : list_any (of_doc number) first ≡ false = any_apart number first (all_weaker first (λ t early same. omega (arith, early, same)) (below 0 base before (omega arith))) in
      let none_after : list_any (of_doc number) later ≡ false = any_apart number later (all_weaker later (λ t late same. omega (arith, late, same, small)) (tokens_after (base + n) after)) in
      let or_none : (b : Bool) → (b || false) ≡ b = λ b. elim b as (λ (c : Bool). (c || false) ≡ c) [ true ↦ refl | false ↦ refl ] in
      ap (list_any (of_doc number)) split
      ∙ list_any-append (of_doc number) first (own ++ later)
      ∙ ap (λ (b : Bool). b || list_any (of_doc number) (own ++ later)) none_before
      ∙ list_any-append (of_doc number) own later
      ∙ ap (λ (b : Bool). list_any (of_doc number) own || b) none_after
      ∙ or_none (list_any (of_doc number) own)
      ∙ any_of_living base s.alive doc lives s.tokens

-- ---- keys of texts
module _ (entries : List SchemaEntry) (field : ℕ) (key : List ℕ) where
  abbrev text : Bool
  text = is_key_of_text_in entries field key

  pub text_of_some : (p : IndexToken → Bool) → ((t : IndexToken) → p t ≡ true → is_at field key t ≡ true) → (ts : List IndexToken) → AllByRecursion (IsTyped entries) ts
      → list_any p ts ≡ true → are_of_texts (tokens_at field key ts) ≡ text
  text_of_some p at [] typed some = absurd (cc)
  text_of_some p at (t ∷ ts) typed some = by (is_at field key t) (p t) refl refl (text_of_some p at ts typed.1)
    where
      by : (b c : Bool) → is_at field key t ≡ b → p t ≡ c → (list_any p ts ≡ true → are_of_texts (tokens_at field key ts) ≡ is_key_of_text_in entries field key)
          → are_of_texts (tokens_at field key (t ∷ ts)) ≡ is_key_of_text_in entries field key
      by true c is tested others =
          let parts = and_parts (t.field == field) (bytes_eq t.key key) is in
          let same_field : t.field ≡ field = eqb-true t.field field parts.0 in
          let same_key : t.key ≡ key = (bytes_decides t.key key).0 parts.1 in
          rw is (typed.0 ∙ ap (λ (f : ℕ). is_key_of_text_in entries f t.key) same_field ∙ ap (is_key_of_text_in entries field) same_key)
      by false true not tested others = absurd (let here = at t tested in cc)
      by false false not tested others = rw not (others (ap (λ (b : Bool). b || list_any p ts) (sym tested) ∙ some))

  -- the tokens of a key are of texts as its type says, where a test of them succeeds
  text_any : (p : IndexToken → Bool) → ((t : IndexToken) → p t ≡ true → is_at field key t ≡ true) → (ts : List IndexToken) → AllByRecursion (IsTyped entries) ts
      → (are_of_texts (tokens_at field key ts) && list_any p ts) ≡ (text && list_any p ts)
  text_any p at ts typed = by (list_any p ts) refl
    where
      by : (b : Bool) → list_any p ts ≡ b → (are_of_texts (tokens_at field key ts) && list_any p ts) ≡ (is_key_of_text_in entries field key && list_any p ts)
      by true some = ap (λ (b : Bool). b && list_any p ts) (text_of_some p at ts typed some)
      by false none = rw none (and_none (are_of_texts (tokens_at field key ts)) ∙ sym (and_none (is_key_of_text_in entries field key)))

-- ---- the parts of a query
module _ (entries : List SchemaEntry) (before after : List Segment) (s : Segment) (doc : ℕ) where
  abbrev all : List IndexToken
  all = index_tokens (before ++ s ∷ after)

  abbrev number : ℕ
  number = num_docs_of before + rank s.alive doc

  module _ (lives : is_living s.alive doc ≡ true) (all_typed : AllByRecursion (IsTyped entries) all) (own_typed : AllByRecursion (IsTyped entries) s.tokens) where
    term_local : (term : TermState) → list_any (is_token_of term number) all ≡ list_any (is_token_of term doc) s.tokens
    term_local term = any_local (λ b t. b && is_at term.field term.value t) (λ t. refl) (λ b t d. refl) before after s doc lives

    pub range_local : (range : TermRange) → list_any (is_token_in range number) all ≡ list_any (is_token_in range doc) s.tokens
    range_local range = any_local (λ b t. b && (t.field == range.prefix.field) && in_range range t.key) (λ t. refl) (λ b t d. refl) before after s doc lives

    -- the tokens of a term at a position for which something holds
    placed_local : (term : TermState) (holds : ℕ → Bool) → (is_text_key term all && list_any (λ (t : IndexToken). is_token_of term number t && holds t.position) all) ≡ (is_text_key term s.tokens && list_any (λ (t : IndexToken). is_token_of term doc t && holds t.position) s.tokens)
    placed_local term holds =
        let test : Bool → IndexToken → Bool = λ b t. b && is_at term.field term.value t && holds t.position in
        let at : (d : ℕ) (t : IndexToken) → (is_token_of term d t && holds t.position) ≡ true → is_at term.field term.value t ≡ true =
        λ d t is. (and_parts (t.doc == d) (is_at term.field term.value t) (and_parts (is_token_of term d t) (holds t.position) is).0).1 in
        text_any entries term.field term.value (λ t. is_token_of term number t && holds t.position) (at number) all all_typed
        ∙ ap (λ (b : Bool). is_key_of_text_in entries term.field term.value && b) (any_local test (λ t. refl) (λ b t d. refl) before after s doc lives)
        ∙ sym (text_any entries term.field term.value (λ t. is_token_of term doc t && holds t.position) (at doc) s.tokens own_typed)

    near_local : (slop back : ℕ) (term : TermState) (place : ℕ) → stands_near slop back all number term place ≡ stands_near slop back s.tokens doc term place
    near_local slop back term place = placed_local term (λ (p : ℕ). is_in_slop slop place (p + back))

    pub follow_local : (slop : ℕ) (others : List PhraseTerm) (start : ℕ) → follow_near slop all number others start ≡ follow_near slop s.tokens doc others start
    follow_local slop others start =
        any_alike (λ (back : ℕ). list_all (λ (o : PhraseTerm). stands_near slop back all number o.term (start + o.distance)) others) (λ (back : ℕ). list_all (λ (o : PhraseTerm). stands_near slop back s.tokens doc o.term (start + o.distance)) others)
        (range_with_len 0 (slop + 1))
        (λ back. all_same (λ (o : PhraseTerm). stands_near slop back all number o.term (start + o.distance)) (λ (o : PhraseTerm). stands_near slop back s.tokens doc o.term (start + o.distance)) others
        (λ o. near_local slop back o.term (start + o.distance)))

    phrase_local : (slop : ℕ) (first : TermState) (others : List PhraseTerm) → has_phrase_within slop all number first others ≡ has_phrase_within slop s.tokens doc first others
    phrase_local slop first others =
        ap (λ (b : Bool). is_text_key first all && b)
        (any_alike (λ (t : IndexToken). is_token_of first number t && follow_near slop all number others t.position) (λ (t : IndexToken). is_token_of first number t && follow_near slop s.tokens doc others t.position) all
        (λ t. ap (λ (b : Bool). is_token_of first number t && b) (follow_local slop others t.position)))
        ∙ placed_local first (follow_near slop s.tokens doc others)

    pub phrase_prefix_local : (phrase : PhrasePrefix) → has_phrase_prefix phrase all number ≡ has_phrase_prefix phrase s.tokens doc
    phrase_prefix_local phrase =
        let ranged : IndexToken → Bool = λ t. (t.field == phrase.last.prefix.field) && in_range phrase.last t.key in
        let own : List ℕ → Bool = λ key. has_phrase_within 0 s.tokens doc phrase.first (others_with phrase key) in
        key_of_document phrase all number
        ∙ any_alike (λ (t : IndexToken). (t.doc == number) && (ranged t && has_phrase_within 0 all number phrase.first (others_with phrase t.key))) (λ (t : IndexToken). (t.doc == number) && (ranged t && own t.key)) all
        (λ t. ap (λ (b : Bool). (t.doc == number) && (ranged t && b)) (phrase_local 0 phrase.first (others_with phrase t.key)))
        ∙ any_local (λ b t. b && (ranged t && own t.key)) (λ t. refl) (λ b t d. refl) before after s doc lives
        ∙ sym (key_of_document phrase s.tokens doc)

    pub bound_local : (n m : ℕ) → num_docs_of (before ++ s ∷ after) ≤ n → length s.alive ≤ n → nat_le n (min m TERMINATED) ≡ true → nat_lt number (min m TERMINATED) ≡ nat_lt doc (min m TERMINATED)
    bound_local n m docs own covers =
        let limit = min m TERMINATED in
        let enough : n ≤ limit = leb-true n limit covers in
        let here : number < num_docs_of (before ++ s ∷ after) = omega (arith, docs_of_both before (s ∷ after), rank_below s.alive doc lives) in
        lt-ltb number limit (omega arith) ∙ sym (lt-ltb doc limit (omega (arith, living_within s.alive doc lives)))

    mutual
      tree_local : (n : ℕ) (q : QueryTree) → num_docs_of (before ++ s ∷ after) ≤ n → length s.alive ≤ n → tree_covers n q ≡ true → tree_matches q all number ≡ tree_matches q s.tokens doc
      tree_local n nothing docs own covers = refl
      tree_local n (all_below m) docs own covers = bound_local n m docs own covers
      tree_local n (one_term term) docs own covers = term_local term
      tree_local n (one_phrase first others slop) docs own covers = phrase_local slop first others
      tree_local n (one_phrase_prefix phrase) docs own covers = phrase_prefix_local phrase
      tree_local n (one_range range) docs own covers = range_local range
      tree_local n (each_of qs) docs own covers = ap (λ (b : Bool). has_tree qs && b) (all_local n qs docs own covers)
      tree_local n (any_of qs) docs own covers = some_local n qs docs own covers
      tree_local n (without first other) docs own covers =
          let parts = and_parts (tree_covers n first) (tree_covers n other) covers in
          ap (λ (b : Bool). b && not (tree_matches other all number)) (tree_local n first docs own parts.0)
          ∙ ap (λ (b : Bool). tree_matches first s.tokens doc && not b) (tree_local n other docs own parts.1)

      all_local : (n : ℕ) (qs : QueryTrees) → num_docs_of (before ++ s ∷ after) ≤ n → length s.alive ≤ n → trees_cover n qs ≡ true → all_match qs all number ≡ all_match qs s.tokens doc
      all_local n no_tree docs own covers = refl
      all_local n (tree q qs) docs own covers =
          let parts = and_parts (tree_covers n q) (trees_cover n qs) covers in
          ap (λ (b : Bool). b && all_match qs all number) (tree_local n q docs own parts.0)
          ∙ ap (λ (b : Bool). tree_matches q s.tokens doc && b) (all_local n qs docs own parts.1)

      some_local : (n : ℕ) (qs : QueryTrees) → num_docs_of (before ++ s ∷ after) ≤ n → length s.alive ≤ n → trees_cover n qs ≡ true → any_matches qs all number ≡ any_matches qs s.tokens doc
      some_local n no_tree docs own covers = refl
      some_local n (tree q qs) docs own covers =
          let parts = and_parts (tree_covers n q) (trees_cover n qs) covers in
          ap (λ (b : Bool). b || any_matches qs all number) (tree_local n q docs own parts.0)
          ∙ ap (λ (b : Bool). tree_matches q s.tokens doc || b) (some_local n qs docs own parts.1)

pub typed_own : (entries : List SchemaEntry) (before after : List Segment) (s : Segment) → AllByRecursion (AreSegmentTokens entries) (before ++ s ∷ after) → AllByRecursion (IsTyped entries) s.tokens
typed_own entries [] after s are = are.0.typed
typed_own entries (b ∷ before) after s are = typed_own entries before after s are.1

pub search_is_local : SearchIsLocal
search_is_local entries query before after s doc n are lives docs own covers =
    tree_local entries before after s doc lives (index_typed entries (before ++ s ∷ after) are) (typed_own entries before after s are) n (tree_of query) docs own covers
