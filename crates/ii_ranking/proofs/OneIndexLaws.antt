-- The documents of segments that have a score are those of one index of all tokens.
use Rattle.std.proofs.Common.{◌≡◌, ◌∙◌, ℕ, ◌+◌, ◌≤◌, Bool, true, false, List, [], ◌∷◌, ◌++◌, Option, None, append_assoc, filter, if◌then◌else◌, length, map, refl, sym, ap, subst, arith}
use Rattle.std.specs.List.{AllByRecursion, flat_map, range_with_len}
use Rattle.std.proofs.lemmas.Grind.{flat_map-append}
use Rattle.ii_base.specs.Schema.{SchemaEntry}
use Rattle.ii_alive.specs.Alive.{num_living, rank}
use Rattle.ii_bm25.specs.Statistics.{Statistics}
use Rattle.ii_definitions.proofs.ListLaws.{range_append}
use Rattle.ii_query_parser.specs.declared.query.Query.{Query}
use Rattle.ii_query_parser.specs.Queries.{covers_docs, keeps_positions}
use Rattle.ii_segments.specs.Segments.{AreSegmentTokens, Segment, index_tokens, is_living, living_docs, num_docs_of}
use Rattle.ii_segments.proofs.CountLaws.{ranks_of_living}
use Rattle.ii_segments.proofs.MergeLaws.{docs_of_both}
use Rattle.ii_ranking.specs.OneIndex.{SegmentsScoreAsOne}
use Rattle.ii_ranking.specs.Segments.{living_score, segment_scored}
use Rattle.ii_ranking.specs.TokenScores.{token_score, tokens_scored}
use Rattle.ii_scorer.specs.TopDocs.{with_score}
use Rattle.ii_ranking.proofs.LocalScores.{scores_are_local}

flat_of_map : {A B C : Type 0} (f : A → B) (h : B → List C) (xs : List A) → flat_map h (map f xs) ≡ flat_map (λ (x : A). h (f x)) xs
flat_of_map f h [] = refl
flat_of_map f h (x ∷ xs) = ap (λ (l : List _). h (f x) ++ l) (flat_of_map f h xs)

-- what is left out gives nothing
flat_kept : {A C : Type 0} (h g : A → List C) (p : A → Bool) (xs : List A) → ((x : A) → p x ≡ true → h x ≡ g x) → ((x : A) → p x ≡ false → g x ≡ []) → flat_map h (filter p xs) ≡ flat_map g xs
flat_kept h g p [] same none = refl
flat_kept h g p (x ∷ xs) same none = by (p x) refl (flat_kept h g p xs same none)
  where
    by : (b : Bool) → p x ≡ b → flat_map h (filter p xs) ≡ flat_map g xs → flat_map h (filter p (x ∷ xs)) ≡ flat_map g (x ∷ xs)
    by true kept others = rw kept ((λ j. same x kept j ++ others j))
    by false lost others = rw lost (others ∙ ap (λ (l : List _). l ++ flat_map g xs) (sym (none x lost)))

-- the documents of a segment, by a score that is local
segment_alike : (base : ℕ) (alive : List Bool) (whole own : ℕ → Option ℕ) → ((doc : ℕ) → is_living alive doc ≡ true → whole (base + rank alive doc) ≡ own doc)
    → flat_map (λ (doc : ℕ). with_score (whole doc) doc) (range_with_len base (num_living alive)) ≡ segment_scored base alive own
segment_alike base alive whole own same =
    let number : ℕ → ℕ = λ doc. base + rank alive doc in
    let row : ℕ → List (ℕ × ℕ) = λ doc. with_score (whole doc) doc in
    ap (flat_map row) (sym (ranks_of_living base alive))
    ∙ flat_of_map number row (living_docs alive)
    ∙ flat_kept (λ (doc : ℕ). row (number doc)) (λ (doc : ℕ). with_score (living_score alive own doc) (number doc)) (is_living alive) (range_with_len 0 (length alive))
    (λ doc living. ap (λ (score : Option ℕ). with_score score (number doc)) (same doc living) ∙ sym (ap (λ (b : Bool). with_score (if b then own doc else None) (number doc)) living))
    (λ doc dead. ap (λ (b : Bool). with_score (if b then own doc else None) (number doc)) dead)

module _ (schema : List SchemaEntry) (st : Statistics) (query : Query) (n : ℕ) (keeps : keeps_positions schema query ≡ true) (covers : covers_docs n query ≡ true) where
  abbrev row_of : List Segment → ℕ → List (ℕ × ℕ)
  row_of ss doc = with_score (token_score schema (index_tokens ss) st query doc) doc

  scored_after : (before ss : List Segment) → AllByRecursion (AreSegmentTokens schema) (before ++ ss) → num_docs_of (before ++ ss) ≤ n → AllByRecursion (λ (s : Segment). length s.alive ≤ n) ss
      → flat_map (row_of (before ++ ss)) (range_with_len (num_docs_of before) (num_docs_of ss)) ≡ tokens_scored schema st query (num_docs_of before) ss
  scored_after before [] are docs own = refl
  scored_after before (s ∷ ss) are docs own =
      let base = num_docs_of before in
      let living = num_living s.alive in
      let row : ℕ → List (ℕ × ℕ) = row_of (before ++ s ∷ ss) in
      let joined : (before ++ s ∷ []) ++ ss ≡ before ++ s ∷ ss = append_assoc before (s ∷ []) ss in
      let next : num_docs_of (before ++ s ∷ []) ≡ base + living = let both = docs_of_both before (s ∷ []) in omega (arith, both) in
      let others : flat_map (row_of ((before ++ s ∷ []) ++ ss)) (range_with_len (num_docs_of (before ++ s ∷ [])) (num_docs_of ss)) ≡ tokens_scored schema st query (num_docs_of (before ++ s ∷ [])) ss =
      scored_after (before ++ s ∷ []) ss (subst (AllByRecursion (AreSegmentTokens schema)) (sym joined) are) (subst (λ (all : List Segment). num_docs_of all ≤ n) (sym joined) docs) own.1 in
      let later : flat_map row (range_with_len (base + living) (num_docs_of ss)) ≡ tokens_scored schema st query (base + living) ss =
      ap (λ (all : List Segment). flat_map (row_of all) (range_with_len (base + living) (num_docs_of ss))) (sym joined)
      ∙ ap (λ (m : ℕ). flat_map (row_of ((before ++ s ∷ []) ++ ss)) (range_with_len m (num_docs_of ss))) (sym next)
      ∙ others
      ∙ ap (λ (m : ℕ). tokens_scored schema st query m ss) next in
      ap (flat_map row) (range_append base living (num_docs_of ss))
      ∙ flat_map-append row (range_with_len base living) (range_with_len (base + living) (num_docs_of ss))
      ∙ ap (λ (l : List (ℕ × ℕ)). l ++ flat_map row (range_with_len (base + living) (num_docs_of ss)))
      (segment_alike base s.alive (token_score schema (index_tokens (before ++ s ∷ ss)) st query) (token_score schema s.tokens st query) (λ doc lives. scores_are_local schema st query before ss s doc n are lives keeps docs own.0 covers))
      ∙ ap (λ (l : List (ℕ × ℕ)). segment_scored base s.alive (token_score schema s.tokens st query) ++ l) later

pub segments_score_as_one : SegmentsScoreAsOne
segments_score_as_one schema st query ss are keeps reaches = sym (scored_after schema st query reaches.limit keeps reaches.covers [] ss are reaches.living reaches.each)
