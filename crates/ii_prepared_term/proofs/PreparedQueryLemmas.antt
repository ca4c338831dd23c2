-- Laws of queries that are prepared part by part.
use Rattle.std.proofs.Common.{◌≡◌, ◌∙◌, ℕ, zero, suc, ◌+◌, ◌<◌, ◌≤◌, true, List, [], ◌∷◌, ◌++◌, Option, None, add-one, ap, append-nil, append_assoc, arith, drop, get_or, length, map, refl, subst, sym}
use Rattle.std.specs.List.{AllByRecursion, fold, list_all}
use Rattle.std.proofs.Math.Seq.{drop-cons}
use Rattle.std.proofs.lemmas.Bool.{and_parts}
use Rattle.std.proofs.lemmas.Grind.{flat_map-append}
use Rattle.std.proofs.lemmas.List.{map-append}
use Rattle.ii_io.specs.declared.faults.Part.{Part}
use Rattle.ii_query_parser.specs.declared.query.Query.{Query}
use Rattle.ii_query_parser.specs.Queries.{has_fields, trees_of}
use Rattle.ii_reader.specs.OpenIndex.{OpenIndexState}
use Rattle.ii_scorer.specs.BlockLists.{BlockList}
use Rattle.ii_scorer.specs.Combinations.{add, any_of, both, each_of, either}
use Rattle.ii_scorer.specs.Scorers.{ScorerState, bound_over, doc_bound}
use Rattle.ii_scorer.proofs.SumLemmas.{any_cons, both_never}
use Rattle.ii_ranking.specs.Scores.{Scored, first_of, query_damage, query_score, tree_scores, trees_damage}
use Rattle.ii_prepared_term.specs.PreparedQueries.{PreparedQueryState, ScoresEnd, bound_under, depth_under, lists_under, prepared_query_bound, prepared_query_score, scores_by}
use Rattle.ii_prepared_term.specs.QueryDocs.{lists_docs, query_docs, trees_docs}

-- No document from `TERMINATED` on has a score by a query.
abbrev pub QueryEnds : PreparedQueryState → Type 0
QueryEnds s = ScoresEnd (prepared_query_score s)

pub any_end : (ss : List PreparedQueryState) → AllByRecursion QueryEnds ss → ScoresEnd (λ (doc : ℕ). any_of (scores_by ss doc))
any_end [] all doc end = refl
any_end (s ∷ ss) all doc end = any_cons (prepared_query_score s doc) (scores_by ss doc) ∙ (λ j. either (all.0 doc end j) (any_end ss all.1 doc end j))

pub each_end : (ss : List PreparedQueryState) → AllByRecursion QueryEnds ss → ScoresEnd (λ (doc : ℕ). each_of (scores_by ss doc))
each_end [] all doc end = refl
each_end (s ∷ ss) all doc end = ap (λ (score : Option ℕ). fold both score (scores_by ss doc)) (all.0 doc end) ∙ both_never (scores_by ss doc)

-- The queries that were prepared so far, with those that are left, are all.
pub record IsPreparing (s : Scored) (index : OpenIndexState) (all left : List Query) (parts : List PreparedQueryState) : Type 0 where
  pub scores : (doc : ℕ) → scores_by parts doc ++ tree_scores s (trees_of left) doc ≡ tree_scores s (trees_of all) doc
  pub ends : AllByRecursion QueryEnds parts
  pub sound : trees_damage index (trees_of left) ≡ trees_damage index (trees_of all)
  pub fields : list_all (has_fields (length index.readers)) left ≡ true

ends_more : (parts : List PreparedQueryState) (part : PreparedQueryState) → AllByRecursion QueryEnds parts → QueryEnds part → AllByRecursion QueryEnds (parts ++ part ∷ [])
ends_more [] part all end = (end, tt)
ends_more (p ∷ ps) part all end = (all.0, ends_more ps part all.1 end)

-- one query more
pub prepares_next : (s : Scored) (index : OpenIndexState) (all left others : List Query) (q : Query) (parts more : List PreparedQueryState) (part : PreparedQueryState) → IsPreparing s index all left parts → left ≡ q ∷ others → ((doc : ℕ) → prepared_query_score part doc ≡ query_score s q doc)
    → QueryEnds part → query_damage index q ≡ None → more ≡ parts ++ part ∷ [] → IsPreparing s index all others more
prepares_next s index all left others q parts more part i is same end sound more_is = record {
  scores = λ doc.
      let later = tree_scores s (trees_of others) doc in
      ap (λ (ps : List PreparedQueryState). scores_by ps doc ++ later) more_is
      ∙ ap (λ (row : List (Option ℕ)). row ++ later) (map-append (λ (p : PreparedQueryState). prepared_query_score p doc) parts (part ∷ []))
      ∙ append_assoc (scores_by parts doc) (prepared_query_score part doc ∷ []) later
      ∙ ap (λ (score : Option ℕ). scores_by parts doc ++ score ∷ later) (same doc)
      ∙ ap (λ (qs : List Query). scores_by parts doc ++ tree_scores s (trees_of qs) doc) (sym is) ∙ i.scores doc;
  ends = subst (AllByRecursion QueryEnds) (sym more_is) (ends_more parts part i.ends end);
  sound = ap (λ (d : Option Part). first_of d (trees_damage index (trees_of others))) (sym sound) ∙ ap (λ (qs : List Query). trees_damage index (trees_of qs)) (sym is) ∙ i.sound;
  fields = (and_parts (has_fields (length index.readers) q) (list_all (has_fields (length index.readers)) others) (rw is at i.fields)).1;
}

-- the lists of one query more
pub lists_next : (index : OpenIndexState) (all left others : List Query) (q : Query) (parts more : List PreparedQueryState) (part : PreparedQueryState) → left ≡ q ∷ others → lists_docs part.lists ≡ query_docs index q → more ≡ parts ++ part ∷ []
    → lists_docs (lists_under parts) ++ trees_docs index (trees_of left) ≡ trees_docs index (trees_of all) → lists_docs (lists_under more) ++ trees_docs index (trees_of others) ≡ trees_docs index (trees_of all)
lists_next index all left others q parts more part is docs more_is so_far =
    ap (λ (ps : List PreparedQueryState). lists_docs (lists_under ps) ++ trees_docs index (trees_of others)) more_is
    ∙ ap (λ (ls : List BlockList). lists_docs ls ++ trees_docs index (trees_of others)) (flat_map-append (λ (s : PreparedQueryState). s.lists) parts (part ∷ []) ∙ ap (λ (ls : List BlockList). lists_under parts ++ ls) (append-nil part.lists))
    ∙ ap (λ (rows : List (List ℕ)). rows ++ trees_docs index (trees_of others)) (map-append (λ (l : BlockList). l.docs) (lists_under parts) part.lists ∙ ap (λ (rows : List (List ℕ)). lists_docs (lists_under parts) ++ rows) docs)
    ∙ append_assoc (lists_docs (lists_under parts)) (query_docs index q) (trees_docs index (trees_of others))
    ∙ ap (λ (qs : List Query). lists_docs (lists_under parts) ++ trees_docs index (trees_of qs)) (sym is) ∙ so_far

-- ---- scorers of parts
-- each part is less deep
pub part_inside : (ss : List PreparedQueryState) (i : ℕ) (x : PreparedQueryState) → i < length ss → x ≡ get_or ss i x → suc x.depth ≤ depth_under ss
part_inside [] i x inside is = absurd (omega (arith, inside))
part_inside (s ∷ ss) zero x inside is = let deep = ap (λ (p : PreparedQueryState). p.depth) is in omega (arith, deep)
part_inside (s ∷ ss) (suc i) x inside is = let later = part_inside ss i x (omega (arith, inside)) is in omega (arith, later)

-- one more of each: what those give that were taken, with what the others give, is what all give
pub rows_more : {X Y V : Type 0} → (f : X → V) (g : Y → V) (all : List Y) (i : ℕ) (other : Y) (taken more : List X) (one : X) → i < length all → other ≡ get_or all i other → f one ≡ g other → more ≡ taken ++ one ∷ []
    → map f taken ++ map g (drop i all) ≡ map g all → map f more ++ map g (drop (i + 1) all) ≡ map g all
rows_more {X} {Y} {V} f g all i other taken more one inside is same more_is known =
    let later = map g (drop (i + 1) all) in
    ap (λ (xs : List X). map f xs ++ later) more_is
    ∙ ap (λ (row : List V). row ++ later) (map-append f taken (one ∷ []))
    ∙ append_assoc (map f taken) (f one ∷ []) later
    ∙ ap (λ (v : V). map f taken ++ v ∷ later) same
    ∙ ap (λ (ys : List Y). map f taken ++ map g ys) (sym at) ∙ known
  where
    at : drop i all ≡ other ∷ drop (i + 1) all
    at = drop-cons all i other inside ∙ rw (← is, add-one i) refl

-- ---- bounds of parts
-- the sum of bounds, at most 2^64 - 1
abbrev sum_row : List ℕ → ℕ
sum_row [] = 0
sum_row (b ∷ bs) = add b (sum_row bs)

over_row : (ss : List ScorerState) (doc : ℕ) → bound_over ss doc ≡ sum_row (map (λ (s : ScorerState). doc_bound s doc) ss)
over_row [] doc = refl
over_row (s ∷ ss) doc = ap (add (doc_bound s doc)) (over_row ss doc)

under_row : (ps : List PreparedQueryState) (doc : ℕ) → bound_under ps doc ≡ sum_row (map (λ (p : PreparedQueryState). prepared_query_bound p doc) ps)
under_row [] doc = refl
under_row (p ∷ ps) doc = ap (add (prepared_query_bound p doc)) (under_row ps doc)

-- scorers with the bounds of queries have the same sum of them
pub bounds_same : (ss : List ScorerState) (ps : List PreparedQueryState) (doc : ℕ) → map (λ (s : ScorerState). doc_bound s doc) ss ≡ map (λ (p : PreparedQueryState). prepared_query_bound p doc) ps → bound_over ss doc ≡ bound_under ps doc
bounds_same ss ps doc same = over_row ss doc ∙ ap sum_row same ∙ sym (under_row ps doc)
