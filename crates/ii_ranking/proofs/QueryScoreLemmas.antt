-- Laws of the scores of queries that are made of others.
use Rattle.std.proofs.Common.{◌≡◌, ◌∙◌, ℕ, ◌+◌, ◌<◌, ◌≤◌, inl, inr, Bool, true, false, List, [], ◌∷◌, Option, None, Result, Ok, Err, OnOk, Box, Global, Vec, get_or, if◌then◌else◌, length, map, replicate, refl, sym, ap, arith}
use Rattle.std.specs.List.{fold, list_all, range_with_len}
use Rattle.std.proofs.lemmas.Bool.{and_parts}
use Rattle.std.proofs.lemmas.List.{get_or-replicate, get_or_default, length-replicate, same_lists}
use Rattle.std.proofs.lemmas.List.FromFn.{get_or-map-range_with_len, length-map-range_with_len}
use Rattle.ii_io.specs.declared.faults.Fault.{Fault}
use Rattle.ii_io.specs.declared.faults.Part.{Part}
use Rattle.ii_query_parser.specs.declared.query.Query.{Query, size-Query}
use Rattle.ii_query_parser.specs.declared.query.Query.TheViews.{sized-AndNot}
use Rattle.ii_query_parser.specs.declared.query.Query.TheVariants.{AndNot, Phrase}
use Rattle.ii_query_parser.specs.declared.query.PhraseTerm.{PhraseTerm}
use Rattle.ii_query_parser.proofs.QueryLemmas.{and_not_fields, and_not_tree, phrase_tree}
use Rattle.ii_base.specs.Terms.{TermState}
use Rattle.ii_query_parser.specs.Queries.{QueryTree, has_fields, tree_of, trees_of}
use Rattle.ii_reader.specs.OpenIndex.{OpenIndexState}
use Rattle.ii_ranking.specs.declared.combination.Combination.{Combination}
use Rattle.ii_ranking.specs.declared.combination.Combination.TheVariants.{Either, Both}
use Rattle.ii_ranking.specs.Combinations.{AddsToEach, AreCombined, combined}
use Rattle.ii_scorer.specs.Combinations.{any_of, both, each_of, either, unless}
use Rattle.ii_scorer.proofs.SumLemmas.{either_first}
use Rattle.ii_ranking.specs.Scores.{IsScoreFault, Scored, first_of, phrase_score, query_damage, query_score, tree_score, tree_scores, trees_damage}

-- The scores so far, with those of the queries that are left, are all that are added.
pub record IsAddingAny (s : Scored) (index : OpenIndexState) (all left : List Query) (old new : List (Option ℕ)) : Type 0 where
  pub many : length new ≡ length old
  pub each : (doc : ℕ) → doc < length old → fold either (get_or new doc None) (tree_scores s (trees_of left) doc) ≡ fold either (get_or old doc None) (tree_scores s (trees_of all) doc)
  pub sound : trees_damage index (trees_of left) ≡ trees_damage index (trees_of all)
  pub fields : list_all (has_fields (length index.readers)) left ≡ true

pub any_none : (s : Scored) (index : OpenIndexState) (all : List Query) (old : List (Option ℕ)) → list_all (has_fields (length index.readers)) all ≡ true → IsAddingAny s index all all old old
any_none s index all old fields = record { many = refl; each = λ doc inside. refl; sound = refl; fields = fields }

-- the fields of the next query
pub next_fields : (n : ℕ) (left others : List Query) (q : Query) → left ≡ q ∷ others → list_all (has_fields n) left ≡ true → has_fields n q ≡ true
next_fields n left others q is fields = (and_parts (has_fields n q) (list_all (has_fields n) others) (rw is at fields)).0

pub any_all : (s : Scored) (index : OpenIndexState) (all left : List Query) (old new : List (Option ℕ)) → IsAddingAny s index all left old new → left ≡ [] → AddsToEach (λ (doc : ℕ). any_of (tree_scores s (trees_of all) doc)) old new
any_all s index all left old new a none = record {
  many = a.many;
  each = λ doc inside. ap (λ (qs : List Query). fold either (get_or new doc None) (tree_scores s (trees_of qs) doc)) (sym none) ∙ a.each doc inside ∙ either_first (get_or old doc None) (tree_scores s (trees_of all) doc);
}

-- a query that is refused
pub refused_next : (index : OpenIndexState) (all left others : List Query) (q : Query) (fault : Fault) → trees_damage index (trees_of left) ≡ trees_damage index (trees_of all) → left ≡ q ∷ others → IsScoreFault (query_damage index q) fault → IsScoreFault (trees_damage index (trees_of all)) fault
refused_next index all left others q fault same is (inl memory) = inl memory
refused_next index all left others q fault same is (inr (part, told, damage)) =
    inr (part, told, sym same ∙ ap (λ (qs : List Query). trees_damage index (trees_of qs)) is ∙ ap (λ (d : Option Part). first_of d (trees_damage index (trees_of others))) damage)

-- how the next part is combined
abbrev pub next_by : Bool → Combination
next_by first = if first then Either else Both

-- what a document scores by the parts so far and those that are left
abbrev pub each_after : Bool → Option ℕ → List (Option ℕ) → Option ℕ
each_after true score scores = each_of scores
each_after false score scores = fold both score scores

-- The scores so far, with those of the queries that are left, are those of all; before the first one there is none.
pub record IsAddingEach (s : Scored) (index : OpenIndexState) (all left : List Query) (first : Bool) (size : ℕ) (scores : List (Option ℕ)) : Type 0 where
  pub many : length scores ≡ size
  pub none : first ≡ true → (doc : ℕ) → doc < size → get_or scores doc None ≡ None
  pub each : (doc : ℕ) → doc < size → each_after first (get_or scores doc None) (tree_scores s (trees_of left) doc) ≡ each_of (tree_scores s (trees_of all) doc)
  pub sound : trees_damage index (trees_of left) ≡ trees_damage index (trees_of all)
  pub fields : list_all (has_fields (length index.readers)) left ≡ true

pub each_none : (s : Scored) (index : OpenIndexState) (all : List Query) (size : ℕ) (scores : List (Option ℕ)) → scores ≡ replicate size None → list_all (has_fields (length index.readers)) all ≡ true → IsAddingEach s index all all true size scores
each_none s index all size scores is fields = record {
  many = ap length is ∙ length-replicate size None;
  none = λ first doc inside. ap (λ (row : List (Option ℕ)). get_or row doc None) is ∙ get_or-replicate size doc None None inside;
  each = λ doc inside. refl;
  sound = refl;
  fields = fields;
}

-- other scores that were combined
pub combined_alike : (by : Combination) (f g : ℕ → Option ℕ) (old new : List (Option ℕ)) → ((doc : ℕ) → doc < length old → f doc ≡ g doc) → AreCombined by f old new → AreCombined by g old new
combined_alike by f g old new same a = record { many = a.many; each = λ doc inside. a.each doc inside ∙ ap (combined by (get_or old doc None)) (same doc inside) }

-- what was added to none
pub added_to_none : (size : ℕ) (f : ℕ → Option ℕ) (old new : List (Option ℕ)) → old ≡ replicate size None → AddsToEach f old new → new ≡ map f (range_with_len 0 size)
added_to_none size f old new is a =
    let many : length old ≡ size = ap length is ∙ length-replicate size None in
    let long : length new ≡ size = a.many ∙ many in
    same_lists new (map f (range_with_len 0 size)) (long ∙ sym (length-map-range_with_len f 0 size)) (λ k d inside.
    get_or_default new k d None inside ∙ a.each k (omega (arith, many, long, inside))
    ∙ ap (λ (score : Option ℕ). either score (f k)) (ap (λ (row : List (Option ℕ)). get_or row k None) is ∙ get_or-replicate size k None None (omega (arith, long, inside)))
    ∙ sym (get_or-map-range_with_len f 0 size k k d (omega (arith, long, inside)) (omega arith)))

-- what follows from success
pub on_ok_then : {A : Type 0} {P Q : Type 0} (r : Result A Fault) → OnOk r P → (P → Q) → OnOk r Q
on_ok_then (Ok x) holds next = next holds
on_ok_then (Err fault) holds next = tt

-- the second of two parts is less deep than both
pub and_not_deep : (query other : Query) (first second : Box Query Global) → query ≡ AndNot first second → other ≡ second.value → size-Query other + 1 ≤ size-Query query
and_not_deep query other first second is at = let size = sized-AndNot first second in rw (is, at) (omega (arith, size))

-- its fields
pub and_not_other_fields : (n : ℕ) (query other : Query) (first second : Box Query Global) → query ≡ AndNot first second → other ≡ second.value → has_fields n query ≡ true → has_fields n other ≡ true
and_not_other_fields n query other first second is at fields =
    ap (has_fields n) at ∙ (and_parts (has_fields n first.value) (has_fields n second.value) (sym (and_not_fields n first second) ∙ ap (has_fields n) (sym is) ∙ fields)).1

-- what documents score by a phrase
pub phrase_query : (s : Scored) (query : Query) (first : TermState) (others : Vec PhraseTerm Global) (terms : List PhraseTerm) (slop : ℕ) → query ≡ Phrase first others slop → terms ≡ others.items → phrase_score s first terms slop ≡ query_score s query
phrase_query s query first others terms slop is at = ap (λ (os : List PhraseTerm). phrase_score s first os slop) at ∙ sym (ap (tree_score s) (ap tree_of is ∙ phrase_tree first others slop))

-- what they score by a query, unless they match another one
pub and_not_query : (s : Scored) (query one other : Query) (first second : Box Query Global) → query ≡ AndNot first second → one ≡ first.value → other ≡ second.value → (doc : ℕ) → unless (query_score s one doc) (query_score s other doc) ≡ query_score s query doc
and_not_query s query one other first second is one_is other_is doc =
    (λ j. unless (query_score s (one_is j) doc) (query_score s (other_is j) doc)) ∙ sym (ap (λ (tree : QueryTree). tree_score s tree doc) (ap tree_of is ∙ and_not_tree first second))
