-- A document has a score exactly if it matches.
use Rattle.std.proofs.Common.{◌≡◌, ◌∙◌, ℕ, zero, suc, ◌<◌, Bool, true, false, ◌&&◌, ◌||◌, not, List, [], ◌∷◌, Option, None, Some, filter, if◌then◌else◌, is_some, length, map, min, refl, sym, ap, arith}
use Rattle.std.specs.Prelude.{count_by}
use Rattle.std.specs.List.{fold, list_all, list_any}
use Rattle.std.proofs.Math.Bool.{and-true, or-false}
use Rattle.std.proofs.lemmas.Bool.{and_parts, ne_eqb}
use Rattle.std.proofs.lemmas.List.Sums.{length-filter}
use Rattle.ii_base.specs.Schema.{SchemaEntry}
use Rattle.ii_base.specs.Terms.{TermState}
use Rattle.ii_bm25.specs.Statistics.{Statistics}
use Rattle.ii_bm25.specs.declared.bm25.TheConstants.{SCORE_ONE}
use Rattle.ii_definitions.specs.Postings.{is_at, tokens_at}
use Rattle.ii_definitions.specs.Tokens.{IndexToken}
use Rattle.ii_segments.proofs.OrderLemmas.{Ascend, ascend_from_order, filter_ascends}
use Rattle.ii_query_parser.specs.declared.query.PhraseTerm.{PhraseTerm}
use Rattle.ii_query_parser.specs.Queries as queries
use Rattle.ii_query_parser.specs.Queries.{QueryTree, QueryTrees, all_match, any_matches, follow_near, has_phrase_prefix, has_phrase_within, has_positions_in, has_tree, hold_for_all, holds_for_all, is_text_key, is_token_in, is_token_of, phrase_has_positions, tree_matches, tree_of}
use Rattle.ii_scorer.specs.Combinations.{both, each_of, either, unless}
use Rattle.ii_ranking.specs.Scores.{if_occurs, phrase_score, score_by, scored_by_tokens, term_score, tree_score, tree_scores}
use Rattle.ii_ranking.specs.TokenCounts.{AreOrdered, MatchesScore, PhrasesScoreByStarts, keeps_counts, num_tokens_of}
use Rattle.ii_ranking.proofs.CountLaws.{terms_score_by_counts}
use Rattle.ii_ranking.proofs.PhraseCountLaws.{phrase_counted}

-- the tokens of a key are in order where all are
key_ordered : (ts : List IndexToken) → AreOrdered ts → (term : TermState) → Ascend 0 (tokens_at term.field term.value ts)
key_ordered ts ordered term = filter_ascends (is_at term.field term.value) 0 ts (ascend_from_order ts ordered)

pub phrases_score_by_starts : PhrasesScoreByStarts
phrases_score_by_starts schema ts st first others slop doc ordered keeps =
    let k = and_parts (has_positions_in schema first) (list_all (λ (o : PhraseTerm). has_positions_in schema o.term) others) keeps in
    ap (if_occurs (score_by (scored_by_tokens schema ts st) (first ∷ map (λ (o : PhraseTerm). o.term) others) first.field doc))
    (phrase_counted schema ts (key_ordered ts ordered) doc slop first others k.0 k.1)

module _ (score_of : ℕ → ℕ) where
  some_occurs : (n : ℕ) → 0 < n → is_some (if_occurs score_of n) ≡ true
  some_occurs n some = rw (ne_eqb n 0 (λ same. omega (arith, some, same))) refl

  -- something occurs where one of the tokens passes
  occurs_any : {X : Type 0} (p : X → Bool) (xs : List X) → is_some (if_occurs score_of (count_by p xs)) ≡ list_any p xs
  occurs_any p xs = ap (λ (n : ℕ). is_some (if_occurs score_of n)) (sym (length-filter p xs)) ∙ by xs
    where
      by : (ys : List _) → is_some (if_occurs score_of (length (filter p ys))) ≡ list_any p ys
      by [] = refl
      by (y ∷ ys) = at (p y) refl (by ys)
        where
          at : (b : Bool) → p y ≡ b → is_some (if_occurs score_of (length (filter p ys))) ≡ list_any p ys → is_some (if_occurs score_of (length (filter p (y ∷ ys)))) ≡ list_any p (y ∷ ys)
          at true is later = rw is (some_occurs (suc (length (filter p ys))) (omega arith))
          at false is later = rw is later

  occurs_if : (b : Bool) (n : ℕ) (any : Bool) → is_some (if_occurs score_of n) ≡ any → is_some (if_occurs score_of (if b then n else 0)) ≡ (b && any)
  occurs_if true n any is = is
  occurs_if false n any is = refl

  occurs_once : (b : Bool) (n : ℕ) → is_some (if_occurs score_of (if b then n else min 1 n)) ≡ is_some (if_occurs score_of n)
  occurs_once true n = refl
  occurs_once false zero = refl
  occurs_once false (suc n) = let one : min 1 (suc n) ≡ 1 = omega arith in ap (λ (k : ℕ). is_some (if_occurs score_of k)) one ∙ sym (some_occurs (suc n) (omega arith))

either_some : (a b : Option ℕ) → is_some (either a b) ≡ (is_some a || is_some b)
either_some None b = refl
either_some (Some a) None = refl
either_some (Some a) (Some b) = refl

both_some : (a b : Option ℕ) → is_some (both a b) ≡ (is_some a && is_some b)
both_some None b = refl
both_some (Some a) None = refl
both_some (Some a) (Some b) = refl

unless_some : (a b : Option ℕ) → is_some (unless a b) ≡ (is_some a && not (is_some b))
unless_some None None = refl
unless_some (Some a) None = refl
unless_some None (Some b) = refl
unless_some (Some a) (Some b) = refl

or_grouped : (a b c : Bool) → ((a || b) || c) ≡ (a || (b || c))
or_grouped true b c = refl
or_grouped false b c = refl

and_grouped : (a b c : Bool) → ((a && b) && c) ≡ (a && (b && c))
and_grouped true b c = refl
and_grouped false b c = refl

-- those of which one has a score, and those of which each has
fold_either : (a : Option ℕ) (scores : List (Option ℕ)) → is_some (fold either a scores) ≡ (is_some a || list_any is_some scores)
fold_either a [] = sym (or-false (is_some a))
fold_either a (s ∷ scores) = fold_either (either a s) scores ∙ ap (λ (b : Bool). b || list_any is_some scores) (either_some a s) ∙ or_grouped (is_some a) (is_some s) (list_any is_some scores)

fold_both : (a : Option ℕ) (scores : List (Option ℕ)) → is_some (fold both a scores) ≡ (is_some a && list_all is_some scores)
fold_both a [] = sym (and-true (is_some a))
fold_both a (s ∷ scores) = fold_both (both a s) scores ∙ ap (λ (b : Bool). b && list_all is_some scores) (both_some a s) ∙ and_grouped (is_some a) (is_some s) (list_all is_some scores)

if_some : (b : Bool) → is_some (if b then Some SCORE_ONE else None) ≡ b
if_some true = refl
if_some false = refl

module _ (schema : List SchemaEntry) (ts : List IndexToken) (st : Statistics) (ordered : AreOrdered ts) (doc : ℕ) where
  term_some : (term : TermState) → is_some (term_score (scored_by_tokens schema ts st) term doc) ≡ list_any (is_token_of term doc) ts
  term_some term =
      let score_of = score_by (scored_by_tokens schema ts st) (term ∷ []) term.field doc in
      ap is_some (terms_score_by_counts schema ts st term doc ordered) ∙ occurs_once score_of (keeps_counts schema ts term) (num_tokens_of ts term doc) ∙ occurs_any score_of (is_token_of term doc) ts

  phrase_some : (first : TermState) (others : List PhraseTerm) (slop : ℕ) → phrase_has_positions schema first others ≡ true → is_some (phrase_score (scored_by_tokens schema ts st) first others slop doc) ≡ has_phrase_within slop ts doc first others
  phrase_some first others slop keeps =
      let score_of = score_by (scored_by_tokens schema ts st) (first ∷ map (λ (o : PhraseTerm). o.term) others) first.field doc in
      let starts : IndexToken → Bool = λ t. is_token_of first doc t && follow_near slop ts doc others t.position in
      ap is_some (phrases_score_by_starts schema ts st first others slop doc ordered keeps) ∙ occurs_if score_of (is_text_key first ts) (count_by starts ts) (list_any starts ts) (occurs_any score_of starts ts)

  mutual
    tree_some : (q : QueryTree) → holds_for_all (λ (t : TermState). true) (phrase_has_positions schema) q ≡ true → is_some (tree_score (scored_by_tokens schema ts st) q doc) ≡ tree_matches q ts doc
    tree_some queries.nothing keeps = refl
    tree_some (queries.all_below m) keeps = if_some _
    tree_some (queries.one_term term) keeps = term_some term
    tree_some (queries.one_phrase first others slop) keeps = phrase_some first others slop keeps
    tree_some (queries.one_phrase_prefix phrase) keeps = if_some _ ∙ ap (λ (b : Bool). b && has_phrase_prefix phrase ts doc) keeps
    tree_some (queries.one_range range) keeps = if_some _
    tree_some (queries.each_of qs) keeps = each_some qs keeps
    tree_some (queries.any_of qs) keeps = fold_either None (tree_scores (scored_by_tokens schema ts st) qs doc) ∙ any_some qs keeps
    tree_some (queries.without first other) keeps =
        let k = and_parts (holds_for_all (λ (t : TermState). true) (phrase_has_positions schema) first) (holds_for_all (λ (t : TermState). true) (phrase_has_positions schema) other) keeps in
        let one = tree_some first k.0 in
        let two = tree_some other k.1 in
        unless_some (tree_score (scored_by_tokens schema ts st) first doc) (tree_score (scored_by_tokens schema ts st) other doc) ∙ (λ j. one j && not (two j))

    each_some : (qs : QueryTrees) → hold_for_all (λ (t : TermState). true) (phrase_has_positions schema) qs ≡ true → is_some (each_of (tree_scores (scored_by_tokens schema ts st) qs doc)) ≡ (has_tree qs && all_match qs ts doc)
    each_some queries.no_tree keeps = refl
    each_some (queries.tree q qs) keeps =
        let k = and_parts (holds_for_all (λ (t : TermState). true) (phrase_has_positions schema) q) (hold_for_all (λ (t : TermState). true) (phrase_has_positions schema) qs) keeps in
        let one = tree_some q k.0 in
        let all = all_some qs k.1 in
        fold_both (tree_score (scored_by_tokens schema ts st) q doc) (tree_scores (scored_by_tokens schema ts st) qs doc) ∙ (λ j. one j && all j)

    all_some : (qs : QueryTrees) → hold_for_all (λ (t : TermState). true) (phrase_has_positions schema) qs ≡ true → list_all is_some (tree_scores (scored_by_tokens schema ts st) qs doc) ≡ all_match qs ts doc
    all_some queries.no_tree keeps = refl
    all_some (queries.tree q qs) keeps =
        let k = and_parts (holds_for_all (λ (t : TermState). true) (phrase_has_positions schema) q) (hold_for_all (λ (t : TermState). true) (phrase_has_positions schema) qs) keeps in
        let one = tree_some q k.0 in
        let all = all_some qs k.1 in
        λ j. one j && all j

    any_some : (qs : QueryTrees) → hold_for_all (λ (t : TermState). true) (phrase_has_positions schema) qs ≡ true → list_any is_some (tree_scores (scored_by_tokens schema ts st) qs doc) ≡ any_matches qs ts doc
    any_some queries.no_tree keeps = refl
    any_some (queries.tree q qs) keeps =
        let k = and_parts (holds_for_all (λ (t : TermState). true) (phrase_has_positions schema) q) (hold_for_all (λ (t : TermState). true) (phrase_has_positions schema) qs) keeps in
        let one = tree_some q k.0 in
        let any = any_some qs k.1 in
        λ j. one j || any j

pub matches_score : MatchesScore
matches_score schema ts st query doc ordered keeps = tree_some schema ts st ordered doc (tree_of query) keeps
