-- Computed examples of the scores of tokens. The scores are those of a second program.
use Rattle.std.proofs.Common.{◌≡◌, ℕ, true, false, List, [], ◌∷◌, None, Some, codes, map, refl}
use Rattle.std.specs.Int.Count.{count_leading_zeros}
use Rattle.ii_base.specs.Schema.{SchemaEntry}
use Rattle.ii_base.specs.Terms.{TermState}
use Rattle.ii_base.specs.declared.schema.index_record_option.IndexRecordOption.TheVariants.{WithFreqsAndPositions}
use Rattle.ii_base.specs.declared.schema.value_type.ValueType.TheVariants.{Str}
use Rattle.ii_bm25.specs.Log.{log2_fixed}
use Rattle.ii_bm25.specs.Statistics.{Statistics}
use Rattle.ii_fieldnorm.specs.Norms.{id_of_norm, norm_of_id}
use Rattle.ii_definitions.specs.Tokens.{IndexToken}
use Rattle.ii_query_parser.specs.Queries.{no_tree, one_phrase, one_term, tree}
use Rattle.ii_query_parser.specs.Queries as queries
use Rattle.ii_ranking.specs.Scores.{scored_by_tokens, tree_score}
use Rattle.ii_ranking.specs.Shares.{ShareState, tree_shares}
use Rattle.ii_ranking.specs.TokenCounts.{num_tokens_of, phrase_starts, phrase_starts_within}

-- a word of a text in field 0
abbrev word : ℕ → ℕ → List ℕ → IndexToken
word doc position text = record { doc = doc; field = 0; key = text; position = position; of_text = true }

abbrev term : List ℕ → TermState
term text = record { field = 0; value = text }

-- "the old sea" and "the sea the old sea"
abbrev texts : List IndexToken
texts =
    word 0 0 (codes "the") ∷ word 0 1 (codes "old") ∷ word 0 2 (codes "sea")
    ∷ word 1 0 (codes "the") ∷ word 1 1 (codes "sea") ∷ word 1 2 (codes "the") ∷ word 1 3 (codes "old") ∷ word 1 4 (codes "sea") ∷ []

pub old_once : num_tokens_of texts (term (codes "old")) 1 ≡ 1
old_once = refl

pub sea_twice : num_tokens_of texts (term (codes "sea")) 1 ≡ 2
sea_twice = refl

-- "old sea" begins once in each, "sea the" in the second alone
pub old_sea : phrase_starts texts (term (codes "old")) (record { distance = 1; term = term (codes "sea") } ∷ []) 0 ≡ 1
old_sea = refl

pub sea_the : phrase_starts texts (term (codes "sea")) (record { distance = 1; term = term (codes "the") } ∷ []) 0 ≡ 0
sea_the = refl

pub sea_the_later : phrase_starts texts (term (codes "sea")) (record { distance = 1; term = term (codes "the") } ∷ []) 1 ≡ 1
sea_the_later = refl

-- "the sea" begins within a slop of 1 at the first word of the first text, where "old" is between; "sea the", exchanged, within 3
abbrev near_starts : ℕ → List ℕ → List ℕ → ℕ → ℕ
near_starts slop first second doc = phrase_starts_within slop texts (term first) (record { distance = 1; term = term second } ∷ []) doc

pub the_sea_near : map (λ (slop : ℕ). near_starts slop (codes "the") (codes "sea") 0) (0 ∷ 1 ∷ []) ≡ 0 ∷ 1 ∷ []
the_sea_near = refl

pub sea_the_near : map (λ (slop : ℕ). near_starts slop (codes "sea") (codes "the") 0) (2 ∷ 3 ∷ []) ≡ 0 ∷ 1 ∷ []
sea_the_near = refl

-- in the second text "the sea" begins at both words "the" within 1
pub the_sea_twice : map (λ (slop : ℕ). near_starts slop (codes "the") (codes "sea") 1) (0 ∷ 1 ∷ []) ≡ 1 ∷ 2 ∷ []
the_sea_twice = refl

abbrev schema : List SchemaEntry
schema = record { name = codes "body"; value_type = Str; option = WithFreqsAndPositions; is_indexed = true; has_fieldnorms = true; expands_dots = false } ∷ []

-- two documents, eight tokens, each word in both
abbrev numbers : Statistics
numbers = record { num_docs = 2; num_tokens = λ field. 8; doc_freq = λ field key. 2 }

pub score_of_the : tree_score (scored_by_tokens schema texts numbers) (one_term (term (codes "the"))) 1 ≡ Some 64382810291
unfolding log2_fixed count_leading_zeros id_of_norm norm_of_id
score_of_the = refl

pub score_of_old : tree_score (scored_by_tokens schema texts numbers) (one_term (term (codes "old"))) 0 ≡ Some 55825604729
unfolding log2_fixed count_leading_zeros id_of_norm norm_of_id
score_of_old = refl

pub score_of_phrase : tree_score (scored_by_tokens schema texts numbers) (one_phrase (term (codes "the")) (record { distance = 1; term = term (codes "sea") } ∷ []) 0) 1 ≡ Some 90932431040
unfolding log2_fixed count_leading_zeros id_of_norm norm_of_id
score_of_phrase = refl

pub score_of_both : tree_score (scored_by_tokens schema texts numbers) (queries.each_of (tree (one_term (term (codes "the"))) (tree (one_term (term (codes "old"))) no_tree))) 0 ≡ Some 111651209458
unfolding log2_fixed count_leading_zeros id_of_norm norm_of_id
score_of_both = refl

pub no_score : tree_score (scored_by_tokens schema texts numbers) (one_phrase (term (codes "the")) (record { distance = 1; term = term (codes "sea") } ∷ []) 0) 0 ≡ None
no_score = refl

-- the share of a word, each of which has this weight
abbrev word_share : List ℕ → ℕ → ℕ → ℕ → ShareState
word_share text count norm_id score = record { part = one_term (term text); weight = 1682366; count = count; norm_id = norm_id; score = score }

-- "the" and "old" have a share each; where "the sea" has to match too, there is none
pub shares_of_both : tree_shares (scored_by_tokens schema texts numbers) (queries.each_of (tree (one_term (term (codes "the"))) (tree (one_term (term (codes "old"))) no_tree))) 0
    ≡ word_share (codes "the") 1 3 55825604729 ∷ word_share (codes "old") 1 3 55825604729 ∷ []
unfolding log2_fixed count_leading_zeros id_of_norm norm_of_id
shares_of_both = refl

pub no_shares : tree_shares (scored_by_tokens schema texts numbers) (queries.each_of (tree (one_term (term (codes "the"))) (tree (one_phrase (term (codes "the")) (record { distance = 1; term = term (codes "sea") } ∷ []) 0) no_tree))) 0 ≡ []
unfolding log2_fixed count_leading_zeros id_of_norm norm_of_id
no_shares = refl

-- a phrase has one share, with the weight of both words
pub shares_of_any : tree_shares (scored_by_tokens schema texts numbers) (queries.any_of (tree (one_term (term (codes "the"))) (tree (one_phrase (term (codes "the")) (record { distance = 1; term = term (codes "sea") } ∷ []) 0) no_tree))) 1
    ≡ word_share (codes "the") 2 5 64382810291 ∷ record { part = one_phrase (term (codes "the")) (record { distance = 1; term = term (codes "sea") } ∷ []) 0; weight = 3364732; count = 1; norm_id = 5; score = 90932431040 } ∷ []
unfolding log2_fixed count_leading_zeros id_of_norm norm_of_id
shares_of_any = refl

-- what is excluded has no share
pub shares_without : tree_shares (scored_by_tokens schema texts numbers) (queries.without (one_term (term (codes "old"))) (one_phrase (term (codes "the")) (record { distance = 1; term = term (codes "sea") } ∷ []) 0)) 0
    ≡ word_share (codes "old") 1 3 55825604729 ∷ []
unfolding log2_fixed count_leading_zeros id_of_norm norm_of_id
shares_without = refl
