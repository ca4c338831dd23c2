-- Computed examples of searches over segments.
use Rattle.std.proofs.Common.{◌≡◌, ℕ, true, false, List, [], ◌∷◌, codes, filter, refl}
use Rattle.std.specs.List.{range_with_len}
use Rattle.ii_base.specs.Terms.{TermState}
use Rattle.ii_definitions.specs.Tokens.{IndexToken}
use Rattle.ii_query_parser.specs.Queries.{QueryTree, all_below, one_phrase, one_term, tree_covers, tree_matches, without}
use Rattle.ii_segments.specs.Segments.{Segment, index_tokens, merged, num_docs_of}

-- a word of a text in field 0
abbrev word : ℕ → ℕ → List ℕ → IndexToken
word doc position text = record { doc = doc; field = 0; key = text; position = position; of_text = true }

abbrev term : List ℕ → TermState
term text = record { field = 0; value = text }

-- "a b" in a segment and in another one, of which the first is deleted
abbrev texts : List IndexToken
texts = word 0 0 (codes "a") ∷ word 0 1 (codes "b") ∷ []

abbrev first_deleted : List Segment
first_deleted = record { alive = false ∷ []; tokens = texts } ∷ record { alive = true ∷ []; tokens = texts } ∷ []

abbrev docs_of : QueryTree → List Segment → List ℕ
docs_of query ss = filter (tree_matches query (index_tokens ss)) (range_with_len 0 (num_docs_of ss))

abbrev phrase_within : ℕ → QueryTree
phrase_within slop = one_phrase (term (codes "b")) (record { distance = 1; term = term (codes "a") } ∷ []) slop

abbrev phrase : QueryTree
phrase = one_phrase (term (codes "a")) (record { distance = 1; term = term (codes "b") } ∷ []) 0

pub phrase_of_second : docs_of phrase first_deleted ≡ 0 ∷ []
phrase_of_second = refl

pub phrase_in_merged : docs_of phrase (merged first_deleted ∷ []) ≡ 0 ∷ []
phrase_in_merged = refl

-- exchanged words are within a slop of 2
pub within_one : docs_of (phrase_within 1) first_deleted ≡ []
within_one = refl

pub within_two : docs_of (phrase_within 2) first_deleted ≡ 0 ∷ []
within_two = refl

-- all documents without a word that none has
pub all_but_none : docs_of (without (all_below 1) (one_term (term (codes "x")))) first_deleted ≡ 0 ∷ []
all_but_none = refl

-- all documents below 2 are all of two, and not all of three
pub covers_two : tree_covers 2 (all_below 2) ≡ true
covers_two = refl

pub covers_three : tree_covers 3 (all_below 2) ≡ false
covers_three = refl
