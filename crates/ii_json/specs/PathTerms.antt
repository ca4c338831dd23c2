-- The terms of a JSON field, with path ids.
use Rattle.std.specs.Prelude.{◌≡◌, ◌<◌, ℕ, false, List, [], ◌∷◌, length, slice_index_or}
use Rattle.std.specs.Cmp.Lexicographic.{slice_cmp}
use Rattle.std.specs.List.Sorted.{IsStrictlySortedBy}
use Rattle.std.specs.Ordering.{nat_cmp, ordering_then}
use Rattle.std.specs.declared.cmp.Ordering.{Ordering}
use Rattle.ii_base.specs.Paths.{has_zero}
use Rattle.ii_base.specs.Values.{json_key}
use Rattle.ii_json.specs.PathRank.{path_rank}

-- A term: the unordered id of its path, the letter of its type, and the bytes of its value.
pub record PathTerm : Type 0 where
  pub path_id : ℕ
  pub code : ℕ
  pub payload : List ℕ

-- the path of a term
abbrev pub path_of_term : List (List ℕ) → PathTerm → List ℕ
path_of_term known t = slice_index_or known t.path_id []

-- the key of a term in a dictionary, with its path in place of the id
abbrev pub key_of_term : List (List ℕ) → PathTerm → List ℕ
key_of_term known t = json_key (path_of_term known t) (t.code ∷ t.payload)

-- the ordered id of a term's path, its rank
abbrev pub ordered_id_of_term : List (List ℕ) → PathTerm → ℕ
ordered_id_of_term known t = path_rank known (path_of_term known t)

-- the order of terms by the ranks of their paths, then by types, then by values
abbrev pub term_cmp : List (List ℕ) → PathTerm → PathTerm → Ordering
term_cmp known s t = ordering_then (nat_cmp (ordered_id_of_term known s) (ordered_id_of_term known t)) (ordering_then (nat_cmp s.code t.code) (slice_cmp nat_cmp s.payload t.payload))

-- The id of a term is the id of a known path, which holds no byte 0.
abbrev pub HasPath : List (List ℕ) → PathTerm → Type 0
HasPath known t = (t.path_id < length known) × (has_zero (path_of_term known t) ≡ false)

-- Each term comes before all that follow.
abbrev pub AreAscendingTerms : List (List ℕ) → List PathTerm → Type 0
AreAscendingTerms known terms = IsStrictlySortedBy (term_cmp known) terms
