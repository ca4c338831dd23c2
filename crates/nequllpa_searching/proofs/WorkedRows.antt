-- Which documents have one of some terms, computed on examples.
use Rattle.std.proofs.Common.{◌≡◌, ℕ, List, true, [], ◌∷◌, filter, refl}
use Rattle.std.specs.List.{range_with_len}
use Rattle.ii_base.specs.Terms.{TermState}
use Rattle.ii_definitions.specs.Tokens.{IndexToken}
use Rattle.nequllpa_searching.specs.Deleting.{has_one_of, is_among}

-- documents in ascending order, each once, of those below a number
in_order : filter (is_among (3 ∷ 1 ∷ 3 ∷ 9 ∷ [])) (range_with_len 0 5) ≡ 1 ∷ 3 ∷ []
in_order = refl

abbrev token : ℕ → ℕ → List ℕ → IndexToken
token doc field key = record { doc = doc; field = field; key = key; position = 0; of_text = true }

abbrev term : ℕ → List ℕ → TermState
term field key = record { field = field; value = key }

-- a document has one of two terms, in their field
by_tokens : filter (has_one_of (term 0 (97 ∷ []) ∷ term 0 (98 ∷ []) ∷ []) (token 0 0 (98 ∷ []) ∷ token 1 1 (97 ∷ []) ∷ token 2 0 (97 ∷ []) ∷ token 2 0 (98 ∷ []) ∷ [])) (range_with_len 0 4) ≡ 0 ∷ 2 ∷ []
by_tokens = refl
