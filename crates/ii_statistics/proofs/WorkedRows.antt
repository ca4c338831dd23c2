-- What is counted of the terms of a query, computed on small rows.
use Rattle.std.proofs.Common.{◌≡◌, ℕ, List, [], ◌∷◌, None, refl}
use Rattle.ii_base.specs.Terms.{TermState}
use Rattle.ii_query_parser.specs.Queries as queries
use Rattle.ii_statistics.specs.Statistics.{CountsState, freq_of, segments_statistics, terms_damage, tokens_of, tree_terms}

abbrev pub sea : TermState
sea = record { field = 0; value = 115 ∷ [] }

abbrev pub bird : TermState
bird = record { field = 1; value = 98 ∷ [] }

-- excluded terms are counted too, in the order of the query
pub terms_in_order : tree_terms (queries.without (queries.one_term sea) (queries.one_term bird)) ≡ sea ∷ bird ∷ []
terms_in_order = refl

pub terms_of_all : tree_terms (queries.all_below 3) ≡ []
terms_of_all = refl

abbrev pub counts : List CountsState
counts = record { term = sea; doc_freq = 2; num_tokens = 7 } ∷ record { term = bird; doc_freq = 1; num_tokens = 5 } ∷ []

-- the numbers are those of the term and of its field, and none of others
pub freqs_found : (freq_of counts 1 (98 ∷ []) ≡ 1) × (freq_of counts 0 (98 ∷ []) ≡ 0)
freqs_found = (refl, refl)

pub tokens_found : (tokens_of counts 0 ≡ 7) × (tokens_of counts 2 ≡ 0)
tokens_found = (refl, refl)

-- no segments have no documents, and none is damaged
pub none_of_none : ((segments_statistics (λ (field : ℕ). field) []).doc_freq 0 (115 ∷ []) ≡ 0) × (terms_damage [] (sea ∷ []) ≡ None)
none_of_none = (refl, refl)
