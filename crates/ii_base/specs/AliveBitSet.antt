-- Flags of alive documents.
use Rattle.std.specs.Prelude.{ℕ, Bool, not, List, map, nat_eq}
use Rattle.std.specs.List.{list_any, range_with_len}

-- a flag for each document: whether it isn't among the deleted ones
abbrev pub alive_but : List ℕ → ℕ → List Bool
alive_but deleted num_docs = map (λ (doc : ℕ). not (list_any (λ (d : ℕ). nat_eq d doc) deleted)) (range_with_len 0 num_docs)
