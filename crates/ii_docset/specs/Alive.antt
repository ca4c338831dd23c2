-- The alive documents of a list.
use Rattle.std.specs.Prelude.{ℕ, ◌<◌, Bool, false, List, filter, length, slice_index_or}
use Rattle.std.specs.List.{All}
use Rattle.ii_base.specs.Entries.{Entry}

-- There is a flag for each document of the list.
abbrev pub IsCovered : List Bool → List Entry → Type 0
IsCovered alive es = All (λ (e : Entry). e.doc < length alive) es

-- the number of documents of the list that are alive
abbrev pub alive_in : List Bool → List Entry → ℕ
alive_in alive es = length (filter (λ (e : Entry). slice_index_or alive e.doc false) es)
