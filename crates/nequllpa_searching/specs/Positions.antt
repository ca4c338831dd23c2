-- Positions of a document in a list.
use Rattle.std.specs.Prelude.{ℕ, ◌==◌, List, Option}
use Rattle.std.specs.List.{find}
use Rattle.std.specs.Option.{option_map}
use Rattle.ii_base.specs.Entries.{Entry}

-- the positions of a document in a list, if the list has the document
abbrev pub positions_in_doc : List Entry → ℕ → Option (List ℕ)
positions_in_doc es doc = option_map (λ (e : Entry). e.positions) (find (λ (e : Entry). e.doc == doc) es)
