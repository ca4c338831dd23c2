-- The bytes of a term after a borrow of the appended part ends.
use Rattle.std.specs.Prelude.{◌≡◌, List, ℕ, ◌++◌, Result, OnErr, OnOk, ⊤}
use Rattle.std.specs.Borrow.{Bor, Fml, MutBor, follows_so}
use mathlib.Core.Option.{none}
use Rattle.ii_io.specs.declared.faults.Fault.{Fault}
use Rattle.ii_json.specs.contracts.json_term_serializer.JsonTermSerializer.{the_row}

-- The bytes were appended; after an error nothing changed.
abbrev pub RestsWith : MutBor (List ℕ) → List ℕ → Result (Bor (List ℕ)) Fault → Fml
RestsWith s bytes r =
    follows_so the_row the_row s.ghost_name none (λ _ _. ⊤)
    (λ (n : List ℕ). OnOk r (n ≡ s.now ++ bytes) × OnErr r (n ≡ s.now))
