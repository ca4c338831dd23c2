-- Flags of documents: whether each one is alive.
use Rattle.std.specs.Prelude.{ℕ, Bool, List, count_by, take}

-- how many documents before a document are alive
abbrev pub rank : List Bool → ℕ → ℕ
rank alive doc = count_by (λ (b : Bool). b) (take doc alive)

-- how many documents are alive
abbrev pub num_living : List Bool → ℕ
num_living alive = count_by (λ (b : Bool). b) alive
