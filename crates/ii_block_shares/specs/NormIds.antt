-- The norm ids of documents, of a field that may have none.
use Rattle.std.specs.Prelude.{ℕ, Option, None, Some, if◌then◌else◌, nat_lt}
use Rattle.ii_fieldnorm.specs.Readers.{Norms, id_of_doc}

-- the norm id of a document, that of the norm 1 where there is none for it
abbrev pub id_among : Option Norms → ℕ → ℕ
id_among None doc = 1
id_among (Some norms) doc = if nat_lt doc norms.num_docs then id_of_doc norms doc else 1
