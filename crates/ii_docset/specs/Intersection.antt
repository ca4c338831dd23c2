-- The common documents of two lists.
use Rattle.std.specs.Prelude.{ℕ, Bool, List, filter, nat_eq}
use Rattle.std.specs.List.{list_any}
use Rattle.ii_base.specs.Entries.{Entry, docs_of}

-- whether a list contains a document
abbrev pub has_doc : List Entry → ℕ → Bool
has_doc es doc = list_any (λ (e : Entry). nat_eq e.doc doc) es

-- the documents that both lists contain, in order
abbrev pub common_docs : List Entry → List Entry → List ℕ
common_docs es fs = filter (has_doc fs) (docs_of es)
