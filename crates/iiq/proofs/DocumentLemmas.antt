-- Documents that words write, read one by one.
use Rattle.std.proofs.Common.{ℕ, List, ◌++◌, Option, Some}
use Rattle.std.specs.Option.{option_map}
use Rattle.ii_io.specs.Steps.{◌>>=◌, needs}
use Rattle.ii_base.specs.declared.doc_id.TheConstants.{TERMINATED}
use Rattle.ii_base.specs.Entries.{ascend_from}
use Rattle.iiq.specs.Words.{numbers_below}

-- the documents that words write from a least one on
abbrev pub documents_from : ℕ → List (List ℕ) → Option (List ℕ)
documents_from least words = numbers_below TERMINATED words >>= λ (docs : List ℕ). needs (ascend_from least docs) >>= λ _. Some docs

-- documents in front of those that are read on
abbrev pub after : List ℕ → Option (List ℕ) → Option (List ℕ)
after docs found = option_map (λ (others : List ℕ). docs ++ others) found
