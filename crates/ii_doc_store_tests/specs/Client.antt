-- Borrowed documents as lists of bytes.
use Rattle.std.specs.Prelude.{ℕ, List, map}
use Rattle.std.specs.Borrow.{Bor}

-- the bytes of borrowed documents
abbrev pub bytes_of : List (Bor (List ℕ)) → List (List ℕ)
bytes_of documents = map (λ (d : Bor (List ℕ)). d.now) documents
