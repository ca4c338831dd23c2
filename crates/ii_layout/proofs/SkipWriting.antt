-- What a skip serializer writes.
use Rattle.std.proofs.Common.{◌≡◌, ℕ, ◌+◌, List, [], ◌∷◌, ◌++◌, set, refl, ap, ◌∙◌, arith}
use Rattle.std.specs.Int.{bytes_low_first}
use Rattle.ii_io.specs.Numbers.{le_bytes}
use Rattle.ii_io.specs.NumberLemmas.{bytes_low_first-le_bytes}
use Rattle.ii_layout.specs.Written.{code_of_width}

-- a code after the four bytes of a document
pub code_after : (n w code : ℕ) → code ≡ w + 64 → set (bytes_low_first 0 4 n ++ 0 ∷ []) 4 code ≡ le_bytes 4 n ++ code_of_width w ∷ []
unfolding le_bytes
code_after n w code e =
    let same : code ≡ 64 + w = omega arith in
    ap (λ (bytes : List ℕ). set (bytes ++ 0 ∷ []) 4 code) (bytes_low_first-le_bytes 4 n) ∙ rw same refl
