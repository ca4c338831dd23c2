-- The field at the start of a term's bytes.
use Rattle.std.proofs.Common.{◌≡◌, ℕ, ◌≤◌, ◌<◌, List, ◌++◌, length, take, drop, refl, sym, ap, arith, ◌∙◌, subst, length-append}
use Rattle.std.specs.Prelude.{◌^◌}
use Rattle.std.proofs.Math.Seq.{drop-append_seam}
use Rattle.std.proofs.lemmas.List.{take-append-drop, take-append-le, take_all}
use Rattle.ii_postings_writer.specs.IndexingTerm.{AreTermBytes, IndexingTermState, field_bytes, term_bytes}

pub length_field : (field : ℕ) → length (field_bytes field) ≡ 4
unfolding field_bytes
length_field field = refl

-- The first 4 bytes are a field.
abbrev pub HasField : List ℕ → ℕ → Type 0
HasField bytes field = (4 ≤ length bytes) × (take 4 bytes ≡ field_bytes field)

pub field_in_front : (field : ℕ) (bytes rest : List ℕ) → bytes ≡ field_bytes field ++ rest → HasField bytes field
field_in_front field bytes rest is =
    let len = length_field field in
    let sum = length-append (field_bytes field) rest in
    let whole : HasField (field_bytes field ++ rest) field = (
      omega (arith, len, sum),
      take-append-le 4 (field_bytes field) rest (omega (arith, len)) ∙ take_all 4 (field_bytes field) (omega (arith, len)),
    ) in
    subst (λ (bs : List ℕ). HasField bs field) (sym is) whole

pub long_term : (t : IndexingTermState) → 4 ≤ length (term_bytes t)
long_term t = omega (arith, length-append (field_bytes t.field) t.value, length_field t.field)

-- the bytes after a field
pub behind_field : (field : ℕ) (rest : List ℕ) → drop 4 (field_bytes field ++ rest) ≡ rest
behind_field field rest = subst (λ (n : ℕ). drop n (field_bytes field ++ rest) ≡ rest) (length_field field) (drop-append_seam (field_bytes field) rest)

pub are_term_bytes : (field : ℕ) (bytes : List ℕ) → take 4 bytes ≡ field_bytes field → field < 2 ^ 32 → AreTermBytes bytes
are_term_bytes field bytes front small = record { field = field; small = small; are = sym (take-append-drop 4 bytes) ∙ ap (λ (xs : List ℕ). xs ++ drop 4 bytes) front }
