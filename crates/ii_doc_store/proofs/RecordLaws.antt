-- The documents of a block.
use Rattle.std.proofs.Common.{◌≡◌, ℕ, zero, suc, ◌+◌, ◌-◌, ◌<◌, ◌^◌, true, List, [], ◌∷◌, ◌++◌, length, drop, get_or, refl, ◌∙◌, append_assoc, arith}
use Rattle.std.specs.Prelude.{Some, nat_le}
use Rattle.std.specs.List.{AllByRecursion}
use Rattle.std.specs.Int.{w32, to_le_bytes}
use Rattle.std.proofs.lemmas.Bool.{le-leb}
use Rattle.std.proofs.lemmas.List.{length-append, take_at, drop_at}
use Rattle.std.proofs.lemmas.Nat.{from_le_bytes-to_le_bytes_4}
use Rattle.ii_doc_store.specs.StoreFormat.{block_bytes, record_bytes}
use Rattle.ii_doc_store.specs.StoreReader.{after_record, document_in, has_record, len_in, record_of}

-- the document after one that is passed over
pub document_after : (k i : ℕ) (rest : List ℕ) → i < k → has_record rest ≡ true → document_in (k - i) rest ≡ document_in (k - (i + 1)) (after_record rest)
document_after k i rest below has =
    let left : k - i ≡ suc (k - (i + 1)) = omega arith in
    rw (left, has) refl

-- a written document is read back, whatever follows it
len_again : (d rest : List ℕ) → length d < 2 ^ 32 → len_in (record_bytes d ++ rest) ≡ length d
unfolding record_bytes
len_again d rest fits = from_le_bytes-to_le_bytes_4 (length d) fits

after_len : (d rest : List ℕ) → drop 4 (record_bytes d ++ rest) ≡ d ++ rest
unfolding record_bytes
after_len d rest = refl

pub length_record : (d : List ℕ) → length (record_bytes d) ≡ 4 + length d
unfolding record_bytes
length_record d = length-append (to_le_bytes w32 (length d)) d

has_again : (d rest : List ℕ) → length d < 2 ^ 32 → has_record (record_bytes d ++ rest) ≡ true
unfolding has_record
has_again d rest fits =
    let size : length (record_bytes d ++ rest) ≡ 4 + length d + length rest = length-append (record_bytes d) rest ∙ omega (arith, length_record d) in
    let front : nat_le 4 (length (record_bytes d ++ rest)) ≡ true = le-leb _ _ (omega (arith, size)) in
    let back : nat_le (length d) (length (record_bytes d ++ rest) - 4) ≡ true = le-leb _ _ (omega (arith, size)) in
    rw (len_again d rest fits, front, back) refl

record_again : (d rest : List ℕ) → length d < 2 ^ 32 → record_of (record_bytes d ++ rest) ≡ d
unfolding record_of
record_again d rest fits = rw (len_again d rest fits, after_len d rest) (take_at d rest (length d) refl)

after_again : (d rest : List ℕ) → length d < 2 ^ 32 → after_record (record_bytes d ++ rest) ≡ rest
unfolding after_record
after_again d rest fits = rw (len_again d rest fits, after_len d rest) (drop_at d rest (length d) refl)

-- each document of a block is read back
pub document_again : (k : ℕ) (ds : List (List ℕ)) (rest : List ℕ) → AllByRecursion (λ (d : List ℕ). length d < 2 ^ 31) ds → k < length ds → document_in k (block_bytes ds ++ rest) ≡ Some (get_or ds k [])
document_again k [] rest fit inside = absurd (omega arith)
document_again zero (d ∷ ds) rest fit inside =
    let small : length d < 2 ^ 32 = omega (arith, fit.0) in
    rw (append_assoc (record_bytes d) (block_bytes ds) rest, has_again d (block_bytes ds ++ rest) small, record_again d (block_bytes ds ++ rest) small) refl
document_again (suc k) (d ∷ ds) rest fit inside =
    let small : length d < 2 ^ 32 = omega (arith, fit.0) in
    rw (append_assoc (record_bytes d) (block_bytes ds) rest, has_again d (block_bytes ds ++ rest) small, after_again d (block_bytes ds ++ rest) small) (document_again k ds rest fit.1 (omega arith))
