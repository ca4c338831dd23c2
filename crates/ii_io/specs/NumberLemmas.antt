-- Laws of little-endian numbers.
use Rattle.std.proofs.Common.{◌≡◌, ℕ, zero, suc, ◌+◌, ◌*◌, ◌/◌, ◌%◌, ◌^◌, ◌<◌, ◌≤◌, List, [], ◌∷◌, ◌++◌, length, take, drop, Some, None, refl, sym, ap, ◌∙◌, arith, length-append}
use Rattle.std.proofs.Math.Nat.{pow-suc, div-one, div-div-eq-div-mul}
use Rattle.std.proofs.Math.Seq.{take-append_seam, drop-append_seam}
use Rattle.std.proofs.lemmas.Bool.{le-leb, lt-leb}
use Rattle.std.proofs.lemmas.List.{length-take-le}
use Rattle.std.specs.Int.{byte_at, bytes_low_first}
use Rattle.byteorder.specs.Endian.{little_from, little_number}
use Rattle.byteorder.specs.Numbers.{little_from-cons, little_from-take}
use Rattle.ii_io.specs.Numbers.{AreBytes, little_endian, le_bytes, number_at, ReadsWhatIsWritten, HasOneSpelling}

pub length_le_bytes : (k n : ℕ) → length (le_bytes k n) ≡ k
unfolding le_bytes
length_le_bytes zero n = refl
length_le_bytes (suc k) n = ap suc (length_le_bytes k (n / 256))

little_endian-le_bytes : (k n : ℕ) → n < 256 ^ k → little_endian (le_bytes k n) ≡ n
unfolding le_bytes
little_endian-le_bytes zero n h = omega arith
little_endian-le_bytes (suc k) n h =
    let below = rw pow-suc at h in
    let ih = little_endian-le_bytes k (n / 256) (omega arith) in
    rw ih (omega arith)

-- a written number is read back, whatever follows it
pub reads_what_is_written : ReadsWhatIsWritten
unfolding number_at
reads_what_is_written k n rest h =
    let size = length_le_bytes k n in
    let enough : k ≤ length (le_bytes k n ++ rest) = omega (arith, length-append (le_bytes k n) rest) in
    let front = rw size at (take-append_seam (le_bytes k n) rest) in
    let back = rw size at (drop-append_seam (le_bytes k n) rest) in
    rw (le-leb k (length (le_bytes k n ++ rest)) enough, front, back, little_endian-le_bytes k n h) refl

-- bytes are the encoding of their number
le_bytes-little_endian : (bs : List ℕ) → AreBytes bs → le_bytes (length bs) (little_endian bs) ≡ bs
unfolding le_bytes
le_bytes-little_endian [] h = refl
le_bytes-little_endian (b ∷ bs) h =
    let byte = h.0 in
    let low : (b + 256 * little_endian bs) % 256 ≡ b = omega arith in
    let high : (b + 256 * little_endian bs) / 256 ≡ little_endian bs = omega arith in
    rw (low, high, le_bytes-little_endian bs h.1) refl

pub has_one_spelling : HasOneSpelling
has_one_spelling xs ys are_xs are_ys same_length same_number =
    sym (le_bytes-little_endian xs are_xs) ∙ rw (same_length, same_number) (le_bytes-little_endian ys are_ys)

-- the bytes of std and byteorder are the same
byte_at-pow : (i n : ℕ) → byte_at i n ≡ n / 256 ^ i % 256
byte_at-pow zero n = ap (λ (m : ℕ). m % 256) (sym (div-one n))
byte_at-pow (suc i) n = refl

bytes_low_first-from : (i k n : ℕ) → bytes_low_first i k n ≡ le_bytes k (n / 256 ^ i)
unfolding le_bytes
bytes_low_first-from i zero n = refl
bytes_low_first-from i (suc k) n =
    let next : n / 256 ^ suc i ≡ n / 256 ^ i / 256 = ap (λ (p : ℕ). n / p) (pow-suc 256 i) ∙ sym (div-div-eq-div-mul n (256 ^ i) 256) in
    let others = bytes_low_first-from (suc i) k n ∙ ap (le_bytes k) next in
    λ j. byte_at-pow i n j ∷ others j

pub bytes_low_first-le_bytes : (k n : ℕ) → bytes_low_first 0 k n ≡ le_bytes k n
bytes_low_first-le_bytes k n = bytes_low_first-from 0 k n ∙ ap (le_bytes k) (div-one n)

-- the number that byteorder reads from a prefix is the number of the prefix
little_from-all : (bs : List ℕ) → little_from 0 (length bs) bs ≡ little_endian bs
little_from-all [] = refl
little_from-all (b ∷ bs) = ap (λ (n : ℕ). b + 256 * n) (little_from-cons 0 (length bs) b bs ∙ little_from-all bs)

little_number-endian : (k : ℕ) (bytes : List ℕ) → k ≤ length bytes → little_number k bytes ≡ little_endian (take k bytes)
little_number-endian k bytes enough =
    let size = length-take-le k bytes enough in
    let front = little_from-take 0 k k bytes (omega arith) in
    let all = little_from-all (take k bytes) in
    sym front ∙ rw size at all

pub number_at-some : (k : ℕ) (bytes : List ℕ) → k ≤ length bytes → number_at k bytes ≡ Some (little_number k bytes, drop k bytes)
unfolding number_at
number_at-some k bytes enough = rw (le-leb k (length bytes) enough, little_number-endian k bytes enough) refl

pub number_at-none : (k : ℕ) (bytes : List ℕ) → length bytes < k → number_at k bytes ≡ None
unfolding number_at
number_at-none k bytes short = rw (lt-leb k (length bytes) short) refl
