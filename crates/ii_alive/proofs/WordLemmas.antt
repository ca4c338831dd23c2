-- The bits of numbers one after the other, where each has the same width.
use Rattle.std.proofs.Common.{◌≡◌, ℕ, zero, suc, ◌+◌, ◌*◌, ◌/◌, ◌%◌, ◌^◌, ◌<◌, ◌≤◌, Bool, false, List, [], ◌∷◌, ◌++◌, length, get_or, set, take, refl, sym, ap, ◌∙◌, arith, length-append, append_assoc}
use Rattle.std.specs.List.{flat_map}
use Rattle.std.proofs.Math.Seq.{take-append-add}
use Rattle.std.proofs.lemmas.List.{get_or-append-add, get_or_append_left, set-append_left, take-append-le}
use Rattle.ii_io.specs.Numbers.{AreBytes, le_bytes, little_endian}
use Rattle.ii_alive.specs.AliveBytes.{bits_of, byte_bits}
use Rattle.ii_alive.proofs.BitLemmas.{bits_of-add, bits_of-mod, length-bits_of, take-bits_of}

module _ (k : ℕ) where
  -- the bits of numbers
  abbrev pub bits_in : List ℕ → List Bool
  bits_in ws = flat_map (bits_of k) ws

  pub length-bits_in : (ws : List ℕ) → length (bits_in ws) ≡ k * length ws
  length-bits_in [] = omega arith
  length-bits_in (w ∷ ws) = omega (arith, length-append (bits_of k w) (bits_in ws), length-bits_of k w, length-bits_in ws)

  pub get_or-bits_in : (ws : List ℕ) (w r : ℕ) → r < k → w < length ws → get_or (bits_in ws) (k * w + r) false ≡ get_or (bits_of k (get_or ws w 0)) r false
  get_or-bits_in [] w r within here = absurd (omega arith)
  get_or-bits_in (n ∷ ws) zero r within here =
      let start : k * 0 + r ≡ r = omega arith in
      ap (λ (m : ℕ). get_or (bits_in (n ∷ ws)) m false) start
      ∙ get_or_append_left (bits_of k n) (bits_in ws) false r (omega (arith, length-bits_of k n))
  get_or-bits_in (n ∷ ws) (suc w) r within here =
      let later : k * suc w + r ≡ length (bits_of k n) + (k * w + r) = omega (arith, length-bits_of k n) in
      ap (λ (m : ℕ). get_or (bits_in (n ∷ ws)) m false) later
      ∙ get_or-append-add (bits_of k n) (bits_in ws) (k * w + r) false
      ∙ get_or-bits_in ws w r within (omega arith)

  -- the bits before a place are those of the numbers before it, and lower ones of the number there
  pub take-bits_in : (ws : List ℕ) (w r : ℕ) → r ≤ k → w < length ws → take (k * w + r) (bits_in ws) ≡ bits_in (take w ws) ++ bits_of r (get_or ws w 0)
  take-bits_in [] w r within here = absurd (omega arith)
  take-bits_in (n ∷ ws) zero r within here =
      let start : k * 0 + r ≡ r = omega arith in
      ap (λ (m : ℕ). take m (bits_in (n ∷ ws))) start
      ∙ take-append-le r (bits_of k n) (bits_in ws) (omega (arith, length-bits_of k n))
      ∙ take-bits_of r k n within
  take-bits_in (n ∷ ws) (suc w) r within here =
      let later : k * suc w + r ≡ length (bits_of k n) + (k * w + r) = omega (arith, length-bits_of k n) in
      ap (λ (m : ℕ). take m (bits_in (n ∷ ws))) later
      ∙ take-append-add (bits_of k n) (bits_in ws) (k * w + r)
      ∙ ap (λ (bs : List Bool). bits_of k n ++ bs) (take-bits_in ws w r within (omega arith))
      ∙ sym (append_assoc (bits_of k n) (bits_in (take w ws)) (bits_of r (get_or ws w 0)))

  -- a number in which one bit is cleared
  pub set-bits_in : (ws : List ℕ) (w r x : ℕ) → r < k → w < length ws → bits_of k x ≡ set (bits_of k (get_or ws w 0)) r false → bits_in (set ws w x) ≡ set (bits_in ws) (k * w + r) false
  set-bits_in [] w r x within here cleared = absurd (omega arith)
  set-bits_in (n ∷ ws) zero r x within here cleared =
      let start : r ≡ k * 0 + r = omega arith in
      ap (λ (bs : List Bool). bs ++ bits_in ws) cleared
      ∙ sym (set-append_left (bits_of k n) (bits_in ws) r false (omega (arith, length-bits_of k n)))
      ∙ ap (λ (m : ℕ). set (bits_in (n ∷ ws)) m false) start
  set-bits_in (n ∷ ws) (suc w) r x within here cleared =
      let later : length (bits_of k n) + (k * w + r) ≡ k * suc w + r = omega (arith, length-bits_of k n) in
      ap (λ (bs : List Bool). bits_of k n ++ bs) (set-bits_in ws w r x within (omega arith) cleared)
      ∙ sym (set_after (bits_of k n) (bits_in ws) (k * w + r))
      ∙ ap (λ (m : ℕ). set (bits_in (n ∷ ws)) m false) later
    where
      set_after : (xs ys : List Bool) (i : ℕ) → set (xs ++ ys) (length xs + i) false ≡ xs ++ set ys i false
      set_after [] ys i = let none : 0 + i ≡ i = omega arith in ap (λ (m : ℕ). set ys m false) none
      set_after (b ∷ xs) ys i = let more : suc (length xs) + i ≡ suc (length xs + i) = omega arith in ap (λ (m : ℕ). set (b ∷ (xs ++ ys)) m false) more ∙ ap (λ (l : List Bool). b ∷ l) (set_after xs ys i)

-- the bits of bytes are those of their number
pub bits_of-little_endian : (bs : List ℕ) → AreBytes bs → bits_of (8 * length bs) (little_endian bs) ≡ byte_bits bs
unfolding bits_of
bits_of-little_endian [] are = refl
bits_of-little_endian (b ∷ bs) are =
    let n = b + 256 * little_endian bs in
    let byte = are.0 in
    let more : 8 * suc (length bs) ≡ 8 + 8 * length bs = omega arith in
    let low : n % 2 ^ 8 ≡ b = omega arith in
    let high : n / 2 ^ 8 ≡ little_endian bs = omega arith in
    ap (λ (m : ℕ). bits_of m n) more
    ∙ bits_of-add 8 (8 * length bs) n
    ∙ ap (λ (l : List Bool). l ++ bits_of (8 * length bs) (n / 2 ^ 8)) (sym (bits_of-mod 8 n) ∙ ap (bits_of 8) low)
    ∙ ap (λ (m : ℕ). bits_of 8 b ++ bits_of (8 * length bs) m) high
    ∙ ap (λ (l : List Bool). bits_of 8 b ++ l) (bits_of-little_endian bs are.1)

pub byte_bits-le_bytes : (j n : ℕ) → byte_bits (le_bytes j n) ≡ bits_of (8 * j) n
unfolding bits_of le_bytes
byte_bits-le_bytes zero n = refl
byte_bits-le_bytes (suc j) n =
    let more : 8 + 8 * j ≡ 8 * suc j = omega arith in
    ap (λ (l : List Bool). l ++ byte_bits (le_bytes j (n / 256))) (bits_of-mod 8 n)
    ∙ ap (λ (l : List Bool). bits_of 8 n ++ l) (byte_bits-le_bytes j (n / 256))
    ∙ sym (bits_of-add 8 (8 * j) n)
    ∙ ap (λ (m : ℕ). bits_of m n) more
