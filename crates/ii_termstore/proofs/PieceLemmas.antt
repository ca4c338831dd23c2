-- A piece among pieces that follow each other.
use Rattle.ii_termstore.proofs.ListLemmas.{after_front}
use Rattle.std.proofs.Common.{◌≡◌, ℕ, zero, suc, ◌+◌, ◌-◌, ◌*◌, ◌<◌, ◌≤◌, List, ◌++◌, length, drop, refl, sym, ap, ◌∙◌, arith, length-append}
use Rattle.std.specs.List.{flat_map, range_with_len}
use Rattle.std.proofs.Math.Nat.{zero-mul, suc-mul}
use Rattle.ii_termstore.proofs.WriterLemmas.{flat_more, flat_split}

-- piece b of n, and how many bytes there are
pub piece_at : (f : ℕ → List ℕ) (n b place : ℕ) (rest : List ℕ) → b < n → place ≡ length (flat_map f (range_with_len 0 b))
    → (more : List ℕ) × (drop place (flat_map f (range_with_len 0 n) ++ rest) ≡ f b ++ more) × (length (flat_map f (range_with_len 0 n) ++ rest) ≡ place + length (f b) + length more)
piece_at f n b place rest h e =
    let split = flat_split f n b (n - suc b) (omega arith) in
    let whole = ap length split.1 in (
      split.0 ++ rest,
      ap (λ (xs : List ℕ). drop place (xs ++ rest)) split.1 ∙ after_front (flat_map f (range_with_len 0 b)) (f b) split.0 rest place e,
      omega (
        arith,
        length-append (flat_map f (range_with_len 0 n)) rest,
        length-append (flat_map f (range_with_len 0 b) ++ f b) split.0,
        length-append (flat_map f (range_with_len 0 b)) (f b),
        length-append split.0 rest,
      ),
    )

-- pieces of one length
pub length-pieces : (f : ℕ → List ℕ) (size b : ℕ) → ((k : ℕ) → length (f k) ≡ size) → length (flat_map f (range_with_len 0 b)) ≡ b * size
length-pieces f size zero h = sym (zero-mul size)
length-pieces f size (suc b) h =
    let one : suc b ≡ b + 1 = omega arith in
    let next : b * size + size ≡ suc b * size = omega (arith, suc-mul b size) in
    ap (λ (n : ℕ). length (flat_map f (range_with_len 0 n))) one ∙ ap length (flat_more f b) ∙ length-append (flat_map f (range_with_len 0 b)) (f b)
    ∙ ap (λ (n : ℕ). n + length (f b)) (length-pieces f size b h) ∙ ap (λ (n : ℕ). b * size + n) (h b) ∙ next

-- more pieces have no fewer bytes
pub pieces_le : (f : ℕ → List ℕ) (b m : ℕ) → length (flat_map f (range_with_len 0 b)) ≤ length (flat_map f (range_with_len 0 (b + m)))
pieces_le f b zero = let same : b + 0 ≡ b = omega arith in rw same (omega arith)
pieces_le f b (suc m) =
    let one : b + suc m ≡ b + m + 1 = omega arith in
    let ih = pieces_le f b m in
    rw (one, flat_more f (b + m)) (omega (arith, length-append (flat_map f (range_with_len 0 (b + m))) (f (b + m))))

-- pieces that are the same from 0 on
pub pieces_same : (f g : ℕ → List ℕ) (n : ℕ) → ((k : ℕ) → k < n → f k ≡ g k) → flat_map f (range_with_len 0 n) ≡ flat_map g (range_with_len 0 n)
pieces_same f g zero h = refl
pieces_same f g (suc n) h =
    let one : suc n ≡ n + 1 = omega arith in
    let ih = pieces_same f g n (λ k within. h k (omega arith)) in
    ap (λ (m : ℕ). flat_map f (range_with_len 0 m)) one ∙ flat_more f n ∙ ap (λ (bs : List ℕ). bs ++ f n) ih ∙ ap (λ (bs : List ℕ). flat_map g (range_with_len 0 n) ++ bs) (h n (omega arith)) ∙ sym (flat_more g n)
    ∙ ap (λ (m : ℕ). flat_map g (range_with_len 0 m)) (sym one)
