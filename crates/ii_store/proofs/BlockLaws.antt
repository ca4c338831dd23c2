-- The blocks of bytes, one after the other.
use Rattle.std.proofs.Common.{◌≡◌, ℕ, zero, suc, ◌+◌, ◌-◌, ◌*◌, ◌/◌, ◌<◌, min, List, [], ◌∷◌, ◌++◌, map, length, take, drop, refl, sym, ap, ◌∙◌, append-nil, length-append, arith, inl, inr}
use native.Mathlib.Nat as nat
use Rattle.std.specs.List.{range_with_len}
use Rattle.std.proofs.lemmas.Bool.{cases_lt}
use Rattle.std.proofs.lemmas.List.{nil_from_length, take_all, take_at, drop_all, drop_at, drop-drop}
use Rattle.ii_store.specs.FileDigest.{blocks}

-- a range of numbers that are one higher gives the same items by the function of one less
shifted : (f g : ℕ → List ℕ) → ((k : ℕ) → f (k + 1) ≡ g k) → (a n : ℕ) → map f (range_with_len (a + 1) n) ≡ map g (range_with_len a n)
shifted f g same a zero = refl
shifted f g same a (suc n) = λ i. same a i ∷ shifted f g same (a + 1) n i

-- no bytes take no block
pub no_blocks : (n : ℕ) → 0 < n → blocks n [] ≡ []
no_blocks n some =
    let none : (0 + n - 1) / n ≡ 0 = nat.div-eq_of_lt (omega (arith, some)) in
    ap (λ m. map (λ k. take n (drop (k * n) [])) (range_with_len 0 m)) none

module _ (n : ℕ) (some : 0 < n) (all block rest : List ℕ) (parts : all ≡ block ++ rest) (size : length block ≡ min n (length all)) (more : 0 < length all) where
  total : length all ≡ length block + length rest
  total = ap length parts ∙ length-append block rest

  -- n more, divided by n, are one more
  one_more : (a b : ℕ) → b ≡ a + n → b / n ≡ a / n + 1
  one_more a b is = ap (λ m. m / n) (is ∙ omega arith) ∙ nat.add-mul-div_left a 1 some

  rest_is : drop n all ≡ rest
  rest_is = elim (cases_lt (length all) n) [
    | inl short ↦
        let none : rest ≡ [] = nil_from_length rest (omega (arith, size, total)) in
        drop_all n all (omega (arith, short)) ∙ sym none
    | inr long ↦ ap (drop n) parts ∙ drop_at block rest n (omega (arith, size, long))
  ]

  block_is : take n all ≡ block
  block_is = elim (cases_lt (length all) n) [
    | inl short ↦
        let none : rest ≡ [] = nil_from_length rest (omega (arith, size, total)) in
        take_all n all (omega (arith, short)) ∙ parts ∙ ap (λ r. block ++ r) none ∙ append-nil block
    | inr long ↦ ap (take n) parts ∙ take_at block rest n (omega (arith, size, long))
  ]

  counted : (length all + n - 1) / n ≡ suc ((length rest + n - 1) / n)
  counted = elim (cases_lt (length all) n) [
    | inl short ↦
        let one : (length all + n - 1) / n ≡ (length all - 1) / n + 1 = one_more (length all - 1) (length all + n - 1) (omega (arith, more)) in
        let zero : (length all - 1) / n ≡ 0 = nat.div-eq_of_lt (omega (arith, short)) in
        let none : (length rest + n - 1) / n ≡ 0 = nat.div-eq_of_lt (omega (arith, some, size, total, short)) in
        rw (one, zero, none) refl
    | inr long ↦ one_more (length rest + n - 1) (length all + n - 1) (omega (arith, some, size, total, long)) ∙ omega arith
  ]

  later : (k : ℕ) → take n (drop ((k + 1) * n) all) ≡ take n (drop (k * n) rest)
  later k =
      let on : (k + 1) * n ≡ n + k * n = omega arith in
      ap (λ m. take n (drop m all)) on ∙ ap (take n) (sym (drop-drop (k * n) n all) ∙ ap (drop (k * n)) rest_is)

  first_is : take n (drop (0 * n) all) ≡ block
  first_is =
      let zero : 0 * n ≡ 0 = omega arith in
      ap (λ m. take n (drop m all)) zero ∙ block_is

  -- the first block, and those of the rest
  pub first_block : blocks n all ≡ block ∷ blocks n rest
  first_block =
      let one = λ (k : ℕ). take n (drop (k * n) all) in
      let two = λ (k : ℕ). take n (drop (k * n) rest) in
      ap (λ m. map one (range_with_len 0 m)) counted ∙ (λ i. first_is i ∷ shifted one two later 0 ((length rest + n - 1) / n) i)
