-- The first place in a list at which a test passes.
use Rattle.std.proofs.Common.{◌≡◌, ◌∙◌, ℕ, suc, ◌+◌, ◌<◌, ◌≤◌, Bool, true, false, List, None, Some, ap, arith, drop, drop-cons, get_or, length, refl}
use Rattle.std.specs.List.{position, position_or_len}
use Rattle.std.proofs.lemmas.Bool.{le-ltb, lt-ltb}
use Rattle.std.proofs.lemmas.List.{drop_all}

module _ {X : Type 0} (p : X → Bool) (xs : List X) (place : ℕ) where
  -- no place before this one passes
  abbrev pub NoneBefore : Type 0
  NoneBefore = position_or_len p xs ≡ place + position_or_len p (drop place xs)

  pub found_here : (d : X) → NoneBefore → place < length xs → p (get_or xs place d) ≡ true → Some place ≡ position p xs
  found_here d before within passes =
      let here : position_or_len p (drop place xs) ≡ 0 = ap (position_or_len p) (drop-cons xs place d within) ∙ (rw passes refl) in
      let is : position_or_len p xs ≡ place = omega (arith, before, here) in
      rw (is, lt-ltb place (length xs) within) refl

  pub found_later : (d : X) → NoneBefore → place < length xs → p (get_or xs place d) ≡ false → position_or_len p xs ≡ place + 1 + position_or_len p (drop (place + 1) xs)
  found_later d before within fails =
      let next : suc place ≡ place + 1 = omega arith in
      let here : position_or_len p (drop place xs) ≡ 1 + position_or_len p (drop (place + 1) xs) = ap (position_or_len p) (drop-cons xs place d within) ∙ (rw fails (ap (λ (n : ℕ). 1 + position_or_len p (drop n xs)) next)) in
      omega (arith, before, here)

  pub found_nowhere : NoneBefore → length xs ≤ place → None ≡ position p xs
  found_nowhere before end =
      let nothing : position_or_len p (drop place xs) ≡ 0 = ap (position_or_len p) (drop_all place xs end) in
      let beyond : length xs ≤ position_or_len p xs = omega (arith, before, nothing, end) in
      rw (le-ltb (position_or_len p xs) (length xs) beyond) refl
