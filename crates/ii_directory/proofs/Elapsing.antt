-- What a sequence of calls leaves, and what holds after the last one.
use Rattle.std.proofs.Common.{inl, inr, ⊎_elim, ℕ, Result, Ok, Err, OnOk, arith}
use Rattle.ii_directory.specs.Directory.{Elapses, Files}

-- what holds at Ok implies what holds at Ok
pub at_ok : {T E : Type 0} (P Q : Type 0) (result : Result T E) → (P → Q) → OnOk result P → OnOk result Q
at_ok P Q (Ok x) implies holds = implies holds
at_ok P Q (Err e) implies holds = tt

-- what holds anyway holds at Ok
pub ok_always : {T E : Type 0} (P : Type 0) (result : Result T E) → P → OnOk result P
ok_always P (Ok x) holds = holds
ok_always P (Err e) holds = tt

-- two facts at Ok imply one
pub both_ok : {T E : Type 0} (P Q R : Type 0) (result : Result T E) → (P → Q → R) → OnOk result P → OnOk result Q → OnOk result R
both_ok P Q R (Ok x) implies one two = implies one two
both_ok P Q R (Err e) implies one two = tt

-- three facts at Ok imply two
pub three_ok : {T E : Type 0} (O P Q R : Type 0) (result : Result T E) → (P → Q → R) → OnOk result O → OnOk result P → OnOk result Q → OnOk result (O × R)
three_ok O P Q R (Ok x) implies given one two = (given, implies one two)
three_ok O P Q R (Err e) implies given one two = tt

-- one run after another

module _ {D : Type 0} (moment : D → ℕ) (left_since : D → ℕ → Files → Type 0) where
  pub elapses_none : (old : D) (P : Files → Type 0) → Elapses (moment old) (moment old) (left_since old) (left_since old) P
  elapses_none old P = record { later = omega arith; nothing_else = λ t c le left. inl left; keeps = λ t c le left. left }

  pub elapses_then : (old mid new : D) (P Q : Files → Type 0) → Elapses (moment old) (moment mid) (left_since old) (left_since mid) P
      → Elapses (moment mid) (moment new) (left_since mid) (left_since new) Q → ((c : Files) → Q c → P c)
      → Elapses (moment old) (moment new) (left_since old) (left_since new) P
  elapses_then old mid new P Q one two implies = record {
    later = omega (arith, one.later, two.later);
    nothing_else = λ t c le left. ⊎_elim (λ before. one.nothing_else t c le before) (λ now. inr (implies c now)) (two.nothing_else t c (omega (arith, le, one.later)) left);
    keeps = λ t c le left. two.keeps t c (omega (arith, le, one.later)) (one.keeps t c le left);
  }

  pub elapses_implies : (old new : D) (P Q : Files → Type 0) → Elapses (moment old) (moment new) (left_since old) (left_since new) P → ((c : Files) → P c → Q c)
      → Elapses (moment old) (moment new) (left_since old) (left_since new) Q
  elapses_implies old new P Q one implies = record {
    later = one.later;
    nothing_else = λ t c le left. ⊎_elim (λ before. inl before) (λ now. inr (implies c now)) (one.nothing_else t c le left);
    keeps = one.keeps;
  }
