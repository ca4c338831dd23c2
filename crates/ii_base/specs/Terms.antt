-- A term: a field, and the bytes of a value in it.
use Rattle.std.specs.Prelude.{ℕ, List}

pub record TermState : Type 0 where
  pub field : ℕ
  pub value : List ℕ
