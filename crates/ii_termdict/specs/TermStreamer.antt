-- An iterator over the terms of a dictionary: its entries, and how many of them were passed.
use Rattle.std.specs.Prelude.{ℕ, List}
use Rattle.ii_termdict.specs.Dictionary.{TermEntry}

pub record TermStreamerState : Type 0 where
  pub entries : List TermEntry
  pub passed : ℕ
