-- The tokens of a buffer, whose texts lie in one string.
use Rattle.std.specs.Prelude.{ℕ, ◌≤◌, List, IsCharBoundary}
use Rattle.std.specs.List.{slice_range}
use Rattle.ii_base.specs.Words.{Word}
use Rattle.ii_base.specs.declared.tokenizer.token_buffer.TokenPlace.{TokenPlace}

-- the token at a place
abbrev pub placed_word : List ℕ → TokenPlace → Word
placed_word texts p = record {
  offset_from = p.offset_from;
  offset_to = p.offset_to;
  position = p.position;
  text = slice_range texts p.start p.end;
  position_length = p.position_length;
}

-- a place between two characters of the texts
abbrev pub IsPlaced : List ℕ → TokenPlace → Type 0
IsPlaced texts p = (p.start ≤ p.end) × IsCharBoundary texts p.start × IsCharBoundary texts p.end
