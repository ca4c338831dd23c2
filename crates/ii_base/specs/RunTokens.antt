-- The runs of an ASCII text that are found one by one.
use Rattle.std.specs.Prelude.{ℕ, ◌≡◌, ◌+◌, ◌-◌, ◌≤◌, ◌<◌, List, Option, Some, None, ◌∷◌, drop, length, nat_lt, if◌then◌else◌}
use Rattle.std.specs.List.{slice_range}
use Rattle.ii_base.specs.Parts.{ascii_parts, part_word, part_words}
use Rattle.ii_base.specs.Words.{Word, remove_long}
use Rattle.ii_base.specs.declared.tokenizer.run_tokens.Run.{Run}

-- the words that start at or after an offset and aren't long; so many runs are before them
abbrev pub words_to_come : ℕ → List ℕ → ℕ → ℕ → List Word
words_to_come limit text passed next = remove_long limit (part_words passed (ascii_parts next (drop next text)))

-- the token of a run
abbrev pub token_of_run : List ℕ → Run → Word
token_of_run text r = part_word (r.passed - 1) (record { offset = r.start; characters = slice_range text r.start r.end })

-- the token of a run that has characters
abbrev pub current_run : List ℕ → Run → Option Word
current_run text r = if nat_lt r.start r.end then Some (token_of_run text r) else None

-- A run is the first of the words to come.
pub record Finds (limit : ℕ) (text : List ℕ) (passed next : ℕ) (r : Run) : Type 0 where
  pub some : r.start < r.end
  pub within : r.end ≤ length text
  pub few : r.passed ≤ r.end
  pub first : words_to_come limit text passed next ≡ token_of_run text r ∷ words_to_come limit text r.passed (r.end + 1)
