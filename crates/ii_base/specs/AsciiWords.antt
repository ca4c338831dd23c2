-- The words of a text: the maximal runs of ASCII letters, ASCII digits and non-ASCII characters.
use Rattle.std.specs.Prelude.{ℕ, ◌+◌, ◌-◌, Bool, not, ◌&&◌, ◌||◌, ◌==◌, List, drop, filter, length, map, nat_le, slice_index}
use Rattle.std.specs.List.{enumerate_from, range_with_len, take_while}
use Rattle.ii_base.specs.Words.{Word}

-- whether a byte is an ASCII letter, an ASCII digit or part of a non-ASCII character
abbrev pub is_word_byte : ℕ → Bool
is_word_byte b = (nat_le 48 b && nat_le b 57) || (nat_le 65 b && nat_le b 90) || (nat_le 97 b && nat_le b 122) || nat_le 128 b

-- whether the byte at an offset belongs to a word
abbrev pub is_word_at : List ℕ → ℕ → Bool
is_word_at text i = is_word_byte (slice_index text i)

-- whether a run starts at an offset: the byte belongs to a word, the one before it doesn't
abbrev pub begins_run : List ℕ → ℕ → Bool
begins_run text i = is_word_at text i && (i == 0 || not (is_word_at text (i - 1)))

-- the bytes of the word from an offset on
abbrev pub run_at : List ℕ → ℕ → List ℕ
run_at text i = take_while is_word_byte (drop i text)

-- the offsets where runs start
abbrev pub run_starts : List ℕ → List ℕ
run_starts text = filter (begins_run text) (range_with_len 0 (length text))

-- the token of the run at an offset, which takes one position
abbrev pub run_word : List ℕ → ℕ → ℕ → Word
run_word text position i = record {
  offset_from = i;
  offset_to = i + length (run_at text i);
  position = position;
  text = run_at text i;
  position_length = 1;
}

-- the runs of a text at positions 0, 1, 2 and so on
abbrev pub ascii_words : List ℕ → List Word
ascii_words text = map (λ (run : ℕ × ℕ). run_word text run.0 run.1) (enumerate_from 0 (run_starts text))

-- the words that start at or after an offset, the first of them at a position
abbrev pub words_from : List ℕ → ℕ → ℕ → List Word
words_from text position i = map (λ (run : ℕ × ℕ). run_word text run.0 run.1) (enumerate_from position (filter (begins_run text) (range_with_len i (length text - i))))

-- whether the bytes between two offsets are a run
abbrev pub is_run : List ℕ → ℕ → ℕ → Bool
is_run text start end = begins_run text start && end == start + length (run_at text start)
