-- Analyzers of texts: a text is cut into parts, these become tokens, and filters change the tokens.
use Rattle.std.specs.Prelude.{ℕ, Bool, true, false, not, List, [], ◌∷◌, ◌++◌, bytes_eq, chars, encode_utf8_all, filter, length, map, nat_lt, if◌then◌else◌}
use Rattle.std.specs.Char.{is_whitespace}
use Rattle.std.specs.List.{flat_map, list_any}
use Rattle.caseless.specs.Caseless.{default_case_fold}
use Rattle.ucd_breaks.specs.WordBreak.{word_break}
use Rattle.ucd_breaks.specs.declared.WordBreak.{WordBreak}
use Rattle.ucd_breaks.specs.declared.WordBreak.TheVariants.{DoubleQuote, MidLetter, MidNum, MidNumLet, SingleQuote}
use Rattle.unicode_segmentation.specs.Segments.{has_alphanumeric, with_offsets}
use Rattle.unicode_segmentation.specs.Word.{word_bounds}
use Rattle.ii_stemmer.specs.Porter.{porter}
use Rattle.ii_base.specs.AsciiWords.{ascii_words}
use Rattle.ii_base.specs.Parts.{Part, part_words, parts_between}
use Rattle.ii_base.specs.Words.{Word, remove_long}
use Rattle.ii_tokenizers.specs.declared.analyzer.Analyzer.{Analyzer}
use Rattle.ii_tokenizers.specs.declared.analyzer.Analyzer.TheVariants as analyzer
use Rattle.ii_tokenizers.specs.declared.parts.Cut.{Cut}
use Rattle.ii_tokenizers.specs.declared.parts.Cut.TheVariants.{AtMarks, AtWhitespace}

-- whether a kind of character of words is a mark that may be inside them: an apostrophe, a quote, a point, a comma, a colon and the like
abbrev pub is_mark : WordBreak → Bool
is_mark SingleQuote = true
is_mark DoubleQuote = true
is_mark MidLetter = true
is_mark MidNum = true
is_mark MidNumLet = true
is_mark _ = false

-- where a text is cut
abbrev pub cuts_at : Cut → ℕ → Bool
cuts_at AtMarks c = is_mark (word_break c)
cuts_at AtWhitespace c = is_whitespace c

-- the parts that have characters
abbrev pub nonempty_parts : List Part → List Part
nonempty_parts ps = filter (λ (p : Part). nat_lt 0 (length p.characters)) ps

-- the words of a text by the rules of Unicode, each with its offset; the first byte of the text is at an offset
abbrev pub unicode_pieces : ℕ → List ℕ → List (ℕ × List ℕ)
unicode_pieces offset text = filter (λ (piece : ℕ × List ℕ). has_alphanumeric piece.1) (with_offsets offset (word_bounds text))

-- the parts of a piece of a text, given its offset
abbrev pub piece_parts : Cut → ℕ × List ℕ → List Part
piece_parts cut piece = nonempty_parts (parts_between (cuts_at cut) piece.0 (chars piece.1))

-- these words, cut at the marks inside them
abbrev pub rule_parts : ℕ → List ℕ → List Part
rule_parts offset text = flat_map (piece_parts AtMarks) (unicode_pieces offset text)

-- the words of a text by the rules of Unicode, cut at the marks inside them
abbrev pub split_words : List ℕ → List Word
split_words text = part_words 0 (rule_parts 0 text)

-- the runs of characters that are no white space
abbrev pub space_words : List ℕ → List Word
space_words text = part_words 0 (piece_parts AtWhitespace (0, text))

-- the complete text, if it has a character
abbrev pub raw_words : List ℕ → List Word
raw_words text = part_words 0 (nonempty_parts (record { offset = 0; characters = chars text } ∷ []))

-- a text with its case folded
abbrev pub folded_text : List ℕ → List ℕ
folded_text text = encode_utf8_all (default_case_fold (chars text))

-- a token with its case folded
abbrev pub folded : Word → Word
folded w = record w { text = folded_text w.text }

-- tokens with their case folded
abbrev pub fold_case : List Word → List Word
fold_case ws = map folded ws

-- whether a text is one of the stop words
abbrev pub is_stop_word : List (List ℕ) → List ℕ → Bool
is_stop_word stops text = list_any (bytes_eq text) stops

-- stop words, and one more in folded case, if it is a new one
abbrev pub with_stop_word : List (List ℕ) → List ℕ → List (List ℕ)
with_stop_word stops word = if is_stop_word stops (folded_text word) then stops else stops ++ folded_text word ∷ []

-- the tokens that are no stop words
abbrev pub remove_stop : List (List ℕ) → List Word → List Word
remove_stop stops ws = filter (λ (w : Word). not (is_stop_word stops w.text)) ws

-- a token with its text stemmed
abbrev pub stemmed : Word → Word
stemmed w = record w { text = porter w.text }

-- tokens with their texts stemmed
abbrev pub stem : List Word → List Word
stem ws = map stemmed ws

-- the default: Unicode words cut at the marks inside them, in folded case, of fewer than 40 bytes
abbrev pub default_words : List ℕ → List Word
default_words text = remove_long 40 (fold_case (split_words text))

-- English: the default words that are no stop words, stemmed
abbrev pub english_words : List (List ℕ) → List ℕ → List Word
english_words stops text = stem (remove_stop stops (default_words text))

-- the tokens of a text by an analyzer; English ones are no stop words
abbrev pub analyzed_without : List (List ℕ) → Analyzer → List ℕ → List Word
analyzed_without stops analyzer.Ascii text = ascii_words text
analyzed_without stops analyzer.Raw text = raw_words text
analyzed_without stops analyzer.Whitespace text = space_words text
analyzed_without stops analyzer.Default text = default_words text
analyzed_without stops analyzer.English text = english_words stops text

-- the tokens of a text by an analyzer without stop words
abbrev pub analyzed : Analyzer → List ℕ → List Word
analyzed a text = analyzed_without [] a text

-- the analyzer of the beginnings and bounds of words: that of the words, unless it stems
abbrev pub prefix_analyzer : Analyzer → Analyzer
prefix_analyzer analyzer.English = analyzer.Default
prefix_analyzer other = other
