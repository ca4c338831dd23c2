-- Computed examples of parts, of filters and of complete analyzers.
use Rattle.std.proofs.Common.{◌≡◌, ℕ, ◌==◌, Bool, [], ◌∷◌, ◌++◌, List, codes, encode_utf8_all, map, replicate, refl}
use Rattle.ii_base.specs.Words.{Word, remove_long}
use Rattle.ii_stemmer.specs.Rules.{step_1a_rules, step_1b_rules, step_1c_rules, step_2_rules, step_3_rules, step_4_rules, step_5a_rules}
use Rattle.ii_tokenizers.specs.declared.analyzer.Analyzer.TheVariants.{Ascii, Default, English, Raw, Whitespace}
use Rattle.ii_tokenizers.proofs.OnLiterals.{words_on_literals}
use Rattle.ii_base.specs.Parts.{part_word, part_words, parts_between}
use Rattle.ii_tokenizers.specs.Analyzers.{analyzed, analyzed_without, folded_text, nonempty_parts, remove_stop, stem, with_stop_word}
use Rattle.ii_tokenizers.specs.Tokenizers.{prefix_tokenizer, tokenized}

abbrev is_comma : ℕ → Bool
is_comma c = c == 44

-- `a,é` from byte 3 on: a part at 3, and one at 5, after the comma
pub two_parts : parts_between is_comma 3 (97 ∷ 44 ∷ 233 ∷ []) ≡ record { offset = 3; characters = 97 ∷ [] } ∷ record { offset = 5; characters = 233 ∷ [] } ∷ []
unfolding parts_between
two_parts = refl

-- `é,,b`: é has two bytes, and the part between the commas is empty
pub three_parts : parts_between is_comma 0 (233 ∷ 44 ∷ 44 ∷ 98 ∷ []) ≡ record { offset = 0; characters = 233 ∷ [] } ∷ record { offset = 3; characters = [] } ∷ record { offset = 4; characters = 98 ∷ [] } ∷ []
unfolding parts_between
three_parts = refl

pub without_empty : nonempty_parts (parts_between is_comma 0 (44 ∷ 97 ∷ 44 ∷ [])) ≡ record { offset = 1; characters = 97 ∷ [] } ∷ []
unfolding parts_between
without_empty = refl

-- the token of `é` at byte 5, in position 1
pub word_of_part : part_word 1 (record { offset = 5; characters = 233 ∷ [] }) ≡ record { offset_from = 5; offset_to = 7; position = 1; text = 195 ∷ 169 ∷ []; position_length = 1 }
unfolding lib.Utf8.encode
word_of_part = refl

-- tokens of fewer than three bytes: the position of the one that is left out stays free
pub short_ones : map (λ (w : Word). w.position) (remove_long 3 (part_words 0 (record { offset = 0; characters = 97 ∷ [] } ∷ record { offset = 2; characters = 97 ∷ 98 ∷ 99 ∷ [] } ∷ record { offset = 6; characters = 98 ∷ [] } ∷ []))) ≡ 0 ∷ 2 ∷ []
unfolding lib.Utf8.encode
short_ones = refl

-- `the`, `old` and `seas` of `the old seas`: the stem of the last is `sea`, and each offset and position stays
pub stems : stem (part_words 0 (record { offset = 0; characters = codes "the" } ∷ record { offset = 4; characters = codes "old" } ∷ record { offset = 8; characters = codes "seas" } ∷ []))
    ≡ record { offset_from = 0; offset_to = 3; position = 0; text = codes "the"; position_length = 1 }
    ∷ record { offset_from = 4; offset_to = 7; position = 1; text = codes "old"; position_length = 1 }
    ∷ record { offset_from = 8; offset_to = 12; position = 2; text = codes "sea"; position_length = 1 }
    ∷ []
unfolding lib.Utf8.encode step_1a_rules step_1b_rules step_1c_rules step_2_rules step_3_rules step_4_rules step_5a_rules
stems = refl

-- `old` and `seas` stay of `the old seas` without the stop word `the`, and are stemmed: positions and offsets are those of the text
pub without_stop_words : stem (remove_stop (codes "the" ∷ []) (part_words 0 (record { offset = 0; characters = codes "the" } ∷ record { offset = 4; characters = codes "old" } ∷ record { offset = 8; characters = codes "seas" } ∷ [])))
    ≡ record { offset_from = 4; offset_to = 7; position = 1; text = codes "old"; position_length = 1 }
    ∷ record { offset_from = 8; offset_to = 12; position = 2; text = codes "sea"; position_length = 1 }
    ∷ []
unfolding lib.Utf8.encode step_1a_rules step_1b_rules step_1c_rules step_2_rules step_3_rules step_4_rules step_5a_rules
without_stop_words = refl

-- a form of a stop word is another word, and so is one in other case
pub other_forms : map (λ (w : Word). w.position) (remove_stop (codes "sea" ∷ []) (part_words 0 (record { offset = 0; characters = codes "seas" } ∷ record { offset = 5; characters = codes "Sea" } ∷ record { offset = 9; characters = codes "sea" } ∷ []))) ≡ 0 ∷ 1 ∷ []
unfolding lib.Utf8.encode
other_forms = refl

-- a word that is `the` in folded case is a stop word once
pub one_more_stop_word : (word : List ℕ) → folded_text word ≡ codes "the" → with_stop_word (codes "of" ∷ []) word ≡ codes "of" ∷ codes "the" ∷ []
one_more_stop_word word folded = rw folded refl

pub same_stop_word : (word : List ℕ) → folded_text word ≡ codes "the" → with_stop_word (codes "the" ∷ []) word ≡ codes "the" ∷ []
same_stop_word word folded = rw folded refl

-- ---- complete texts

-- the token of a text, from a byte of it up to another one, at a position
abbrev token : ℕ → ℕ → ℕ → List ℕ → Word
token from to position text = record { offset_from = from; offset_to = to; position = position; text = text; position_length = 1 }

-- `The old man’s “sea”`, whose three marks past ASCII have three bytes each
abbrev quoted_sea : List ℕ
quoted_sea = encode_utf8_all (codes "The old man" ++ 0x2019 ∷ codes "s " ++ 0x201C ∷ codes "sea" ++ 0x201D ∷ [])

pub ascii_of_quotes : analyzed Ascii quoted_sea
    ≡ token 0 3 0 (codes "The") ∷ token 4 7 1 (codes "old") ∷ token 8 15 2 (encode_utf8_all (codes "man" ++ 0x2019 ∷ codes "s"))
    ∷ token 16 25 3 (encode_utf8_all (0x201C ∷ codes "sea" ++ 0x201D ∷ []))
    ∷ []
unfolding words_on_literals
ascii_of_quotes = refl

pub default_of_quotes : analyzed Default quoted_sea
    ≡ token 0 3 0 (codes "the") ∷ token 4 7 1 (codes "old") ∷ token 8 11 2 (codes "man") ∷ token 14 15 3 (codes "s") ∷ token 19 22 4 (codes "sea") ∷ []
unfolding words_on_literals
default_of_quotes = refl

-- `STRASSE Straße`, where ß has two bytes, and is folded to two letters
pub default_of_sharp_s : analyzed Default (encode_utf8_all (codes "STRASSE Stra" ++ 0xDF ∷ codes "e")) ≡ token 0 7 0 (codes "strasse") ∷ token 8 15 1 (codes "strasse") ∷ []
unfolding words_on_literals
default_of_sharp_s = refl

-- the folded word is longer than the text between its offsets: ŉ becomes ʼn, and İ becomes i and a mark, of 3 bytes each
pub default_of_longer : analyzed Default (encode_utf8_all (0x149 ∷ codes " " ++ 0x130 ∷ [])) ≡ token 0 2 0 (encode_utf8_all (0x2BC ∷ codes "n")) ∷ token 3 5 1 (encode_utf8_all (codes "i" ++ 0x307 ∷ [])) ∷ []
unfolding words_on_literals
default_of_longer = refl

pub default_of_marks : analyzed Default (codes "e.g. 3.14 foo_bar")
    ≡ token 0 1 0 (codes "e") ∷ token 2 3 1 (codes "g") ∷ token 5 6 2 (codes "3") ∷ token 7 9 3 (codes "14") ∷ token 10 17 4 (codes "foo_bar") ∷ []
unfolding words_on_literals
default_of_marks = refl

-- each of the two ideographs of `老人` is a word
pub default_of_ideographs : analyzed Default (encode_utf8_all (0x8001 ∷ 0x4EBA ∷ [])) ≡ token 0 3 0 (encode_utf8_all (0x8001 ∷ [])) ∷ token 3 6 1 (encode_utf8_all (0x4EBA ∷ [])) ∷ []
unfolding words_on_literals
default_of_ideographs = refl

-- `👍 --` has no word
pub default_of_emoji : analyzed Default (encode_utf8_all (0x1F44D ∷ codes " --")) ≡ []
unfolding words_on_literals
default_of_emoji = refl

pub default_of_nothing : analyzed Default [] ≡ []
unfolding words_on_literals
default_of_nothing = refl

-- a word of 39 bytes stays; one of 40 is left out, and its position stays free
pub default_of_39 : analyzed Default (codes "a " ++ replicate 39 0x78 ++ codes " b") ≡ token 0 1 0 (codes "a") ∷ token 2 41 1 (replicate 39 0x78) ∷ token 42 43 2 (codes "b") ∷ []
unfolding words_on_literals
default_of_39 = refl

pub default_of_40 : analyzed Default (codes "a " ++ replicate 40 0x78 ++ codes " b") ≡ token 0 1 0 (codes "a") ∷ token 43 44 2 (codes "b") ∷ []
unfolding words_on_literals
default_of_40 = refl

-- the bytes of the folded word count: 14 times ŉ are 28 bytes, and 42 in folded case
pub default_of_long_fold : analyzed Default (encode_utf8_all (replicate 14 0x149)) ≡ []
unfolding words_on_literals
default_of_long_fold = refl

-- `seá` with a letter and a mark is another word than with one letter
pub default_of_two_characters : analyzed Default (encode_utf8_all (codes "sea" ++ 0x301 ∷ [])) ≡ token 0 5 0 (codes "sea" ++ 0xCC ∷ 0x81 ∷ []) ∷ []
unfolding words_on_literals
default_of_two_characters = refl

pub default_of_one_character : analyzed Default (encode_utf8_all (codes "se" ++ 0xE1 ∷ [])) ≡ token 0 4 0 (codes "se" ++ 0xC3 ∷ 0xA1 ∷ []) ∷ []
unfolding words_on_literals
default_of_one_character = refl

pub raw_of_an_id : analyzed Raw (codes "ID-7 a") ≡ token 0 6 0 (codes "ID-7 a") ∷ []
unfolding words_on_literals
raw_of_an_id = refl

pub raw_of_nothing : analyzed Raw [] ≡ []
unfolding words_on_literals
raw_of_nothing = refl

pub whitespace_of_marks : analyzed Whitespace (codes " a  b-c ") ≡ token 1 2 0 (codes "a") ∷ token 4 7 1 (codes "b-c") ∷ []
unfolding words_on_literals
whitespace_of_marks = refl

pub english_without_the : analyzed_without (codes "the" ∷ []) English (codes "the old seas") ≡ token 4 7 1 (codes "old") ∷ token 8 12 2 (codes "sea") ∷ []
unfolding words_on_literals
english_without_the = refl

-- stop words are compared with folded words: `The` is one
pub english_without_a_capital : analyzed_without (codes "the" ∷ []) English (codes "The Seas") ≡ token 4 8 1 (codes "sea") ∷ []
unfolding words_on_literals
english_without_a_capital = refl

-- the words of prefixes aren't stemmed, and none is left out
pub prefixes_of_english : tokenized (prefix_tokenizer (record { analyzer = English; stop_words = codes "the" ∷ [] })) (codes "the Seas") ≡ token 0 3 0 (codes "the") ∷ token 4 8 1 (codes "seas") ∷ []
unfolding words_on_literals
prefixes_of_english = refl
