-- What a line asks for.
use Rattle.std.specs.Prelude.{ℕ, ◌^◌, List, [], ◌∷◌, length, if◌then◌else◌, nat_lt, Option, Some, None, option_map, is_none, codes}
use Rattle.std.specs.List.{join_with_byte}
use Rattle.std.specs.Str.{bytes_eq}
use Rattle.ii_base.specs.Json.{Leaf, text_leaf, u64_leaf, unsupported, value_leaf}
use Rattle.ii_base.specs.Paths.{has_zero, joined_segments, segments_of}
use Rattle.ii_base.specs.Terms.{TermState}
use Rattle.ii_base.specs.Values.{flipped, json_key, number_of_bool, text_key, typed_key, u64_bytes}
use Rattle.ii_base.specs.declared.schema.value_type.ValueType.TheVariants as types
use Rattle.ii_base.specs.declared.schema.index_record_option.IndexRecordOption.{IndexRecordOption}
use Rattle.ii_base.specs.declared.schema.index_record_option.IndexRecordOption.TheVariants.{Basic, WithFreqs, WithFreqsAndPositions}
use Rattle.ii_io.specs.Steps.{◌>>=◌, needs}
use Rattle.ii_base.specs.declared.doc_id.TheConstants.{TERMINATED}
use Rattle.ii_base.specs.Entries.{are_documents}
use Rattle.ii_definitions.specs.Tokens.{Call, leaves, text, value}
use Rattle.ii_base.specs.AsciiWords.{ascii_words}
use Rattle.ii_query_parser.specs.QueryTexts.{QueryFields, text_refusal}
use Rattle.iiq.specs.declared.commands.CommandSet.{CommandSet}
use Rattle.iiq.specs.declared.commands.CommandSet.TheVariants.{Strict, WithQueries}
use Rattle.iiq.specs.Session.{fields}
use Rattle.iiq.specs.Words.{line_words, number_below, numbers_below, signed_number, truth_of_word, bytes_of_word}

-- A lookup has the requested option, and the term, if there is one; a search has its text.
pub data Command : Type 0 where
  show_ids : List ℕ → Command
  open_list : IndexRecordOption → IndexRecordOption → ℕ → List ℕ → Option (List ℕ) → Command
  index_call : Call → Command
  look_up : IndexRecordOption → Option TermState → Command
  search_for : List ℕ → Command

-- the field of texts
abbrev pub text_field : ℕ
text_field = 0

-- the field of numbers
abbrev pub num_field : ℕ
num_field = 1

-- the field of JSON values
abbrev pub leaf_field : ℕ
leaf_field = 2

-- the option that a word names
abbrev pub option_of_word : List ℕ → Option IndexRecordOption
option_of_word word =
    if bytes_eq word (codes "b") then Some Basic
    else if bytes_eq word (codes "f") then Some WithFreqs
    else if bytes_eq word (codes "p") then Some WithFreqsAndPositions
    else None

-- the documents that words write, strictly ascending
abbrev pub documents_of_words : List (List ℕ) → Option (List ℕ)
documents_of_words words = do
  docs ← numbers_below TERMINATED words
  _ ← needs (are_documents docs)
  Some docs

-- what the words after `ids` ask for
abbrev pub ids_command : List (List ℕ) → Option Command
ids_command words = option_map (λ docs. show_ids docs) (documents_of_words words)

-- the value of the next word, and the words after it
abbrev pub next_by : {A : Type 0} → (List ℕ → Option A) → List (List ℕ) → Option (A × List (List ℕ))
next_by read [] = None
next_by read (word ∷ words) = read word >>= λ value. Some (value, words)

-- the value of the only remaining word
abbrev pub last_by : {A : Type 0} → (List ℕ → Option A) → List (List ℕ) → Option A
last_by read [] = None
last_by read (word ∷ []) = read word
last_by read (word ∷ more ∷ words) = None

-- the bytes of positions as the last word, if they are given
abbrev pub positions_of_words : List (List ℕ) → Option (Option (List ℕ))
positions_of_words [] = Some None
positions_of_words (word ∷ []) = option_map (λ bytes. Some bytes) (bytes_of_word word)
positions_of_words (word ∷ more ∷ words) = None

-- what the words after `open` ask for
abbrev pub open_command : List (List ℕ) → Option Command
open_command words = do
  recorded ← next_by option_of_word words
  requested ← next_by option_of_word recorded.1
  doc_freq ← next_by (number_below (2 ^ 32)) requested.1
  bytes ← next_by bytes_of_word doc_freq.1
  positions ← positions_of_words bytes.1
  Some (open_list recorded.0 requested.0 doc_freq.0 bytes.0 positions)

-- what the words after `text` ask for: the text is all that follows the document's space, if anything does
abbrev pub text_command : List (List ℕ) → Option Command
text_command words = do
  doc ← next_by (number_below TERMINATED) words
  Some (index_call (record { doc = doc.0; field = text_field; content = text (join_with_byte 32 doc.1) }))

-- what the words after `num` ask for
abbrev pub num_command : List (List ℕ) → Option Command
num_command words = do
  doc ← next_by (number_below TERMINATED) words
  number ← last_by (number_below (2 ^ 64)) doc.1
  Some (index_call (record { doc = doc.0; field = num_field; content = value (u64_bytes number) }))

-- a word that isn't empty, as it is
abbrev pub key_of_word : List ℕ → Option (List ℕ)
key_of_word word = needs (nat_lt 0 (length word)) >>= λ _. Some word

-- the leaf of a kind and a word: a text, a signed or an unsigned number, or a boolean
abbrev pub leaf_of_word : List ℕ → List ℕ → Option Leaf
leaf_of_word kind word =
    if bytes_eq kind (codes "s") then option_map (λ letters. text_leaf letters) (key_of_word word)
    else if bytes_eq kind (codes "i") then option_map (λ number. value_leaf types.I64 (flipped number)) (signed_number word)
    else if bytes_eq kind (codes "u") then option_map u64_leaf (number_below (2 ^ 64) word)
    else if bytes_eq kind (codes "o") then option_map (λ truth. value_leaf types.Bool (number_of_bool truth)) (truth_of_word word)
    else None

-- a leaf, as an option
abbrev pub optional : Leaf → Option Leaf
optional leaf = Some leaf

-- a null has no word, and no leaf
abbrev pub null_of_words : List (List ℕ) → Option (Option Leaf)
null_of_words [] = Some None
null_of_words (word ∷ words) = None

-- the leaf of a kind and a word, or none for a null
abbrev pub leaf_of_words : List (List ℕ) → Option (Option Leaf)
leaf_of_words [] = None
leaf_of_words (kind ∷ words) =
    if bytes_eq kind (codes "n") then null_of_words words
    else option_map optional (last_by (leaf_of_word kind) words)

-- the leaves of a JSON value with a leaf at a path: none for a null, or for a path with byte 0
abbrev pub leaf_under : List ℕ → Option Leaf → List (List ℕ × Leaf)
leaf_under path None = []
leaf_under path (Some leaf) = if has_zero path then [] else (joined_segments (segments_of path), leaf) ∷ []

-- the leaves of a path, a kind and a word
abbrev pub path_leaves : List (List ℕ) → Option (List (List ℕ × Leaf))
path_leaves words = do
  path ← next_by key_of_word words
  leaf ← leaf_of_words path.1
  Some (leaf_under path.0 leaf)

-- what the words after `leaf` ask for
abbrev pub leaf_command : List (List ℕ) → Option Command
leaf_command words = do
  doc ← next_by (number_below TERMINATED) words
  found ← path_leaves doc.1
  Some (index_call (record { doc = doc.0; field = leaf_field; content = leaves found }))

-- what the words after `? text` ask for
abbrev pub text_query : List (List ℕ) → Option Command
text_query words = do
  option ← next_by option_of_word words
  key ← last_by key_of_word option.1
  Some (look_up option.0 (Some (record { field = text_field; value = key })))

-- what the words after `? num` ask for
abbrev pub num_query : List (List ℕ) → Option Command
num_query words = do
  number ← last_by (number_below (2 ^ 64)) words
  Some (look_up Basic (Some (record { field = num_field; value = u64_bytes number })))

-- the key of a leaf after its path; no line writes an unsupported leaf
abbrev pub leaf_key : Leaf → List ℕ
leaf_key (text_leaf letters) = text_key letters
leaf_key (value_leaf t n) = typed_key t n
leaf_key (unsupported kind) = []

-- the term of the first leaf, if there is one
abbrev pub leaf_term : List (List ℕ × Leaf) → Option TermState
leaf_term [] = None
leaf_term (l ∷ ls) = Some (record { field = leaf_field; value = json_key l.0 (leaf_key l.1) })

-- what the words after `? leaf` ask for
abbrev pub leaf_query : List (List ℕ) → Option Command
leaf_query words = do
  option ← next_by option_of_word words
  found ← path_leaves option.1
  Some (look_up option.0 (leaf_term found))

-- how query texts are read: words by the analyzer, and words without a field name in the field of texts
abbrev pub asked : QueryFields
asked = record { texts = record { analyze = ascii_words; entries = fields }; defaults = text_field ∷ [] }

-- what a text after `? query` asks for, if it is a query
abbrev pub text_search : List ℕ → Option Command
text_search bytes = needs (is_none (text_refusal asked bytes)) >>= λ _. Some (search_for bytes)

-- a lookup, by the word after the question mark
abbrev pub look_up_command : List (List ℕ) → Option Command
look_up_command [] = None
look_up_command (word ∷ words) =
    if bytes_eq word (codes "text") then text_query words
    else if bytes_eq word (codes "num") then num_query words
    else if bytes_eq word (codes "leaf") then leaf_query words
    else None

-- what a question mark asks for where queries are known: the text of a query is all that follows its word's space
abbrev pub query_command : List (List ℕ) → Option Command
query_command [] = None
query_command (word ∷ words) = if bytes_eq word (codes "query") then text_search (join_with_byte 32 words) else look_up_command (word ∷ words)

-- what a question mark asks for, by the commands that are known: the text of a query or a lookup, or a lookup alone
abbrev pub question_command : CommandSet → List (List ℕ) → Option Command
question_command WithQueries words = query_command words
question_command Strict words = look_up_command words

-- a line of words, by its first word
abbrev pub words_command : CommandSet → List (List ℕ) → Option Command
words_command commands [] = None
words_command commands (word ∷ words) =
    if bytes_eq word (codes "ids") then ids_command words
    else if bytes_eq word (codes "open") then open_command words
    else if bytes_eq word (codes "text") then text_command words
    else if bytes_eq word (codes "num") then num_command words
    else if bytes_eq word (codes "leaf") then leaf_command words
    else if bytes_eq word (codes "?") then question_command commands words
    else None

-- what a line asks for, if it is well formed
abbrev pub command_of : CommandSet → List ℕ → Option Command
command_of commands line = words_command commands (line_words line)
