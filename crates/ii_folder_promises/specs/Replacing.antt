-- An index of two documents, of which one is replaced.
use Rattle.std.specs.Prelude.{◌≡◌, ℕ, true, false, List, [], ◌∷◌, Ok, replicate}
use Rattle.ii_base.specs.Schema.{SchemaEntry}
use Rattle.ii_base.specs.Terms.{TermState}
use Rattle.ii_base.specs.Words.{Word}
use Rattle.ii_definitions.specs.Tokens.{IndexToken}
use Rattle.ii_directory.specs.Directory.{Files}
use Rattle.ii_schema_text.specs.SchemaText.{text_schema}
use Rattle.ii_segment_store.specs.Contents.{SegmentContents, as_index, index_contents}
use Rattle.nequllpa_opening.specs.Stored.{HoldsTokens}
use Rattle.nequllpa_indexing.specs.Documents.{DocumentsState}
use Rattle.nequllpa_indexing.specs.FieldTokens.{tokens_by}
use Rattle.nequllpa_indexing.specs.KeyedLines.{AddsLines, KeyedLineState}

-- the token of a document that is one word of one byte, in the first field
abbrev pub byte_token : ℕ → ℕ → IndexToken
byte_token doc byte = record { doc = doc; field = 0; key = byte ∷ []; position = 0; of_text = true }

-- the tokens of two documents, the first with the word `a` and the second with the word `b`
abbrev pub two_tokens : List IndexToken
two_tokens = byte_token 0 97 ∷ byte_token 1 98 ∷ []

-- the term of a word of one byte, in the first field
abbrev pub byte_term : ℕ → TermState
byte_term byte = record { field = 0; value = byte ∷ [] }

-- a line with a key of one byte
abbrev pub byte_line : ℕ → List ℕ → KeyedLineState
byte_line byte line = record { key = byte ∷ []; text = line }

-- The files of a directory hold an index of one segment, with these two documents.
pub record HoldsTwo (entries : List SchemaEntry) (schema : List ℕ) (files : Files) : Type 0 where
  pub segment : SegmentContents
  pub read : index_contents files ≡ Ok (record { schema = schema; segments = segment ∷ [] })
  pub parsed : text_schema schema ≡ Ok entries
  pub holds : HoldsTokens entries (as_index schema segment) two_tokens
  pub alive : segment.alive ≡ true ∷ true ∷ []

-- The files of a directory hold the first of these two documents, and then exactly the documents of some lines.
pub record HoldsReplaced (entries : List SchemaEntry) (schema : List ℕ) (words : ℕ → List ℕ → List Word) (empty : DocumentsState) (lines : List (List ℕ)) (files : Files) : Type 0 where
  pub first : SegmentContents
  pub added : SegmentContents
  pub read : index_contents files ≡ Ok (record { schema = schema; segments = first ∷ added ∷ [] })
  pub holds : HoldsTokens entries (as_index schema first) two_tokens
  pub alive : first.alive ≡ true ∷ false ∷ []
  pub documents : DocumentsState
  pub of_lines : AddsLines empty documents lines
  pub added_holds : HoldsTokens entries (as_index schema added) (tokens_by words documents.calls)
  pub added_alive : added.alive ≡ replicate documents.num_docs true
