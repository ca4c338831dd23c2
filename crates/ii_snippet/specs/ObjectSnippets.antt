-- What is shown of a JSON object: the snippets of its texts in which a query wants words.
use Rattle.std.specs.Prelude.{ℕ, ◌≡◌, Bool, List, ◌∷◌, ◌++◌, [], filter, map}
use Rattle.std.specs.Char.{encode_utf8}
use Rattle.std.specs.List.{AllZip, join_by, list_any}
use Rattle.std.specs.Option.{is_some}
use Rattle.serde_json.specs.Data.{Data}
use Rattle.ii_base.specs.Schema.{SchemaEntry}
use Rattle.ii_tokenizers.specs.Tokenizers.{analyzed_in}
use Rattle.ii_tokenizers.specs.declared.field_tokenizer.FieldTokenizer.{FieldTokenizer}
use Rattle.ii_snippet.specs.declared.marks.MarkStyle.{MarkStyle}
use Rattle.ii_snippet.specs.declared.object_snippets.SnippetRules.{SnippetRules}
use Rattle.ii_snippet.specs.declared.windows.SnippetToken.{SnippetToken}
use Rattle.ii_snippet.specs.FieldTexts.{FieldTextState, wanted_texts}
use Rattle.ii_snippet.specs.Fragments.{Piece, ShowTokens}
use Rattle.ii_snippet.specs.Marks.{written}
use Rattle.ii_snippet.specs.Wanted.{Wanted, snippet_token, wanted_of}

-- how objects of a schema are shown: the tokenizers of its fields, what is wanted, how many tokens of a text are shown at most, and how they are written
pub record SnippetRulesState : Type 0 where
  pub entries : List SchemaEntry
  pub tokenizers : List FieldTokenizer
  pub wants : List Wanted
  pub limit : ℕ
  pub style : MarkStyle

-- the model of rules
abbrev pub rules_of : SnippetRules → SnippetRulesState
rules_of r = record { entries = r.schema.now; tokenizers = r.tokenizers.now; wants = map wanted_of r.words.now; limit = r.limit; style = r.style }

-- the tokens of a text of a field, each with the wanted word that it is
abbrev pub tokens_of : SnippetRulesState → FieldTextState → List SnippetToken
tokens_of r t = map (snippet_token r.wants t.field) (analyzed_in r.tokenizers t.field t.text)

-- whether a token is a wanted word
abbrev pub has_wanted : List SnippetToken → Bool
has_wanted ts = list_any (λ (t : SnippetToken). is_some t.wanted) ts

-- This is the snippet of a text as it is written.
pub record IsTextSnippet (r : SnippetRulesState) (t : FieldTextState) (out : List ℕ) : Type 0 where
  pub pieces : List Piece
  pub shown : ShowTokens t.text r.limit (tokens_of r t) pieces
  pub is_written : out ≡ written r.style pieces

-- the texts of an object that have a wanted word
abbrev pub shown_texts : SnippetRulesState → List FieldTextState → List FieldTextState
shown_texts r ts = filter (λ (t : FieldTextState). has_wanted (tokens_of r t)) ts

-- These are the snippets of the texts that have a wanted word.
abbrev pub AreSnippets : SnippetRulesState → List FieldTextState → List (List ℕ) → Type 0
AreSnippets r ts outs = AllZip (IsTextSnippet r) (shown_texts r ts) outs

-- Snippets were added: those of the texts that have a wanted word.
pub record AddsSnippets (r : SnippetRulesState) (ts : List FieldTextState) (old new : List (List ℕ)) : Type 0 where
  pub more : List (List ℕ)
  pub are_snippets : AreSnippets r ts more
  pub added : new ≡ old ++ more

-- what is between two snippets: an ellipsis between spaces
abbrev pub gap : List ℕ
gap = 32 ∷ encode_utf8 8230 ++ 32 ∷ []

-- This is what is shown of an object: the snippets of its texts that have a wanted word, with gaps between them.
pub record IsObjectSnippet (r : SnippetRulesState) (d : Data) (out : List ℕ) : Type 0 where
  pub snippets : List (List ℕ)
  pub are_snippets : AreSnippets r (wanted_texts r.wants r.entries d) snippets
  pub are_joined : out ≡ join_by (λ (s : List ℕ). s) gap snippets
