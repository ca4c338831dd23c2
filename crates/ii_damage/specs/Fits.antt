-- Tokens that fit a schema and a number of documents.
use Rattle.std.specs.Prelude.{◌≡◌, ℕ, ◌<◌, List, IfSome, map, slice_get}
use Rattle.std.specs.List.{AllByRecursion}
use Rattle.ii_base.specs.Schema.{SchemaEntry}
use Rattle.ii_base.specs.Words.{Word}
use Rattle.ii_definitions.specs.IndexCalls.{MayAllBeIndexed, call_of}
use Rattle.ii_definitions.specs.Tokens.{IndexToken, tokens_of}
use Rattle.ii_definitions.specs.declared.index_call.IndexCall.{IndexCall}
use Rattle.ii_definitions.specs.JsonKeys.{is_key_of_text}

-- The token's document is in the index, and its key belongs to a text if and only if the token does.
pub record Fits (entries : List SchemaEntry) (num_docs : ℕ) (t : IndexToken) : Type 0 where
  pub below : t.doc < num_docs
  pub kind : IfSome (slice_get entries t.field) (λ (e : SchemaEntry). t.of_text ≡ is_key_of_text e.value_type t.key)

-- Each token fits.
abbrev pub AllFit : List SchemaEntry → ℕ → List IndexToken → Type 0
AllFit entries num_docs ts = AllByRecursion (Fits entries num_docs) ts

-- The tokens of calls that may be indexed fit, for any analyzer.
abbrev pub TokensOfCallsFit : Type 0
TokensOfCallsFit =
    (entries : List SchemaEntry) (num_docs : ℕ) (words : List ℕ → List Word) (calls : List IndexCall) → MayAllBeIndexed entries num_docs calls
    → AllFit entries num_docs (tokens_of words (map (call_of entries) calls))
