-- A schema without its tokenizers.
use Rattle.std.proofs.Common.{◌≡◌, List, ℕ, Ok, refl}
use Rattle.ii_schema_text.specs.SchemaText.{TextSchemaState, text_schema, tokenized_schema}

pub schema_alone : (text : List ℕ) (s : TextSchemaState) → tokenized_schema text ≡ Ok s → text_schema text ≡ Ok s.schema
unfolding text_schema
schema_alone text s is = rw is refl
