-- What the terms of a phrase need.
use Rattle.std.specs.Prelude.{◌≡◌, ◌<◌, ◌||◌, ◌==◌, true, List, length}
use Rattle.std.specs.List.{AllByRecursion}
use Rattle.ii_base.specs.Schema.{SchemaEntry}
use Rattle.ii_base.specs.Terms.{TermState}
use Rattle.ii_definitions.specs.Tokens.{IndexToken}
use Rattle.ii_query_parser.specs.Queries.{has_positions_in, is_text_key}

-- Both terms have fields of a schema, which keep positions.
pub record KeepPositions (schema : List SchemaEntry) (first second : TermState) : Type 0 where
  pub first_field : first.field < length schema
  pub second_field : second.field < length schema
  pub first_positions : has_positions_in schema first ≡ true
  pub second_positions : has_positions_in schema second ≡ true

-- The tokens of both terms are of texts.
pub record AreTexts (tokens : List IndexToken) (first second : TermState) : Type 0 where
  pub first_text : is_text_key first tokens ≡ true
  pub second_text : is_text_key second tokens ≡ true

-- All tokens in the fields of both terms are of texts.
abbrev pub HaveTexts : List IndexToken → TermState → TermState → Type 0
HaveTexts tokens first second = AllByRecursion (λ (t : IndexToken). ((t.field == first.field) || (t.field == second.field)) ≡ true → t.of_text ≡ true) tokens
