-- The terms of sets.
use Rattle.std.proofs.Common.{◌≡◌, ◌∙◌, ℕ, ◌+◌, ◌<◌, ◌≤◌, true, false, List, [], ◌++◌, append-nil, drop, get_or, length, map, Ok, inr, refl, sym, ap}
use Rattle.std.specs.List.{list_all}
use Rattle.std.proofs.lemmas.List.{at_drop_more, drop_all}
use Rattle.ii_base.specs.Schema.{SchemaEntry}
use Rattle.ii_definitions.specs.Tokens.{IndexToken}
use Rattle.ii_query_grammar.specs.Trees.{ValueSet, in_set}
use Rattle.ii_query_grammar.specs.declared.user_input_ast.Delimiter.TheVariants as delimiters
use Rattle.ii_query_parser.specs.declared.query.Query.{Query}
use Rattle.ii_query_parser.specs.declared.query_parser_error.QueryParserError.{QueryParserError}
use Rattle.ii_query_parser.specs.declared.query_parser_error.QueryParserError.TheVariants as errors
use Rattle.ii_query_parser.specs.Queries.{covers_docs, has_fields, keeps_positions, matches}
use Rattle.ii_query_parser.specs.QuerySteps.{Adds, IsRefusedAs, are_in, phrase_kept, phrase_within}
use Rattle.ii_query_parser.specs.QueryTexts.{AnalyzedFields, FieldTexts, IsWhyRefused, Means, PhraseState, field_named, has_term, joined_terms, named_terms, names_field, no_terms, refused, set_terms, values_terms}
use Rattle.ii_query_parser.proofs.TermLemmas.{IsJoining, joins_more, terms_mean, why_joined, why_of}

-- a value and those after it
module _ {X : Type 0} (f : X → List ℕ) (q : FieldTexts) (name : List ℕ) (xs : List X) (i : ℕ) (x : X) (inside : i < length xs) (here : x ≡ get_or xs i x) where
  value_at : values_terms q name (map f (drop i xs)) ≡ joined_terms (named_terms q name (f x) (field_named q.entries name)) (values_terms q name (map f (drop (i + 1) xs)))
  value_at =
      at_drop_more (λ (ys : List X). values_terms q name (map f ys)) xs i x inside
      ∙ ap (λ (y : X). joined_terms (named_terms q name (f y) (field_named q.entries name)) (values_terms q name (map f (drop (i + 1) xs)))) (sym here)

  -- its terms
  pub adds_value : (old now new ts : List PhraseState) → IsJoining q.entries (values_terms q name (map f xs)) (values_terms q name (map f (drop i xs))) old now → named_terms q name (f x) (field_named q.entries name) ≡ Ok ts → new ≡ now ++ ts → are_in q.entries ts ≡ true
      → IsJoining q.entries (values_terms q name (map f xs)) (values_terms q name (map f (drop (i + 1) xs))) old new
  adds_value old now new ts j is new_is within = joins_more q.entries (values_terms q name (map f xs)) _ (named_terms q name (f x) (field_named q.entries name)) _ old now new ts value_at j is new_is within

  -- its error
  pub value_refused : (old now new : List PhraseState) (e : QueryParserError) → IsJoining q.entries (values_terms q name (map f xs)) (values_terms q name (map f (drop i xs))) old now → IsRefusedAs (refused (named_terms q name (f x) (field_named q.entries name))) now new e
      → IsWhyRefused (refused (values_terms q name (map f xs))) e
  value_refused old now new e j why =
      why_joined j.found (named_terms q name (f x) (field_named q.entries name)) (values_terms q name (map f (drop (i + 1) xs))) (values_terms q name (map f xs)) e
      (j.whole ∙ ap (joined_terms (Ok j.found)) value_at) (why_of _ now new e why)

-- all values were looked at
module _ {X : Type 0} (f : X → List ℕ) (q : FieldTexts) (name : List ℕ) (xs : List X) (i : ℕ) (old now : List PhraseState) (end : length xs ≤ i) (j : IsJoining q.entries (values_terms q name (map f xs)) (values_terms q name (map f (drop i xs))) old now) where
  none_left : values_terms q name (map f xs) ≡ joined_terms (Ok j.found) (no_terms (names_field q.entries name (field_named q.entries name)))
  none_left = j.whole ∙ ap (λ (ys : List X). joined_terms (Ok j.found) (values_terms q name (map f ys))) (drop_all i xs end)

  pub adds_all : names_field q.entries name (field_named q.entries name) ≡ true → Adds (values_terms q name (map f xs)) q.entries old now (Ok tt)
  adds_all named = (j.found, none_left ∙ rw named (ap (λ (ps : List PhraseState). Ok ps) (append-nil j.found)), j.now_is, j.within)

  pub none_named : names_field q.entries name (field_named q.entries name) ≡ false → IsWhyRefused (refused (values_terms q name (map f xs))) errors.FieldDoesNotExist
  none_named unnamed = inr (ap refused none_left ∙ rw unnamed refl)

-- what a set means
pub set_means : (q : AnalyzedFields) (s : ValueSet) (query : Query) (terms : List PhraseState) → Adds (set_terms q.texts s) q.texts.entries [] terms (Ok tt) → ((ts : List IndexToken) (doc : ℕ) → matches query ts doc ≡ has_term delimiters.None ts doc terms)
    → ((n : ℕ) → has_fields n query ≡ list_all (phrase_within n) terms) → ((entries : List SchemaEntry) → keeps_positions entries query ≡ list_all (phrase_kept entries) terms) → ((n : ℕ) → covers_docs n query ≡ true) → Means q (in_set s) query
set_means q s query terms adds means fields positions covers = terms_mean q (in_set s) delimiters.None (set_terms q.texts s) query terms refl (λ ts doc. refl) adds means fields positions covers
