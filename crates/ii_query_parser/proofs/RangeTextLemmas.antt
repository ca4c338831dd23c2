-- The keys and the queries of ranges.
use Rattle.std.proofs.Common.{◌≡◌, ◌∙◌, ◌++◌, ◌∷◌, [], ℕ, List, Option, Some, Ok, true, length, ap, sym}
use Rattle.ii_base.specs.declared.doc_id.TheConstants.{TERMINATED}
use Rattle.ii_base.specs.Schema.{SchemaEntry}
use Rattle.ii_base.specs.Terms.{TermState}
use Rattle.ii_base.specs.ValueTypes.{code_of}
use Rattle.ii_definitions.specs.Tokens.{IndexToken}
use Rattle.ii_query_grammar.specs.Trees.{Bound, Range, ranged}
use Rattle.ii_query_parser.specs.declared.query.Query.{Query}
use Rattle.ii_query_parser.specs.declared.range_text.Integers.{Integers}
use Rattle.ii_query_parser.specs.declared.range_text.TermRanges.{TermRanges}
use Rattle.ii_query_parser.specs.declared.term_range.KeyBound.{KeyBound}
use Rattle.ii_query_parser.specs.Queries.{covers_docs, has_fields, keeps_positions, matches}
use Rattle.ii_query_parser.specs.QueryTexts.{AnalyzedFields, Means, has_keys, integer_bound, integer_keys, integer_type, keys_if, lower_beyond, prefix_texts, range_keys, range_refusal, upper_beyond}
use Rattle.ii_query_parser.specs.Ranges.{key_bound, ranges_of}

pub integers_between : (start : TermState) (r : Range) (t : Integers) (prefix : TermState) (lower upper : KeyBound) → prefix ≡ record { field = start.field; value = start.value ++ code_of (integer_type t) ∷ [] }
    → Some (key_bound lower) ≡ integer_bound t prefix.value (lower_beyond t) r.lower → Some (key_bound upper) ≡ integer_bound t prefix.value (upper_beyond t) r.upper
    → Some (record { prefix = prefix; lower = key_bound lower; upper = key_bound upper }) ≡ integer_keys start r t
integers_between start r t prefix lower upper is first other =
    let at : TermState = record { field = start.field; value = start.value ++ code_of (integer_type t) ∷ [] } in
    let low : Some (key_bound lower) ≡ integer_bound t at.value (lower_beyond t) r.lower = first ∙ ap (λ (p : TermState). integer_bound t p.value (lower_beyond t) r.lower) is in
    let high : Some (key_bound upper) ≡ integer_bound t at.value (upper_beyond t) r.upper = other ∙ ap (λ (p : TermState). integer_bound t p.value (upper_beyond t) r.upper) is in
    ap (λ (p : TermState). keys_if p (Some (key_bound lower)) (Some (key_bound upper))) is
    ∙ ap (λ (b : Option Bound). keys_if at b (Some (key_bound upper))) low
    ∙ ap (keys_if at (integer_bound t at.value (lower_beyond t) r.lower)) high

-- what a range means
pub range_means : (q : AnalyzedFields) (r : Range) (query : Query) (ranges : TermRanges) → range_keys (prefix_texts q) r ≡ Ok (ranges_of ranges) → ((ts : List IndexToken) (doc : ℕ) → matches query ts doc ≡ has_keys ts doc (Ok (ranges_of ranges)))
    → has_fields (length q.texts.entries) query ≡ true → ((entries : List SchemaEntry) → keeps_positions entries query ≡ true) → ((n : ℕ) → covers_docs n query ≡ true) → Means q (ranged r) query
range_means q r query ranges is means fields positions covers = record {
  taken = ap range_refusal is;
  exact = λ ts doc. means ts doc ∙ sym (ap (has_keys ts doc) is);
  fields = fields;
  positions = positions q.texts.entries;
  covers = covers TERMINATED;
}
