-- What the steps of reading a query's text do.
use Rattle.std.specs.Prelude.{◌≡◌, ◌⊎◌, ◌<◌, IfSome, ℕ, Bool, true, false, ◌&&◌, ◌||◌, ◌==◌, ◌+◌, List, [], ◌∷◌, ◌++◌, Option, None, Some, Result, Ok, Err, drop, length, nat_lt, position, take, Vec}
use Rattle.std.specs.Borrow.{Bor}
use Rattle.std.specs.List.{AllByRecursion, list_all, list_any}
use Rattle.std.specs.declared.alloc.Global.{Global}
use Rattle.ii_io.specs.declared.faults.Fault.TheVariants.{OutOfMemory}
use Rattle.ii_base.specs.Schema.{SchemaEntry}
use Rattle.ii_base.specs.Terms.{TermState}
use Rattle.ii_definitions.specs.Tokens.{IndexToken}
use Rattle.ii_query_grammar.specs.Trees.{Ast, Asts, Bound, and_asts, no_asts}
use Rattle.ii_query_grammar.specs.declared.user_input_ast.Delimiter.{Delimiter}
use Rattle.ii_query_grammar.specs.declared.user_input_ast.Delimiter.TheVariants as delimiters
use Rattle.ii_query_parser.specs.Queries.{covers_docs, has_fields, has_positions_in, keeps_positions, matches}
use Rattle.ii_query_parser.specs.Ranges.{KeyRanges, key_bound, ranges_of}
use Rattle.ii_query_parser.specs.declared.query.PhraseTerm.{PhraseTerm}
use Rattle.ii_query_parser.specs.declared.query.Query.{Query}
use Rattle.ii_query_parser.specs.declared.query_parser_error.QueryParserError.{QueryParserError}
use Rattle.ii_query_parser.specs.declared.query_parser_error.QueryParserError.TheVariants as errors
use Rattle.ii_query_parser.specs.declared.range_text.TermRanges.{TermRanges}
use Rattle.ii_query_parser.specs.declared.term_range.KeyBound.{KeyBound}
use Rattle.ii_query_parser.specs.declared.term_range.TermRange.{TermRange}
use Rattle.ii_query_parser.specs.QueryTexts.{AnalyzedFields, IsWhyRefused, Means, PhraseState, Terms, ast_refusal, asts_refusal, each_trimmed, has_delimited, has_term, if_left_out, is_alone, left_out, one_term, refused, trimmed}

-- An allocation failed, or this is the error, and the terms are unchanged.
abbrev pub IsRefusedAs : Option QueryParserError → List PhraseState → List PhraseState → QueryParserError → Type 0
IsRefusedAs refusal old new e = (e ≡ errors.Fault OutOfMemory) ⊎ ((refusal ≡ Some e) × (new ≡ old))

-- A query means what is left of a tree, or nothing is left, or the tree has this error.
abbrev pub IsLeftBy : AnalyzedFields → Ast → Result (Option Query) QueryParserError → Type 0
IsLeftBy q ast (Ok None) = (ast_refusal q ast ≡ None) × (trimmed q ast ≡ None)
IsLeftBy q ast (Ok (Some query)) = (ast_refusal q ast ≡ None) × (t : Ast) × (trimmed q ast ≡ Some t) × Means q t query
IsLeftBy q ast (Err e) = IsWhyRefused (ast_refusal q ast) e

-- whether the fields of a phrase are among the first n
abbrev pub phrase_within : ℕ → PhraseState → Bool
phrase_within n p = nat_lt p.first.field n && list_all (λ (o : PhraseTerm). nat_lt o.term.field n) p.others

-- whether the fields of a phrase keep positions, if it has several terms
abbrev pub phrase_kept : List SchemaEntry → PhraseState → Bool
phrase_kept entries p = is_alone p || (has_positions_in entries p.first && list_all (λ (o : PhraseTerm). has_positions_in entries o.term) p.others)

-- the fields of terms and phrases are those of a schema, and keep positions where they are needed
abbrev pub are_in : List SchemaEntry → List PhraseState → Bool
are_in entries terms = list_all (λ (p : PhraseState). phrase_within (length entries) p && phrase_kept entries p) terms

-- The terms of a phrase are of a field, which keeps positions where they are needed.
pub record IsPhraseIn (field : ℕ) (keeps : Bool) (p : PhraseState) : Type 0 where
  pub first : p.first.field ≡ field
  pub others : AllByRecursion (λ (o : PhraseTerm). o.term.field ≡ field) p.others
  pub kept : (keeps || is_alone p) ≡ true

-- Terms were added, or this is the error.
abbrev pub Adds : Terms → List SchemaEntry → List PhraseState → List PhraseState → Result (Unit {0}) QueryParserError → Type 0
Adds terms entries old new (Ok done) = (ts : List PhraseState) × (terms ≡ Ok ts) × (new ≡ old ++ ts) × (are_in entries ts ≡ true)
Adds terms entries old new (Err e) = IsWhyRefused (refused terms) e

-- Terms were added, or this is the error, and the terms are unchanged unless an allocation failed.
abbrev pub AddsOrKeeps : Terms → List SchemaEntry → List PhraseState → List PhraseState → Result (Unit {0}) QueryParserError → Type 0
AddsOrKeeps terms entries old new (Ok done) = Adds terms entries old new (Ok done)
AddsOrKeeps terms entries old new (Err e) = IsRefusedAs (refused terms) old new e

-- Terms of a field were added, or this is the error, and the terms are unchanged unless an allocation failed.
abbrev pub AddsIn : Terms → ℕ → Bool → List PhraseState → List PhraseState → Result (Unit {0}) QueryParserError → Type 0
AddsIn terms field keeps old new (Ok done) = (ts : List PhraseState) × (terms ≡ Ok ts) × (new ≡ old ++ ts) × AllByRecursion (IsPhraseIn field keeps) ts
AddsIn terms field keeps old new (Err e) = IsRefusedAs (refused terms) old new e

-- A term was added, or there is none, and this is the error.
abbrev pub AddsMaybe : Option TermState → QueryParserError → List PhraseState → List PhraseState → Result (Unit {0}) QueryParserError → Type 0
AddsMaybe None error old new (Ok done) = ⊥
AddsMaybe (Some term) error old new (Ok done) = new ≡ old ++ one_term term ∷ []
AddsMaybe None error old new (Err e) = (e ≡ error) × (new ≡ old)
AddsMaybe (Some term) error old new (Err e) = e ≡ errors.Fault OutOfMemory

-- The terms that a text is looked up by were added, or this is the error, and the terms are unchanged unless an allocation failed.
abbrev pub AddsText : Terms → List PhraseState → List PhraseState → Result (Unit {0}) QueryParserError → Type 0
AddsText terms old new (Ok done) = (ts : List PhraseState) × (terms ≡ Ok ts) × (new ≡ old ++ ts)
AddsText terms old new (Err e) = IsRefusedAs (refused terms) old new e

-- The terms of a default field were added, unless it is left out, or this is the error, and the terms are unchanged unless an allocation failed.
abbrev pub AddsUnlessLeft : ℕ → Terms → List SchemaEntry → List PhraseState → List PhraseState → Result (Option ℕ) QueryParserError → Type 0
AddsUnlessLeft field terms entries old new (Ok left) = Adds (left_out terms) entries old new (Ok tt) × (left ≡ if_left_out field terms)
AddsUnlessLeft field terms entries old new (Err e) = IsRefusedAs (refused (left_out terms)) old new e

-- A name was cut at its first dot, or has none.
abbrev pub CutsAtDot : List ℕ → Option (Bor (List ℕ) × Bor (List ℕ)) → Type 0
CutsAtDot name None = position (λ b. b == 46) name ≡ None
CutsAtDot name (Some parts) = (i : ℕ) × (position (λ b. b == 46) name ≡ Some i) × (parts.0.now ≡ take i name) × (parts.1.now ≡ drop (i + 1) name)

-- These are the bytes of a key, or it has this error, or an allocation failed.
abbrev pub IsKey : Result (List ℕ) QueryParserError → Result (Vec ℕ Global) QueryParserError → Type 0
IsKey key (Ok bytes) = key ≡ Ok bytes.items
IsKey key (Err e) = (e ≡ errors.Fault OutOfMemory) ⊎ (key ≡ Err e)

-- This is what keys start with, or it has this error, or an allocation failed.
abbrev pub IsStart : Result TermState QueryParserError → Result TermState QueryParserError → Type 0
IsStart start (Ok prefix) = start ≡ Ok prefix
IsStart start (Err e) = (e ≡ errors.Fault OutOfMemory) ⊎ (start ≡ Err e)

-- This is a bound of keys, or it has this error, or an allocation failed.
abbrev pub IsBound : Result Bound QueryParserError → Result KeyBound QueryParserError → Type 0
IsBound bound (Ok keys) = bound ≡ Ok (key_bound keys)
IsBound bound (Err e) = (e ≡ errors.Fault OutOfMemory) ⊎ (bound ≡ Err e)

-- These are the ranges of keys, or they have this error, or an allocation failed.
abbrev pub AreRangesOf : Result KeyRanges QueryParserError → Result TermRanges QueryParserError → Type 0
AreRangesOf keys (Ok ranges) = keys ≡ Ok (ranges_of ranges)
AreRangesOf keys (Err e) = (e ≡ errors.Fault OutOfMemory) ⊎ (keys ≡ Err e)

-- The terms of a range are of one of the first n fields, if there is a range.
abbrev pub IsInside : ℕ → Option TermRange → Type 0
IsInside n range = IfSome range (λ r. r.prefix.field < n)

-- The terms of ranges are of the first n fields.
abbrev pub AreInside : ℕ → TermRanges → Type 0
AreInside n ranges = IsInside n ranges.first × IsInside n ranges.other

-- Queries mean what trees do, one by one.
abbrev pub MeanEach : AnalyzedFields → Asts → List Query → Type 0
MeanEach q no_asts [] = Unit {0}
MeanEach q no_asts (query ∷ queries) = ⊥
MeanEach q (and_asts a us) [] = ⊥
MeanEach q (and_asts a us) (query ∷ queries) = Means q a query × MeanEach q us queries

-- The queries of what is left of trees, or the first error.
abbrev pub AreQueriesOf : AnalyzedFields → Asts → Result (Vec Query Global) QueryParserError → Type 0
AreQueriesOf q us (Ok queries) = (asts_refusal q us ≡ None) × MeanEach q (each_trimmed q us) queries.items
AreQueriesOf q us (Err e) = IsWhyRefused (asts_refusal q us) e

-- Only terms alone are prefixes.
abbrev pub AreAlone : Delimiter → List PhraseState → Type 0
AreAlone delimiter terms = delimiter ≡ delimiters.Star → list_all is_alone terms ≡ true

-- The query of a term, a phrase or a prefix was added to a list.
pub record HasPushed (delimiter : Delimiter) (old new : List Query) (words : PhraseState) : Type 0 where
  pub found : (ts : List IndexToken) (doc : ℕ) → list_any (λ (q : Query). matches q ts doc) new ≡ (list_any (λ (q : Query). matches q ts doc) old || has_delimited delimiter ts doc words)
  pub within : (n : ℕ) → list_all (has_fields n) new ≡ (list_all (has_fields n) old && phrase_within n words)
  pub kept : (entries : List SchemaEntry) → list_all (keeps_positions entries) new ≡ (list_all (keeps_positions entries) old && phrase_kept entries words)
  pub covered : (n : ℕ) → list_all (covers_docs n) new ≡ list_all (covers_docs n) old

-- A query matches what has one of some terms, phrases or prefixes.
pub record HasTerms (delimiter : Delimiter) (terms : List PhraseState) (query : Query) : Type 0 where
  pub matches : (ts : List IndexToken) (doc : ℕ) → matches query ts doc ≡ has_term delimiter ts doc terms
  pub fields : (n : ℕ) → has_fields n query ≡ list_all (phrase_within n) terms
  pub positions : (entries : List SchemaEntry) → keeps_positions entries query ≡ list_all (phrase_kept entries) terms
  pub covers : (n : ℕ) → covers_docs n query ≡ true

-- A query matches what has one of some terms, phrases or prefixes, unless it is left out.
abbrev pub HasTermsUnless : Bool → Delimiter → List PhraseState → Option Query → Type 0
HasTermsUnless gone delimiter terms None = gone ≡ true
HasTermsUnless gone delimiter terms (Some query) = (gone ≡ false) × HasTerms delimiter terms query
