-- The queries of words and phrases in a list, and those of trees.
use Rattle.std.proofs.Common.{◌≡◌, ◌∙◌, ℕ, Bool, true, ◌&&◌, ◌||◌, List, [], ◌∷◌, ◌++◌, append_assoc, length, map, nat_lt, Option, None, Some, Ok, Vec, Global, refl, sym, ap, subst, arith}
use Rattle.std.proofs.Math.Bool.{and-true, and_assoc, or-false, or_assoc}
use Rattle.std.proofs.lemmas.Bool.{and_parts, eqb-true}
use Rattle.std.proofs.lemmas.List.{append-nil}
use Rattle.std.proofs.lemmas.List.Folds.{list_all-append, list_any-append}
use Rattle.std.specs.List.{list_all, list_any}
use Rattle.std.specs.Option.{option_or}
use Rattle.ii_base.specs.Schema.{SchemaEntry}
use Rattle.ii_base.specs.declared.doc_id.TheConstants.{TERMINATED}
use Rattle.ii_definitions.specs.Tokens.{IndexToken}
use Rattle.ii_query_grammar.specs.Trees.{Ast, Asts, all_of, and_asts, any_of, ast_of, asts_from, no_asts}
use Rattle.ii_query_grammar.specs.declared.user_input_ast.Delimiter.{Delimiter}
use Rattle.ii_query_grammar.specs.declared.user_input_ast.UserInputAst.{UserInputAst}
use Rattle.ii_query_parser.specs.declared.query.PhraseTerm.{PhraseTerm}
use Rattle.ii_query_parser.specs.declared.query.Query.{Query}
use Rattle.ii_query_parser.specs.declared.query.Query.TheVariants.{And, Or}
use Rattle.ii_query_parser.specs.declared.query_parser_error.QueryParserError.{QueryParserError}
use Rattle.ii_query_parser.specs.Queries.{covers_docs, has_fields, has_tree, keeps_positions, matches, trees_of}
use Rattle.ii_query_parser.specs.QuerySteps.{AreAlone, AreQueriesOf, HasPushed, IsLeftBy, MeanEach, phrase_kept, phrase_within}
use Rattle.ii_query_parser.specs.QueryTexts.{Means, PhraseState, AnalyzedFields, all_match, any_matches, are_some, ast_refusal, asts_refusal, each_trimmed, has_delimited, has_term, is_alone, put_before}
use Rattle.ii_query_parser.proofs.QueryLemmas.{and_covers, and_fields, and_matches, and_positions, or_covers, or_fields, or_matches, or_positions}

-- a query at the end of a list
pub pushed_any : (old new : List Query) (query : Query) (test : Query → Bool) (has : Bool) → new ≡ old ++ query ∷ [] → test query ≡ has → list_any test new ≡ (list_any test old || has)
pushed_any old new query test has is same = ap (list_any test) is ∙ list_any-append test old (query ∷ []) ∙ ap (λ (b : Bool). list_any test old || b) (or-false (test query) ∙ same)

pub pushed_all : (old new : List Query) (query : Query) (test : Query → Bool) (has : Bool) → new ≡ old ++ query ∷ [] → test query ≡ has → list_all test new ≡ (list_all test old && has)
pushed_all old new query test has is same = ap (list_all test) is ∙ list_all-append test old (query ∷ []) ∙ ap (λ (b : Bool). list_all test old && b) (and-true (test query) ∙ same)

pub pushes : (delimiter : Delimiter) (old new : List Query) (query : Query) (words : PhraseState) → new ≡ old ++ query ∷ [] → ((ts : List IndexToken) (doc : ℕ) → matches query ts doc ≡ has_delimited delimiter ts doc words)
    → ((n : ℕ) → has_fields n query ≡ phrase_within n words) → ((entries : List SchemaEntry) → keeps_positions entries query ≡ phrase_kept entries words) → ((n : ℕ) → covers_docs n query ≡ true) → HasPushed delimiter old new words
pushes delimiter old new query words is means fields positions covers = record {
  found = λ ts doc. pushed_any old new query (λ (q : Query). matches q ts doc) (has_delimited delimiter ts doc words) is (means ts doc);
  within = λ n. pushed_all old new query (has_fields n) (phrase_within n words) is (fields n);
  kept = λ entries. pushed_all old new query (keeps_positions entries) (phrase_kept entries words) is (positions entries);
  covered = λ n. pushed_all old new query (covers_docs n) true is (covers n) ∙ and-true (list_all (covers_docs n) old);
}

-- The queries of some terms and phrases, and the others, are those of all.
pub record IsCollecting (delimiter : Delimiter) (queries : List Query) (left all : List PhraseState) : Type 0 where
  pub alone : AreAlone delimiter left
  pub found : (ts : List IndexToken) (doc : ℕ) → (list_any (λ (q : Query). matches q ts doc) queries || has_term delimiter ts doc left) ≡ has_term delimiter ts doc all
  pub within : (n : ℕ) → (list_all (has_fields n) queries && list_all (phrase_within n) left) ≡ list_all (phrase_within n) all
  pub kept : (entries : List SchemaEntry) → (list_all (keeps_positions entries) queries && list_all (phrase_kept entries) left) ≡ list_all (phrase_kept entries) all
  pub covered : (n : ℕ) → list_all (covers_docs n) queries ≡ true

pub collects_none : (delimiter : Delimiter) (all : List PhraseState) → AreAlone delimiter all → IsCollecting delimiter [] all all
collects_none delimiter all alone = record { alone = alone; found = λ ts doc. refl; within = λ n. refl; kept = λ entries. refl; covered = λ n. refl }

or_on : (a q r all whole : Bool) → whole ≡ (a || q) → (a || (q || r)) ≡ all → (whole || r) ≡ all
or_on a q r all whole is left = ap (λ (b : Bool). b || r) is ∙ or_assoc a q r ∙ left

and_on : (a q r all whole : Bool) → whole ≡ (a && q) → (a && (q && r)) ≡ all → (whole && r) ≡ all
and_on a q r all whole is left = ap (λ (b : Bool). b && r) is ∙ and_assoc a q r ∙ left

pub collects_more : (delimiter : Delimiter) (old new : List Query) (words : PhraseState) (left here all : List PhraseState) → here ≡ words ∷ left → HasPushed delimiter old new words → IsCollecting delimiter old here all → IsCollecting delimiter new left all
collects_more delimiter old new words left here all is pushed i = record {
  alone = λ star. (and_parts (is_alone words) (list_all is_alone left) (ap (list_all is_alone) (sym is) ∙ i.alone star)).1;
  found = λ ts doc. or_on (list_any (λ (q : Query). matches q ts doc) old) (has_delimited delimiter ts doc words) (has_term delimiter ts doc left) (has_term delimiter ts doc all) _ (pushed.found ts doc) (ap (λ (ps : List PhraseState). list_any (λ (q : Query). matches q ts doc) old || has_term delimiter ts doc ps) (sym is) ∙ i.found ts doc);
  within = λ n. and_on (list_all (has_fields n) old) (phrase_within n words) (list_all (phrase_within n) left) (list_all (phrase_within n) all) _ (pushed.within n) (ap (λ (ps : List PhraseState). list_all (has_fields n) old && list_all (phrase_within n) ps) (sym is) ∙ i.within n);
  kept = λ entries. and_on (list_all (keeps_positions entries) old) (phrase_kept entries words) (list_all (phrase_kept entries) left) (list_all (phrase_kept entries) all) _ (pushed.kept entries) (ap (λ (ps : List PhraseState). list_all (keeps_positions entries) old && list_all (phrase_kept entries) ps) (sym is) ∙ i.kept entries);
  covered = λ n. pushed.covered n ∙ i.covered n;
}

none_others : (words : PhraseState) → is_alone words ≡ true → words.others ≡ []
none_others words alone = none words.others (eqb-true (length words.others) 0 alone)
  where
    none : (os : List PhraseTerm) → length os ≡ 0 → os ≡ []
    none [] is = refl
    none (o ∷ os) is = absurd (omega (arith, is))

-- of a term alone only its field matters, and it needs no positions
pub alone_within : (n : ℕ) (words : PhraseState) → is_alone words ≡ true → nat_lt words.first.field n ≡ phrase_within n words
alone_within n words alone = rw (none_others words alone) (sym (and-true (nat_lt words.first.field n)))

pub alone_kept : (entries : List SchemaEntry) (words : PhraseState) → is_alone words ≡ true → true ≡ phrase_kept entries words
alone_kept entries words alone = rw alone refl

-- What holds of each of some queries.
record EachMeans (q : AnalyzedFields) (us : Asts) (queries : List Query) : Type 0 where
  taken : asts_refusal q us ≡ None
  some : (has_tree (trees_of queries)) ≡ are_some us
  each : (ts : List IndexToken) (doc : ℕ) → list_all (λ (x : Query). matches x ts doc) queries ≡ all_match q us ts doc
  any : (ts : List IndexToken) (doc : ℕ) → list_any (λ (x : Query). matches x ts doc) queries ≡ any_matches q us ts doc
  fields : list_all (has_fields (length q.texts.entries)) queries ≡ true
  positions : list_all (keeps_positions q.texts.entries) queries ≡ true
  covers : list_all (covers_docs TERMINATED) queries ≡ true

each_means : (q : AnalyzedFields) (us : Asts) (queries : List Query) → MeanEach q us queries → EachMeans q us queries
each_means q no_asts [] mean = record { taken = refl; some = refl; each = λ ts doc. refl; any = λ ts doc. refl; fields = refl; positions = refl; covers = refl }
each_means q no_asts (x ∷ xs) mean = absurd mean
each_means q (and_asts a us) [] mean = absurd mean
each_means q (and_asts a us) (x ∷ xs) (here, mean) =
    let later = each_means q us xs mean in
    record {
      taken = rw (here.taken, later.taken) refl;
      some = refl;
      each = λ ts doc. rw (here.exact ts doc, later.each ts doc) refl;
      any = λ ts doc. rw (here.exact ts doc, later.any ts doc) refl;
      fields = rw (here.fields, later.fields) refl;
      positions = rw (here.positions, later.positions) refl;
      covers = rw (here.covers, later.covers) refl;
    }

-- whether there are queries
pub some_mean : (q : AnalyzedFields) (us : Asts) (queries : List Query) → MeanEach q us queries → has_tree (trees_of queries) ≡ are_some us
some_mean q us queries mean = (each_means q us queries mean).some

-- the query that matches what all match
pub and_means : (q : AnalyzedFields) (us : Asts) (queries : Vec Query Global) → MeanEach q us queries.items → Means q (all_of us) (And queries)
and_means q us queries mean =
    let all = each_means q us queries.items mean in
    record {
      taken = all.taken;
      exact = λ ts doc. and_matches queries ts doc ∙ ap (λ (b : Bool). b && list_all (λ (x : Query). matches x ts doc) queries.items) all.some ∙ ap (λ (b : Bool). are_some us && b) (all.each ts doc);
      fields = and_fields (length q.texts.entries) queries ∙ all.fields;
      positions = and_positions q.texts.entries queries ∙ all.positions;
      covers = and_covers TERMINATED queries ∙ all.covers;
    }

-- the query that matches what one of them matches
pub or_means : (q : AnalyzedFields) (us : Asts) (queries : Vec Query Global) → MeanEach q us queries.items → Means q (any_of us) (Or queries)
or_means q us queries mean =
    let all = each_means q us queries.items mean in
    record {
      taken = all.taken;
      exact = λ ts doc. or_matches queries ts doc ∙ all.any ts doc;
      fields = or_fields (length q.texts.entries) queries ∙ all.fields;
      positions = or_positions q.texts.entries queries ∙ all.positions;
      covers = or_covers TERMINATED queries ∙ all.covers;
    }

-- the trees of parts
abbrev pub trees_in : List UserInputAst → Asts
trees_in parts = asts_from (map ast_of parts)

-- Queries of what is left of the first parts, to which those of the other parts can be added; no part so far has an error.
pub record IsReading (q : AnalyzedFields) (parts left : List UserInputAst) (queries : List Query) : Type 0 where
  pub taken : asts_refusal q (trees_in parts) ≡ asts_refusal q (trees_in left)
  pub mean : (others : List Query) → MeanEach q (each_trimmed q (trees_in left)) others → MeanEach q (each_trimmed q (trees_in parts)) (queries ++ others)

part_taken : (q : AnalyzedFields) (parts left here : List UserInputAst) (part : UserInputAst) (old : List Query) → here ≡ part ∷ left → ast_refusal q (ast_of part) ≡ None → IsReading q parts here old → asts_refusal q (trees_in parts) ≡ asts_refusal q (trees_in left)
part_taken q parts left here part old is taken i = i.taken ∙ ap (λ (ps : List UserInputAst). asts_refusal q (trees_in ps)) is ∙ ap (λ (r : Option QueryParserError). option_or r (asts_refusal q (trees_in left))) taken

-- a part of which something is left
pub reads_more : (q : AnalyzedFields) (parts left here : List UserInputAst) (part : UserInputAst) (old new : List Query) (query : Query) → here ≡ part ∷ left → IsLeftBy q (ast_of part) (Ok (Some query)) → new ≡ old ++ query ∷ [] → IsReading q parts here old → IsReading q parts left new
reads_more q parts left here part old new query is (taken, t, is_t, means) new_is i = record {
  taken = part_taken q parts left here part old is taken i;
  mean = λ others mean.
      subst (λ (xs : List Query). MeanEach q (each_trimmed q (trees_in parts)) xs) (sym (append_assoc old (query ∷ []) others) ∙ ap (λ (xs : List Query). xs ++ others) (sym new_is))
      (i.mean (query ∷ others) (subst (λ (ps : List UserInputAst). MeanEach q (each_trimmed q (trees_in ps)) (query ∷ others)) (sym is)
      (subst (λ (x : Option Ast). MeanEach q (put_before x (each_trimmed q (trees_in left))) (query ∷ others)) (sym is_t) (means, mean))));
}

pub reads_all : (q : AnalyzedFields) (parts left : List UserInputAst) (queries : Vec Query Global) → left ≡ [] → IsReading q parts left queries.items → AreQueriesOf q (trees_in parts) (Ok queries)
reads_all q parts left queries is i = (
  i.taken ∙ ap (λ (ps : List UserInputAst). asts_refusal q (trees_in ps)) is,
  subst (λ (xs : List Query). MeanEach q (each_trimmed q (trees_in parts)) xs) (append-nil queries.items) (i.mean [] (subst (λ (ps : List UserInputAst). MeanEach q (each_trimmed q (trees_in ps)) []) (sym is) tt)),
)
