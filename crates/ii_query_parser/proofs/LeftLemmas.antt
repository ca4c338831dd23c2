-- What is left of trees without the texts that have no word.
use Rattle.std.proofs.Common.{◌≡◌, ◌∙◌, ◌==◌, ℕ, suc, arith, Bool, true, false, true≢false, ◌&&◌, not, List, [], ◌∷◌, length, Option, None, Some, Ok, Vec, Global, refl, sym, ap}
use Rattle.std.specs.Option.{option_or}
use Rattle.std.proofs.lemmas.Bool.{eqb-true}
use Rattle.ii_base.specs.Schema.{SchemaEntry}
use Rattle.ii_base.specs.declared.doc_id.TheConstants.{TERMINATED}
use Rattle.ii_definitions.specs.Tokens.{IndexToken}
use Rattle.ii_query_grammar.specs.Trees.{Ast, Asts, Literal, ValueSet, all_of, any_of, everything, in_set, leaf, without}
use Rattle.ii_query_grammar.specs.declared.user_input_ast.UserInputAst.{UserInputAst}
use Rattle.ii_query_grammar.specs.declared.user_input_ast.Delimiter.TheVariants as delimiters
use Rattle.ii_query_parser.specs.declared.query.Query.{Query}
use Rattle.ii_query_parser.specs.declared.query.Query.TheVariants.{All, And, Or}
use Rattle.ii_query_parser.specs.declared.query_parser_error.QueryParserError.{QueryParserError}
use Rattle.ii_query_parser.specs.Queries.{QueryTree, covers_docs, has_fields, has_tree, keeps_positions, matches, tree_matches, trees_of}
use Rattle.ii_query_parser.specs.QuerySteps.{Adds, AreQueriesOf, HasTermsUnless, IsLeftBy, MeanEach}
use Rattle.ii_query_parser.specs.QueryTexts.{AnalyzedFields, Means, PhraseState, Terms, are_some, ast_refusal, each_trimmed, has_values, is_wordless, left_without, refused, set_terms, terms_of, trimmed, unless}
use Rattle.ii_query_parser.proofs.TermLemmas.{leaf_means}
use Rattle.ii_query_parser.proofs.SetLemmas.{set_means}
use Rattle.ii_query_parser.proofs.WordsQueryLemmas.{and_means, or_means, some_mean, trees_in}
use Rattle.ii_query_parser.proofs.QueryLemmas.{all_covers, all_fields, all_positions, all_tree}

-- terms that were added to none are those that were found
found_is : (q : AnalyzedFields) (found : Terms) (terms : List PhraseState) → Adds found q.texts.entries [] terms (Ok tt) → found ≡ Ok terms
found_is q found terms (ts, is, new_is, within) = is ∙ ap (λ (ps : List PhraseState). Ok ps) (sym new_is)

-- a word, a phrase or a prefix
pub leaf_left : (q : AnalyzedFields) (l : Literal) (terms : List PhraseState) (left : Option Query) → Adds (terms_of q l) q.texts.entries [] terms (Ok tt) → HasTermsUnless (is_wordless (Ok terms)) l.delimiter terms left → IsLeftBy q (leaf l) (Ok left)
leaf_left q l terms None adds gone =
    let is = found_is q (terms_of q l) terms adds in
    (ap refused is, ap (λ (t : Terms). unless (is_wordless t) (leaf l)) is ∙ ap (λ (b : Bool). unless b (leaf l)) gone)
leaf_left q l terms (Some query) adds (stays, has) =
    let is = found_is q (terms_of q l) terms adds in
    (ap refused is, leaf l, ap (λ (t : Terms). unless (is_wordless t) (leaf l)) is ∙ ap (λ (b : Bool). unless b (leaf l)) stays, leaf_means q l query terms adds has.matches has.fields has.positions has.covers)

-- a set
pub set_left : (q : AnalyzedFields) (s : ValueSet) (terms : List PhraseState) (left : Option Query) → Adds (set_terms q.texts s) q.texts.entries [] terms (Ok tt) → HasTermsUnless (has_values s && is_wordless (Ok terms)) delimiters.None terms left → IsLeftBy q (in_set s) (Ok left)
set_left q s terms None adds gone =
    let is = found_is q (set_terms q.texts s) terms adds in
    (ap refused is, ap (λ (t : Terms). unless (has_values s && is_wordless t) (in_set s)) is ∙ ap (λ (b : Bool). unless b (in_set s)) gone)
set_left q s terms (Some query) adds (stays, has) =
    let is = found_is q (set_terms q.texts s) terms adds in
    (ap refused is, in_set s, ap (λ (t : Terms). unless (has_values s && is_wordless t) (in_set s)) is ∙ ap (λ (b : Bool). unless b (in_set s)) stays, set_means q s query terms adds has.matches has.fields has.positions has.covers)

-- whether parts are left, by their queries
gone_by : (q : AnalyzedFields) (us : Asts) (queries : List Query) (gone : Bool) → MeanEach q (each_trimmed q us) queries → gone ≡ (are_some us && not (has_tree (trees_of queries))) → (are_some us && not (are_some (each_trimmed q us))) ≡ gone
gone_by q us queries gone mean is = ap (λ (b : Bool). are_some us && not b) (sym (some_mean q (each_trimmed q us) queries mean)) ∙ sym is

-- none of the parts is left
pub none_of_all : (q : AnalyzedFields) (us : Asts) (queries : Vec Query Global) (gone : Bool) → AreQueriesOf q us (Ok queries) → gone ≡ (are_some us && not (has_tree (trees_of queries.items))) → gone ≡ true → IsLeftBy q (all_of us) (Ok None)
none_of_all q us queries gone are is all_gone = (are.0, ap (λ (b : Bool). unless b (all_of (each_trimmed q us))) (gone_by q us queries.items gone are.1 is ∙ all_gone))

pub none_of_any : (q : AnalyzedFields) (us : Asts) (queries : Vec Query Global) (gone : Bool) → AreQueriesOf q us (Ok queries) → gone ≡ (are_some us && not (has_tree (trees_of queries.items))) → gone ≡ true → IsLeftBy q (any_of us) (Ok None)
none_of_any q us queries gone are is all_gone = (are.0, ap (λ (b : Bool). unless b (any_of (each_trimmed q us))) (gone_by q us queries.items gone are.1 is ∙ all_gone))

-- some are
pub some_of_all : (q : AnalyzedFields) (us : Asts) (queries : Vec Query Global) (gone : Bool) → AreQueriesOf q us (Ok queries) → gone ≡ (are_some us && not (has_tree (trees_of queries.items))) → gone ≡ false → IsLeftBy q (all_of us) (Ok (Some (And queries)))
some_of_all q us queries gone are is some_stay = (are.0, all_of (each_trimmed q us), ap (λ (b : Bool). unless b (all_of (each_trimmed q us))) (gone_by q us queries.items gone are.1 is ∙ some_stay), and_means q (each_trimmed q us) queries are.1)

pub some_of_any : (q : AnalyzedFields) (us : Asts) (queries : Vec Query Global) (gone : Bool) → AreQueriesOf q us (Ok queries) → gone ≡ (are_some us && not (has_tree (trees_of queries.items))) → gone ≡ false → IsLeftBy q (any_of us) (Ok (Some (Or queries)))
some_of_any q us queries gone are is some_stay = (are.0, any_of (each_trimmed q us), ap (λ (b : Bool). unless b (any_of (each_trimmed q us))) (gone_by q us queries.items gone are.1 is ∙ some_stay), or_means q (each_trimmed q us) queries are.1)

-- what is left of one tree without another one
both_taken : (q : AnalyzedFields) (s t : Ast) → ast_refusal q s ≡ None → ast_refusal q t ≡ None → ast_refusal q (without s t) ≡ None
both_taken q s t first other = ap (λ (r : Option QueryParserError). option_or r (ast_refusal q t)) first ∙ other

pub both_left : (q : AnalyzedFields) (s t : Ast) (first other query : Query) → ((u v : Ast) → Means q u first → Means q v other → Means q (without u v) query) → IsLeftBy q s (Ok (Some first)) → IsLeftBy q t (Ok (Some other)) → IsLeftBy q (without s t) (Ok (Some query))
both_left q s t first other query means (taken, u, is, of_first) (also, v, too, of_other) =
    (both_taken q s t taken also, without u v, ap (λ (x : Option Ast). left_without x (trimmed q t)) is ∙ ap (left_without (Some u)) too, means u v of_first of_other)

pub and_not_means : (q : AnalyzedFields) (s t : Ast) (first other query : Query) → ((ts : List IndexToken) (doc : ℕ) → matches query ts doc ≡ (matches first ts doc && not (matches other ts doc)))
    → ((n : ℕ) → has_fields n query ≡ (has_fields n first && has_fields n other)) → ((entries : List SchemaEntry) → keeps_positions entries query ≡ (keeps_positions entries first && keeps_positions entries other)) → ((n : ℕ) → covers_docs n query ≡ (covers_docs n first && covers_docs n other))
    → Means q s first → Means q t other → Means q (without s t) query
and_not_means q s t first other query exact fields positions covers of_first of_other = record {
  taken = both_taken q s t of_first.taken of_other.taken;
  exact = λ ts doc. exact ts doc ∙ rw (of_first.exact ts doc, of_other.exact ts doc) refl;
  fields = fields (length q.texts.entries) ∙ rw (of_first.fields, of_other.fields) refl;
  positions = positions q.texts.entries ∙ rw (of_first.positions, of_other.positions) refl;
  covers = covers TERMINATED ∙ rw (of_first.covers, of_other.covers) refl;
}

-- all documents
pub all_left : (q : AnalyzedFields) → IsLeftBy q everything (Ok (Some (All TERMINATED)))
all_left q = (
  refl,
  everything,
  refl,
  record {
    taken = refl;
    exact = λ ts doc. ap (λ (t : QueryTree). tree_matches t ts doc) (all_tree TERMINATED);
    fields = all_fields (length q.texts.entries) TERMINATED;
    positions = all_positions q.texts.entries TERMINATED;
    covers = all_covers TERMINATED TERMINATED;
  },
)

not_zero : (n : ℕ) (b : Bool) → (suc n == 0) ≡ b → b ≡ false
not_zero n true is = absurd (let same = eqb-true (suc n) 0 is in omega (arith, same))
not_zero n false is = refl

-- whether there are parts and none is left
pub left_out_is : (parts : List UserInputAst) (queries : List Query) (a b : Bool) → a ≡ (length parts == 0) → a ≡ false → b ≡ (length queries == 0) → b ≡ (are_some (trees_in parts) && not (has_tree (trees_of queries)))
left_out_is [] queries a b a_is some b_is = absurd (true≢false (sym a_is ∙ some))
left_out_is (p ∷ ps) [] a b a_is some b_is = b_is
left_out_is (p ∷ ps) (q ∷ qs) a b a_is some b_is = b_is ∙ not_zero (length qs) (suc (length qs) == 0) refl
