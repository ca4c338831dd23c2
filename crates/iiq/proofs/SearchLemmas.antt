-- The replies to searches.
use Rattle.std.proofs.Common.{◌≡◌, ◌∙◌, ◌<◌, ◌≤◌, ℕ, Bool, ◌&&◌, nat_lt, true, false, List, [], ◌∷◌, ◌++◌, append-nil, Option, None, Some, Result, Ok, Err, inl, inr, length, refl, sym, ap, String, Global, arith, subst}
use Rattle.std.proofs.Math.Bool.{and-false}
use Rattle.std.proofs.lemmas.Bool.{ltb-true}
use Rattle.std.specs.Prelude.{IfOk, IsErr, is_none, min, string_bytes}
use Rattle.ii_io.specs.declared.faults.Fault.{Fault}
use Rattle.ii_io.specs.declared.faults.Fault.TheVariants.{OutOfMemory}
use Rattle.ii_query.specs.Combined.{QueryCursorState}
use Rattle.ii_base.specs.Schema.{SchemaEntry}
use Rattle.ii_definitions.specs.Tokens.{IndexToken}
use Rattle.ii_reader.specs.OpenIndex.{IndexHolds, OpenIndexState}
use Rattle.ii_search.specs.Found.{GivesMatches}
use Rattle.ii_query_parser.specs.Queries.{QueryTree, has_fields, keeps_positions, matches, tree_matches}
use Rattle.ii_query_parser.specs.QueryTexts.{IsWhyRefused, MeansText, text_refusal}
use Rattle.ii_query_parser.specs.declared.query.Query.{Query as QueryOf}
use Rattle.ii_query_parser.specs.declared.query.Query.TheVariants.{All}
use Rattle.ii_query_parser.proofs.QueryLemmas.{all_fields, all_positions, all_tree}
use Rattle.ii_base.specs.declared.doc_id.TheConstants.{TERMINATED}
use Rattle.ii_query_parser.specs.declared.query_parser_error.QueryParserError.{QueryParserError}
use Rattle.ii_query_parser.specs.declared.query_parser_error.QueryParserError.TheVariants as errors
use Rattle.iiq.specs.declared.session.Session.{Session as SessionKept}
use Rattle.iiq.specs.Commands.{asked, text_search}
use Rattle.iiq.specs.Known.{Answers, FindsBelow, FindsDocs, IsOpen, IsQuery, Knows}
use Rattle.iiq.specs.Output.{FindsText, found_text}
use Rattle.iiq.specs.Session.{Indexes, Session, fields, gathering, opened, refused}

-- a text that is refused is no query
pub no_query_is : {E : Type 0} (r : Result (Option QueryOf) E) (text : List ℕ) (error : QueryParserError) → IsWhyRefused (text_refusal asked text) error → IfOk r (λ query. is_none query ≡ true)
    → ((fault : Fault) → error ≡ errors.Fault fault → IsErr r) → IfOk r (IsQuery text)
no_query_is (Ok None) text error (inl memory) none err = let h = err OutOfMemory memory in absurd (cc)
no_query_is (Ok None) text error (inr why) none err = rw why refl
no_query_is (Ok (Some query)) text error is none err = absurd (cc)
no_query_is (Err e) text error is none err = tt

-- what a query and all documents below a number match
bounded : (query all both : QueryOf) (n doc : ℕ) (ts : List IndexToken) → n ≤ TERMINATED → all ≡ All n → matches both ts doc ≡ (matches query ts doc && matches all ts doc) → matches both ts doc ≡ (matches query ts doc && nat_lt doc n)
bounded query all both n doc ts few all_is is =
    let below : matches all ts doc ≡ nat_lt doc n = ap (λ (q : QueryOf). matches q ts doc) all_is ∙ ap (λ (t : QueryTree). tree_matches t ts doc) (all_tree n) ∙ ap (nat_lt doc) (min_least n few) in
    is ∙ ap (λ (b : Bool). matches query ts doc && b) below
  where
    min_least : (n : ℕ) → n ≤ TERMINATED → min n TERMINATED ≡ n
    min_least n few = omega (arith, few)

-- whether the documents below a number are found by a query that matches the same ones of them
same_found : (n : ℕ) (ts : List IndexToken) (query other : QueryOf) (reply : List ℕ) → ((doc : ℕ) → doc < n → matches other ts doc ≡ matches query ts doc) → FindsBelow n ts other reply → FindsBelow n ts query reply
same_found n ts query other reply same (es, ascending, exact, is) = (es, ascending, (λ doc. exact doc ∙ by_side doc (nat_lt doc n) refl), is)
  where
    by_side : (doc : ℕ) (b : Bool) → nat_lt doc n ≡ b → (matches other ts doc && nat_lt doc n) ≡ (matches query ts doc && nat_lt doc n)
    by_side doc true below = ap (λ (c : Bool). c && nat_lt doc n) (same doc (ltb-true doc n below))
    by_side doc false above = rw (above, and-false (matches other ts doc), and-false (matches query ts doc)) refl

-- a reply by a query that is bounded
pub found_bounded : {E : Type 0} (n : ℕ) (ts : List IndexToken) (query other : QueryOf) (r : Result (String Global) E) → ((doc : ℕ) → doc < n → matches other ts doc ≡ matches query ts doc)
    → IfOk r (λ text. FindsBelow n ts other (string_bytes text)) → IfOk r (λ text. FindsBelow n ts query (string_bytes text))
found_bounded n ts query other (Ok text) same found = same_found n ts query other (string_bytes text) same found
found_bounded n ts query other (Err e) same found = tt

-- it has the fields of the query
pub bounded_fields : (m n : ℕ) (query all both : QueryOf) → all ≡ All n → has_fields m both ≡ (has_fields m query && has_fields m all) → has_fields m query ≡ true → has_fields m both ≡ true
bounded_fields m n query all both all_is is has = is ∙ rw (all_is, all_fields m n, has) refl

pub bounded_positions : (entries : List SchemaEntry) (n : ℕ) (query all both : QueryOf) → all ≡ All n → keeps_positions entries both ≡ (keeps_positions entries query && keeps_positions entries all) → keeps_positions entries query ≡ true → keeps_positions entries both ≡ true
bounded_positions entries n query all both all_is is keeps = is ∙ rw (all_is, all_positions entries n, keeps) refl

-- what a search in an open index answers
pub found_now : {T : Type 0} (index : OpenIndexState) (query all both : QueryOf) (n : ℕ) (cursor : QueryCursorState T) (reply : List ℕ) → all ≡ All n → ((ts : List IndexToken) (doc : ℕ) → matches both ts doc ≡ (matches query ts doc && matches all ts doc))
    → ((schema : List SchemaEntry) (num_docs : ℕ) (tokens : List IndexToken) → IndexHolds schema num_docs index tokens → has_fields (length schema) both ≡ true → keeps_positions schema both ≡ true → GivesMatches both tokens (Ok cursor))
    → has_fields (length fields) both ≡ true → keeps_positions fields both ≡ true → reply ≡ found_text cursor.rest → (ts : List IndexToken) → IsOpen index ts → n ≤ TERMINATED → FindsBelow n ts query reply
found_now index query all both n cursor reply all_is both_is holds has keeps is ts o few =
    let found = holds fields o.num_docs ts o.holds has keeps in
    (cursor.rest, found.ascending, (λ doc. found.exact doc ∙ bounded query all both n doc ts few all_is (both_is ts doc)), is)

pub found_in_session : {E : Type 0} (kept : SessionKept) (t : Session) (index : OpenIndexState) (query : QueryOf) (n : ℕ) (r : Result (String Global) E) → kept.index ≡ Some (Ok index) → n ≡ kept.num_docs → Knows kept t
    → ((ts : List IndexToken) → IsOpen index ts → n ≤ TERMINATED → IfOk r (λ text. FindsBelow n ts query (string_bytes text)))
    → IfOk r (λ text. FindsDocs t query (string_bytes text))
found_in_session kept t index query n r is n_is knows found =
    let o : (ts : List IndexToken) × (t ≡ opened kept.num_docs ts) × IsOpen index ts × (kept.num_docs ≤ TERMINATED) = rw is at knows in
    let at : IfOk r (λ text. FindsBelow kept.num_docs o.0 query (string_bytes text)) = subst (λ (m : ℕ). IfOk r (λ text. FindsBelow m o.0 query (string_bytes text))) n_is (found o.0 o.2 (rw n_is o.3)) in
    rw o.1 at

finds_text : (t : Session) (query : QueryOf) (text reply : List ℕ) → MeansText asked text query → FindsDocs t query reply → FindsText t text reply
finds_text (gathering calls) query text reply means finds = finds
finds_text (opened n ts) query text reply means (es, ascending, exact, is) = record { docs = es; ascending = ascending; exact = λ doc. exact doc ∙ ap (λ (b : Bool). b && nat_lt doc n) (means.exact ts doc); reply_is = is }
finds_text (refused fault) query text reply means finds = finds

-- a text is answered
pub answers_search : (s : Session) (query : QueryOf) (kept : SessionKept) (t : Session) (text reply whole : List ℕ) → MeansText asked text query → Indexes s t → Knows kept t → FindsDocs t query reply → whole ≡ reply ++ 10 ∷ []
    → Answers s (text_search text) kept (Some whole)
answers_search s query kept t text reply whole means indexes knows finds is = record {
  new = t;
  texts = Some (reply ∷ []);
  knows = knows;
  answers = rw (means.taken) (indexes, reply, finds_text t query text reply means finds, refl);
  reply_is = ap (λ (bytes : List ℕ). Some bytes) (is ∙ sym (append-nil _));
}
