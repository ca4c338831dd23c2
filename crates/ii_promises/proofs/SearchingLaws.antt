-- What a search returns for the tokens that an index has.
use Rattle.std.proofs.Common.{inl, ◌≡◌, ◌∙◌, ◌<◌, ℕ, Bool, true, nat_lt, List, length, Result, Ok, Err, ap}
use Rattle.std.specs.Prelude.{◌⊎◌, IfErr, IfOk}
use Rattle.std.proofs.lemmas.Bool.{lt-ltb}
use Rattle.ii_io.specs.declared.faults.Fault.{Fault}
use Rattle.ii_io.specs.declared.faults.Fault.TheVariants.{OutOfMemory}
use Rattle.ii_base.specs.Schema.{SchemaEntry}
use Rattle.ii_docset.specs.Cursor.{IsAscending, IsSound}
use Rattle.ii_docset.specs.Intersection.{has_doc}
use Rattle.ii_query.specs.Combined.{QueryCursorState}
use Rattle.ii_definitions.specs.Tokens.{IndexToken}
use Rattle.ii_query_parser.specs.declared.query.Query.{Query}
use Rattle.ii_base.specs.Entries.{Entry}
use Rattle.ii_search.specs.Found.{GivesCount, GivesMatches}
use Rattle.ii_query_parser.specs.Queries.{has_fields, matches}
use Rattle.ii_indexing.specs.RamFiles.{IsRamFault}

-- the documents that match
pub matches_are_found : {T : Type 0} (query : Query) (ts : List IndexToken) (answer : Result (QueryCursorState T) Fault) → GivesMatches query ts answer → IfOk answer (λ cursor. (doc : ℕ) → has_doc cursor.rest doc ≡ matches query ts doc)
matches_are_found query ts (Ok cursor) gives = gives.exact
matches_are_found query ts (Err fault) gives = tt

-- and nothing but memory is refused
pub memory_of_search : {T : Type 0} (query : Query) (ts : List IndexToken) (answer : Result (QueryCursorState T) Fault) → GivesMatches query ts answer → IfErr answer (λ fault. fault ≡ OutOfMemory)
memory_of_search query ts (Ok cursor) gives = tt
memory_of_search query ts (Err fault) gives = gives

pub refused_search : {T : Type 0} (query : Query) (entries : List SchemaEntry) (n : ℕ) (ts : List IndexToken) (answer : Result (QueryCursorState T) Fault) → GivesMatches query ts answer
    → IfErr answer (λ e. (e ≡ OutOfMemory) ⊎ IsRamFault entries n ts e)
refused_search query entries n ts (Ok cursor) gives = tt
refused_search query entries n ts (Err fault) gives = inl gives

-- an index has the fields of its schema
pub same_fields : (m n : ℕ) (query : Query) → m ≡ n → has_fields n query ≡ true → has_fields m query ≡ true
same_fields m n query same fields = ap (λ (k : ℕ). has_fields k query) same ∙ fields

-- what is sound ascends
pub found_ascend : {T : Type 0} (answer : Result (QueryCursorState T) Fault) → IfOk answer (λ cursor. IsSound cursor.rest) → IfOk answer (λ cursor. IsAscending cursor.rest)
found_ascend (Ok cursor) sound = sound.ascending
found_ascend (Err fault) sound = tt

-- the number of documents that match
pub matches_are_counted : (query : Query) (ts : List IndexToken) (answer : Result ℕ Fault) → GivesCount query ts answer
    → (found : List Entry) → IsAscending found → ((doc : ℕ) → has_doc found doc ≡ matches query ts doc) → IfOk answer (λ count. count ≡ length found)
matches_are_counted query ts (Ok n) gives found ascending exact = gives found (record { ascending = ascending; exact = exact })
matches_are_counted query ts (Err fault) gives found ascending exact = tt

pub memory_of_counting : (query : Query) (ts : List IndexToken) (answer : Result ℕ Fault) → GivesCount query ts answer → IfErr answer (λ fault. fault ≡ OutOfMemory)
memory_of_counting query ts (Ok n) gives = tt
memory_of_counting query ts (Err fault) gives = gives

-- the documents that match, said in another way
pub matches_as : {T : Type 0} (query : Query) (ts : List IndexToken) (answer : Result (QueryCursorState T) Fault) (holds : ℕ → Bool) → GivesMatches query ts answer → ((doc : ℕ) → matches query ts doc ≡ holds doc)
    → IfOk answer (λ cursor. (doc : ℕ) → has_doc cursor.rest doc ≡ holds doc)
matches_as query ts (Ok cursor) holds gives same = λ doc. gives.exact doc ∙ same doc
matches_as query ts (Err fault) holds gives same = tt

-- the field of a query is one of the first n
pub field_is_there : (n field : ℕ) (query : Query) → has_fields n query ≡ nat_lt field n → field < n → has_fields n query ≡ true
field_is_there n field query is inside = is ∙ lt-ltb field n inside
