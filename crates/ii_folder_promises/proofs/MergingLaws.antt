-- What a search returns over segments, and over merged ones.
use Rattle.std.proofs.Common.{◌≡◌, List, Result, Ok, Err, ◌∙◌, ℕ, true, ap, subst, sym}
use Rattle.std.specs.Prelude.{IfErr, IfOk, filter}
use Rattle.std.specs.List.{range_with_len}
use Rattle.ii_io.specs.declared.faults.Fault.{Fault}
use Rattle.ii_io.specs.declared.faults.Fault.TheVariants.{OutOfMemory, Damaged}
use Rattle.ii_base.specs.Entries.{docs_of}
use Rattle.ii_query.specs.Combined.{QueryCursorState}
use Rattle.ii_query_parser.specs.declared.query.Query.{Query}
use Rattle.ii_docset.specs.Intersection.{has_doc}
use Rattle.ii_search.specs.Found.{GivesMatches}
use Rattle.ii_query_parser.specs.Queries.{has_fields, matches}
use Rattle.ii_living_docs.specs.Chain.{ChainState, chained}
use Rattle.ii_living_docs.specs.LivingDocs.{LivingParts}
use Rattle.ii_segments.specs.Segments.{Segment, index_tokens, num_docs_of}
use Rattle.ii_segment_search.specs.Searcher.{AreFound, GivesFound, living_rest}
use Rattle.ii_base.specs.Schema.{SchemaEntry}
use Rattle.ii_definitions.specs.Tokens.{IndexToken}
use Rattle.ii_io.specs.declared.faults.Part.{Part}
use Rattle.ii_reader.specs.OpenIndex.{IndexHolds, OpenIndexState}
use Rattle.ii_ram.proofs.RamLaws.{GivesAll}

pub living_are_found : {T : Type 0} (query : Query) (ss : List Segment) (answer : Result (ChainState (LivingParts (QueryCursorState T))) Fault) → GivesFound query ss answer
    → IfOk answer (λ cursor. docs_of (chained living_rest cursor.cursors cursor.current) ≡ filter (matches query (index_tokens ss)) (range_with_len 0 (num_docs_of ss)))
living_are_found query ss (Ok cursor) gives = gives
living_are_found query ss (Err fault) gives = tt

pub only_memory : {T : Type 0} (query : Query) (ss : List Segment) (answer : Result (ChainState (LivingParts (QueryCursorState T))) Fault) → GivesFound query ss answer → IfErr answer (λ e. e ≡ OutOfMemory)
only_memory query ss (Ok cursor) gives = tt
only_memory query ss (Err fault) gives = gives

-- files in memory that were opened
pub opened_holds : (entries : List SchemaEntry) (n : ℕ) (ts : List IndexToken) (r : Result OpenIndexState Fault) → GivesAll entries n ts r → IfOk r (λ index. IndexHolds entries n index ts)
opened_holds entries n ts (Ok index) gives = record { readers = gives.0; norms = gives.1 }
opened_holds entries n ts (Err e) gives = tt

-- a fault of memory isn't damage
not_damaged : (e : Fault) (part : Part) → e ≡ OutOfMemory → e ≡ Damaged part → ⊥
not_damaged e part memory is = absurd (cc)

pub opened_undamaged : (entries : List SchemaEntry) (n : ℕ) (ts : List IndexToken) (r : Result OpenIndexState Fault) → GivesAll entries n ts r → IfErr r (λ e. (part : Part) → ¬ (e ≡ Damaged part))
opened_undamaged entries n ts (Ok index) gives = tt
opened_undamaged entries n ts (Err e) gives = λ part is. not_damaged e part gives.0 is

-- what is found in segments of the same tokens
pub same_found : {S T : Type 0} (query : Query) (ss ts : List Segment) (before : Result (ChainState (LivingParts (QueryCursorState S))) Fault) (after : Result (ChainState (LivingParts (QueryCursorState T))) Fault) (a : ChainState (LivingParts (QueryCursorState S))) (b : ChainState (LivingParts (QueryCursorState T)))
    → before ≡ Ok a → after ≡ Ok b → GivesFound query ss before → GivesFound query ts after → index_tokens ts ≡ index_tokens ss → num_docs_of ts ≡ num_docs_of ss
    → docs_of (chained living_rest b.cursors b.current) ≡ docs_of (chained living_rest a.cursors a.current)
same_found {S} {T} query ss ts before after a b a_is b_is first second tokens docs =
    let found_first : AreFound query ss (chained living_rest a.cursors a.current) = subst (λ (r : Result (ChainState (LivingParts (QueryCursorState S))) Fault). GivesFound query ss r) a_is first in
    let found_second : AreFound query ts (chained living_rest b.cursors b.current) = subst (λ (r : Result (ChainState (LivingParts (QueryCursorState T))) Fault). GivesFound query ts r) b_is second in
    found_second ∙ (λ j. filter (matches query (tokens j)) (range_with_len 0 (docs j))) ∙ sym found_first

-- what is found in one index, and the fields that it has
pub merged_found : {T : Type 0} (query : Query) (ts : List IndexToken) (answer : Result (QueryCursorState T) Fault) → GivesMatches query ts answer → IfOk answer (λ cursor. (doc : ℕ) → has_doc cursor.rest doc ≡ matches query ts doc)
merged_found query ts (Ok cursor) gives = gives.exact
merged_found query ts (Err fault) gives = tt

pub merged_fields : (m n : ℕ) (query : Query) → m ≡ n → has_fields n query ≡ true → has_fields m query ≡ true
merged_fields m n query same fields = ap (λ (k : ℕ). has_fields k query) same ∙ fields
