-- Documents in order.
use Rattle.std.proofs.Common.{◌≡◌, ◌+◌, ◌-◌, ◌<◌, ◌≤◌, ◌++◌, ◌^◌, ℕ, true, List, [], ◌∷◌, Option, None, Some, Ok, arith, get_or, length, refl, subst, sym, append-nil, append_assoc, nat_lt}
use Rattle.std.proofs.lemmas.Bool.{ltb-true}
use Rattle.std.proofs.lemmas.List.{length-append}
use Rattle.std.proofs.lemmas.List.Sorted.{IsNonDecreasingBy-push}
use Rattle.std.proofs.lemmas.List.Elements.{All-from_recursion}
use Rattle.std.specs.List.{AllByRecursion}
use Rattle.std.specs.List.Sorted.{IsNonDecreasingBy}
use Rattle.ii_base.specs.Schema.{SchemaEntry}
use Rattle.ii_base.specs.declared.doc_id.TheConstants.{TERMINATED}
use Rattle.ii_definitions.specs.IndexCalls.{MayAllBeIndexed, MayBeIndexed, doc_of}
use Rattle.ii_definitions.specs.Tokens.{Call}
use Rattle.ii_definitions.specs.declared.index_call.IndexCall.{IndexCall}
use Rattle.nequllpa_indexing.specs.Documents.{AddsRecord, DocumentsState, may_be_stored, next_calls}
use Rattle.nequllpa_indexing.specs.StoredLines.{AreLinesOf, AreShort, HasOneMore}
use Rattle.ii_schema_text.specs.Stored.{StoredState}
use Rattle.ii_documents.specs.JsonLines.{IsOf, line_calls_by}

-- a call that may be made may be made where there are more documents
more_docs : (es : List SchemaEntry) (n : ℕ) (calls : List IndexCall) → AllByRecursion (MayBeIndexed es n) calls → AllByRecursion (MayBeIndexed es (n + 1)) calls
more_docs es n [] each = tt
more_docs es n (c ∷ cs) each = (record { below = omega (arith, each.0.below); takes = each.0.takes }, more_docs es n cs each.1)

-- calls that may be made, and those of the last document
each_more : (es : List SchemaEntry) (n : ℕ) (old new : List IndexCall) → AllByRecursion (MayBeIndexed es (n + 1)) old → AllByRecursion (IsOf es n) new → AllByRecursion (MayBeIndexed es (n + 1)) (old ++ new)
each_more es n [] [] each of = tt
each_more es n [] (c ∷ cs) each of = (record { below = omega (arith, of.0.doc_is); takes = of.0.takes }, each_more es n [] cs tt of.1)
each_more es n (c ∷ cs) new each of = (each.0, each_more es n cs new each.1 of)

-- the document of the last call is below `n`
last_below : (es : List SchemaEntry) (n : ℕ) (calls : List IndexCall) → AllByRecursion (MayBeIndexed es n) calls → (d : IndexCall) → 0 < length calls → doc_of (get_or calls (length calls - 1) d) < n
last_below es n calls each d some = (All-from_recursion (MayBeIndexed es n) calls each (length calls - 1) d (omega (arith, some))).below

-- calls of the last document follow the others
ordered_more : (es : List SchemaEntry) (n : ℕ) (old new : List IndexCall) → AllByRecursion (MayBeIndexed es (n + 1)) old → IsNonDecreasingBy doc_of old → AllByRecursion (IsOf es n) new → IsNonDecreasingBy doc_of (old ++ new)
ordered_more es n old [] each ordered of = subst (IsNonDecreasingBy doc_of) (sym (append-nil old)) ordered
ordered_more es n old (c ∷ cs) each ordered of =
    let last : (d : IndexCall) → 0 < length old → doc_of (get_or old (length old - 1) d) ≤ doc_of c = λ d some. omega (arith, last_below es (n + 1) old each d some, of.0.doc_is) in
    let next = ordered_more es n (old ++ c ∷ []) cs (each_more es n old (c ∷ []) each (of.0, tt)) (IsNonDecreasingBy-push doc_of old c ordered last) of.1 in
    subst (IsNonDecreasingBy doc_of) (append_assoc old (c ∷ []) cs) next

-- the calls of one document more may be made
pub may_more : (es : List SchemaEntry) (n : ℕ) (old new : List IndexCall) → MayAllBeIndexed es n old → AllByRecursion (IsOf es n) new → MayAllBeIndexed es (n + 1) (old ++ new)
may_more es n old new may of =
    let each = more_docs es n old may.each in
    record { each = each_more es n old new each of; ordered = ordered_more es n old new each may.ordered of }

-- the calls of one document more
pub adds_line : (s : DocumentsState) (cs : List Call) (line : List ℕ) → nat_lt s.num_docs TERMINATED ≡ true → may_be_stored s.stored line ≡ true → line_calls_by s.unknown_keys s.floats s.schema s.num_docs line ≡ Ok cs → next_calls s line ≡ Ok cs
adds_line s cs line room short said = rw (room, short, said) refl

-- one line more
short_more : (lines : List (List ℕ)) (line : List ℕ) → AreShort lines → length line < 2 ^ 31 → AreShort (lines ++ line ∷ [])
short_more [] line all short = (short, tt)
short_more (l ∷ ls) line all short = (all.0, short_more ls line all.1 short)

pub lines_more : (n : ℕ) (s : StoredState) (es : List SchemaEntry) (line : List ℕ) (old new : Option (List (List ℕ))) → AreLinesOf n old → AddsRecord s es line old new → AreLinesOf (n + 1) new
lines_more n s es line None new are adds = subst (AreLinesOf (n + 1)) (sym adds) tt
lines_more n s es line (Some rs) new are adds = subst (AreLinesOf (n + 1)) (sym adds.3) (omega (arith, length-append rs (adds.0 ∷ []), are.0), short_more rs adds.0 are.1 adds.2)

-- what was added can be removed
pub one_more : (s : StoredState) (es : List SchemaEntry) (line : List ℕ) (old new : Option (List (List ℕ))) → AddsRecord s es line old new → HasOneMore old new
one_more s es line None new adds = adds
one_more s es line (Some rs) new adds = (adds.0, adds.3)
