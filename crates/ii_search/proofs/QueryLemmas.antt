-- What each variant of a query gives, and queries one after the other.
use Rattle.std.proofs.Common.{◌≡◌, ◌∙◌, ℕ, ◌+◌, ◌<◌, ◌≤◌, true, List, [], ◌∷◌, ◌++◌, Global, Vec, append_assoc, add-one, drop, get_or, length, Result, Ok, Err, inl, inr, refl, sym, ap, arith}
use Rattle.std.specs.Prelude.{IfOk, IsPermutation}
use Rattle.std.specs.List.{AllByRecursion, AllZip, list_all}
use Rattle.std.proofs.Math.Seq.{drop-cons}
use Rattle.std.proofs.lemmas.Bool.{and_parts}
use Rattle.ii_io.specs.declared.faults.Fault.{Fault}
use Rattle.ii_io.specs.declared.faults.Part.{Part}
use Rattle.ii_base.specs.Entries.{Entry}
use Rattle.ii_query.specs.Combined.{QueryCursorState}
use Rattle.ii_query.specs.QueryCursor.{LeadsWith, cursors_under, rests}
use Rattle.ii_query.specs.TermOrPhrase.{WentOn}
use Rattle.ii_query.specs.declared.term_or_phrase.TermOrPhrase.{TermOrPhrase}
use Rattle.ii_query.proofs.MeetLemmas.{each_permuted}
use denote.Param.Weighed.{most}
use Rattle.ii_query_parser.specs.declared.query.Query.{Query, size-Query}
use Rattle.ii_query_parser.specs.declared.query.Query.TheViews.{sized-And, sized-Or}
use Rattle.ii_query_parser.specs.declared.query.Query.TheVariants.{And, Or}
use Rattle.ii_query_parser.specs.Queries.{has_fields, trees_of}
use Rattle.ii_query_parser.proofs.QueryLemmas.{and_fields, or_fields}
use Rattle.ii_reader.specs.InvertedIndexReader.{IsRefusal}
use Rattle.ii_reader.specs.OpenIndex.{OpenIndexState}
use Rattle.ii_reader.specs.SegmentPostings.{SegmentPostingsState, SpentLazily, WentLazily}
use Rattle.ii_definitions.proofs.ListLaws.{all_both}
use Rattle.ii_search.specs.Decodes.{EachDecodesFew}
use Rattle.ii_search.proofs.DecodesLaws.{all_went}
use Rattle.ii_search.specs.Found.{found_in, lists_found, with_list}

-- the fields of the parts of a query
pub and_has_fields : (n : ℕ) (query : Query) (qs : Vec Query Global) → query ≡ And qs → has_fields n query ≡ true → list_all (has_fields n) qs.items ≡ true
and_has_fields n query qs is fields = sym (and_fields n qs) ∙ ap (has_fields n) (sym is) ∙ fields

pub or_has_fields : (n : ℕ) (query : Query) (qs : Vec Query Global) → query ≡ Or qs → has_fields n query ≡ true → list_all (has_fields n) qs.items ≡ true
or_has_fields n query qs is fields = sym (or_fields n qs) ∙ ap (has_fields n) (sym is) ∙ fields

-- the parts of a query are less deep than the query
pub and_deep : (query : Query) (qs : Vec Query Global) → query ≡ And qs → most size-Query qs.items + 1 ≤ size-Query query
and_deep query qs is = let size = sized-And qs in rw (is) (omega (arith, size))

pub or_deep : (query : Query) (qs : Vec Query Global) → query ≡ Or qs → most size-Query qs.items + 1 ≤ size-Query query
or_deep query qs is = let size = sized-Or qs in rw (is) (omega (arith, size))

-- lists in front of others, or the first part that fails
abbrev pub lists_before : List (List Entry) → Result (List (List Entry)) Part → Result (List (List Entry)) Part
lists_before lists (Ok others) = Ok (lists ++ others)
lists_before lists (Err part) = Err part

-- The lists so far, in front of those of the queries that are left, are all.
pub record IsFinding (index : OpenIndexState) (all left : List Query) (lists : List (List Entry)) : Type 0 where
  pub listed : lists_found index (trees_of all) ≡ lists_before lists (lists_found index (trees_of left))
  pub fields : list_all (has_fields (length index.readers)) left ≡ true

-- a place among the queries
pub query_at : (all : List Query) (i : ℕ) (q : Query) → i < length all → q ≡ get_or all i q → drop i all ≡ q ∷ drop (i + 1) all
query_at all i q inside is = drop-cons all i q inside ∙ rw (← is, add-one i) refl

one_more : (es : List Entry) (lists : List (List Entry)) (found : Result (List (List Entry)) Part) → lists_before lists (with_list (Ok es) found) ≡ lists_before (lists ++ es ∷ []) found
one_more es lists (Ok others) = ap (λ (ls : List (List Entry)). Ok ls) (sym (append_assoc lists (es ∷ []) others))
one_more es lists (Err part) = refl

-- one query more
pub finding_next : (index : OpenIndexState) (all left others : List Query) (lists more : List (List Entry)) (q : Query) (es : List Entry) → IsFinding index all left lists → left ≡ q ∷ others → found_in index q ≡ Ok es → more ≡ lists ++ es ∷ [] → IsFinding index all others more
finding_next index all left others lists more q es f is found more_is = record {
  listed = f.listed ∙ ap (λ (qs : List Query). lists_before lists (lists_found index (trees_of qs))) is
      ∙ ap (λ (r : Result (List Entry) Part). lists_before lists (with_list r (lists_found index (trees_of others)))) found
      ∙ one_more es lists (lists_found index (trees_of others))
      ∙ ap (λ (ls : List (List Entry)). lists_before ls (lists_found index (trees_of others))) (sym more_is);
  fields = (and_parts (has_fields (length index.readers) q) (list_all (has_fields (length index.readers)) others) (rw is at f.fields)).1;
}

-- a query is refused
pub finding_refused : (index : OpenIndexState) (all left others : List Query) (lists : List (List Entry)) (q : Query) (fault : Fault) → IsFinding index all left lists → left ≡ q ∷ others → IsRefusal (found_in index q) fault → IsRefusal (lists_found index (trees_of all)) fault
finding_refused index all left others lists q fault f is (inl memory) = inl memory
finding_refused index all left others lists q fault f is (inr (part, why, err)) =
    inr (part, why, f.listed ∙ ap (λ (qs : List Query). lists_before lists (lists_found index (trees_of qs))) is ∙ ap (λ (r : Result (List Entry) Part). lists_before lists (with_list r (lists_found index (trees_of others)))) err)

-- one cursor more
pub rests_pushed : {T : Type 0} (cs : List (QueryCursorState T)) (c : QueryCursorState T) → rests (cs ++ c ∷ []) ≡ rests cs ++ c.rest ∷ []
rests_pushed [] c = refl
rests_pushed (d ∷ ds) c = ap (λ (ls : List (List Entry)). d.rest ∷ ls) (rests_pushed ds c)

split : {T : Type 0} (P : T → Type 0) (xs ys : List T) → AllByRecursion P (xs ++ ys) → AllByRecursion P xs × AllByRecursion P ys
split P [] ys all = (tt, all)
split P (x ∷ xs) ys all = let later = split P xs ys all.1 in ((all.0, later.0), later.1)

pub few_pushed : {T : Type 0} (P : T → Type 0) (cs : List (QueryCursorState T)) (c : QueryCursorState T) → AllByRecursion P (cursors_under cs) → AllByRecursion P c.cursors → AllByRecursion P (cursors_under (cs ++ c ∷ []))
few_pushed P [] c all few = all_both P c.cursors [] few tt
few_pushed P (d ∷ ds) c all few = let parts = split P d.cursors (cursors_under ds) all in all_both P d.cursors (cursors_under (ds ++ c ∷ [])) parts.0 (few_pushed P ds c parts.1 few)

-- what holds of all cursors under some, one by one
apart : {T : Type 0} (P : T → Type 0) (cs : List (QueryCursorState T)) → AllByRecursion P (cursors_under cs) → AllByRecursion (λ (c : QueryCursorState T). AllByRecursion P c.cursors) cs
apart P [] all = tt
apart P (c ∷ cs) all = let parts = split P c.cursors (cursors_under cs) all in (parts.0, apart P cs parts.1)

together : {T : Type 0} (P : T → Type 0) (cs : List (QueryCursorState T)) → AllByRecursion (λ (c : QueryCursorState T). AllByRecursion P c.cursors) cs → AllByRecursion P (cursors_under cs)
together P [] all = tt
together P (c ∷ cs) all = all_both P c.cursors (cursors_under cs) all.0 (together P cs all.1)

-- the cursors of an intersection, in another order
few_in_order : {T : Type 0} (P : T → Type 0) (cs order : List (QueryCursorState T)) → IsPermutation cs order → AllByRecursion P (cursors_under cs) → AllByRecursion P (cursors_under order)
few_in_order P cs order shuffled all = together P order (each_permuted (λ (c : QueryCursorState _). AllByRecursion P c.cursors) cs order shuffled (apart P cs all))

-- an intersection has decoded few blocks where its cursors have
pub few_meet : (cs : List (QueryCursorState (TermOrPhrase SegmentPostingsState))) (r : Result (QueryCursorState (TermOrPhrase SegmentPostingsState)) Fault) → AllByRecursion EachDecodesFew (cursors_under cs)
    → IfOk r (λ cursor. (order : List (QueryCursorState (TermOrPhrase SegmentPostingsState))) × IsPermutation cs order × AllZip (WentOn WentLazily SpentLazily) (cursors_under order) cursor.cursors × LeadsWith cursor.hint order) → IfOk r (λ cursor. AllByRecursion EachDecodesFew cursor.cursors)
few_meet cs (Ok cursor) few (order, shuffled, went, leads) = all_went (cursors_under order) cursor.cursors went (few_in_order EachDecodesFew cs order shuffled few)
few_meet cs (Err fault) few work = tt
