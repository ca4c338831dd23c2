-- The documents that deletes reach, and what is left of a segment.
use Rattle.std.proofs.Common.{◌≡◌, ◌∙◌, ℕ, ◌-◌, ◌<◌, ◌&&◌, ◌||◌, Bool, true, false, List, [], ◌∷◌, ◌++◌, Option, None, Some, Result, Ok, Err, ap, inl, inr, length, nat_eq, nat_lt, refl, subst, sym, true≢false}
use Rattle.std.specs.Prelude.{◌⊎◌, IsSome, filter}
use Rattle.std.specs.List.{AllByRecursion}
use Rattle.std.proofs.lemmas.Bool.{eqb-true, lt-ltb}
use Rattle.std.proofs.lemmas.List.Folds.{list_any-append}
use Rattle.ii_base.specs.Entries.{Entry, docs_of}
use Rattle.ii_base.specs.Schema.{SchemaEntry}
use Rattle.ii_base.specs.Terms.{TermState}
use Rattle.ii_base.specs.declared.schema.index_record_option.IndexRecordOption.TheVariants.{Basic}
use Rattle.ii_definitions.specs.Norms.{HoldNorms}
use Rattle.ii_definitions.specs.Tokens.{IndexToken}
use Rattle.ii_docset.specs.Intersection.{has_doc}
use Rattle.ii_io.specs.Parts.{◌>>=◌}
use Rattle.ii_io.specs.declared.faults.Part.{Part}
use Rattle.ii_index.specs.Deletes.{DeleteState, HaveFieldsBelow, docs_in_files, docs_reached, has_term, in_scope, is_among, is_reached, left_of, reached_of}
use Rattle.ii_index.specs.declared.deletes.Scope.{Scope}
use Rattle.ii_index.specs.declared.deletes.Scope.TheVariants.{Committed, Pending}
use Rattle.ii_query_parser.specs.declared.query.Query.TheVariants.{Term}
use Rattle.ii_query_parser.specs.Queries.{QueryTree, has_fields, holds_for_all, is_within, keeps_positions, phrase_has_positions, phrase_is_within, tree_matches}
use Rattle.ii_query_parser.proofs.QueryLemmas.{term_tree}
use Rattle.ii_reader.specs.OpenIndex.{IndexHolds, OpenIndexState, index_of_files}
use Rattle.ii_search.specs.Found.{docs_of_term, tree_found}
use Rattle.ii_search.proofs.FoundLemmas.{gives_matches}
use Rattle.ii_segment_store.specs.Changes.{segment_without, without}
use Rattle.ii_segment_store.specs.Contents.{SegmentContents}
use Rattle.ii_segment_store.proofs.ChangeLaws.{length_without}
use Rattle.ii_segments.specs.HoldCounts.{HoldCounts}
use Rattle.ii_segments.specs.Segments.{Segment}
use Rattle.nequllpa_merging.specs.HeldSegments.{HasCountsOf, HoldsSegment}
use Rattle.nequllpa_merging.specs.StoredDocuments.{HoldsSomeDocuments}

-- files hold what is left of a segment
pub holds_left : (entries : List SchemaEntry) (docs : List ℕ) (c : SegmentContents) (s : Segment) → (docs ≡ []) ⊎ IsSome c.counts → HoldsSegment entries c s → HoldsSegment entries (segment_without docs c) (left_of docs s)
holds_left entries docs c s counted h = record {
  lists = h.lists;
  norms = subst (λ (n : ℕ). HoldNorms entries n c.fieldnorms s.tokens) many h.norms;
  counts = counts_left c.counts counted h.counts;
  store = subst (HoldsSomeDocuments c.store) many h.store;
  alive = ap (without docs) h.alive;
  are = record {
    ordered = h.are.ordered;
    below = subst (λ (n : ℕ). AllByRecursion (λ (t : IndexToken). t.doc < n) s.tokens) many h.are.below;
    known = h.are.known;
    typed = h.are.typed;
  };
}
  where
    many : length s.alive ≡ length (without docs s.alive)
    many = sym (length_without docs s.alive)

    counts_left : (counts : Option (List ℕ)) → (docs ≡ []) ⊎ IsSome counts → HasCountsOf entries counts s → HasCountsOf entries counts (left_of docs s)
    counts_left None (inl none) has = rw none has
    counts_left None (inr some) has = absurd (true≢false (sym some))
    counts_left (Some bytes) counted has = subst (λ (n : ℕ). HoldCounts entries n bytes s.tokens) many has

-- ---- the documents of a term
among_docs : (es : List Entry) (doc : ℕ) → is_among (docs_of es) doc ≡ has_doc es doc
among_docs [] doc = refl
among_docs (e ∷ es) doc = ap (λ (b : Bool). nat_eq e.doc doc || b) (among_docs es doc)

among_below : (limit : ℕ) (docs : List ℕ) (doc : ℕ) → is_among (filter (λ (d : ℕ). nat_lt d limit) docs) doc ≡ (nat_lt doc limit && is_among docs doc)
among_below limit [] doc = and_false (nat_lt doc limit)
  where
    and_false : (b : Bool) → false ≡ (b && false)
    and_false true = refl
    and_false false = refl
among_below limit (d ∷ ds) doc = by (nat_lt d limit) (nat_eq d doc) refl refl (among_below limit ds doc)
  where
    by : (low same : Bool) → nat_lt d limit ≡ low → nat_eq d doc ≡ same → is_among (filter (λ (x : ℕ). nat_lt x limit) ds) doc ≡ (nat_lt doc limit && is_among ds doc)
        → is_among (filter (λ (x : ℕ). nat_lt x limit) (d ∷ ds)) doc ≡ (nat_lt doc limit && is_among (d ∷ ds) doc)
    by true true low same rest =
        let here : nat_lt doc limit ≡ true = ap (λ (n : ℕ). nat_lt n limit) (sym (eqb-true d doc same)) ∙ low in
        rw (low, same, here) refl
    by true false low same rest = rw (low, same) rest
    by false true low same rest =
        let here : nat_lt doc limit ≡ false = ap (λ (n : ℕ). nat_lt n limit) (sym (eqb-true d doc same)) ∙ low in
        rw (low, same) (rest ∙ rw here refl)
    by false false low same rest = rw (low, same) rest

term_found : (entries : List SchemaEntry) (n : ℕ) (index : OpenIndexState) (ts : List IndexToken) (term : TermState) (es : List Entry) → IndexHolds entries n index ts → term.field < length entries → docs_of_term Basic index term ≡ Ok es
    → (doc : ℕ) → has_doc es doc ≡ has_term term ts doc
term_found entries n index ts term es holds known found doc =
    let count = length entries in
    let fields : has_fields count (Term term) ≡ true = ap (holds_for_all (is_within count) (phrase_is_within count)) (term_tree term) ∙ lt-ltb term.field count known in
    let positions : keeps_positions entries (Term term) ≡ true = ap (holds_for_all (λ (t : TermState). true) (phrase_has_positions entries)) (term_tree term) in
    let g = gives_matches entries n index ts (Term term) holds fields positions in
    let given : docs_of_term Basic index term ≡ Ok g.es = ap (tree_found index) (sym (term_tree term)) ∙ g.is in
    let same : es ≡ g.es = ok_same es g.es (sym found ∙ given) in
    ap (λ (fs : List Entry). has_doc fs doc) same ∙ g.exact doc ∙ ap (λ (t : QueryTree). tree_matches t ts doc) (term_tree term)
  where
    ok_same : (a b : List Entry) → ◌≡◌ {A = Result (List Entry) Part} (Ok a) (Ok b) → a ≡ b
    ok_same a b is = cc

-- ---- the documents that deletes reach
reached_among : (scope : Scope) (d : DeleteState) (docs : List ℕ) (doc : ℕ) → is_among (reached_of scope d docs) doc ≡ (in_scope scope d doc && is_among docs doc)
reached_among Committed d docs doc = refl
reached_among (Pending base) d docs doc = among_below (d.num_pending - base) docs doc

-- Documents are those of one delete, and then others.
record IsFirst (scope : Scope) (index : OpenIndexState) (d : DeleteState) (others : Result (List ℕ) Part) (docs : List ℕ) : Type 0 where
  es : List Entry
  more : List ℕ
  found : docs_of_term Basic index d.term ≡ Ok es
  found_more : others ≡ Ok more
  are : docs ≡ reached_of scope d (docs_of es) ++ more

first_of : (scope : Scope) (index : OpenIndexState) (d : DeleteState) (found : Result (List Entry) Part) (others : Result (List ℕ) Part) (docs : List ℕ) → docs_of_term Basic index d.term ≡ found
    → ((found >>= λ (es : List Entry). Ok (reached_of scope d (docs_of es))) >>= λ (first : List ℕ). others >>= λ (more : List ℕ). Ok (first ++ more)) ≡ Ok docs → IsFirst scope index d others docs
first_of scope index d (Ok es) (Ok more) docs is e = record { es = es; more = more; found = is; found_more = refl; are = cc }
first_of scope index d (Ok es) (Err part) docs is e = absurd cc
first_of scope index d (Err part) others docs is e = absurd cc

pub all_reached : (scope : Scope) (entries : List SchemaEntry) (n : ℕ) (index : OpenIndexState) (ts : List IndexToken) (deletes : List DeleteState) (docs : List ℕ) → IndexHolds entries n index ts → HaveFieldsBelow (length entries) deletes
    → docs_reached scope index deletes ≡ Ok docs → (doc : ℕ) → is_among docs doc ≡ is_reached scope deletes ts doc
all_reached scope entries n index ts [] docs holds known found doc = ap (λ (ds : List ℕ). is_among ds doc) none
  where
    none : docs ≡ []
    none = cc
all_reached scope entries n index ts (d ∷ ds) docs holds known found doc =
    let f = first_of scope index d (docs_of_term Basic index d.term) (docs_reached scope index ds) docs refl found in
    ap (λ (xs : List ℕ). is_among xs doc) f.are
    ∙ list_any-append (λ (x : ℕ). nat_eq x doc) (reached_of scope d (docs_of f.es)) f.more
    ∙ ap (λ (b : Bool). b || is_among f.more doc)
    (reached_among scope d (docs_of f.es) doc ∙ ap (λ (b : Bool). in_scope scope d doc && b) (among_docs f.es doc ∙ term_found entries n index ts d.term f.es holds known.0 f.found doc))
    ∙ ap (λ (b : Bool). (in_scope scope d doc && has_term d.term ts doc) || b) (all_reached scope entries n index ts ds f.more holds known.1 f.found_more doc)

-- the documents that deletes reach in the files of a segment
pub files_reached : (scope : Scope) (entries : List SchemaEntry) (deletes : List DeleteState) (c : SegmentContents) (index : OpenIndexState) (docs : List ℕ)
    → index_of_files c.terms c.postings c.positions c.fieldnorms entries ≡ Ok index → docs_reached scope index deletes ≡ Ok docs → docs_in_files scope entries deletes c ≡ Ok docs
files_reached scope entries deletes c index docs opened found = rw opened found
