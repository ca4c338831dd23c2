-- How the documents that deletes reach are found.
use Rattle.std.proofs.Common.{◌≡◌, ◌≢◌, ◌∙◌, ◌==◌, ℕ, ◌+◌, ◌<◌, ◌≤◌, ◌-◌, Bool, true, false, List, [], ◌∷◌, ◌++◌, Option, None, Some, Result, Ok, Err, add-one, ap, append-nil, append_assoc, arith, drop, get_or, inl, inr, length, map, min, nat_lt, refl, subst, sym, true≢false}
use Rattle.std.specs.Prelude.{⊤, IsSome, Vec, filter, is_some, slice_get}
use Rattle.std.specs.List.{AllZip}
use Rattle.std.specs.Option.{option_map}
use Rattle.std.specs.declared.alloc.Global.{Global}
use Rattle.std.proofs.Math.Seq.{drop-cons}
use Rattle.std.proofs.lemmas.Bool.{eqb-false, eqb-true, lt-ltb, ltb-true}
use Rattle.std.proofs.lemmas.List.{nil_from_length}
use Rattle.ii_base.specs.Entries.{Entry, docs_of}
use Rattle.ii_base.specs.Schema.{SchemaEntry}
use Rattle.ii_base.specs.declared.doc_id.TheConstants.{TERMINATED}
use Rattle.ii_base.specs.declared.schema.index_record_option.IndexRecordOption.TheVariants.{Basic}
use Rattle.ii_docset.specs.Cursor.{IsAscending, IsSound, doc_at}
use Rattle.ii_docset.proofs.CursorLemmas.{doc_below}
use Rattle.ii_io.specs.Parts.{◌>>=◌}
use Rattle.ii_io.specs.declared.faults.Fault.{Fault}
use Rattle.ii_io.specs.declared.faults.Part.{Part}
use Rattle.ii_index.specs.Deletes.{AreDeletedOf, ArePendingDeleted, AreReached, DeleteState, HaveFieldsBelow, docs_in_files, docs_of_delete, docs_reached, limit_in, reached_of}
use Rattle.ii_index.specs.declared.deletes.Scope.{Scope}
use Rattle.ii_index.specs.declared.deletes.Scope.TheVariants.{Committed, Pending}
use Rattle.ii_index.specs.Pending.{AreWrittenSegments}
use Rattle.ii_index.proofs.IndexLemmas.{zip_more}
use Rattle.nequllpa_merging.specs.HeldSegments.{HoldsSegment}
use Rattle.ii_alive.specs.Alive.{num_living}
use Rattle.ii_alive.proofs.RankLemmas.{all_living}
use Rattle.ii_segments.specs.Segments.{Segment, num_docs_of}
use Rattle.ii_reader.specs.InvertedIndexReader.{IsRefusal}
use Rattle.ii_reader.specs.OpenIndex.{OpenIndexState, index_of_files}
use Rattle.ii_search.specs.Found.{docs_of_term}
use Rattle.ii_segment_store.specs.Contents.{SegmentContents, segment_contents}
use Rattle.ii_segment_store.specs.declared.stored_segments.StoredSegment.{StoredSegment}

-- ---- the remaining documents of a cursor below a limit
abbrev pub below : ℕ → List Entry → List ℕ
below limit es = filter (λ (doc : ℕ). nat_lt doc limit) (docs_of es)

-- The documents taken so far, in front of those that are left, are all.
pub record IsTaking (limit : ℕ) (all rest : List Entry) (doc : ℕ) (before docs : List ℕ) : Type 0 where
  pub here : doc ≡ doc_at rest
  pub sound : IsSound rest
  pub whole : docs ++ below limit rest ≡ before ++ below limit all

pub taking_first : (limit : ℕ) (es : List Entry) (doc : ℕ) (docs : List ℕ) → doc ≡ doc_at es → IsSound es → IsTaking limit es es doc docs docs
taking_first limit es doc docs here sound = record { here = here; sound = sound; whole = refl }

pub taking_next : (limit : ℕ) (all rest now : List Entry) (doc next : ℕ) (before docs more : List ℕ) → doc < min limit TERMINATED → more ≡ docs ++ doc ∷ [] → now ≡ drop 1 rest → next ≡ doc_at now → IsSound now
    → IsTaking limit all rest doc before docs → IsTaking limit all now next before more
taking_next limit all [] now doc next before docs more low more_is now_is next_is sound h = absurd (omega (arith, low, h.here))
taking_next limit all (e ∷ es) now doc next before docs more low more_is now_is next_is sound h =
    let is_low : nat_lt e.doc limit ≡ true = lt-ltb e.doc limit (omega (arith, low, h.here)) in
    let step : below limit (e ∷ es) ≡ e.doc ∷ below limit es = rw is_low refl in
    record {
      here = next_is;
      sound = sound;
      whole = ap (λ (ds : List ℕ). ds ++ below limit now) (more_is ∙ ap (λ (d : ℕ). docs ++ d ∷ []) h.here)
          ∙ ap (λ (fs : List Entry). (docs ++ e.doc ∷ []) ++ below limit fs) now_is
          ∙ append_assoc docs (e.doc ∷ []) (below limit es)
          ∙ ap (λ (ds : List ℕ). docs ++ ds) (sym step)
          ∙ h.whole;
    }

-- the next document is greater
pub taking_grows : (limit : ℕ) (all rest now : List Entry) (doc next : ℕ) (before docs : List ℕ) → doc < min limit TERMINATED → now ≡ drop 1 rest → next ≡ doc_at now → IsTaking limit all rest doc before docs → TERMINATED - next < TERMINATED - doc
taking_grows limit all [] now doc next before docs low now_is next_is h = absurd (omega (arith, low, h.here))
taking_grows limit all (e ∷ es) now doc next before docs low now_is next_is h = omega (arith, low, h.here, h.sound.ascending.0, ap doc_at now_is, next_is)

none_left : (limit : ℕ) (es : List Entry) → IsAscending es → min limit TERMINATED ≤ doc_at es → below limit es ≡ []
none_left limit [] ascending high = refl
none_left limit (e ∷ es) ascending high = by (nat_lt e.doc limit) refl (none_left limit es ascending.1 (omega (arith, ascending.0, high)))
  where
    by : (b : Bool) → nat_lt e.doc limit ≡ b → below limit es ≡ [] → below limit (e ∷ es) ≡ []
    by true low rest = absurd (omega (arith, high, ltb-true e.doc limit low, ascending.0, doc_below es ascending.1))
    by false not_low rest = rw not_low rest

pub taking_ended : (limit : ℕ) (all rest : List Entry) (doc : ℕ) (before docs : List ℕ) → min limit TERMINATED ≤ doc → IsTaking limit all rest doc before docs → docs ≡ before ++ below limit all
taking_ended limit all rest doc before docs end h =
    let none = none_left limit rest h.sound.ascending (omega (arith, end, h.here)) in
    sym (append-nil docs) ∙ ap (λ (ds : List ℕ). docs ++ ds) (sym none) ∙ h.whole

-- all documents lie below the last number
all_below : (es : List Entry) → IsAscending es → below TERMINATED es ≡ docs_of es
all_below [] ascending = refl
all_below (e ∷ es) ascending =
    let low : nat_lt e.doc TERMINATED ≡ true = lt-ltb e.doc TERMINATED (omega (arith, ascending.0, doc_below es ascending.1)) in
    rw low (ap (λ (ds : List ℕ). e.doc ∷ ds) (all_below es ascending.1))

reached_below : (scope : Scope) (d : DeleteState) (es : List Entry) → IsAscending es → below (limit_in scope d) es ≡ reached_of scope d (docs_of es)
reached_below Committed d es ascending = all_below es ascending
reached_below (Pending base) d es ascending = refl

-- the documents of a delete
pub pushed : (scope : Scope) (index : OpenIndexState) (d : DeleteState) (limit : ℕ) (es : List Entry) (before docs : List ℕ) → limit ≡ limit_in scope d → docs_of_term Basic index d.term ≡ Ok es → IsSound es → docs ≡ before ++ below limit es
    → (more : List ℕ) × (docs_of_delete scope index d ≡ Ok more) × (docs ≡ before ++ more)
pushed scope index d limit es before docs limit_is found sound are =
    (reached_of scope d (docs_of es), rw found refl, are ∙ ap (λ (m : ℕ). before ++ below m es) limit_is ∙ ap (λ (ds : List ℕ). before ++ ds) (reached_below scope d es sound.ascending))

-- what is refused, is refused with all that comes after it
refused_then : {A B : Type 0} (found : Result A Part) (after : A → Result B Part) (fault : Fault) → IsRefusal found fault → IsRefusal (found >>= after) fault
refused_then found after fault (inl memory) = inl memory
refused_then found after fault (inr (part, why, err)) = inr (part, why, rw err refl)

-- ---- one delete after the other
abbrev given : List ℕ → Result (List ℕ) Part
given docs = Ok docs

abbrev pub with_docs : List ℕ → Result (List ℕ) Part → Result (List ℕ) Part
with_docs docs (Ok more) = Ok (docs ++ more)
with_docs docs (Err part) = Err part

-- The documents so far, in front of those of the deletes that are left, are all.
pub record IsReaching (scope : Scope) (index : OpenIndexState) (all left : List DeleteState) (docs : List ℕ) : Type 0 where
  pub whole : docs_reached scope index all ≡ with_docs docs (docs_reached scope index left)
  pub fields : HaveFieldsBelow (length index.readers) left

module _ (scope : Scope) (index : OpenIndexState) (all : List DeleteState) where
  pub reaching_first : (docs : List ℕ) → docs ≡ [] → HaveFieldsBelow (length index.readers) all → IsReaching scope index all all docs
  reaching_first docs none fields = record { whole = same (docs_reached scope index all) ∙ ap (λ (ds : List ℕ). with_docs ds (docs_reached scope index all)) (sym none); fields = fields }
    where
      same : (r : Result (List ℕ) Part) → r ≡ with_docs [] r
      same (Ok more) = refl
      same (Err part) = refl

  -- the delete at a place
  pub at_place : (i : ℕ) (d e : DeleteState) → i < length all → d ≡ get_or all i e → drop i all ≡ d ∷ drop (i + 1) all
  at_place i d e inside is = drop-cons all i e inside ∙ rw (is, add-one i) refl

  pub reaching_field : (i : ℕ) (d e : DeleteState) (docs : List ℕ) → i < length all → d ≡ get_or all i e → IsReaching scope index all (drop i all) docs → d.term.field < length index.readers
  reaching_field i d e docs inside is h = (subst (HaveFieldsBelow (length index.readers)) (at_place i d e inside is) h.fields).0

  pub reaching_next : (i : ℕ) (d e : DeleteState) (docs new : List ℕ) → i < length all → d ≡ get_or all i e → (more : List ℕ) × (docs_of_delete scope index d ≡ Ok more) × (new ≡ docs ++ more) → IsReaching scope index all (drop i all) docs
      → IsReaching scope index all (drop (i + 1) all) new
  reaching_next i d e docs new inside is (more, found, new_is) h = record {
    whole = h.whole ∙ ap (λ (ds : List DeleteState). with_docs docs (docs_reached scope index ds)) (at_place i d e inside is)
        ∙ step (docs_reached scope index (drop (i + 1) all)) (docs_of_delete scope index d) found
        ∙ ap (λ (ds : List ℕ). with_docs ds (docs_reached scope index (drop (i + 1) all))) (sym new_is);
    fields = (subst (HaveFieldsBelow (length index.readers)) (at_place i d e inside is) h.fields).1;
  }
    where
      step : (others first : Result (List ℕ) Part) → first ≡ Ok more → with_docs docs (first >>= λ (f : List ℕ). others >>= λ (o : List ℕ). Ok (f ++ o)) ≡ with_docs (docs ++ more) others
      step (Ok rest) first found = rw found (ap given (sym (append_assoc docs more rest)))
      step (Err part) first found = rw found refl

  pub reaching_refused : (i : ℕ) (d e : DeleteState) (docs : List ℕ) (fault : Fault) → i < length all → d ≡ get_or all i e → IsRefusal (docs_of_delete scope index d) fault → IsReaching scope index all (drop i all) docs → IsRefusal (docs_reached scope index all) fault
  reaching_refused i d e docs fault inside is (inl memory) h = inl memory
  reaching_refused i d e docs fault inside is (inr (part, why, err)) h =
      inr (part, why, h.whole ∙ ap (λ (ds : List DeleteState). with_docs docs (docs_reached scope index ds)) (at_place i d e inside is) ∙ rw err refl)

  pub reaching_ended : (left : List DeleteState) (docs : List ℕ) → left ≡ [] → IsReaching scope index all left docs → docs_reached scope index all ≡ Ok docs
  reaching_ended left docs none h = h.whole ∙ rw none (ap given (append-nil docs))

-- the documents that deletes reach in the files of a segment
pub files_refused : (scope : Scope) (entries : List SchemaEntry) (deletes : List DeleteState) (c : SegmentContents) (fault : Fault) → IsRefusal (index_of_files c.terms c.postings c.positions c.fieldnorms entries) fault → IsRefusal (docs_in_files scope entries deletes c) fault
files_refused scope entries deletes c fault refused = refused_then (index_of_files c.terms c.postings c.positions c.fieldnorms entries) (λ (index : OpenIndexState). docs_reached scope index deletes) fault refused

pub docs_refused : (scope : Scope) (entries : List SchemaEntry) (deletes : List DeleteState) (c : SegmentContents) (index : OpenIndexState) (fault : Fault) → index_of_files c.terms c.postings c.positions c.fieldnorms entries ≡ Ok index → IsRefusal (docs_reached scope index deletes) fault
    → IsRefusal (docs_in_files scope entries deletes c) fault
docs_refused scope entries deletes c index fault opened (inl memory) = inl memory
docs_refused scope entries deletes c index fault opened (inr (part, why, err)) = inr (part, why, rw opened err)

-- ---- tests
pub no_docs : (docs slice : List ℕ) (b : Bool) → slice ≡ docs → b ≡ (length slice == 0) → b ≡ true → docs ≡ []
no_docs docs slice b same test is = sym same ∙ nil_from_length slice (eqb-true (length slice) 0 (sym test ∙ is))

pub some_docs : (docs slice : List ℕ) (b : Bool) → slice ≡ docs → b ≡ (length slice == 0) → b ≡ false → docs ≢ []
some_docs docs slice b same test is none = eqb-false (length slice) 0 (sym test ∙ is) (ap length (same ∙ none))

pub no_counts : (counts : Option (Vec ℕ Global)) (b : Bool) → b ≡ is_some counts → b ≡ false → option_map (λ (v : Vec ℕ Global). v.items) counts ≡ None
no_counts None b test is = refl
no_counts (Some v) b test is = absurd (true≢false (sym test ∙ is))

pub some_counts : (counts : Option (Vec ℕ Global)) (b : Bool) → b ≡ is_some counts → b ≡ true → IsSome (option_map (λ (v : Vec ℕ Global). v.items) counts)
some_counts None b test is = absurd (true≢false (sym is ∙ test))
some_counts (Some v) b test is = refl

-- ---- one segment after the other
module _ (entries : List SchemaEntry) (deletes : List DeleteState) where
  -- These documents of a stored segment are deleted.
  abbrev pub AreDeletedOfStored : StoredSegment → Vec ℕ Global → Type 0
  AreDeletedOfStored s docs = AreDeletedOf entries deletes (segment_contents s) docs.items

  -- The documents of the segments that were taken from a list.
  pub record AreDeleting (all taken rest : List StoredSegment) (lists : List (Vec ℕ Global)) : Type 0 where
    pub whole : taken ++ rest ≡ all
    pub zip : AllZip AreDeletedOfStored taken lists

  pub deleting_first : (all rest : List StoredSegment) (lists : List (Vec ℕ Global)) → rest ≡ all → lists ≡ [] → AreDeleting all [] rest lists
  deleting_first all rest lists same none = record { whole = same; zip = subst (AllZip AreDeletedOfStored []) (sym none) tt }

  pub deleting_next : (all taken before rest : List StoredSegment) (lists new : List (Vec ℕ Global)) (x : StoredSegment) (docs : Vec ℕ Global) → before ≡ x ∷ rest → new ≡ lists ++ docs ∷ [] → AreDeletedOfStored x docs → AreDeleting all taken before lists
      → AreDeleting all (taken ++ x ∷ []) rest new
  deleting_next all taken before rest lists new x docs step pushed are h = record {
    whole = append_assoc taken (x ∷ []) rest ∙ ap (λ (r : List StoredSegment). taken ++ r) (sym step) ∙ h.whole;
    zip = subst (AllZip AreDeletedOfStored (taken ++ x ∷ [])) (sym pushed) (zip_more AreDeletedOfStored taken lists x docs h.zip are);
  }

  of_contents : (xs : List StoredSegment) (ys : List (Vec ℕ Global)) → AllZip AreDeletedOfStored xs ys → AllZip (AreDeletedOf entries deletes) (map segment_contents xs) (map (λ (v : Vec ℕ Global). v.items) ys)
  of_contents [] [] zip = tt
  of_contents [] (y ∷ ys) zip = absurd zip
  of_contents (x ∷ xs) [] zip = absurd zip
  of_contents (x ∷ xs) (y ∷ ys) zip = (zip.0, of_contents xs ys zip.1)

  pub deleting_ended : (all taken rest : List StoredSegment) (lists : List (Vec ℕ Global)) → rest ≡ [] → AreDeleting all taken rest lists → AllZip (AreDeletedOf entries deletes) (map segment_contents all) (map (λ (v : Vec ℕ Global). v.items) lists)
  deleting_ended all taken rest lists none h =
      let done : taken ≡ all = sym (append-nil taken) ∙ ap (λ (r : List StoredSegment). taken ++ r) (sym none) ∙ h.whole in
      subst (λ (xs : List StoredSegment). AllZip (AreDeletedOf entries deletes) (map segment_contents xs) (map (λ (v : Vec ℕ Global). v.items) lists)) done (of_contents taken lists h.zip)

  -- the segment that is taken next is that at the place
  pub next_place : (all taken before rest : List StoredSegment) (lists : List (Vec ℕ Global)) (x : StoredSegment) → before ≡ x ∷ rest → AreDeleting all taken before lists → slice_get (map segment_contents all) (length lists) ≡ Some (segment_contents x)
  next_place all taken before rest lists x step h =
      ap (λ (l : List StoredSegment). slice_get (map segment_contents l) (length lists)) (sym h.whole ∙ ap (λ (r : List StoredSegment). taken ++ r) step) ∙ at taken lists h.zip
    where
      at : (ts : List StoredSegment) (ls : List (Vec ℕ Global)) → AllZip AreDeletedOfStored ts ls → slice_get (map segment_contents (ts ++ x ∷ rest)) (length ls) ≡ Some (segment_contents x)
      at [] [] zip = refl
      at [] (l ∷ ls) zip = absurd zip
      at (t ∷ ts) [] zip = absurd zip
      at (t ∷ ts) (l ∷ ls) zip = at ts ls zip.1

-- ---- one segment that was written after the other
-- how many documents segments have, at most 2^32 - 1
abbrev counted_docs : ℕ → List StoredSegment → ℕ
counted_docs base [] = base
counted_docs base (x ∷ xs) = counted_docs (min 4294967295 (base + length x.alive)) xs

module _ (entries : List SchemaEntry) (deletes : List DeleteState) where
  -- These documents of segments are deleted, where numbers of documents are at most 2^32 - 1.
  abbrev AreGone : ℕ → List StoredSegment → List (Vec ℕ Global) → Type 0
  AreGone base [] [] = ⊤
  AreGone base [] (docs ∷ lists) = ⊥
  AreGone base (x ∷ xs) [] = ⊥
  AreGone base (x ∷ xs) (docs ∷ lists) = AreReached (Pending base) entries deletes (segment_contents x) docs.items × AreGone (min 4294967295 (base + length x.alive)) xs lists

  -- The documents of the segments that were taken from a list.
  pub record ArePendingDeleting (all taken rest : List StoredSegment) (base : ℕ) (lists : List (Vec ℕ Global)) : Type 0 where
    pub whole : taken ++ rest ≡ all
    pub gone : AreGone 0 taken lists
    pub many : base ≡ counted_docs 0 taken

  pub pending_first : (all rest : List StoredSegment) (lists : List (Vec ℕ Global)) → rest ≡ all → lists ≡ [] → ArePendingDeleting all [] rest 0 lists
  pending_first all rest lists same none = record { whole = same; gone = subst (AreGone 0 []) (sym none) tt; many = refl }

  one_gone : (base : ℕ) (xs : List StoredSegment) (lists : List (Vec ℕ Global)) (x : StoredSegment) (docs : Vec ℕ Global) → AreGone base xs lists → AreReached (Pending (counted_docs base xs)) entries deletes (segment_contents x) docs.items → AreGone base (xs ++ x ∷ []) (lists ++ docs ∷ [])
  one_gone base [] [] x docs gone reached = (reached, tt)
  one_gone base [] (l ∷ ls) x docs gone reached = absurd gone
  one_gone base (y ∷ ys) [] x docs gone reached = absurd gone
  one_gone base (y ∷ ys) (l ∷ ls) x docs gone reached = (gone.0, one_gone (min 4294967295 (base + length y.alive)) ys ls x docs gone.1 reached)

  one_counted : (base : ℕ) (xs : List StoredSegment) (x : StoredSegment) → counted_docs base (xs ++ x ∷ []) ≡ min 4294967295 (counted_docs base xs + length x.alive)
  one_counted base [] x = refl
  one_counted base (y ∷ ys) x = one_counted (min 4294967295 (base + length y.alive)) ys x

  pub pending_next : (all taken before rest : List StoredSegment) (base next : ℕ) (lists new : List (Vec ℕ Global)) (x : StoredSegment) (docs : Vec ℕ Global) → before ≡ x ∷ rest → new ≡ lists ++ docs ∷ [] → next ≡ min 4294967295 (base + length x.alive)
      → AreReached (Pending base) entries deletes (segment_contents x) docs.items → ArePendingDeleting all taken before base lists → ArePendingDeleting all (taken ++ x ∷ []) rest next new
  pending_next all taken before rest base next lists new x docs step pushed next_is reached h = record {
    whole = append_assoc taken (x ∷ []) rest ∙ ap (λ (r : List StoredSegment). taken ++ r) (sym step) ∙ h.whole;
    gone = subst (AreGone 0 (taken ++ x ∷ [])) (sym pushed) (one_gone 0 taken lists x docs h.gone (subst (λ (n : ℕ). AreReached (Pending n) entries deletes (segment_contents x) docs.items) h.many reached));
    many = next_is ∙ ap (λ (n : ℕ). min 4294967295 (n + length x.alive)) h.many ∙ sym (one_counted 0 taken x);
  }

  of_gone : (base : ℕ) (xs : List StoredSegment) (lists : List (Vec ℕ Global)) (ss : List Segment) → AreWrittenSegments entries (map segment_contents xs) ss → base + num_docs_of ss ≤ TERMINATED → AreGone base xs lists
      → ArePendingDeleted entries deletes base (map segment_contents xs) (map (λ (v : Vec ℕ Global). v.items) lists)
  of_gone base [] [] ss written few gone = tt
  of_gone base [] (l ∷ ls) ss written few gone = absurd gone
  of_gone base (x ∷ xs) [] ss written few gone = absurd gone
  of_gone base (x ∷ xs) (l ∷ ls) [] written few gone = absurd written
  of_gone base (x ∷ xs) (l ∷ ls) (s ∷ ss) written few gone =
      let living : num_living s.alive ≡ length s.alive = ap num_living written.0.alive ∙ all_living (length s.alive) in
      let many : length x.alive ≡ length s.alive = ap length written.0.holds.alive in
      let next : min 4294967295 (base + length x.alive) ≡ base + length x.alive = omega (arith, few, living, many) in
      (gone.0, of_gone (base + length x.alive) xs ls ss written.1 (omega (arith, few, living, many)) (subst (λ (n : ℕ). AreGone n xs ls) next gone.1))

  pub pending_ended : (all taken rest : List StoredSegment) (base : ℕ) (lists : List (Vec ℕ Global)) (ss : List Segment) → rest ≡ [] → AreWrittenSegments entries (map segment_contents all) ss → num_docs_of ss ≤ TERMINATED → ArePendingDeleting all taken rest base lists
      → ArePendingDeleted entries deletes 0 (map segment_contents all) (map (λ (v : Vec ℕ Global). v.items) lists)
  pending_ended all taken rest base lists ss none written few h =
      let done : taken ≡ all = sym (append-nil taken) ∙ ap (λ (r : List StoredSegment). taken ++ r) (sym none) ∙ h.whole in
      of_gone 0 all lists ss written (omega (arith, few)) (subst (λ (xs : List StoredSegment). AreGone 0 xs lists) done h.gone)

  -- The segment that is taken next holds one of those that all hold.
  pub next_holds : (all taken before rest : List StoredSegment) (base : ℕ) (lists : List (Vec ℕ Global)) (x : StoredSegment) (ss : List Segment) → before ≡ x ∷ rest → AreWrittenSegments entries (map segment_contents all) ss → ArePendingDeleting all taken before base lists
      → (s : Segment) × HoldsSegment entries (segment_contents x) s
  next_holds all taken before rest base lists x ss step written h =
      at taken ss (subst (λ (xs : List StoredSegment). AreWrittenSegments entries (map segment_contents xs) ss) (sym (sym (ap (λ (r : List StoredSegment). taken ++ r) step) ∙ h.whole)) written)
    where
      at : (ts : List StoredSegment) (vs : List Segment) → AreWrittenSegments entries (map segment_contents (ts ++ x ∷ rest)) vs → (s : Segment) × HoldsSegment entries (segment_contents x) s
      at [] [] held = absurd held
      at [] (v ∷ vs) held = (v, held.0.holds)
      at (t ∷ ts) [] held = absurd held
      at (t ∷ ts) (v ∷ vs) held = at ts vs held.1
