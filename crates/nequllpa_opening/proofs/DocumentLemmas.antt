-- Stored documents by their numbers.
use Rattle.std.proofs.Common.{◌≡◌, ℕ, zero, suc, ◌+◌, ◌-◌, ◌<◌, ◌≤◌, Bool, true, false, List, [], ◌∷◌, ◌++◌, drop, filter, get_or, length, map, Option, None, Some, Result, Ok, Err, refl, sym, ap, subst, ◌∙◌, arith, ⊎_elim, length-append}
use Rattle.std.specs.Prelude.{IsSomeAnd, MatchResult, slice_index}
use Rattle.std.specs.Borrow.{Bor}
use Rattle.std.specs.List.{AllZip, range_with_len}
use Rattle.std.proofs.lemmas.Bool.{cases_lt, le-ltb, lt-ltb}
use Rattle.std.proofs.lemmas.List.{drop_all, drop_more, get_or-append_right, get_or-map, get_or_append_left, length-map}
use Rattle.std.proofs.lemmas.List.FromFn.{get_or-range_with_len}
use Rattle.ii_alive.specs.Alive.{num_living, rank}
use Rattle.ii_alive.proofs.RankLemmas.{rank_strict}
use Rattle.ii_segments.specs.Segments.{is_living, living_docs}
use Rattle.ii_segments.proofs.CountLaws.{living_length, living_within, ranks_of_living}
use Rattle.ii_doc_store.specs.declared.checkpoint.Checkpoint.{Checkpoint}
use Rattle.ii_doc_store.specs.declared.faults.StoreDamage.{StoreDamage}
use Rattle.ii_doc_store.specs.declared.faults.StoreDamage.TheVariants.{Index}
use Rattle.ii_doc_store.specs.StoreReader.{HoldsDocuments, StoreReaderState, document_of, index_of, num_docs}
use Rattle.ii_doc_store_merger.proofs.MergeLemmas.{documents_length}
use Rattle.ii_doc_store_merger.specs.StoreSources.{SegmentDocuments, documents_of_segments, living_documents}
use Rattle.nequllpa_opening.specs.declared.documents.SegmentStore.{SegmentStore}
use Rattle.nequllpa_opening.specs.declared.faults.DocumentFault.{DocumentFault}
use Rattle.nequllpa_opening.specs.declared.faults.DocumentFault.TheVariants.{Damaged, NoDocument}
use Rattle.nequllpa_opening.specs.Documents.{HoldsDocumentsOf, StoredSegmentState, document_from, document_in_segment, document_in_store, or_damage_at, stored_segment}

-- ---- the number of a living document
ranks : (alive : List Bool) → map (λ (d : ℕ). 0 + rank alive d) (living_docs alive) ≡ range_with_len 0 (num_living alive)
ranks alive = ranks_of_living 0 alive

filter_holds : (p : ℕ → Bool) (xs : List ℕ) (i d : ℕ) → i < length (filter p xs) → p (get_or (filter p xs) i d) ≡ true
filter_holds p [] i d low = absurd (omega (arith, low))
filter_holds p (x ∷ xs) i d low = by (p x) refl i low (filter_holds p xs)
  where
    by : (b : Bool) → p x ≡ b → (i : ℕ) → i < length (filter p (x ∷ xs)) → ((j e : ℕ) → j < length (filter p xs) → p (get_or (filter p xs) j e) ≡ true) → p (get_or (filter p (x ∷ xs)) i d) ≡ true
    by true is zero low rest = rw is is
    by true is (suc j) low rest = let below = rw is at low in rw is (rest j d (omega (arith, below)))
    by false is j low rest = let below = rw is at low in rw is (rest j d below)

rank_at : (alive : List Bool) (n : ℕ) → n < num_living alive → rank alive (slice_index (living_docs alive) n) ≡ n
rank_at alive n low =
    let f : ℕ → ℕ = λ d. 0 + rank alive d in
    let few : n < length (living_docs alive) = omega (arith, low, living_length alive) in
    let at : get_or (map f (living_docs alive)) n 0 ≡ f (get_or (living_docs alive) n 0) = get_or-map f (living_docs alive) n 0 0 few in
    let is = ap (λ (xs : List ℕ). get_or xs n 0) (ranks alive) ∙ get_or-range_with_len 0 (num_living alive) n 0 low in
    omega (arith, at, is)

pub selected : (alive : List Bool) (n doc : ℕ) → n < num_living alive → is_living alive doc ≡ true → rank alive doc ≡ n → slice_index (living_docs alive) n ≡ doc
selected alive n doc low living at =
    let other = slice_index (living_docs alive) n in
    let also : is_living alive other ≡ true = filter_holds (is_living alive) (range_with_len 0 (length alive)) n 0 (omega (arith, low, living_length alive)) in
    let same = rank_at alive n low in
    ⊎_elim (λ less. absurd (omega (arith, rank_strict alive other doc also less, same, at)))
    (λ more. ⊎_elim (λ less. absurd (omega (arith, rank_strict alive doc other living less, same, at))) (λ least. omega (arith, more, least)) (cases_lt doc other)) (cases_lt other doc)

-- ---- the segment of a document
pub segment_at : (xs : List SegmentStore) (i : ℕ) (x : SegmentStore) → i < length xs → x ≡ get_or xs i x → drop i (map stored_segment xs) ≡ stored_segment x ∷ drop (i + 1) (map stored_segment xs)
segment_at xs i x inside is =
    drop_more (map stored_segment xs) i (stored_segment x) (omega (arith, inside, length-map xs stored_segment))
    ∙ ap (λ (y : StoredSegmentState). y ∷ drop (i + 1) (map stored_segment xs)) (get_or-map stored_segment xs i x (stored_segment x) inside ∙ ap stored_segment (sym is))

pub in_this : (place : ℕ) (s : StoredSegmentState) (ss : List StoredSegmentState) (n : ℕ) → n < num_living s.alive → document_from place (s ∷ ss) n ≡ document_in_segment place s n
in_this place s ss n low = rw (lt-ltb n (num_living s.alive) low) refl

pub in_later : (place : ℕ) (s : StoredSegmentState) (ss : List StoredSegmentState) (n : ℕ) → num_living s.alive ≤ n → document_from place (s ∷ ss) n ≡ document_from (place + 1) ss (n - num_living s.alive)
in_later place s ss n high = let next : suc place ≡ place + 1 = omega arith in rw (le-ltb n (num_living s.alive) high, next) refl

-- ---- documents that are stored
each_stored : (place : ℕ) (store : Option StoreReaderState) (documents : List (List ℕ)) (doc : ℕ) → doc < length documents → IsSomeAnd store (λ r. HoldsDocuments r.bytes documents × (index_of r.bytes ≡ Ok r.checkpoints))
    → document_in_store place store doc ≡ Ok (get_or documents doc [])
each_stored place None documents doc low h = absurd h
each_stored place (Some r) documents doc low h =
    let held = h.0 in
    let known : held.checkpoints ≡ r.checkpoints = let first = held.index in let second = h.1 in cc in
    let many : num_docs r.checkpoints ≡ length documents = ap (λ (c : List Checkpoint). num_docs c) (sym known) ∙ held.count in
    let found : document_of r.bytes r.checkpoints doc ≡ Ok (get_or documents doc []) = subst (λ (c : List Checkpoint). document_of r.bytes c doc ≡ Ok (get_or documents doc [])) known (held.each doc low) in
    rw (lt-ltb doc (num_docs r.checkpoints) (omega (arith, low, many)), found) refl

in_segment : (place : ℕ) (s : StoredSegmentState) (d : SegmentDocuments) (n : ℕ) → n < num_living s.alive → HoldsDocumentsOf s d → document_in_segment place s n ≡ Ok (get_or (living_documents d) n [])
in_segment place s d n low h =
    let doc = slice_index (living_docs s.alive) n in
    let living : is_living s.alive doc ≡ true = filter_holds (is_living s.alive) (range_with_len 0 (length s.alive)) n 0 (omega (arith, low, living_length s.alive)) in
    let inside = living_within s.alive doc living in
    let same = ap length h.alive in
    let count = h.count in
    let found = each_stored place s.store d.documents doc (omega (arith, inside, same, count)) h.store in
    let few : n < length (living_docs d.alive) = omega (arith, low, living_length s.alive, ap (λ (a : List Bool). length (living_docs a)) h.alive) in
    let is : get_or (living_documents d) n [] ≡ get_or d.documents (get_or (living_docs d.alive) n 0) [] = get_or-map (λ (k : ℕ). get_or d.documents k []) (living_docs d.alive) n 0 [] few in
    found ∙ ap (λ (a : List Bool). Ok (get_or d.documents (slice_index (living_docs a) n) [])) h.alive ∙ ap (λ (x : List ℕ). Ok x) (sym is)

pub all_stored : (place : ℕ) (ss : List StoredSegmentState) (ds : List SegmentDocuments) (n : ℕ) → AllZip HoldsDocumentsOf ss ds → n < length (documents_of_segments ds) → document_from place ss n ≡ Ok (get_or (documents_of_segments ds) n [])
all_stored place [] [] n hold low = absurd (omega (arith, low))
all_stored place [] (d ∷ ds) n hold low = absurd hold
all_stored place (s ∷ ss) [] n hold low = absurd hold
all_stored place (s ∷ ss) (d ∷ ds) n hold low = ⊎_elim here (λ high. there high (all_stored (place + 1) ss ds (n - num_living s.alive) hold.1)) (cases_lt n (num_living s.alive))
  where
    many : length (living_documents d) ≡ num_living s.alive
    many = documents_length d ∙ ap num_living (sym hold.0.alive)

    here : n < num_living s.alive → document_from place (s ∷ ss) n ≡ Ok (get_or (living_documents d ++ documents_of_segments ds) n [])
    here small =
        in_this place s ss n small ∙ in_segment place s d n small hold.0
        ∙ ap (λ (x : List ℕ). Ok x) (sym (get_or_append_left (living_documents d) (documents_of_segments ds) [] n (omega (arith, small, many))))

    there : num_living s.alive ≤ n → (n - num_living s.alive < length (documents_of_segments ds) → document_from (place + 1) ss (n - num_living s.alive) ≡ Ok (get_or (documents_of_segments ds) (n - num_living s.alive) []))
        → document_from place (s ∷ ss) n ≡ Ok (get_or (living_documents d ++ documents_of_segments ds) n [])
    there high later =
        let sum = length-append (living_documents d) (documents_of_segments ds) in
        in_later place s ss n high ∙ later (omega (arith, high, low, sum, many))
        ∙ ap (λ (x : List ℕ). Ok x) (sym (get_or-append_right (living_documents d) (documents_of_segments ds) (num_living s.alive) n [] many high))

pub stored_result : (ss : List StoredSegmentState) (ds : List SegmentDocuments) (n : ℕ) (r : Result (Bor (List ℕ)) DocumentFault) → AllZip HoldsDocumentsOf ss ds → n < length (documents_of_segments ds)
    → MatchResult r (λ x. document_from 0 ss n ≡ Ok x.now) (λ e. document_from 0 ss n ≡ Err e) → MatchResult r (λ x. x.now ≡ get_or (documents_of_segments ds) n []) (λ _. ⊥)
stored_result ss ds n (Ok x) hold low value = let is = all_stored 0 ss ds n hold low in cc
stored_result ss ds n (Err e) hold low value = let is = all_stored 0 ss ds n hold low in cc

-- ---- a document of a segment
pub in_found : (place : ℕ) (s : StoredSegmentState) (n doc : ℕ) (r : StoreReaderState) → s.store ≡ Some r → slice_index (living_docs s.alive) n ≡ doc → document_in_segment place s n ≡ document_in_store place (Some r) doc
in_found place s n doc r found is = ap (document_in_store place s.store) is ∙ ap (λ (o : Option StoreReaderState). document_in_store place o doc) found

pub is_read : (place doc : ℕ) (r : StoreReaderState) (found : Result (List ℕ) StoreDamage) → doc < num_docs r.checkpoints → document_of r.bytes r.checkpoints doc ≡ found → document_in_store place (Some r) doc ≡ or_damage_at place found
is_read place doc r found low is = rw (lt-ltb doc (num_docs r.checkpoints) low, is) refl

pub has_none : (place doc : ℕ) (r : StoreReaderState) → num_docs r.checkpoints ≤ doc → document_in_store place (Some r) doc ≡ Err (Damaged place Index)
has_none place doc r high = rw (le-ltb doc (num_docs r.checkpoints) high) refl

pub none_left : (ss : List StoredSegmentState) (place left number : ℕ) (ds : List SegmentDocuments) → length ss ≤ place → document_from place (drop place ss) left ≡ document_from 0 ss number → AllZip HoldsDocumentsOf ss ds
    → number < length (documents_of_segments ds) → ⊥
none_left ss place left number ds past so_far hold low =
    let none = ap (λ (us : List StoredSegmentState). document_from place us left) (drop_all place ss past) in
    let is = all_stored 0 ss ds number hold low in
    let both : ◌≡◌ {A = Result (List ℕ) DocumentFault} (Err NoDocument) (Ok (get_or (documents_of_segments ds) number [])) = sym none ∙ so_far ∙ is in
    absurd (cc)
