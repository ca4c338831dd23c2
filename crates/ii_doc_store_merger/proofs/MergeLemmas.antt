-- The living documents of several stores.
use Rattle.std.proofs.Common.{◌≡◌, ℕ, zero, suc, ◌+◌, ◌<◌, ◌≤◌, Bool, true, false, List, [], ◌∷◌, ◌++◌, append_assoc, append-nil, filter, get_or, length, length-append, map, slice_get, take, Option, None, Some, Result, Ok, Err, refl, sym, ap, subst, ◌∙◌, arith, inl, inr, ⊎_elim}
use Rattle.std.specs.Prelude.{⊤}
use Rattle.std.specs.Io.KnownBytes.{Appends}
use Rattle.std.specs.List.{AllByRecursion, AllZip, flat_map, range_with_len}
use Rattle.std.proofs.lemmas.Grind.{flat_map-append}
use Rattle.std.proofs.lemmas.List.{get_or-map, length-map, take_all, take_more}
use Rattle.std.proofs.lemmas.Option.{slice_get-get_or}
use Rattle.ii_io.specs.CountingWriter.{CountingWriterState}
use Rattle.ii_alive.specs.Alive.{num_living}
use Rattle.ii_doc_store.specs.declared.checkpoint.Checkpoint.{Checkpoint}
use Rattle.ii_doc_store.specs.declared.faults.StoreDamage.{StoreDamage}
use Rattle.ii_doc_store.specs.StoreFormat.{store_bytes}
use Rattle.ii_doc_store.specs.StoreReader.{HoldsDocuments, document_of, num_docs}
use Rattle.ii_doc_store.specs.StoreWriter.{HasStored, StoreWriterState, WroteStore}
use Rattle.ii_segments.specs.Segments.{is_living, living_docs}
use Rattle.ii_segments.proofs.CountLaws.{living_length, living_within}
use Rattle.ii_doc_store_merger.specs.declared.faults.StoreMergeFault.{StoreMergeFault}
use Rattle.ii_doc_store_merger.specs.declared.faults.StoreMergeFault.TheVariants.{Damaged, DocumentLen, NumDocs, Output, Read}
use Rattle.ii_doc_store_merger.specs.declared.store_source.StoreSource.{StoreSource}
use Rattle.ii_doc_store_merger.specs.StoreSources.{FitsFlags, IsMergedStore, IsReadable, IsSound, IsSourceFault, IsStoreDamage, IsStoreMergeFault, OrWriterFailed, SegmentDocuments, SourceHolds, StoreSourceState, StoresAll, StoresLiving, WroteMergedStore, all_read, documents_of_segments, documents_of_source, living_documents, num_living_of}

abbrev Reads : StoreSourceState → List (List ℕ) → Type 0
Reads s ds = documents_of_source s ≡ Ok ds

-- as many documents are merged as are alive
pub documents_length : (d : SegmentDocuments) → length (living_documents d) ≡ num_living d.alive
documents_length d = length-map (living_docs d.alive) (λ (doc : ℕ). get_or d.documents doc []) ∙ living_length d.alive

-- ---- one store more
read_more : (ss : List StoreSourceState) (each : List (List (List ℕ))) (s : StoreSourceState) (ds : List (List ℕ)) → AllZip Reads ss each → Reads s ds → AllZip Reads (ss ++ s ∷ []) (each ++ ds ∷ [])
read_more [] [] s ds all is = (is, tt)
read_more [] (xs ∷ each) s ds all is = absurd all
read_more (t ∷ ss) [] s ds all is = absurd all
read_more (t ∷ ss) (xs ∷ each) s ds all is = (all.0, read_more ss each s ds all.1 is)

living_more : (ss : List StoreSourceState) (s : StoreSourceState) → num_living_of (ss ++ s ∷ []) ≡ num_living_of ss + num_living s.alive
living_more [] s = omega arith
living_more (t ∷ ss) s = let rest = living_more ss s in omega (arith, rest)

joined_more : (each : List (List (List ℕ))) (ds : List (List ℕ)) → flat_map (λ (xs : List (List ℕ)). xs) (each ++ ds ∷ []) ≡ flat_map (λ (xs : List (List ℕ)). xs) each ++ ds
joined_more each ds = flat_map-append (λ (xs : List (List ℕ)). xs) each (ds ∷ []) ∙ ap (λ (ys : List (List ℕ)). flat_map (λ (xs : List (List ℕ)). xs) each ++ ys) (append-nil ds)

one_more : (ss : List StoreSourceState) (s : StoreSourceState) (old now new : StoreWriterState) → StoresAll ss old now → StoresLiving s now new → StoresAll (ss ++ s ∷ []) old new
one_more ss s old now new all one = record {
  documents = all.documents ++ one.documents;
  are = record {
    each = all.are.each ++ one.documents ∷ [];
    read = read_more ss all.are.each s one.documents all.are.read one.read;
    joined = ap (λ (xs : List (List ℕ)). xs ++ one.documents) all.are.joined ∙ sym (joined_more all.are.each one.documents);
  };
  count = let many = all.count in let more = one.count in let sum = living_more ss s in omega (arith, length-append all.documents one.documents, many, more, sum);
  stored = λ initial before stored.
      subst (HasStored initial new) (append_assoc before all.documents one.documents) (one.stored initial (before ++ all.documents) (all.stored initial before stored));
}

module _ {X : Type 0} (view : X → StoreSourceState) (xs : List X) (i : ℕ) (x : X) (inside : i < length xs) (is : x ≡ get_or xs i x) where
  source_is : get_or (map view xs) i (view x) ≡ view x
  source_is = get_or-map view xs i x (view x) inside ∙ ap view (sym is)

  few : i < length (map view xs)
  few = omega (arith, inside, length-map xs view)

  pub stored_more : (old now new : StoreWriterState) → StoresAll (take i (map view xs)) old now → StoresLiving (view x) now new → StoresAll (take (i + 1) (map view xs)) old new
  stored_more old now new all one =
      let next : take (i + 1) (map view xs) ≡ take i (map view xs) ++ view x ∷ [] =
      take_more (map view xs) i (view x) few ∙ ap (λ (s : StoreSourceState). take i (map view xs) ++ s ∷ []) source_is in
      subst (λ (ss : List StoreSourceState). StoresAll ss old new) (sym next) (one_more (take i (map view xs)) (view x) old now new all one)

  pub source_found : slice_get (map view xs) i ≡ Some (view x)
  source_found = slice_get-get_or (map view xs) i (view x) few ∙ ap (λ (s : StoreSourceState). Some s) source_is

pub one_of : {X : Type 0} (P : X → Type 0) (ss : List X) (i : ℕ) (s : X) → slice_get ss i ≡ Some s → AllByRecursion P ss → P s
one_of P [] i s found all = absurd (cc)
one_of P (t ∷ ss) zero s found all = let same : t ≡ s = cc in subst P same all.0
one_of P (t ∷ ss) (suc i) s found all = one_of P ss i s found all.1

-- ---- why they can't be stored
all_sound : (ss : List StoreSourceState) (each : List (List (List ℕ))) → AllZip Reads ss each → AllByRecursion IsSound ss
all_sound [] [] all = tt
all_sound [] (ds ∷ each) all = absurd all
all_sound (s ∷ ss) [] all = absurd all
all_sound (s ∷ ss) (ds ∷ each) all = ((ds, all.0), all_sound ss each all.1)

living_to : (ss : List StoreSourceState) (i : ℕ) (s : StoreSourceState) → slice_get ss i ≡ Some s → num_living_of (take i ss) + num_living s.alive ≤ num_living_of ss
living_to [] i s found = absurd (cc)
living_to (t ∷ ss) zero s found = let same : t ≡ s = cc in let many = ap (λ (u : StoreSourceState). num_living u.alive) same in omega (arith, many)
living_to (t ∷ ss) (suc i) s found = let rest = living_to ss i s found in omega (arith, rest)

source_fault : (ss : List StoreSourceState) (i : ℕ) (s : StoreSourceState) (old now : StoreWriterState) (fault : StoreMergeFault) → slice_get ss i ≡ Some s → (all : StoresAll (take i ss) old now) → IsSourceFault (length ([] ++ all.documents)) i s fault
    → IsStoreMergeFault ss fault
source_fault ss i s old now (Output fault) found all cause = cause
source_fault ss i s old now (Read p fault) found all cause = cause.1
source_fault ss i s old now (Damaged p damage) found all cause =
    rw cause.0 (record { store = s; found = found; damaged = cause.1; before = all_sound (take i ss) all.are.each all.are.read })
source_fault ss i s old now (DocumentLen p) found all cause = rw (cause.0, found) cause.1
source_fault ss i s old now NumDocs found all cause = let many = all.count in let within = living_to ss i s found in omega (arith, many, within, cause)

-- why they can't be stored through a writer
pub source_fault_or : (ss : List StoreSourceState) (i : ℕ) (s : StoreSourceState) (old now : StoreWriterState) (fault : StoreMergeFault) → slice_get ss i ≡ Some s → (all : StoresAll (take i ss) old now) → OrWriterFailed (IsSourceFault (length ([] ++ all.documents)) i s) fault
    → OrWriterFailed (IsStoreMergeFault ss) fault
source_fault_or ss i s old now fault found all cause = ⊎_elim (λ write. inl write) (λ known. inr (source_fault ss i s old now fault found all known)) cause

-- ---- stores that hold documents
all_given : (D : ℕ → Result (List ℕ) StoreDamage) (f : ℕ → List ℕ) (p : ℕ → Bool) (docs : List ℕ) → ((doc : ℕ) → p doc ≡ true → D doc ≡ Ok (f doc)) → all_read (map D (filter p docs)) ≡ Ok (map f (filter p docs))
all_given D f p [] each = refl
all_given D f p (doc ∷ docs) each = by (p doc) refl (all_given D f p docs each)
  where
    by : (b : Bool) → p doc ≡ b → all_read (map D (filter p docs)) ≡ Ok (map f (filter p docs)) → all_read (map D (filter p (doc ∷ docs))) ≡ Ok (map f (filter p (doc ∷ docs)))
    by true living rest = rw (living, each doc living, rest) refl
    by false dead rest = rw (dead, rest) refl

pub source_read : (s : StoreSourceState) (d : SegmentDocuments) → FitsFlags s → SourceHolds s d → documents_of_source s ≡ Ok (living_documents d)
source_read s d fits h =
    let cs = s.store.checkpoints in
    let known : h.store.checkpoints ≡ cs = let first = h.store.index in let second = h.index in cc in
    let many : num_docs cs ≡ length d.documents = ap (λ (c : List Checkpoint). num_docs c) (sym known) ∙ h.store.count in
    all_given (document_of s.store.bytes cs) (λ (doc : ℕ). get_or d.documents doc []) (is_living s.alive) (range_with_len 0 (length s.alive)) (λ doc living.
    let low = living_within s.alive doc living in
    subst (λ (c : List Checkpoint). document_of s.store.bytes c doc ≡ Ok (get_or d.documents doc [])) known (h.store.each doc (omega (arith, low, many, fits))))
    ∙ ap (λ (alive : List Bool). Ok (living_documents (record { alive = alive; documents = d.documents }))) h.alive

pub merged_held : (ss : List StoreSourceState) (ds : List SegmentDocuments) (each : List (List (List ℕ))) → AllByRecursion FitsFlags ss → AllZip SourceHolds ss ds → AllZip Reads ss each → flat_map (λ (xs : List (List ℕ)). xs) each ≡ documents_of_segments ds
merged_held [] [] [] fit hold read = refl
merged_held [] [] (e ∷ es) fit hold read = absurd read
merged_held [] (d ∷ ds) each fit hold read = absurd hold
merged_held (s ∷ ss) [] each fit hold read = absurd hold
merged_held (s ∷ ss) (d ∷ ds) [] fit hold read = absurd read
merged_held (s ∷ ss) (d ∷ ds) (e ∷ es) fit hold read =
    let same : e ≡ living_documents d = inside (sym read.0 ∙ source_read s d fit.0 hold.0) in
    ap (λ (xs : List (List ℕ)). xs ++ flat_map (λ (ys : List (List ℕ)). ys) es) same ∙ ap (λ (xs : List (List ℕ)). living_documents d ++ xs) (merged_held ss ds es fit.1 hold.1 read.1)
  where
    inside : {xs ys : List (List ℕ)} → ◌≡◌ {A = Result (List (List ℕ)) StoreDamage} (Ok xs) (Ok ys) → xs ≡ ys
    inside e = cc

none_damaged : (ss : List StoreSourceState) (ds : List SegmentDocuments) (i : ℕ) (s : StoreSourceState) (damage : StoreDamage) → AllByRecursion FitsFlags ss → AllZip SourceHolds ss ds → slice_get ss i ≡ Some s → documents_of_source s ≡ Err damage → ⊥
none_damaged [] ds i s damage fit hold found failed = absurd (cc)
none_damaged (t ∷ ss) [] i s damage fit hold found failed = absurd hold
none_damaged (t ∷ ss) (d ∷ ds) zero s damage fit hold found failed = let same : t ≡ s = cc in let read = source_read t d fit.0 hold.0 in let other : documents_of_source t ≡ Err damage = ap documents_of_source same ∙ failed in absurd (cc)
none_damaged (t ∷ ss) (d ∷ ds) (suc i) s damage fit hold found failed = none_damaged ss ds i s damage fit.1 hold.1 found failed

pub undamaged : (ss : List StoreSourceState) (ds : List SegmentDocuments) (fault : StoreMergeFault) → AllByRecursion FitsFlags ss → AllZip SourceHolds ss ds → IsStoreMergeFault ss fault → IsStoreDamage fault → ⊥
undamaged ss ds (Output fault) fit hold cause damage = damage
undamaged ss ds (Read place fault) fit hold cause damage = damage
undamaged ss ds (Damaged place d) fit hold cause damage = none_damaged ss ds place cause.store d fit hold cause.found cause.damaged
undamaged ss ds (DocumentLen place) fit hold cause damage = damage
undamaged ss ds NumDocs fit hold cause damage = damage

-- stores in memory can be read
pub all_readable : (xs : List (StoreSource (List ℕ))) → AllByRecursion (IsReadable (λ (bytes : List ℕ). Some bytes) (λ (bytes : List ℕ). ⊤)) xs
all_readable [] = tt
all_readable (x ∷ xs) = (record { known = refl; sound = tt }, all_readable xs)

-- ---- the file
pub all_of : (ss : List StoreSourceState) (n : ℕ) (old new : StoreWriterState) → length ss ≤ n → StoresAll (take n ss) old new → StoresAll ss old new
all_of ss n old new many all = subst (λ (us : List StoreSourceState). StoresAll us old new) (take_all n ss many) all

-- the file of a writer to memory
pub whole_file : (bytes items : List ℕ) (start now : Option (List ℕ)) → start ≡ Some [] → Some items ≡ now → Appends start now bytes → bytes ≡ items
whole_file bytes items None now empty is h = absurd (cc)
whole_file bytes items (Some xs) None empty is h = absurd (cc)
whole_file bytes items (Some xs) (Some ys) empty is h = let none : xs ≡ [] = cc in let same : ys ≡ items = cc in sym (rw none at h) ∙ same

-- a merged store holds the living documents
pub holds_given : (ss : List StoreSourceState) (ds : List SegmentDocuments) (items : List ℕ) → AllByRecursion FitsFlags ss → AllZip SourceHolds ss ds → IsMergedStore ss items → HoldsDocuments items (documents_of_segments ds)
holds_given ss ds items fit hold h = subst (HoldsDocuments items) (h.are.joined ∙ merged_held ss ds h.are.each fit hold h.are.read) h.holds

-- the store that was written of the living documents of stores
pub wrote_merged : (ss : List StoreSourceState) (initial new : CountingWriterState) (old now : StoreWriterState) → AllByRecursion FitsFlags ss → (all : StoresAll ss old now) → WroteStore initial new all.documents → WroteMergedStore ss initial new
wrote_merged ss initial new old now fit all wrote =
    let merged : IsMergedStore ss (store_bytes all.documents) = record { documents = all.documents; are = all.are; is = refl; holds = wrote.holds } in
    record { bytes = store_bytes all.documents; wrote = wrote.wrote; is = merged; holds = λ ds hold. holds_given ss ds (store_bytes all.documents) fit hold merged }

-- stores that hold documents have no damage
pub undamaged_or : (ss : List StoreSourceState) (ds : List SegmentDocuments) (fault : StoreMergeFault) → AllByRecursion FitsFlags ss → AllZip SourceHolds ss ds → OrWriterFailed (IsStoreMergeFault ss) fault → IsStoreDamage fault → ⊥
undamaged_or ss ds (Output fault) fit hold cause damage = damage
undamaged_or ss ds (Read place fault) fit hold cause damage = damage
undamaged_or ss ds (Damaged place d) fit hold cause damage = ⊎_elim (λ write. absurd (cc)) (λ known. undamaged ss ds (Damaged place d) fit hold known damage) cause
undamaged_or ss ds (DocumentLen place) fit hold cause damage = damage
undamaged_or ss ds NumDocs fit hold cause damage = damage
