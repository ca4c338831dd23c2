-- Stored documents that are opened to be merged, and what the merged file holds.
use Rattle.std.proofs.Common.{◌≡◌, ℕ, zero, suc, ◌+◌, ◌<◌, ◌≤◌, ◌==◌, Bool, true, false, List, [], ◌∷◌, ◌++◌, get_or, length, map, take, Option, None, Some, Result, Ok, Err, inl, inr, refl, sym, ap, subst, ◌∙◌, arith, length-append, Vec, Global}
use Rattle.std.specs.Prelude.{◌||◌, IfSome, IsSomeAnd, if◌then◌else◌, is_none, slice_get}
use Rattle.std.specs.List.{AllByRecursion, AllZip, list_any}
use Rattle.std.specs.Option.{option_map}
use Rattle.std.proofs.lemmas.Bool.{eq-eqb, eqb-true}
use Rattle.std.proofs.lemmas.List.{get_or-map, length-map, map-append, take_all, take_more}
use Rattle.std.proofs.lemmas.Option.{slice_get-get_or}
use Rattle.ii_alive.specs.Alive.{num_living}
use Rattle.ii_doc_store.specs.declared.checkpoint.Checkpoint.{Checkpoint}
use Rattle.ii_doc_store.specs.declared.faults.StoreDamage.{StoreDamage}
use Rattle.ii_doc_store.specs.declared.faults.StoreDamage.TheVariants.{Index}
use Rattle.ii_block_file.specs.declared.faults.ReadFault.{ReadFault}
use Rattle.ii_block_file.specs.declared.faults.ReadFault.TheVariants as reads
use Rattle.ii_doc_store.specs.declared.faults.StoreFileFault.{StoreFileFault}
use Rattle.ii_doc_store.specs.declared.faults.StoreFileFault.TheVariants as opens
use Rattle.ii_doc_store.specs.StoreReader.{HoldsDocuments, index_of, num_docs}
use Rattle.ii_doc_store_merger.specs.declared.faults.StoreMergeFault.{StoreMergeFault}
use Rattle.ii_doc_store_merger.specs.declared.faults.StoreMergeFault.TheVariants as merges
use Rattle.ii_doc_store_merger.specs.StoreSources.{FitsFlags, IsStoreMergeFault, SegmentDocuments, SourceHolds, StoreSourceState, documents_of_segments, living_documents}
use Rattle.ii_doc_store_merger.proofs.MergeLemmas.{documents_length, holds_given, undamaged}
use Rattle.nequllpa_merging.specs.declared.faults.MergeFault.TheVariants as faults
use Rattle.nequllpa_merging.specs.StoredDocuments.{AreOpenStores, HasMergedStore, HasStore, HoldsSomeDocuments, HoldsStored, IsFirstDamagedIndex, IsOpenStoresFault, IsStoresFault, OpensStore, StoredFile, fitting_store, read_fault, store_fault, store_in, stores_fault}

-- ---- one file more
zip_more : (fs : List StoredFile) (ss : List StoreSourceState) (f : StoredFile) (s : StoreSourceState) → AllZip OpensStore fs ss → OpensStore f s → AllZip OpensStore (fs ++ f ∷ []) (ss ++ s ∷ [])
zip_more [] [] f s all is = (is, tt)
zip_more [] (t ∷ ss) f s all is = absurd all
zip_more (g ∷ fs) [] f s all is = absurd all
zip_more (g ∷ fs) (t ∷ ss) f s all is = (all.0, zip_more fs ss f s all.1 is)

all_have : (fs : List StoredFile) (ss : List StoreSourceState) → AllZip OpensStore fs ss → AllByRecursion HasStore fs
all_have [] [] all = tt
all_have [] (s ∷ ss) all = absurd all
all_have (f ∷ fs) [] all = absurd all
all_have (f ∷ fs) (s ∷ ss) all = ((s, all.0), all_have fs ss all.1)

module _ {A Y : Type 0} (view : A → StoredFile) (source : Y → StoreSourceState) (xs : List A) (i : ℕ) (x : A) (inside : i < length xs) (is : x ≡ get_or xs i x) where
  abbrev files : List StoredFile
  files = map view xs

  few : i < length files
  few = omega (arith, inside, length-map xs view)

  file_is : get_or files i (view x) ≡ view x
  file_is = get_or-map view xs i x (view x) inside ∙ ap view (sym is)

  found : slice_get files i ≡ Some (view x)
  found = slice_get-get_or files i (view x) few ∙ ap (λ (f : StoredFile). Some f) file_is

  next : take (i + 1) files ≡ take i files ++ view x ∷ []
  next = take_more files i (view x) few ∙ ap (λ (f : StoredFile). take i files ++ f ∷ []) file_is

  pub opened_more : (made new : List Y) (y : Y) (o : Option Y) → o ≡ Some y → new ≡ made ++ y ∷ [] → store_in (view x) ≡ option_map (λ (s : Y). Ok (source s)) o
      → AllZip OpensStore (take i files) (map source made) → AllZip OpensStore (take (i + 1) files) (map source new)
  opened_more made new y o some pushed opens so_far =
      let own : store_in (view x) ≡ Some (Ok (source y)) = opens ∙ ap (option_map (λ (s : Y). Ok (source s))) some in
      let ends = ap (map source) pushed ∙ map-append source made (y ∷ []) in
      subst (λ (fs : List StoredFile). AllZip OpensStore fs (map source new)) (sym next)
      (subst (AllZip OpensStore (take i files ++ view x ∷ [])) (sym ends) (zip_more (take i files) (map source made) (view x) (source y) so_far own))

  pub first_index : (made : List Y) (damage : StoreDamage) → store_in (view x) ≡ Some (Err damage) → AllZip OpensStore (take i files) (map source made) → IsFirstDamagedIndex files i damage
  first_index made damage damaged so_far = record { file = view x; found = found; damaged = damaged; before = all_have (take i files) (map source made) so_far }

-- a file is missing
no_bytes : (f : StoredFile) → store_in f ≡ None → is_none f.bytes ≡ true
no_bytes f is = by f.bytes is
  where
    by : (o : Option (List ℕ)) → option_map (λ (bytes : List ℕ). fitting_store bytes f.alive (index_of bytes)) o ≡ None → is_none o ≡ true
    by None is = refl
    by (Some bytes) is = absurd (cc)

any_at : (p : StoredFile → Bool) (fs : List StoredFile) (i : ℕ) (f : StoredFile) → slice_get fs i ≡ Some f → p f ≡ true → list_any p fs ≡ true
any_at p [] i f found is = absurd (cc)
any_at p (g ∷ fs) zero f found is = let same : g ≡ f = cc in let here : p g ≡ true = ap p same ∙ is in rw here refl
any_at p (g ∷ fs) (suc i) f found is = by (p g) (any_at p fs i f found is)
  where
    by : (b : Bool) → list_any p fs ≡ true → (b || list_any p fs) ≡ true
    by true rest = refl
    by false rest = rest

pub one_missing : {A Y : Type 0} (view : A → StoredFile) (source : Y → StoreSourceState) (xs : List A) (i : ℕ) (x : A) (o : Option Y) → i < length xs → x ≡ get_or xs i x → o ≡ None → store_in (view x) ≡ option_map (λ (s : Y). Ok (source s)) o
    → list_any (λ (f : StoredFile). is_none f.bytes) (map view xs) ≡ true
one_missing view source xs i x o inside is none opens =
    any_at (λ (f : StoredFile). is_none f.bytes) (map view xs) i (view x) (found view source xs i x inside is) (no_bytes (view x) (opens ∙ ap (option_map (λ (s : _). Ok (source s))) none))

pub all_opened : (fs : List StoredFile) (n : ℕ) (ss : List StoreSourceState) → length fs ≤ n → AllZip OpensStore (take n fs) ss → AllZip OpensStore fs ss
all_opened fs n ss many all = subst (λ (gs : List StoredFile). AllZip OpensStore gs ss) (take_all n fs many) all

-- why an index isn't opened
pub index_fault : {A Y : Type 0} (view : A → StoredFile) (source : Y → StoreSourceState) (xs : List A) (i : ℕ) (x : A) (made : List Y) (fault : StoreFileFault) → i < length xs → x ≡ get_or xs i x
    → ((damage : StoreDamage) → fault ≡ opens.Damaged damage → store_in (view x) ≡ Some (Err damage)) → ((e : ReadFault) → fault ≡ opens.Read e → e ≡ reads.OutOfMemory)
    → AllZip OpensStore (take i (map view xs)) (map source made) → IsOpenStoresFault (map view xs) (store_fault i fault)
index_fault view source xs i x made (opens.Damaged damage) inside is damaged memory so_far = first_index view source xs i x inside is made damage (damaged damage refl) so_far
index_fault view source xs i x made (opens.Read e) inside is damaged memory so_far = subst (λ (f : ReadFault). IsOpenStoresFault (map view xs) (read_fault i f)) (sym (memory e refl)) refl

-- ---- an open store
pub record IsOpenedStore (f : StoredFile) (s : StoreSourceState) : Type 0 where
  pub bytes : List ℕ
  pub file : f.bytes ≡ Some bytes
  pub same : s.store.bytes ≡ bytes
  pub index : index_of bytes ≡ Ok s.store.checkpoints
  pub fits : num_docs s.store.checkpoints ≡ length f.alive
  pub flags : s.alive ≡ f.alive

opened_is : (f : StoredFile) (s : StoreSourceState) → OpensStore f s → IsOpenedStore f s
opened_is f s is = by f.bytes refl is
  where
    made : (bytes : List ℕ) (cs : List Checkpoint) (b : Bool) → f.bytes ≡ Some bytes → index_of bytes ≡ Ok cs → (num_docs cs == length f.alive) ≡ b
        → ◌≡◌ {A = Result StoreSourceState StoreDamage} (if b then Ok (record { store = record { bytes = bytes; checkpoints = cs }; alive = f.alive }) else Err Index) (Ok s) → IsOpenedStore f s
    made bytes cs true file index same is =
        let e : record { store = record { bytes = bytes; checkpoints = cs }; alive = f.alive } ≡ s = cc in
        subst (IsOpenedStore f) e (record { bytes = bytes; file = file; same = refl; index = index; fits = eqb-true (num_docs cs) (length f.alive) same; flags = refl })
    made bytes cs false file index same is = absurd (cc)

    read : (bytes : List ℕ) (r : Result (List Checkpoint) StoreDamage) → f.bytes ≡ Some bytes → index_of bytes ≡ r → fitting_store bytes f.alive r ≡ Ok s → IsOpenedStore f s
    read bytes (Err damage) file index is = absurd (cc)
    read bytes (Ok cs) file index is = made bytes cs (num_docs cs == length f.alive) file index refl is

    by : (o : Option (List ℕ)) → f.bytes ≡ o → option_map (λ (bytes : List ℕ). fitting_store bytes f.alive (index_of bytes)) o ≡ Some (Ok s) → IsOpenedStore f s
    by None file is = absurd (cc)
    by (Some bytes) file is = read bytes (index_of bytes) file refl (cc)

pub all_fit : (fs : List StoredFile) (ss : List StoreSourceState) → AllZip OpensStore fs ss → AllByRecursion FitsFlags ss
all_fit [] [] all = tt
all_fit [] (s ∷ ss) all = absurd all
all_fit (f ∷ fs) [] all = absurd all
all_fit (f ∷ fs) (s ∷ ss) all = let h = opened_is f s all.0 in (h.fits ∙ ap length (sym h.flags), all_fit fs ss all.1)

-- what holds of the sources holds of those that are given to the merge
pub given : {A : Type 0} (P : List A → Type 0) (found : Option (Vec A Global)) (sources : Vec A Global) (items : List A) → IfSome found (λ v. P v.items) → found ≡ Some sources → items ≡ sources.items → P items
given P found sources items all some same = subst P (sym same) (subst (λ (o : Option (Vec _ Global)). IfSome o (λ v. P v.items)) some all)

pub given_opens : {Y : Type 0} (source : Y → StoreSourceState) (fs : List StoredFile) (found : Option (Vec Y Global)) (sources : Vec Y Global) (items : List Y) → AreOpenStores fs (option_map (λ v. map source v.items) found) → found ≡ Some sources → items ≡ sources.items
    → AllZip OpensStore fs (map source items)
given_opens source fs found sources items opened some same =
    subst (λ (xs : List _). AllZip OpensStore fs (map source xs)) (sym same) (subst (λ (o : Option (Vec _ Global)). AreOpenStores fs (option_map (λ v. map source v.items) o)) some opened)

-- why open stores aren't merged
pub stores_refused : (fs : List StoredFile) (ss : List StoreSourceState) (fault : StoreMergeFault) → AllZip OpensStore fs ss → IsStoreMergeFault ss fault → IsStoresFault fs (stores_fault fault)
stores_refused fs ss (merges.Output fault) opens cause = cause
stores_refused fs ss (merges.Read place fault) opens cause = subst (λ (f : ReadFault). IsStoresFault fs (read_fault place f)) (sym cause) (inl refl)
stores_refused fs ss (merges.Damaged place damage) opens cause = inr (ss, opens, cause)
stores_refused fs ss (merges.DocumentLen place) opens cause = (ss, opens, cause)
stores_refused fs ss merges.NumDocs opens cause = (ss, opens, cause)

-- ---- what is held
held_some : (file : Option (List ℕ)) (bytes : List ℕ) (P : List ℕ → Type 0) → file ≡ Some bytes → IsSomeAnd file P → P bytes
held_some None bytes P is h = absurd h
held_some (Some b) bytes P is h = let same : b ≡ bytes = cc in subst P same h

source_holds : (f : StoredFile) (s : StoreSourceState) (d : SegmentDocuments) → OpensStore f s → HoldsStored f d → SourceHolds s d
source_holds f s d opens h =
    let o = opened_is f s opens in
    record {
      store = subst (λ (b : List ℕ). HoldsDocuments b d.documents) (sym o.same) (held_some f.bytes o.bytes (λ b. HoldsDocuments b d.documents) o.file h.store);
      index = ap index_of o.same ∙ o.index;
      alive = o.flags ∙ h.alive;
    }

sources_hold : (fs : List StoredFile) (ss : List StoreSourceState) (ds : List SegmentDocuments) → AllZip OpensStore fs ss → AllZip HoldsStored fs ds → AllZip SourceHolds ss ds
sources_hold [] [] [] opens hold = tt
sources_hold [] [] (d ∷ ds) opens hold = absurd hold
sources_hold [] (s ∷ ss) ds opens hold = absurd opens
sources_hold (f ∷ fs) [] ds opens hold = absurd opens
sources_hold (f ∷ fs) (s ∷ ss) [] opens hold = absurd hold
sources_hold (f ∷ fs) (s ∷ ss) (d ∷ ds) opens hold = (source_holds f s d opens.0 hold.0, sources_hold fs ss ds opens.1 hold.1)

none_missing : (fs : List StoredFile) (ds : List SegmentDocuments) → AllZip HoldsStored fs ds → list_any (λ (f : StoredFile). is_none f.bytes) fs ≡ true → ⊥
none_missing [] ds hold any = absurd (cc)
none_missing (f ∷ fs) [] hold any = absurd hold
none_missing (f ∷ fs) (d ∷ ds) hold any = by f.bytes hold.0.store any (none_missing fs ds hold.1)
  where
    by : (o : Option (List ℕ)) → IsSomeAnd o (λ bytes. HoldsDocuments bytes d.documents) → (is_none o || list_any (λ (g : StoredFile). is_none g.bytes) fs) ≡ true → (list_any (λ (g : StoredFile). is_none g.bytes) fs ≡ true → ⊥) → ⊥
    by None h any rest = absurd h
    by (Some bytes) h any rest = rest any

-- the merged file holds the living documents
pub stored_merged : (fs : List StoredFile) (ds : List SegmentDocuments) (file : Option (List ℕ)) → AllZip HoldsStored fs ds → HasMergedStore fs file → IsSomeAnd file (λ bytes. HoldsDocuments bytes (documents_of_segments ds))
stored_merged fs ds None hold merged = absurd (none_missing fs ds hold merged)
stored_merged fs ds (Some bytes) hold merged = holds_given merged.0 ds bytes (all_fit fs merged.0 merged.1) (sources_hold fs merged.0 ds merged.1 hold) merged.2

-- how many documents are alive
abbrev pub living_in : List StoredFile → ℕ
living_in [] = 0
living_in (f ∷ fs) = num_living f.alive + living_in fs

pub documents_count : (fs : List StoredFile) (ds : List SegmentDocuments) → AllZip HoldsStored fs ds → length (documents_of_segments ds) ≡ living_in fs
documents_count [] [] hold = refl
documents_count [] (d ∷ ds) hold = absurd hold
documents_count (f ∷ fs) [] hold = absurd hold
documents_count (f ∷ fs) (d ∷ ds) hold =
    let rest = documents_count fs ds hold.1 in
    let same = ap num_living hold.0.alive in
    omega (arith, length-append (living_documents d) (documents_of_segments ds), documents_length d, rest, same)

-- ---- files of some documents
abbrev pub HoldsCount : StoredFile → ℕ → Type 0
HoldsCount f n = HoldsSomeDocuments f.bytes n × (length f.alive ≡ n)

pub record HasDocuments (fs : List StoredFile) : Type 0 where
  pub documents : List SegmentDocuments
  pub hold : AllZip HoldsStored fs documents

some_documents : (f : StoredFile) (n : ℕ) (s : StoreSourceState) → HoldsCount f n → OpensStore f s → (d : SegmentDocuments) × HoldsStored f d
some_documents f n s h opens = let o = opened_is f s opens in by f.bytes o.bytes refl o.file h.0
  where
    by : (file : Option (List ℕ)) (bytes : List ℕ) → f.bytes ≡ file → file ≡ Some bytes → HoldsSomeDocuments file n → (d : SegmentDocuments) × HoldsStored f d
    by None bytes same is held = absurd (cc)
    by (Some b) bytes same is held =
        let (documents, holds, count) = held in
        (record { alive = f.alive; documents = documents }, record { store = subst (λ (o : Option (List ℕ)). IsSomeAnd o (λ x. HoldsDocuments x documents)) (sym same) holds; alive = refl; count = count ∙ sym h.1 })

pub have_documents : (fs : List StoredFile) (ns : List ℕ) (ss : List StoreSourceState) → AllZip HoldsCount fs ns → AllZip OpensStore fs ss → HasDocuments fs
have_documents [] [] [] hold opens = record { documents = []; hold = tt }
have_documents [] [] (s ∷ ss) hold opens = absurd opens
have_documents [] (n ∷ ns) ss hold opens = absurd hold
have_documents (f ∷ fs) [] ss hold opens = absurd hold
have_documents (f ∷ fs) (n ∷ ns) [] hold opens = absurd opens
have_documents (f ∷ fs) (n ∷ ns) (s ∷ ss) hold opens =
    let (d, held) = some_documents f n s hold.0 opens.0 in
    let rest = have_documents fs ns ss hold.1 opens.1 in
    record { documents = d ∷ rest.documents; hold = (held, rest.hold) }

pub some_merged : (fs : List StoredFile) (ns : List ℕ) (file : Option (List ℕ)) → AllZip HoldsCount fs ns → HasMergedStore fs file → HoldsSomeDocuments file (living_in fs)
some_merged fs ns None hold merged = tt
some_merged fs ns (Some bytes) hold merged =
    let h = have_documents fs ns merged.0 hold merged.1 in
    (documents_of_segments h.documents, stored_merged fs h.documents (Some bytes) h.hold merged, documents_count fs h.documents h.hold)

-- ---- files of some documents aren't called damaged
sound_file : (f : StoredFile) (n : ℕ) (damage : StoreDamage) → HoldsCount f n → store_in f ≡ Some (Err damage) → ⊥
sound_file f n damage h is = by f.bytes h.0 is
  where
    by : (o : Option (List ℕ)) → HoldsSomeDocuments o n → option_map (λ (bytes : List ℕ). fitting_store bytes f.alive (index_of bytes)) o ≡ Some (Err damage) → ⊥
    by None held is = absurd (cc)
    by (Some bytes) held is =
        let (documents, holds, count) = held in
        let many = holds.count in
        let fits : (num_docs holds.checkpoints == length f.alive) ≡ true = eq-eqb (num_docs holds.checkpoints) (length f.alive) (many ∙ count ∙ sym h.1) in
        let sound : fitting_store bytes f.alive (index_of bytes) ≡ Ok (record { store = record { bytes = bytes; checkpoints = holds.checkpoints }; alive = f.alive }) = rw (holds.index, fits) refl in
        absurd (cc)

sound_at : (fs : List StoredFile) (ns : List ℕ) (i : ℕ) (f : StoredFile) (damage : StoreDamage) → AllZip HoldsCount fs ns → slice_get fs i ≡ Some f → store_in f ≡ Some (Err damage) → ⊥
sound_at [] ns i f damage hold found is = absurd (cc)
sound_at (g ∷ fs) [] i f damage hold found is = absurd hold
sound_at (g ∷ fs) (n ∷ ns) zero f damage hold found is = let same : g ≡ f = cc in sound_file g n damage hold.0 (ap store_in same ∙ is)
sound_at (g ∷ fs) (n ∷ ns) (suc i) f damage hold found is = sound_at fs ns i f damage hold.1 found is

pub stores_undamaged : (fs : List StoredFile) (ns : List ℕ) (place : ℕ) (damage : StoreDamage) → AllZip HoldsCount fs ns → IsStoresFault fs (faults.Store place damage) → ⊥
stores_undamaged fs ns place damage hold (inl first) = sound_at fs ns place first.file damage hold first.found first.damaged
stores_undamaged fs ns place damage hold (inr (ss, opens, first)) =
    let h = have_documents fs ns ss hold opens in
    undamaged ss h.documents (merges.Damaged place damage) (all_fit fs ss opens) (sources_hold fs ss h.documents opens h.hold) first tt
