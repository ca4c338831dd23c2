-- The norms of all documents, as they are written in the end.
use Rattle.std.proofs.Common.{◌≡◌, ℕ, zero, suc, ◌+◌, ◌-◌, ◌*◌, ◌^◌, ◌<◌, ◌≤◌, ◌==◌, Bool, true, false, List, [], ◌∷◌, ◌++◌, map, length, take, filter, Option, Some, None, refl, sym, ap, ◌∙◌, subst, arith, length-append, ⊎_elim}
use Rattle.std.specs.Prelude.{IfSome, is_some, slice_get, if◌then◌else◌}
use Rattle.std.specs.List.{enumerate_from}
use Rattle.std.specs.Option.{option_map}
use Rattle.std.proofs.lemmas.Bool.{eqb-true, eqb-false}
use Rattle.std.proofs.lemmas.List.{length-map}
use Rattle.std.specs.Io.KnownBytes.{Appends}
use Rattle.std.specs.Prelude.{Err, Result}
use Rattle.ii_io.specs.Composite.{Body, bodies_bytes, body_of, composite, places_from, table_bytes, written_composite}
use Rattle.ii_io.proofs.CompositeLaws.{length-places_from}
use Rattle.ii_io.proofs.CompositeWriteLemmas.{length-table_bytes}
use Rattle.ii_io.specs.CountingWriter.{CountingWriterState, IsFull, WritesInMemory}
use Rattle.ii_io.specs.Faults.{memory_fault}
use Rattle.ii_io.specs.declared.faults.Fault.{Fault}
use Rattle.ii_io.specs.declared.faults.Fault.TheVariants.{OutOfMemory, Write, SerializerClosed, IndexerFailed, UnsupportedLeaf, DecreasingPosition, Limit, Damaged}
use Rattle.ii_io.specs.declared.faults.LimitName.TheVariants.{Offset}
use Rattle.ii_base.specs.Schema.{SchemaEntry, keeps_norms}
use Rattle.ii_base.specs.declared.doc_id.TheConstants.{TERMINATED}
use Rattle.ii_fieldnorm.specs.Buffers.{Buffers, buffer_of, filled, filled_buffers, norm_bodies, norm_bodies_from, recorded, recorded_buffers, WroteNorms}
use Rattle.ii_fieldnorm.specs.Norms.{id_of_norm}
use Rattle.ii_fieldnorm.proofs.WrittenNorms.{body_of-norm_bodies}
use Rattle.ii_definitions.specs.Postings.{doc_count}
use Rattle.ii_definitions.specs.Tokens.{IndexToken, Piece}
use Rattle.ii_definitions.specs.Norms.{HoldNorms, has_norms, norm_body, norm_file, norm_ids}
use Rattle.ii_indexing.specs.OpenDocuments.{AreBehind, AreClosed, OpenDocumentsState, Tells, TellsAll, closed_norms, with_norms}
use Rattle.ii_indexing.specs.declared.open_documents.OpenDocument.{OpenDocument}
use Rattle.ii_indexing.proofs.FinishLaws.{with_length}
use Rattle.ii_indexing.proofs.DocumentLaws.{buffer_other, buffer_set, norms_recorded}
use Rattle.ii_fieldnorm.proofs.FilledLaws.{filled_is, length_filled}

take_here : {A : Type 0} (xs : List A) (k : ℕ) (x : A) → slice_get xs k ≡ Some x → slice_get (take (suc k) xs) k ≡ Some x
take_here [] k x is = absurd (cc)
take_here (y ∷ ys) zero x is = is
take_here (y ∷ ys) (suc k) x is = take_here ys k x is

take_other : {A : Type 0} (xs : List A) (k i : ℕ) → (k == i) ≡ false → slice_get (take (suc k) xs) i ≡ slice_get (take k xs) i
take_other [] zero i other = refl
take_other [] (suc k) i other = refl
take_other (x ∷ xs) zero zero other = absurd (eqb-false 0 0 other refl)
take_other (x ∷ xs) zero (suc i) other = refl
take_other (x ∷ xs) (suc k) zero other = refl
take_other (x ∷ xs) (suc k) (suc i) other = take_other xs k i (grind (arith, other))

take_past : {A : Type 0} (xs : List A) (k : ℕ) → slice_get (take k xs) k ≡ None
take_past [] zero = refl
take_past [] (suc k) = refl
take_past (x ∷ xs) zero = refl
take_past (x ∷ xs) (suc k) = take_past xs k

module _ (ds : List OpenDocument) (old now : Buffers) (k : ℕ) (d : OpenDocument) (at : slice_get ds k ≡ Some d) (closes : AreClosed (take k ds) old now) where
  still : buffer_of k now ≡ buffer_of k old
  still = closes k ∙ ap (λ (o : Option OpenDocument). closed_norms o (buffer_of k old)) (take_past ds k)

  -- the norms of the next field lie before its open document
  pub may_close : AreBehind (record { documents = ds; norms = old }) → IfSome (buffer_of k now) (λ (ids : List ℕ). length ids ≤ d.doc)
  may_close behind = subst (λ (o : Option (List ℕ)). IfSome o (λ (ids : List ℕ). length ids ≤ d.doc)) (sym still) (behind k d at)

  -- that document was closed
  pub one_closed : AreClosed (take (suc k) ds) old (recorded_buffers k d.doc d.norm now)
  one_closed field = by (k == field) refl
    where
      by : (b : Bool) → (k == field) ≡ b → buffer_of field (recorded_buffers k d.doc d.norm now) ≡ closed_norms (slice_get (take (suc k) ds) field) (buffer_of field old)
      by true same =
          subst (λ (f : ℕ). buffer_of f (recorded_buffers k d.doc d.norm now) ≡ closed_norms (slice_get (take (suc k) ds) f) (buffer_of f old)) (eqb-true k field same)
          (buffer_set now k (recorded d.doc d.norm) ∙ ap (option_map (recorded d.doc d.norm)) still ∙ sym (ap (λ (o : Option OpenDocument). closed_norms o (buffer_of k old)) (take_here ds k d at)))
      by false other =
          buffer_other now k field (option_map (recorded d.doc d.norm) (buffer_of k now)) other ∙ closes field
          ∙ sym (ap (λ (o : Option OpenDocument). closed_norms o (buffer_of field old)) (take_other ds k field other))

-- the norms of a field once its open document is closed
closed_ids : (field : ℕ) (ps : List Piece) (ts : List IndexToken) (d : OpenDocument) (ids : List ℕ) (n : ℕ) → length ids ≤ d.doc → Tells field ps ts d (Some ids) → filled n (recorded d.doc d.norm ids) ≡ norm_ids n field ts
closed_ids field ps ts d ids n behind h =
    let known = norms_recorded field ts d (d.doc + n + 1) ids (omega arith) behind h.count h.norms in
    filled_is (λ (doc : ℕ). id_of_norm (doc_count doc field ts)) n 0 (recorded d.doc d.norm ids) (λ x low. known x (omega (arith, low)) ∙ ap (λ (doc : ℕ). id_of_norm (doc_count doc field ts)) (omega arith))

filled_buffer : (bs : Buffers) (field n : ℕ) → buffer_of field (filled_buffers n bs) ≡ option_map (filled n) (buffer_of field bs)
filled_buffer [] field n = refl
filled_buffer (b ∷ bs) zero n = refl
filled_buffer (b ∷ bs) (suc field) n = filled_buffer bs field n

none_past : (bs : Buffers) (field : ℕ) (ids : List ℕ) → buffer_of field bs ≡ Some ids → field < length bs
none_past [] field ids is = absurd (cc)
none_past (b ∷ bs) zero ids is = omega arith
none_past (b ∷ bs) (suc field) ids is = omega (arith, none_past bs field ids is)

some_within : {A : Type 0} (xs : List A) (i : ℕ) → i < length xs → slice_get xs i ≡ None → ⊥
some_within [] i inside none = omega (arith, inside)
some_within (x ∷ xs) zero inside none = absurd (cc)
some_within (x ∷ xs) (suc i) inside none = some_within xs i (omega (arith, inside)) none

-- what is written of each field in the end
pub closed_buffers : (s : OpenDocumentsState) (closed : Buffers) (n : ℕ) (ps : List Piece) (ts : List IndexToken) → length s.documents ≡ length s.norms → AreBehind s → TellsAll ps ts s
    → AreClosed s.documents s.norms closed → (field : ℕ) → buffer_of field (filled_buffers n closed) ≡ (if is_some (buffer_of field s.norms) then Some (norm_ids n field ts) else None)
closed_buffers s closed n ps ts same behind told closes field =
    filled_buffer closed field n ∙ ap (option_map (filled n)) (closes field) ∙ by (slice_get s.documents field) (buffer_of field s.norms) refl refl
  where
    by : (d : Option OpenDocument) (ids : Option (List ℕ)) → slice_get s.documents field ≡ d → buffer_of field s.norms ≡ ids
        → option_map (filled n) (closed_norms d ids) ≡ (if is_some ids then Some (norm_ids n field ts) else None)
    by None None at is = refl
    by (Some d) None at is = refl
    by None (Some ids) at is = absurd (some_within s.documents field (omega (arith, same, none_past s.norms field ids is)) at)
    by (Some d) (Some ids) at is =
        let tells = subst (λ (o : Option (List ℕ)). Tells field ps ts d o) is (told field d at) in
        let low = subst (λ (o : Option (List ℕ)). IfSome o (λ (i : List ℕ). length i ≤ d.doc)) is (behind field d at) in
        ap (λ (i : List ℕ). Some i) (closed_ids field ps ts d ids n low tells)

pub with_filled : (n : ℕ) (bs : Buffers) → with_norms (filled_buffers n bs) ≡ with_norms bs
with_filled n [] = refl
with_filled n (None ∷ bs) = ap (λ (rest : List Bool). false ∷ rest) (with_filled n bs)
with_filled n (Some ids ∷ bs) = ap (λ (rest : List Bool). true ∷ rest) (with_filled n bs)

-- the bodies of fields from one on
abbrev norm_file_from : ℕ → List SchemaEntry → ℕ → List IndexToken → List Body
norm_file_from first entries n ts = map (norm_body n ts) (map (λ (f : ℕ × SchemaEntry). f.0) (filter (λ (f : ℕ × SchemaEntry). keeps_norms f.1) (enumerate_from first entries)))

-- they are written for buffers of which each is that of its field
norms_from : (first n : ℕ) (ts : List IndexToken) (bs : Buffers) (entries : List SchemaEntry) → length bs ≡ length entries
    → ((k : ℕ) → buffer_of k bs ≡ (if has_norms entries k then Some (norm_ids n (first + k) ts) else None))
    → norm_bodies_from first bs ≡ norm_file_from first entries n ts
norms_from first n ts [] [] same h = refl
norms_from first n ts [] (e ∷ es) same h = absurd (omega (arith, same))
norms_from first n ts (b ∷ bs) [] same h = absurd (omega (arith, same))
norms_from first n ts (b ∷ bs) (e ∷ es) same h =
    by b (keeps_norms e) refl (h 0)
    (norms_from (first + 1) n ts bs es (omega (arith, same)) (λ k. h (suc k) ∙ ap (λ (field : ℕ). if has_norms es k then Some (norm_ids n field ts) else None) (omega arith)))
  where
    by : (o : Option (List ℕ)) (keeps : Bool) → keeps_norms e ≡ keeps → o ≡ (if keeps then Some (norm_ids n (first + 0) ts) else None) → norm_bodies_from (first + 1) bs ≡ norm_file_from (first + 1) es n ts
        → norm_bodies_from first (o ∷ bs) ≡ norm_file_from first (e ∷ es) n ts
    by None true is at rest = absurd (cc)
    by (Some ids) false is at rest = absurd (cc)
    by None false is at rest = rw is rest
    by (Some ids) true is at rest =
        let here : ids ≡ norm_ids n first ts = inside at ∙ ap (λ (field : ℕ). norm_ids n field ts) (omega arith) in
        rw is (ap (λ (xs : List ℕ). record { field = first; bytes = xs } ∷ norm_bodies_from (first + 1) bs) here ∙ ap (λ (bodies : List Body). norm_body n ts first ∷ bodies) rest)
      where
        inside : Some ids ≡ Some (norm_ids n (first + 0) ts) → ids ≡ norm_ids n (first + 0) ts
        inside e = cc

-- so the file has the norms of each field that has some
pub holds_norms : (bs : Buffers) (entries : List SchemaEntry) (n : ℕ) (bytes : List ℕ) (ts : List IndexToken) → with_norms bs ≡ map keeps_norms entries
    → ((field : ℕ) → buffer_of field bs ≡ (if has_norms entries field then Some (norm_ids n field ts) else None))
    → bytes ≡ written_composite (norm_bodies bs) → composite bytes ≡ Some (norm_bodies bs) → HoldNorms entries n bytes ts
holds_norms bs entries n bytes ts same each written reads =
    let are : norm_bodies bs ≡ norm_file entries n ts = norms_from 0 n ts bs entries (with_length bs entries same) (λ field. each field ∙ ap (λ (f : ℕ). if has_norms entries field then Some (norm_ids n f ts) else None) (omega arith)) in
    record {
      written = written ∙ ap written_composite are;
      opened = reads ∙ ap (λ (bodies : List Body). Some bodies) are;
      exact = λ field. ap (body_of field) (sym are) ∙ body_of-norm_bodies field bs ∙ each field;
    }

-- how many bytes norms have
norms_small : (n first : ℕ) (bs : Buffers) → n ≤ TERMINATED
    → (length (norm_bodies_from first (filled_buffers n bs)) ≤ length bs) × (length (bodies_bytes (norm_bodies_from first (filled_buffers n bs))) ≤ length bs * TERMINATED)
norms_small n first [] low = (omega arith, omega arith)
norms_small n first (None ∷ bs) low =
    let rest = norms_small n (first + 1) bs low in
    (omega (arith, rest.0), omega (arith, rest.1))
norms_small n first (Some ids ∷ bs) low =
    let rest = norms_small n (first + 1) bs low in
    (omega (arith, rest.0), omega (arith, low, rest.1, length_filled n ids, length-append (filled n ids) (bodies_bytes (norm_bodies_from (first + 1) (filled_buffers n bs)))))

same_length : (xs ys : Buffers) → with_norms xs ≡ with_norms ys → length xs ≡ length ys
same_length xs ys same = sym (length-map xs is_some) ∙ ap length same ∙ length-map ys is_some

pub file_small : (n : ℕ) (bs : Buffers) → n ≤ TERMINATED → length bs < 2 ^ 32 → length (written_composite (norm_bodies (filled_buffers n bs))) < 2 ^ 64
file_small n bs low few =
    let bodies = norm_bodies (filled_buffers n bs) in
    let small = norms_small n 0 bs low in
    omega (arith, few, small.0, small.1, length-append (bodies_bytes bodies) (table_bytes (places_from 0 bodies)), length-table_bytes (places_from 0 bodies), length-places_from 0 bodies)

pub few_filled : (n : ℕ) (old closed : Buffers) → with_norms closed ≡ with_norms old → length old < 2 ^ 32 → (length closed < 2 ^ 32) × (length (filled_buffers n closed) < 2 ^ 32)
few_filled n old closed same few =
    let len = same_length closed old same in
    (omega (arith, few, len), omega (arith, few, len, length-map closed (option_map (filled n))))

pub few_bodies : (first : ℕ) (bs : Buffers) → length (norm_bodies_from first bs) ≤ length bs
few_bodies first [] = omega arith
few_bodies first (None ∷ bs) = omega (arith, few_bodies (first + 1) bs)
few_bodies first (Some ids ∷ bs) = omega (arith, few_bodies (first + 1) bs)

-- what is in memory is read back
pub norms_written : (old new : CountingWriterState) (bs : Buffers) (bytes : List ℕ) → old.contents ≡ Some [] → new.contents ≡ Some bytes → WroteNorms old new [] bs → bytes ≡ written_composite (norm_bodies bs)
norms_written old new bs bytes empty now h =
    subst (λ (o : Option (List ℕ)). Appends o (Some bytes) (written_composite (norm_bodies bs))) empty (subst (λ (o : Option (List ℕ)). Appends old.contents o (written_composite (norm_bodies bs))) now h.composite.wrote.appends)

pub norms_read : (old new : CountingWriterState) (bs : Buffers) (bytes : List ℕ) → old.contents ≡ Some [] → new.contents ≡ Some bytes → WroteNorms old new [] bs → composite bytes ≡ Some (norm_bodies bs)
norms_read old new bs bytes empty now h = ap composite (norms_written old new bs bytes empty now h) ∙ h.composite.reads_back

pub memory_only : (old new : CountingWriterState) (bytes : List ℕ) (fault : Fault) → old.written_bytes ≡ 0 → old.failed_calls ≡ 0 → length bytes < 2 ^ 64 → WritesInMemory false old new bytes (Err fault) → memory_fault fault ≡ OutOfMemory
memory_only old new bytes fault none whole small h = by fault refl
  where
    not_full : IsFull old (length bytes) → ⊥
    not_full full = ⊎_elim (λ many. omega (arith, many, none, small)) (λ failed. omega (arith, failed, whole)) full

    failure : Result (Unit {0}) Fault
    failure = Err fault

    inside : failure ≡ Err OutOfMemory → fault ≡ OutOfMemory
    inside is = cc

    only : (¬ (fault ≡ OutOfMemory)) → memory_fault fault ≡ OutOfMemory
    only other =
        let writes = h.writes refl (λ is. other (inside is)) in
        ⊎_elim (λ (is : fault ≡ Write). ap memory_fault is) (λ (is : fault ≡ Limit Offset). absurd (not_full (writes.limit (ap (λ (e : Fault). Err e) is)))) writes.only

    by : (f : Fault) → f ≡ fault → memory_fault fault ≡ OutOfMemory
    by OutOfMemory is = ap memory_fault (sym is)
    by Write is = ap memory_fault (sym is)
    by SerializerClosed is = only (λ e. absurd (cc))
    by IndexerFailed is = only (λ e. absurd (cc))
    by (UnsupportedLeaf kind) is = only (λ e. absurd (cc))
    by DecreasingPosition is = only (λ e. absurd (cc))
    by (Limit name) is = only (λ e. absurd (cc))
    by (Damaged part) is = only (λ e. absurd (cc))
