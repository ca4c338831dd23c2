-- The norms of living documents, one segment and one field after the other.
use Rattle.std.proofs.Common.{inl, inr, ◌≡◌, ℕ, zero, suc, ◌+◌, ◌-◌, ◌^◌, ◌<◌, ◌≤◌, ◌==◌, Bool, true, false, List, [], ◌∷◌, ◌++◌, drop, get_or, length, map, Option, Some, None, refl, sym, ap, ◌∙◌, subst, arith, append_assoc, true≢false, length-append, Result, Err, ⊎_elim}
use Rattle.std.specs.Prelude.{◌⊎◌, IfSome, IsSomeAnd, filter, if◌then◌else◌, slice_get, slice_index, unwrap_or}
use Rattle.std.specs.List.{AllByRecursion, enumerate_from, flat_map, range_with_len}
use Rattle.std.proofs.lemmas.Bool.{eq-eqb, le-leb, ne_eqb}
use Rattle.std.proofs.lemmas.List.{append-nil, length-map}
use Rattle.ii_io.specs.declared.faults.Fault.{Fault}
use Rattle.ii_io.specs.declared.faults.Fault.TheVariants.{Damaged, Limit, OutOfMemory, DecreasingPosition, IndexerFailed, SerializerClosed, UnsupportedLeaf, Write}
use Rattle.ii_io.specs.declared.faults.LimitName.TheVariants.{Offset}
use Rattle.ii_io.specs.declared.faults.Part.TheVariants.{FieldNorms}
use Rattle.ii_io.specs.Composite.{Body, body_of, composite, fit_fields, written_composite, bodies_bytes, places_from, table_bytes}
use Rattle.ii_io.specs.CompositeWrite.{CompositeWriteState, HasBodies, WroteComposite, places_of}
use Rattle.ii_io.specs.CountingWriter.{CountingWriterState, IsFull, WritesInMemory, WritesUnlessClosed}
use Rattle.ii_io.proofs.CompositeSteps.{HasBodies-more}
use Rattle.std.specs.Io.KnownBytes.{Appends}
use Rattle.ii_base.specs.Schema.{SchemaEntry, keeps_norms}
use Rattle.ii_fieldnorm.specs.Buffers.{norm_fields}
use Rattle.ii_fieldnorm.specs.Norms.{id_of_norm}
use Rattle.ii_segments.proofs.CountLaws.{living_length}
use Rattle.ii_definitions.specs.Postings.{doc_count}
use Rattle.std.proofs.lemmas.List.FromFn.{length-map-range_with_len}
use Rattle.ii_io.specs.declared.faults.Part.{Part}
use Rattle.ii_segments.specs.Segments.{Segment, index_tokens, is_living, living_docs, living_norms, num_docs_of}
use Rattle.ii_segments.specs.SegmentLaws.{CountsOfSegments}
use Rattle.ii_definitions.specs.Norms.{HoldNorms, has_norms, norm_file, norm_ids}
use Rattle.ii_merger.specs.MergedIndex.{AreNormsOf, MergeSourceHolds, MergeSourceState, MergeSourcesHold, StartsBelow, opened_segment, all_living}
use Rattle.ii_merger.specs.MergedNorms.{AddsNorms, HasAllNorms, HaveNorms, living_ids, merged_ids, merged_norm_file, IsNormsFault, merged_norm_bytes}
use Rattle.ii_merger.specs.declared.merge_source.MergeSource.{MergeSource}
use Rattle.ii_merger.proofs.IndexMergeLemmas.{each_segment, raised, starts_more}
use Rattle.ii_io.specs.Faults.{memory_fault}
use Rattle.ii_io.proofs.WriteSteps.{full_before}
use Rattle.ii_recorder.proofs.GrowthLemmas.{table_full}
use Rattle.std.proofs.lemmas.List.Concat.{flat_map-append}

-- ---- documents one after the other
left_is : (n doc : ℕ) → doc < n → n - doc ≡ suc (n - (doc + 1))
left_is n doc low = omega (arith, low)

module _ (alive : List Bool) (f : ℕ → ℕ) (n doc : ℕ) (low : doc < n) (before all : List ℕ) (so_far : before ++ map f (filter (is_living alive) (range_with_len doc (n - doc))) ≡ all) where
  abbrev later : List ℕ
  later = range_with_len (doc + 1) (n - (doc + 1))

  from_here : before ++ map f (filter (is_living alive) (doc ∷ later)) ≡ all
  from_here = ap (λ (k : ℕ). before ++ map f (filter (is_living alive) (range_with_len doc k))) (sym (left_is n doc low)) ∙ so_far

  pub next_living : is_living alive doc ≡ true → (before ++ f doc ∷ []) ++ map f (filter (is_living alive) later) ≡ all
  next_living living = append_assoc before (f doc ∷ []) (map f (filter (is_living alive) later)) ∙ (rw living at from_here)

  pub next_dead : is_living alive doc ≡ false → before ++ map f (filter (is_living alive) later) ≡ all
  next_dead dead = rw dead at from_here

-- ---- segments one after the other
pub damaged_norms : (field n : ℕ) (s : MergeSourceState) (e : Fault) → n ≡ length s.alive → n < 2 ^ 32 → (e ≡ OutOfMemory) ⊎ (e ≡ Damaged FieldNorms) → (e ≡ Damaged FieldNorms → IsSomeAnd (body_of field s.index.fieldnorms) (λ ids. 2 ^ 32 ≤ length ids))
    → (e ≡ OutOfMemory) ⊎ ((e ≡ Damaged FieldNorms) × ¬ HasAllNorms field s)
damaged_norms field n s e same few (inl memory) long = inl memory
damaged_norms field n s e same few (inr damaged) long = inr (damaged, by (body_of field s.index.fieldnorms) (long damaged))
  where
    by : (o : Option (List ℕ)) → IsSomeAnd o (λ ids. 2 ^ 32 ≤ length ids) → ¬ IsSomeAnd o (λ ids. length ids ≡ length s.alive)
    by None far has = absurd (has)
    by (Some ids) far has = absurd (omega (arith, far, has, same, few))

pub one_damaged : (field : ℕ) (xs : List MergeSource) (i : ℕ) (x : MergeSource) (e : Fault) → i < length xs → x ≡ get_or xs i x → (e ≡ OutOfMemory) ⊎ ((e ≡ Damaged FieldNorms) × ¬ HasAllNorms field (opened_segment x))
    → (e ≡ OutOfMemory) ⊎ ((e ≡ Damaged FieldNorms) × ¬ AllByRecursion (HasAllNorms field) (map opened_segment xs))
one_damaged field xs i x e inside is (inl memory) = inl memory
one_damaged field xs i x e inside is (inr damaged) = inr (damaged.0, λ all. damaged.1 (each_segment (HasAllNorms field) xs i x inside is all))

-- ---- fields one after the other
-- the fields with norms from a place on
abbrev pub norm_fields_from : ℕ → List SchemaEntry → List ℕ
norm_fields_from place entries = map (λ (f : ℕ × SchemaEntry). f.0) (filter (λ (f : ℕ × SchemaEntry). keeps_norms f.1) (drop place (enumerate_from 0 entries)))

abbrev own_field : Bool → ℕ → List ℕ
own_field true field = field ∷ []
own_field false field = []

abbrev kept : List (ℕ × SchemaEntry) → List ℕ
kept es = map (λ (f : ℕ × SchemaEntry). f.0) (filter (λ (f : ℕ × SchemaEntry). keeps_norms f.1) es)

kept_first : (field : ℕ) (entry : SchemaEntry) (es : List (ℕ × SchemaEntry)) → kept ((field, entry) ∷ es) ≡ own_field (keeps_norms entry) field ++ kept es
kept_first field entry es = by (keeps_norms entry) refl
  where
    by : (b : Bool) → keeps_norms entry ≡ b → kept ((field, entry) ∷ es) ≡ own_field (keeps_norms entry) field ++ kept es
    by true is = rw is refl
    by false is = rw is refl

kept_at : (first place : ℕ) (entries : List SchemaEntry) (entry : SchemaEntry) → slice_get entries place ≡ Some entry → kept (drop place (enumerate_from first entries)) ≡ own_field (keeps_norms entry) (first + place) ++ kept (drop (suc place) (enumerate_from first entries))
kept_at first place [] entry is = absurd (cc)
kept_at first zero (x ∷ xs) entry is =
    let same : x ≡ entry = cc in
    let here : first + 0 ≡ first = omega arith in
    rw here (kept_first first x (enumerate_from (first + 1) xs) ∙ ap (λ (e : SchemaEntry). own_field (keeps_norms e) first ++ kept (enumerate_from (first + 1) xs)) same)
kept_at first (suc place) (x ∷ xs) entry is =
    let here : first + 1 + place ≡ first + suc place = omega arith in
    kept_at (first + 1) place xs entry is ∙ ap (λ (n : ℕ). own_field (keeps_norms entry) n ++ kept (drop (suc place) (enumerate_from (first + 1) xs))) here

next_fields : (place : ℕ) (entries : List SchemaEntry) (entry : SchemaEntry) → slice_get entries place ≡ Some entry → norm_fields_from place entries ≡ own_field (keeps_norms entry) place ++ norm_fields_from (place + 1) entries
next_fields place entries entry is =
    let next : place + 1 ≡ suc place = omega arith in
    let here : 0 + place ≡ place = omega arith in
    rw next (kept_at 0 place entries entry is ∙ ap (λ (n : ℕ). own_field (keeps_norms entry) n ++ kept (drop (suc place) (enumerate_from 0 entries))) here)

ended : (first place : ℕ) (entries : List SchemaEntry) → length entries ≤ place → drop place (enumerate_from first entries) ≡ []
ended first zero [] beyond = refl
ended first (suc place) [] beyond = refl
ended first zero (x ∷ xs) beyond = absurd (omega (arith, beyond))
ended first (suc place) (x ∷ xs) beyond = ended (first + 1) place xs (omega (arith, beyond))

pub no_fields : (place : ℕ) (entries : List SchemaEntry) → length entries ≤ place → norm_fields_from place entries ≡ []
no_fields place entries beyond = ap kept (ended 0 place entries beyond)

-- the body of a field's norms
abbrev pub ids_body : List MergeSourceState → ℕ → Body
ids_body ss field = record { field = field; bytes = merged_ids field ss }

-- The norms of the fields before those that are to come were written.
pub record IsAddingNorms (entries : List SchemaEntry) (ss : List MergeSourceState) (initial : CountingWriterState) (place : ℕ) (now : CompositeWriteState) : Type 0 where
  pub done : List Body
  pub has : HasBodies initial now done
  pub parts : done ++ map (ids_body ss) (norm_fields_from place entries) ≡ merged_norm_file entries ss

module _ (entries : List SchemaEntry) (ss : List MergeSourceState) (place : ℕ) (entry : SchemaEntry) (is : slice_get entries place ≡ Some entry) where
  pub adding_next : (initial : CountingWriterState) (old new : CompositeWriteState) → IsAddingNorms entries ss initial place old → AddsNorms (keeps_norms entry) place (merged_ids place ss) old new → IsAddingNorms entries ss initial (place + 1) new
  adding_next initial old new h adds = by (keeps_norms entry) adds (sym (ap (λ (fs : List ℕ). h.done ++ map (ids_body ss) fs) (next_fields place entries entry is)) ∙ h.parts)
    where
      by : (b : Bool) → AddsNorms b place (merged_ids place ss) old new → h.done ++ map (ids_body ss) (own_field b place ++ norm_fields_from (place + 1) entries) ≡ merged_norm_file entries ss → IsAddingNorms entries ss initial (place + 1) new
      by true adds parts = record { done = h.done ++ ids_body ss place ∷ []; has = HasBodies-more initial old new h.done place (merged_ids place ss) h.has adds; parts = append_assoc h.done (ids_body ss place ∷ []) (map (ids_body ss) (norm_fields_from (place + 1) entries)) ∙ parts }
      by false adds parts = record { done = h.done; has = subst (λ (c : CompositeWriteState). HasBodies initial c h.done) (sym adds) h.has; parts = parts }

  pub below_next : (old new : CompositeWriteState) → StartsBelow place old → AddsNorms (keeps_norms entry) place (merged_ids place ss) old new → StartsBelow (place + 1) new
  below_next old new h adds = by (keeps_norms entry) adds
    where
      by : (b : Bool) → AddsNorms b place (merged_ids place ss) old new → StartsBelow (place + 1) new
      by true adds = starts_more place old new (merged_ids place ss) h adds
      by false adds = subst (StartsBelow (place + 1)) (sym adds) (record { below = raised place old.starts h.below; few = omega (arith, h.few) })

  -- what holds for the fields with norms from here on
  pub all_next : (P : ℕ → Type 0) → (keeps_norms entry ≡ true → P place) → AllByRecursion P (norm_fields_from (place + 1) entries) → AllByRecursion P (norm_fields_from place entries)
  all_next P own later = subst (AllByRecursion P) (sym (next_fields place entries entry is)) (by (keeps_norms entry) refl)
    where
      by : (b : Bool) → keeps_norms entry ≡ b → AllByRecursion P (own_field b place ++ norm_fields_from (place + 1) entries)
      by true keeps = (own keeps, later)
      by false keeps = later

  pub all_here : (P : ℕ → Type 0) → AllByRecursion P (norm_fields_from place entries) → (keeps_norms entry ≡ true → P place) × AllByRecursion P (norm_fields_from (place + 1) entries)
  all_here P all = by (keeps_norms entry) refl (subst (AllByRecursion P) (next_fields place entries entry is) all)
    where
      by : (b : Bool) → keeps_norms entry ≡ b → AllByRecursion P (own_field b place ++ norm_fields_from (place + 1) entries) → (keeps_norms entry ≡ true → P place) × AllByRecursion P (norm_fields_from (place + 1) entries)
      by true keeps all = (λ is. all.0, all.1)
      by false keeps all = (λ is. absurd (true≢false (sym is ∙ keeps)), all)

  -- the file has no room for the norms of this field
  full_norms : (initial : CountingWriterState) (now : CompositeWriteState) → IsAddingNorms entries ss initial place now → keeps_norms entry ≡ true → IsFull now.writer (length (merged_ids place ss)) → IsFull initial (length (merged_norm_bytes entries ss))
  full_norms initial now h keeps full =
      let rest = map (ids_body ss) (norm_fields_from (place + 1) entries) in
      let later = ids_body ss place ∷ rest in
      let at : norm_fields_from place entries ≡ place ∷ norm_fields_from (place + 1) entries = next_fields place entries entry is ∙ ap (λ (b : Bool). own_field b place ++ norm_fields_from (place + 1) entries) keeps in
      let all : h.done ++ later ≡ merged_norm_file entries ss = ap (λ (fs : List ℕ). h.done ++ map (ids_body ss) fs) (sym at) ∙ h.parts in
      let both = ap length (flat_map-append (λ (b : Body). b.bytes) h.done later) in
      subst (λ (bs : List Body). IsFull initial (length (written_composite bs))) all
      (full_before initial now.writer (bodies_bytes h.done) (length (merged_ids place ss)) (length (written_composite (h.done ++ later))) h.has.writer
      (omega (arith, both, length-append (bodies_bytes h.done) (bodies_bytes later), length-append (merged_ids place ss) (bodies_bytes rest), length-append (bodies_bytes (h.done ++ later)) (table_bytes (places_from 0 (h.done ++ later))))) full)

  -- the norms of this field aren't there, or have no room
  pub wrong_norms : (initial : CountingWriterState) (now : CompositeWriteState) (e : Fault) → IsAddingNorms entries ss initial place now
      → (AllByRecursion (λ (f : ℕ). AllByRecursion (HasAllNorms f) ss) (norm_fields entries) → AllByRecursion (λ (f : ℕ). AllByRecursion (HasAllNorms f) ss) (norm_fields_from place entries))
      → (e ≡ OutOfMemory) ⊎ ((e ≡ Limit Offset) × (keeps_norms entry ≡ true) × IsFull now.writer (length (merged_ids place ss))) ⊎ ((e ≡ Damaged FieldNorms) × (keeps_norms entry ≡ true) × ¬ AllByRecursion (HasAllNorms place) ss)
      → (e ≡ OutOfMemory) ⊎ ((e ≡ Limit Offset) × IsFull initial (length (merged_norm_bytes entries ss))) ⊎ ((e ≡ Damaged FieldNorms) × ¬ HaveNorms entries ss)
  wrong_norms initial now e h whole (inl memory) = inl memory
  wrong_norms initial now e h whole (inr (inl limit)) = inr (inl (limit.0, full_norms initial now h limit.1 limit.2))
  wrong_norms initial now e h whole (inr (inr damaged)) = inr (inr (damaged.0, λ has. damaged.2 ((all_here (λ (f : ℕ). AllByRecursion (HasAllNorms f) ss) (whole has)).0 damaged.1)))

-- ---- norms in memory
-- why a call that writes to memory fails: no memory, or no room
pub fails_in_memory : (closed : Bool) (old new : CountingWriterState) (bytes : List ℕ) (fault : Fault) → closed ≡ false → WritesInMemory closed old new bytes (Err fault) → (memory_fault fault ≡ OutOfMemory) ⊎ ((memory_fault fault ≡ Limit Offset) × IsFull old (length bytes))
fails_in_memory closed old new bytes fault unclosed h = by fault refl
  where
    failure : Result (Unit {0}) Fault
    failure = Err fault

    inside : failure ≡ Err OutOfMemory → fault ≡ OutOfMemory
    inside is = cc

    only : (¬ (fault ≡ OutOfMemory)) → (memory_fault fault ≡ OutOfMemory) ⊎ ((memory_fault fault ≡ Limit Offset) × IsFull old (length bytes))
    only other =
        let writes = h.writes unclosed (λ is. other (inside is)) in
        ⊎_elim (λ (is : fault ≡ Write). inl (ap memory_fault is)) (λ (is : fault ≡ Limit Offset). inr (ap memory_fault is, writes.limit (ap (λ (e : Fault). Err e) is))) writes.only

    by : (f : Fault) → f ≡ fault → (memory_fault fault ≡ OutOfMemory) ⊎ ((memory_fault fault ≡ Limit Offset) × IsFull old (length bytes))
    by OutOfMemory is = inl (ap memory_fault (sym is))
    by Write is = inl (ap memory_fault (sym is))
    by SerializerClosed is = only (λ e. absurd (cc))
    by IndexerFailed is = only (λ e. absurd (cc))
    by (UnsupportedLeaf kind) is = only (λ e. absurd (cc))
    by DecreasingPosition is = only (λ e. absurd (cc))
    by (Limit name) is = only (λ e. absurd (cc))
    by (Damaged part) is = only (λ e. absurd (cc))

-- the norms of a field have no room
pub field_full : (P : Type 0) (keeps : Bool) (w : CountingWriterState) (bytes ids : List ℕ) (e : Fault) → keeps ≡ true → bytes ≡ ids → (e ≡ OutOfMemory) ⊎ ((e ≡ Limit Offset) × IsFull w (length bytes)) → (e ≡ OutOfMemory) ⊎ ((e ≡ Limit Offset) × (keeps ≡ true) × IsFull w (length ids)) ⊎ P
field_full P keeps w bytes ids e is same (inl memory) = inl memory
field_full P keeps w bytes ids e is same (inr full) = inr (inl (full.0, is, subst (λ (xs : List ℕ). IsFull w (length xs)) same full.1))

-- a writer without output has no room only for a file that is too long
fresh_full : (w : CountingWriterState) (n : ℕ) → w.written_bytes ≡ 0 → w.failed_calls ≡ 0 → IsFull w n → 2 ^ 64 ≤ n
fresh_full w n none whole full = ⊎_elim (λ many. omega (arith, many, none)) (λ failed. omega (arith, failed, whole)) full

pub norms_fault : (entries : List SchemaEntry) (ss : List MergeSourceState) (w : CountingWriterState) (e : Fault) → w.written_bytes ≡ 0 → w.failed_calls ≡ 0
    → (e ≡ OutOfMemory) ⊎ ((e ≡ Limit Offset) × IsFull w (length (merged_norm_bytes entries ss))) ⊎ ((e ≡ Damaged FieldNorms) × ¬ HaveNorms entries ss) → IsNormsFault entries ss e
norms_fault entries ss w e none whole (inl memory) = inl memory
norms_fault entries ss w e none whole (inr (inl limit)) = inr (inl (limit.0, fresh_full w (length (merged_norm_bytes entries ss)) none whole limit.1))
norms_fault entries ss w e none whole (inr (inr damaged)) = inr (inr damaged)

-- why the table of norms can't be written to memory
pub table_fails : (entries : List SchemaEntry) (ss : List MergeSourceState) (w new : CountingWriterState) (c : CompositeWriteState) (fault : Fault) → w.written_bytes ≡ 0 → w.failed_calls ≡ 0 → HasBodies w c (merged_norm_file entries ss) → c.closed ≡ false
    → WritesUnlessClosed c.closed c.writer new (table_bytes (places_of c)) (Err fault) → IsNormsFault entries ss (memory_fault fault)
table_fails entries ss w new c fault none whole has unclosed h =
    let writes = h.writes unclosed in
    ⊎_elim (λ (is : fault ≡ Write). inl (ap memory_fault is))
    (λ (is : fault ≡ Limit Offset). inr (inl (ap memory_fault is, fresh_full w (length (merged_norm_bytes entries ss)) none whole (table_full w c (merged_norm_file entries ss) has (writes.limit (ap (λ (e : Fault). Err e) is)))))) writes.only

-- ---- the first field and the last
pub starts_none : (c : CompositeWriteState) → c.starts ≡ [] → StartsBelow 0 c
starts_none c none = record { below = rw none tt; few = rw none (omega arith) }

pub adds_ended : (entries : List SchemaEntry) (ss : List MergeSourceState) (place : ℕ) (initial : CountingWriterState) (now : CompositeWriteState) → norm_fields_from place entries ≡ [] → IsAddingNorms entries ss initial place now → HasBodies initial now (merged_norm_file entries ss)
adds_ended entries ss place initial now ended h =
    subst (HasBodies initial now) (sym (append-nil h.done) ∙ (rw ended at h.parts)) h.has

-- ---- the file
-- a field's body
abbrev ids_of : (ℕ → List ℕ) → ℕ → Body
ids_of F field = record { field = field; bytes = F field }

fit_bodies : (F : ℕ → List ℕ) (first : ℕ) (entries : List SchemaEntry) → first + length entries < 2 ^ 32 → fit_fields (map (ids_of F) (kept (enumerate_from first entries))) ≡ true
fit_bodies F first [] few = refl
fit_bodies F first (e ∷ es) few = rw (kept_first first e (enumerate_from (first + 1) es)) (by (keeps_norms e) (fit_bodies F (first + 1) es (omega (arith, few))))
  where
    by : (b : Bool) → fit_fields (map (ids_of F) (kept (enumerate_from (first + 1) es))) ≡ true → fit_fields (map (ids_of F) (own_field b first ++ kept (enumerate_from (first + 1) es))) ≡ true
    by true rest = rw (le-leb (first + 1) (2 ^ 32) (omega (arith, few))) rest
    by false rest = rest

pub merged_fit : (entries : List SchemaEntry) (ss : List MergeSourceState) → length entries < 2 ^ 32 - 1 → fit_fields (merged_norm_file entries ss) ≡ true
merged_fit entries ss few = fit_bodies (λ (field : ℕ). merged_ids field ss) 0 entries (omega (arith, few))

same_bodies : (F G : ℕ → List ℕ) (first : ℕ) (entries : List SchemaEntry) → ((k : ℕ) → has_norms entries k ≡ true → F (first + k) ≡ G (first + k)) → map (ids_of F) (kept (enumerate_from first entries)) ≡ map (ids_of G) (kept (enumerate_from first entries))
same_bodies F G first [] same = refl
same_bodies F G first (e ∷ es) same = rw (kept_first first e (enumerate_from (first + 1) es)) (by (keeps_norms e) refl (same_bodies F G (first + 1) es later))
  where
    later : (k : ℕ) → has_norms es k ≡ true → F (first + 1 + k) ≡ G (first + 1 + k)
    later k has =
        let next : first + suc k ≡ first + 1 + k = omega arith in
        rw next at (same (suc k) has)

    by : (b : Bool) → keeps_norms e ≡ b → map (ids_of F) (kept (enumerate_from (first + 1) es)) ≡ map (ids_of G) (kept (enumerate_from (first + 1) es)) → map (ids_of F) (own_field b first ++ kept (enumerate_from (first + 1) es)) ≡ map (ids_of G) (own_field b first ++ kept (enumerate_from (first + 1) es))
    by true is rest =
        let zero_more : first + 0 ≡ first = omega arith in
        let here : F first ≡ G first = rw zero_more at (same 0 is) in
        ap (λ (xs : List ℕ). record { field = first; bytes = xs } ∷ map (ids_of F) (kept (enumerate_from (first + 1) es))) here ∙ ap (λ (bs : List Body). ids_of G first ∷ bs) rest
    by false is rest = rest

none_before : (F : ℕ → List ℕ) (first field : ℕ) (entries : List SchemaEntry) → field < first → body_of field (map (ids_of F) (kept (enumerate_from first entries))) ≡ None
none_before F first field [] low = refl
none_before F first field (e ∷ es) low = rw (kept_first first e (enumerate_from (first + 1) es)) (by (keeps_norms e) (none_before F (first + 1) field es (omega (arith, low))))
  where
    other : (first == field) ≡ false
    other = ne_eqb first field (λ is. omega (arith, is, low))

    by : (b : Bool) → body_of field (map (ids_of F) (kept (enumerate_from (first + 1) es))) ≡ None → body_of field (map (ids_of F) (own_field b first ++ kept (enumerate_from (first + 1) es))) ≡ None
    by true rest = rw other rest
    by false rest = rest

body_at : (F : ℕ → List ℕ) (first : ℕ) (entries : List SchemaEntry) (k : ℕ) → body_of (first + k) (map (ids_of F) (kept (enumerate_from first entries))) ≡ (if has_norms entries k then Some (F (first + k)) else None)
body_at F first [] k = refl
body_at F first (e ∷ es) zero =
    let here : first + 0 ≡ first = omega arith in
    rw (here, kept_first first e (enumerate_from (first + 1) es)) (by (keeps_norms e))
  where
    same : (first == first) ≡ true
    same = eq-eqb first first refl

    by : (b : Bool) → body_of first (map (ids_of F) (own_field b first ++ kept (enumerate_from (first + 1) es))) ≡ (if b then Some (F first) else None)
    by true = rw same refl
    by false = none_before F (first + 1) first es (omega arith)
body_at F first (e ∷ es) (suc k) =
    let next : first + suc k ≡ first + 1 + k = omega arith in
    rw (next, kept_first first e (enumerate_from (first + 1) es)) (by (keeps_norms e) (body_at F (first + 1) es k))
  where
    other : (first == first + 1 + k) ≡ false
    other = ne_eqb first (first + 1 + k) (λ is. omega (arith, is))

    by : (b : Bool) → body_of (first + 1 + k) (map (ids_of F) (kept (enumerate_from (first + 1) es))) ≡ (if has_norms es k then Some (F (first + 1 + k)) else None)
        → body_of (first + 1 + k) (map (ids_of F) (own_field b first ++ kept (enumerate_from (first + 1) es))) ≡ (if has_norms es k then Some (F (first + 1 + k)) else None)
    by true rest = rw other rest
    by false rest = rest

-- the norms of living documents are those of the segments they are of
living_same : (entries : List SchemaEntry) (field : ℕ) (s : MergeSourceState) (g : Segment) → has_norms entries field ≡ true → MergeSourceHolds entries s g → living_ids field s ≡ living_norms field g
living_same entries field s g has h =
    let at : body_of field s.index.fieldnorms ≡ Some (norm_ids (length g.alive) field g.tokens) = rw has at (h.index.norms field) in
    ap (λ (o : Option (List ℕ)). map (slice_index (unwrap_or o [])) (living_docs s.alive)) at ∙ ap (λ (alive : List Bool). map (slice_index (norm_ids (length g.alive) field g.tokens)) (living_docs alive)) h.alive

all_same : (entries : List SchemaEntry) (field : ℕ) (ss : List MergeSourceState) (gs : List Segment) → has_norms entries field ≡ true → MergeSourcesHold entries ss gs → merged_ids field ss ≡ flat_map (living_norms field) gs
all_same entries field [] [] has h = refl
all_same entries field [] (g ∷ gs) has h = absurd (h)
all_same entries field (s ∷ ss) [] has h = absurd (h)
all_same entries field (s ∷ ss) (g ∷ gs) has h =
    ap (λ (xs : List ℕ). xs ++ merged_ids field ss) (living_same entries field s g has h.0) ∙ ap (λ (xs : List ℕ). living_norms field g ++ xs) (all_same entries field ss gs has h.1)

pub holds_norms : (entries : List SchemaEntry) (ss : List MergeSourceState) (gs : List Segment) (bytes : List ℕ) → MergeSourcesHold entries ss gs → ((field : ℕ) → CountsOfSegments field gs) → bytes ≡ written_composite (merged_norm_file entries ss) → composite bytes ≡ Some (merged_norm_file entries ss)
    → HoldNorms entries (num_docs_of gs) bytes (index_tokens gs)
holds_norms entries ss gs bytes hold law written opened =
    let n = num_docs_of gs in
    let ts = index_tokens gs in
    let are : merged_norm_file entries ss ≡ norm_file entries n ts = same_bodies (λ (field : ℕ). merged_ids field ss) (λ (field : ℕ). norm_ids n field ts) 0 entries
    (λ k has. let same : 0 + k ≡ k = omega arith in rw same (all_same entries k ss gs has hold ∙ sym (law k).norms)) in
    record {
      written = written ∙ ap written_composite are;
      opened = opened ∙ ap (λ (bodies : List Body). Some bodies) are;
      exact = λ field. let same : 0 + field ≡ field = omega arith in rw same at (body_at (λ (k : ℕ). norm_ids n k ts) 0 entries field);
    }

-- what is in memory
pub in_memory_written : (old new : CountingWriterState) (bodies : List Body) (bytes : List ℕ) → old.contents ≡ Some [] → new.contents ≡ Some bytes → WroteComposite old new bodies → bytes ≡ written_composite bodies
in_memory_written old new bodies bytes empty now h =
    subst (λ (o : Option (List ℕ)). Appends o (Some bytes) (written_composite bodies)) empty (subst (λ (o : Option (List ℕ)). Appends old.contents o (written_composite bodies)) now h.wrote.appends)

-- ---- the norms that were written
merged_length : (field : ℕ) (ss : List MergeSourceState) → length (merged_ids field ss) ≡ all_living ss
merged_length field [] = refl
merged_length field (s ∷ ss) =
    omega (arith, length-append (living_ids field s) (merged_ids field ss), merged_length field ss, length-map (living_docs s.alive) (slice_index (unwrap_or (body_of field s.index.fieldnorms) [])), living_length s.alive)

pub norms_of_living : (entries : List SchemaEntry) (ss : List MergeSourceState) (bodies : List Body) → bodies ≡ merged_norm_file entries ss → AreNormsOf (all_living ss) bodies
norms_of_living entries ss bodies are field =
    let same : 0 + field ≡ field = omega arith in
    let found : body_of field bodies ≡ (if has_norms entries field then Some (merged_ids field ss) else None) = ap (body_of field) are ∙ (rw same at (body_at (λ (k : ℕ). merged_ids k ss) 0 entries field)) in
    subst (λ (o : Option (List ℕ)). IfSome o (λ ids. length ids ≡ all_living ss)) (sym found) (by (has_norms entries field))
  where
    by : (b : Bool) → IfSome (if b then Some (merged_ids field ss) else None) (λ ids. length ids ≡ all_living ss)
    by true = merged_length field ss
    by false = tt

-- segments that hold tokens have norms
norms_there : (entries : List SchemaEntry) (field : ℕ) (ss : List MergeSourceState) (gs : List Segment) → has_norms entries field ≡ true → MergeSourcesHold entries ss gs → AllByRecursion (HasAllNorms field) ss
norms_there entries field [] [] has h = tt
norms_there entries field [] (g ∷ gs) has h = absurd (h)
norms_there entries field (s ∷ ss) [] has h = absurd (h)
norms_there entries field (s ∷ ss) (g ∷ gs) has h = (here, norms_there entries field ss gs has h.1)
  where
    at : body_of field s.index.fieldnorms ≡ Some (norm_ids (length g.alive) field g.tokens)
    at = rw has at (h.0.index.norms field)

    here : HasAllNorms field s
    here = subst (λ (o : Option (List ℕ)). IsSomeAnd o (λ ids. length ids ≡ length s.alive)) (sym at)
        (length-map-range_with_len (λ (doc : ℕ). id_of_norm (doc_count doc field g.tokens)) 0 (length g.alive) ∙ ap length (sym h.0.alive))

all_kept : (P : ℕ → Type 0) (first : ℕ) (entries : List SchemaEntry) → ((k : ℕ) → has_norms entries k ≡ true → P (first + k)) → AllByRecursion P (kept (enumerate_from first entries))
all_kept P first [] each = tt
all_kept P first (e ∷ es) each = rw (kept_first first e (enumerate_from (first + 1) es)) (by (keeps_norms e) refl (all_kept P (first + 1) es later))
  where
    later : (k : ℕ) → has_norms es k ≡ true → P (first + 1 + k)
    later k has =
        let next : first + suc k ≡ first + 1 + k = omega arith in
        rw next at (each (suc k) has)

    by : (b : Bool) → keeps_norms e ≡ b → AllByRecursion P (kept (enumerate_from (first + 1) es)) → AllByRecursion P (own_field b first ++ kept (enumerate_from (first + 1) es))
    by true is rest =
        let zero_more : first + 0 ≡ first = omega arith in
        (rw zero_more at (each 0 is), rest)
    by false is rest = rest

have_norms : (entries : List SchemaEntry) (ss : List MergeSourceState) (gs : List Segment) → MergeSourcesHold entries ss gs → HaveNorms entries ss
have_norms entries ss gs h = all_kept (λ (field : ℕ). AllByRecursion (HasAllNorms field) ss) 0 entries (λ k has. let same : 0 + k ≡ k = omega arith in rw same (norms_there entries k ss gs has h))

pub norms_undamaged : (entries : List SchemaEntry) (ss : List MergeSourceState) (gs : List Segment) (e : Fault) (part : Part) → IsNormsFault entries ss e → MergeSourcesHold entries ss gs → ¬ (e ≡ Damaged part)
norms_undamaged entries ss gs e part (inl memory) h is = absurd (cc)
norms_undamaged entries ss gs e part (inr (inl limit)) h is = let offset = limit.0 in absurd (cc)
norms_undamaged entries ss gs e part (inr (inr none)) h is = none.1 (have_norms entries ss gs h)
