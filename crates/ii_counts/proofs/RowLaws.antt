-- Rows of counts, and the file that holds them.
use Rattle.std.proofs.Common.{◌≡◌, ℕ, zero, suc, ◌+◌, ◌-◌, ◌<◌, ◌≤◌, ◌^◌, false, List, [], ◌∷◌, ◌++◌, length, map, take, get_or, Option, Some, None, Result, Err, refl, sym, ap, ◌∙◌, subst, arith, inl, inr, ⊎_elim}
use Rattle.std.specs.Prelude.{IfSome, slice_get}
use Rattle.std.specs.List.{AllByRecursion}
use Rattle.std.specs.Option.{option_map}
use Rattle.std.specs.Io.KnownBytes.{Appends}
use Rattle.std.proofs.lemmas.List.{take_more}
use Rattle.std.proofs.lemmas.List.{get_or-map}
use Rattle.ii_io.specs.Composite.{Body, body_of, composite, written_composite}
use Rattle.ii_io.specs.CompositeWrite.{CompositeWriteState, HasBodies, has_start}
use Rattle.ii_io.specs.CountingWriter.{CountingWriterState, IsFull, WritesInMemory}
use Rattle.ii_io.specs.Faults.{memory_fault}
use Rattle.ii_io.specs.declared.faults.Fault.{Fault}
use Rattle.ii_io.specs.declared.faults.Fault.TheVariants.{OutOfMemory, Write, SerializerClosed, IndexerFailed, UnsupportedLeaf, DecreasingPosition, Limit, Damaged}
use Rattle.ii_io.specs.declared.faults.LimitName.TheVariants.{Offset}
use Rattle.ii_io.proofs.WriteSteps.{wrote_nothing}
use Rattle.ii_fieldnorm.specs.Buffers.{AreUnwritten, Buffers, WroteNorms, buffer_of, filled, norm_bodies, norm_bodies_from, rest_of_file}
use Rattle.ii_fieldnorm.proofs.WrittenNorms.{body_of-norm_bodies}
use Rattle.ii_counts.specs.Counts.{written_counts}
use Rattle.ii_counts.specs.CountsWriter.{HoldRows, IsReadBack, IsRowsFault, count_bodies, count_bodies_from, first_counts, row_buffers}
use Rattle.ii_fieldnorm.proofs.FilledLaws.{filled_is}

bodies_from : (field : ℕ) (rows : List (List ℕ)) → norm_bodies_from field (row_buffers rows) ≡ count_bodies_from field rows
bodies_from field [] = refl
bodies_from field (row ∷ rows) = ap (λ (bs : List Body). record { field = field; bytes = written_counts row } ∷ bs) (bodies_from (field + 1) rows)

pub bodies_are : (rows : List (List ℕ)) → norm_bodies (row_buffers rows) ≡ count_bodies rows
bodies_are rows = bodies_from 0 rows

pub buffer_of_row : (rows : List (List ℕ)) (field : ℕ) → buffer_of field (row_buffers rows) ≡ option_map written_counts (slice_get rows field)
buffer_of_row [] field = refl
buffer_of_row (row ∷ rows) zero = refl
buffer_of_row (row ∷ rows) (suc field) = buffer_of_row rows field

pub read_at : (rows : List (List ℕ)) (field : ℕ) → AllByRecursion IsReadBack rows → IfSome (slice_get rows field) IsReadBack
read_at [] field all = tt
read_at (row ∷ rows) zero all = all.0
read_at (row ∷ rows) (suc field) all = read_at rows field all.1

-- a row resized to a number of documents

pub filled_row : (n : ℕ) (row : List ℕ) → filled n row ≡ first_counts n row
filled_row n row = filled_is (λ (doc : ℕ). get_or row doc 0) n 0 row (λ x low. ap (λ (i : ℕ). get_or row i 0) (omega arith))

pub rows_filled : (n : ℕ) (rows : List (List ℕ)) → map (filled n) rows ≡ map (first_counts n) rows
rows_filled n [] = refl
rows_filled n (row ∷ rows) = ap (λ (r : List ℕ). r ∷ map (filled n) rows) (filled_row n row) ∙ ap (λ (rs : List (List ℕ)). first_counts n row ∷ rs) (rows_filled n rows)

-- what the writing of a row needs

always : {X : Type 0} (o : Option X) (P : Type 0) → P → IfSome o (λ _. P)
always None P p = tt
always (Some x) P p = p

pub all_unwritten : (c : CompositeWriteState) (bs : Buffers) → c.starts ≡ [] → AreUnwritten c bs
all_unwritten c bs none field = always (buffer_of field bs) (has_start field c.starts ≡ false) (rw none refl)

length_bodies : (field : ℕ) (rows : List (List ℕ)) → length (norm_bodies_from field (row_buffers rows)) ≡ length rows
length_bodies field [] = refl
length_bodies field (row ∷ rows) = ap (λ (n : ℕ). suc n) (length_bodies (field + 1) rows)

pub few_bodies : (c : CompositeWriteState) (rows : List (List ℕ)) → c.starts ≡ [] → length rows < 2 ^ 32 → length c.starts + length (norm_bodies (row_buffers rows)) < 2 ^ 32
few_bodies c rows none few = omega (arith, few, ap length none, length_bodies 0 rows)

pub row_here : (rows : List (List ℕ)) (i : ℕ) (row : List ℕ) → i < length rows → row ≡ get_or rows i row → Some (written_counts row) ≡ get_or (row_buffers rows) i (Some (written_counts row))
row_here rows i row lt is = ap (λ (r : List ℕ). Some (written_counts r)) is ∙ sym (get_or-map (λ (r : List ℕ). Some (written_counts r)) rows i row (Some (written_counts row)) lt)

read_more : (rows : List (List ℕ)) → AllByRecursion IsReadBack rows → (row : List ℕ) → IsReadBack row → AllByRecursion IsReadBack (rows ++ row ∷ [])
read_more [] all row one = (one, tt)
read_more (r ∷ rows) all row one = (all.0, read_more rows all.1 row one)

pub read_next : (rows : List (List ℕ)) (i : ℕ) (row : List ℕ) → i < length rows → row ≡ get_or rows i row → AllByRecursion IsReadBack (take i rows) → IsReadBack row → AllByRecursion IsReadBack (take (i + 1) rows)
read_next rows i row lt is all one = subst (AllByRecursion IsReadBack) (sym (take_more rows i row lt ∙ ap (λ (r : List ℕ). take i rows ++ r ∷ []) (sym is))) (read_more (take i rows) all row one)

-- the file of rows

pub begun_bodies : (w : CountingWriterState) → HasBodies w (record { writer = w; base = w.written_bytes; starts = []; closed = false }) []
begun_bodies w = record { writer = wrote_nothing w; base = refl; starts = refl }

pub file_holds : (old new : CountingWriterState) (rows : List (List ℕ)) (bytes : List ℕ) → old.contents ≡ Some [] → new.contents ≡ Some bytes → AllByRecursion IsReadBack rows → WroteNorms old new [] (row_buffers rows) → HoldRows rows bytes
file_holds old new rows bytes empty now read h =
    let are = bodies_are rows in
    let whole : bytes ≡ written_composite (norm_bodies (row_buffers rows)) =
    subst (λ (o : Option (List ℕ)). Appends o (Some bytes) (written_composite (norm_bodies (row_buffers rows)))) empty (subst (λ (o : Option (List ℕ)). Appends old.contents o (written_composite (norm_bodies (row_buffers rows)))) now h.composite.wrote.appends) in
    record {
      written = whole ∙ ap written_composite are;
      opened = ap composite whole ∙ h.composite.reads_back ∙ ap (λ (bs : List Body). Some bs) are;
      exact = λ field. ap (body_of field) (sym are) ∙ body_of-norm_bodies field (row_buffers rows) ∙ buffer_of_row rows field;
      read = λ field. read_at rows field read;
    }

pub file_fails : (old new : CountingWriterState) (rows : List (List ℕ)) (fault : Fault) → old.written_bytes ≡ 0 → old.failed_calls ≡ 0 → WritesInMemory false old new (rest_of_file [] (row_buffers rows)) (Err fault) → IsRowsFault rows (memory_fault fault)
file_fails old new rows fault none whole h = by fault refl
  where
    bytes : List ℕ
    bytes = written_composite (norm_bodies (row_buffers rows))

    failure : Result (Unit {0}) Fault
    failure = Err fault

    inside : failure ≡ Err OutOfMemory → fault ≡ OutOfMemory
    inside is = cc

    long : IsFull old (length (rest_of_file [] (row_buffers rows))) → 2 ^ 64 ≤ length (written_composite (count_bodies rows))
    long full = subst (λ (bs : List Body). 2 ^ 64 ≤ length (written_composite bs)) (bodies_are rows) (⊎_elim (λ many. omega (arith, many, none)) (λ failed. omega (arith, failed, whole)) full)

    only : (¬ (fault ≡ OutOfMemory)) → IsRowsFault rows (memory_fault fault)
    only other =
        let writes = h.writes refl (λ is. other (inside is)) in
        ⊎_elim (λ (is : fault ≡ Write). inl (ap memory_fault is)) (λ (is : fault ≡ Limit Offset). inr (ap memory_fault is, long (writes.limit (ap (λ (e : Fault). Err e) is)))) writes.only

    by : (f : Fault) → f ≡ fault → IsRowsFault rows (memory_fault fault)
    by OutOfMemory is = inl (ap memory_fault (sym is))
    by Write is = inl (ap memory_fault (sym is))
    by SerializerClosed is = only (λ e. absurd (cc))
    by IndexerFailed is = only (λ e. absurd (cc))
    by (UnsupportedLeaf kind) is = only (λ e. absurd (cc))
    by DecreasingPosition is = only (λ e. absurd (cc))
    by (Limit name) is = only (λ e. absurd (cc))
    by (Damaged part) is = only (λ e. absurd (cc))
