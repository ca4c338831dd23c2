-- What a writer holds of the documents that were stored.
use Rattle.std.proofs.Common.{◌≡◌, ℕ, ◌+◌, ◌-◌, ◌<◌, ◌≤◌, ◌^◌, true, false, List, [], ◌∷◌, ◌++◌, length, refl, sym, ap, ◌∙◌, subst, append_assoc, arith, inl, is_err, ⊎_elim}
use Rattle.std.specs.Prelude.{Result, Ok, Err, OnOk}
use Rattle.std.specs.List.{AllByRecursion}
use Rattle.std.proofs.lemmas.Bool.{le-leb, lt-leb, cases_lt}
use Rattle.std.proofs.lemmas.List.{append-nil, length-append}
use Rattle.std.proofs.lemmas.List.Concat.{flat_map-append}
use Rattle.ii_io.specs.declared.faults.Fault.{Fault}
use Rattle.ii_io.specs.CountingWriter.{CountingWriterState, Writes, WritesInMemory, Wrote}
use Rattle.ii_io.proofs.WriteSteps.{Wrote-trans, memory_then}
use Rattle.ii_doc_store.specs.declared.TheConstants.{BLOCK_SIZE}
use Rattle.ii_doc_store.specs.StoreFormat.{Cut, and_document, block_bytes, blocks_of, cut, fill_block, index_and_footer, index_bytes, record_bytes, store_bytes, with_last}
use Rattle.ii_doc_store.specs.StoreWriter.{AddsDocument, EndsBlock, HasStored, StoreWriterState, WroteStore, end_bytes, index_with, last_index}
use Rattle.ii_doc_store.proofs.CutLaws.{blocks_bytes, blocks_bytes_more, cut_joined, cut_more, index_more, joined}
use Rattle.ii_doc_store.proofs.RecordLaws.{length_record}
use Rattle.ii_doc_store.proofs.RoundTripLaws.{gives_back}

-- a state with a document in its block
abbrev pub with_document : StoreWriterState → List ℕ → StoreWriterState
with_document s d = record s { block = s.block ++ record_bytes d; num_docs = s.num_docs + 1 }

block_more : (ds : List (List ℕ)) (d : List ℕ) → block_bytes (ds ++ d ∷ []) ≡ block_bytes ds ++ record_bytes d
block_more ds d = flat_map-append record_bytes ds (d ∷ []) ∙ ap (λ (l : List ℕ). block_bytes ds ++ l) (append-nil (record_bytes d))

all_more : (ds : List (List ℕ)) (d : List ℕ) → AllByRecursion (λ (x : List ℕ). length x < 2 ^ 31) ds → length d < 2 ^ 31 → AllByRecursion (λ (x : List ℕ). length x < 2 ^ 31) (ds ++ d ∷ [])
all_more [] d all fits = (fits, tt)
all_more (e ∷ ds) d all fits = (all.0, all_more ds d all.1 fits)

fills : (ds : List (List ℕ)) (d block : List ℕ) → block ≡ block_bytes ds → BLOCK_SIZE ≤ length (block ++ record_bytes d) → fill_block (ds ++ d ∷ []) ≡ true
unfolding fill_block
fills ds d block is full = le-leb _ _ (rw (block_more ds d, ← is) full)

fills_not : (ds : List (List ℕ)) (d block : List ℕ) → block ≡ block_bytes ds → length (block ++ record_bytes d) < BLOCK_SIZE → fill_block (ds ++ d ∷ []) ≡ false
unfolding fill_block
fills_not ds d block is small = lt-leb _ _ (rw (block_more ds d, ← is) small)

-- blocks with one more, and with one more document after them
abbrev with_block : Cut → List (List ℕ) → Cut
with_block c b = record { full = c.full ++ b ∷ []; rest = [] }

abbrev with_rest : Cut → List (List ℕ) → Cut
with_rest c rest = record { full = c.full; rest = rest }

cut_full : (ds : List (List ℕ)) (d : List ℕ) → fill_block ((cut ds).rest ++ d ∷ []) ≡ true → cut (ds ++ d ∷ []) ≡ with_block (cut ds) ((cut ds).rest ++ d ∷ [])
cut_full ds d full = cut_more ds d ∙ by (cut ds) full
  where
    by : (c : Cut) → fill_block (c.rest ++ d ∷ []) ≡ true → and_document c d ≡ with_block c (c.rest ++ d ∷ [])
    by c full = rw full refl

cut_open : (ds : List (List ℕ)) (d : List ℕ) → fill_block ((cut ds).rest ++ d ∷ []) ≡ false → cut (ds ++ d ∷ []) ≡ with_rest (cut ds) ((cut ds).rest ++ d ∷ [])
cut_open ds d more = cut_more ds d ∙ by (cut ds) more
  where
    by : (c : Cut) → fill_block (c.rest ++ d ∷ []) ≡ false → and_document c d ≡ with_rest c (c.rest ++ d ∷ [])
    by c more = rw more refl

-- a document that doesn't fill the block
pub stored_more : (initial : CountingWriterState) (s : StoreWriterState) (ds : List (List ℕ)) (d : List ℕ) → HasStored initial s ds → length d < 2 ^ 31 → s.num_docs < 2 ^ 31 - 1
    → length (s.block ++ record_bytes d) < BLOCK_SIZE → HasStored initial (with_document s d) (ds ++ d ∷ [])
stored_more initial s ds d h fits few small =
    let next = cut_open ds d (fills_not (cut ds).rest d s.block h.block small) in
    let count = length-append ds (d ∷ []) in
    let num = h.num_docs in
    record {
      writer = rw next h.writer;
      base = h.base;
      index = rw next h.index;
      block = rw next (ap (λ (l : List ℕ). l ++ record_bytes d) h.block ∙ sym (block_more (cut ds).rest d));
      num_docs = omega arith;
      few = omega arith;
      lengths = all_more ds d h.lengths fits;
    }

-- the index with one more block
index_end : (bs : List (List (List ℕ))) (b : List (List ℕ)) (index : List ℕ) (doc byte : ℕ) (block : List ℕ) → index ≡ index_bytes bs → block ≡ block_bytes b
    → doc ≡ length (joined bs) + length b → byte ≡ length (blocks_bytes bs) + length (block_bytes b) → index_with index doc byte block ≡ index_bytes (bs ++ b ∷ [])
index_end bs b index doc byte block is_index is_block is_doc is_byte = rw (is_index, is_block, is_doc, is_byte) (sym (index_more bs b))

-- a document that fills the block
pub stored_block : (initial : CountingWriterState) (s new : StoreWriterState) (ds : List (List ℕ)) (d : List ℕ) → HasStored initial s ds → length d < 2 ^ 31 → s.num_docs < 2 ^ 31 - 1
    → BLOCK_SIZE ≤ length (s.block ++ record_bytes d) → EndsBlock (with_document s d) new → HasStored initial new (ds ++ d ∷ [])
stored_block initial s new ds d h fits few full e =
    let bs = (cut ds).full in
    let b : List (List ℕ) = (cut ds).rest ++ d ∷ [] in
    let next = cut_full ds d (fills (cut ds).rest d s.block h.block full) in
    let block : s.block ++ record_bytes d ≡ block_bytes b = ap (λ (l : List ℕ). l ++ record_bytes d) h.block ∙ sym (block_more (cut ds).rest d) in
    let bytes : blocks_bytes (bs ++ b ∷ []) ≡ blocks_bytes bs ++ (s.block ++ record_bytes d) = blocks_bytes_more bs b ∙ ap (λ (l : List ℕ). blocks_bytes bs ++ l) (sym block) in
    let wrote : Wrote initial new.writer (blocks_bytes (bs ++ b ∷ [])) = subst (Wrote initial new.writer) (sym bytes) (Wrote-trans initial s.writer new.writer (blocks_bytes bs) (s.block ++ record_bytes d) h.writer e.writer) in
    let count = length-append ds (d ∷ []) in
    let num : s.num_docs ≡ length ds = h.num_docs in
    let numbered : new.num_docs ≡ s.num_docs + 1 = e.num_docs in
    let parts = ap length (cut_joined ds) in
    let split = length-append (joined bs) (cut ds).rest in
    let last = length-append (cut ds).rest (d ∷ []) in
    let docs : s.num_docs + 1 ≡ length (joined bs) + length b = omega arith in
    let written : new.writer.written_bytes ≡ initial.written_bytes + length (blocks_bytes (bs ++ b ∷ [])) = wrote.written_bytes in
    let base : s.base ≡ initial.written_bytes = h.base in
    let size : length (blocks_bytes (bs ++ b ∷ [])) ≡ length (blocks_bytes bs) + length (block_bytes b) = ap length (blocks_bytes_more bs b) ∙ length-append (blocks_bytes bs) (block_bytes b) in
    let place : new.writer.written_bytes - s.base ≡ length (blocks_bytes bs) + length (block_bytes b) = omega arith in
    record {
      writer = rw next wrote;
      base = e.base ∙ h.base;
      index = rw next (e.index ∙ index_end bs b s.index (s.num_docs + 1) (new.writer.written_bytes - s.base) (s.block ++ record_bytes d) h.index block docs place);
      block = rw next e.block;
      num_docs = omega arith;
      few = omega arith;
      lengths = all_more ds d h.lengths fits;
    }

-- the same for a call that may fail
pub adds_block : (r : Result (Unit {0}) Fault) (s new : StoreWriterState) (d : List ℕ) → length d < 2 ^ 31 → s.num_docs < 2 ^ 31 - 1 → BLOCK_SIZE ≤ length (s.block ++ record_bytes d)
    → OnOk r (EndsBlock (with_document s d) new) → OnOk r (AddsDocument s new d)
adds_block (Ok u) s new d fits few full e = λ initial ds h. stored_block initial s new ds d h fits few full e
adds_block (Err f) s new d fits few full e = tt

last_some : (s : StoreWriterState) (block : List ℕ) → 0 < length block → last_index s block ≡ index_with s.index s.num_docs (s.writer.written_bytes + length block - s.base) block
last_some s [] some = absurd (omega arith)
last_some s (b ∷ bs) some = refl

some_bytes : (d : List ℕ) (ds : List (List ℕ)) → 0 < length (block_bytes (d ∷ ds))
some_bytes d ds = omega (arith, length-append (record_bytes d) (block_bytes ds), length_record d)

-- the end of a store
ended : (s : StoreWriterState) (bs : List (List (List ℕ))) (rest : List (List ℕ)) → s.block ≡ block_bytes rest → s.index ≡ index_bytes bs → s.num_docs ≡ length (joined bs) + length rest
    → s.writer.written_bytes ≡ s.base + length (blocks_bytes bs) → blocks_bytes bs ++ end_bytes s ≡ blocks_bytes (with_last bs rest) ++ index_and_footer (index_bytes (with_last bs rest))
ended s bs [] block index docs written = rw (block, index) refl
ended s bs (d ∷ ds) block index docs written =
    let size = ap length block in
    let some = some_bytes d ds in
    let place : s.writer.written_bytes + length s.block - s.base ≡ length (blocks_bytes bs) + length (block_bytes (d ∷ ds)) = omega arith in
    let last : last_index s s.block ≡ index_bytes (bs ++ (d ∷ ds) ∷ []) =
    last_some s s.block (omega arith) ∙ index_end bs (d ∷ ds) s.index s.num_docs (s.writer.written_bytes + length s.block - s.base) s.block index block docs place in
    ap (λ (i : List ℕ). blocks_bytes bs ++ (s.block ++ index_and_footer i)) last
    ∙ sym (append_assoc (blocks_bytes bs) s.block (index_and_footer (index_bytes (bs ++ (d ∷ ds) ∷ []))))
    ∙ ap (λ (l : List ℕ). l ++ index_and_footer (index_bytes (bs ++ (d ∷ ds) ∷ []))) (ap (λ (l : List ℕ). blocks_bytes bs ++ l) block ∙ sym (blocks_bytes_more bs (d ∷ ds)))

end_is : (initial : CountingWriterState) (s : StoreWriterState) (ds : List (List ℕ)) → HasStored initial s ds → blocks_bytes (cut ds).full ++ end_bytes s ≡ store_bytes ds
unfolding store_bytes blocks_of
end_is initial s ds h =
    let parts = ap length (cut_joined ds) in
    let split = length-append (joined (cut ds).full) (cut ds).rest in
    let num : s.num_docs ≡ length ds = h.num_docs in
    let written : s.writer.written_bytes ≡ initial.written_bytes + length (blocks_bytes (cut ds).full) = h.writer.written_bytes in
    let base : s.base ≡ initial.written_bytes = h.base in
    ended s (cut ds).full (cut ds).rest h.block h.index (omega arith) (omega arith)

small : (a b : CountingWriterState) (bytes : List ℕ) → Wrote a b bytes → length bytes < 2 ^ 64
small a b bytes wrote = ⊎_elim (λ less. less) (λ more. absurd (wrote.fits (omega arith) (inl (omega arith)))) (cases_lt (length bytes) (2 ^ 64))

-- a store that was written to its end
pub wrote_store : (r : Result (Unit {0}) Fault) (initial final : CountingWriterState) (s : StoreWriterState) (ds : List (List ℕ)) → HasStored initial s ds → WritesInMemory false s.writer final (end_bytes s) r → OnOk r (WroteStore initial final ds)
wrote_store (Ok u) initial final s ds h writes =
    let end : Wrote s.writer final (end_bytes s) = (writes.writes refl (λ is. absurd (cc))).ok in
    let all : Wrote initial final (store_bytes ds) = subst (Wrote initial final) (end_is initial s ds h) (Wrote-trans initial s.writer final (blocks_bytes (cut ds).full) (end_bytes s) h.writer end) in
    record { wrote = all; holds = gives_back ds (record { few = h.few; lengths = h.lengths; size = small initial final (store_bytes ds) all }) }
wrote_store (Err f) initial final s ds h writes = tt

-- a call that doesn't allocate
in_memory : (a b : CountingWriterState) (xs : List ℕ) (r : Result (Unit {0}) Fault) → Writes a b xs r → WritesInMemory false a b xs r
in_memory a b xs (Ok u) h = record { writes = λ still had. h; memory = λ is. absurd (cc); refused = λ is. absurd (cc) }
in_memory a b xs (Err e) h = record { writes = λ still had. h; memory = λ is. absurd (⊎_elim (λ write. cc) (λ limit. cc) h.only); refused = λ is. absurd (cc) }

-- bytes after those of a call that succeeded
pub ends_then : (first r : Result (Unit {0}) Fault) (a b c : CountingWriterState) (xs ys : List ℕ) → false ≡ is_err first → WritesInMemory false a b xs first → Writes b c ys r → WritesInMemory false a c (xs ++ ys) r
ends_then (Ok u) r a b c xs ys went h k = memory_then a b c xs ys r (h.writes refl (λ is. absurd (cc))).ok (in_memory b c ys r k)
ends_then (Err e) r a b c xs ys went h k = absurd (cc)
