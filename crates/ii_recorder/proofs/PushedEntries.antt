-- What was added reads back.
use Rattle.std.proofs.Common.{Result, ◌≡◌, ℕ, zero, suc, ◌+◌, ◌-◌, ◌*◌, ◌^◌, ◌<◌, ◌≤◌, if◌then◌else◌, List, [], ◌∷◌, length, map, take, drop, get_or, Some, None, Ok, refl, sym, ap, ◌∙◌, arith, ⊎_elim}
use Rattle.std.specs.Prelude.{IsTrue}
use Rattle.std.specs.List.{AllByRecursion, sum, zip}
use Rattle.std.proofs.lemmas.Bool.{cases_lt}
use Rattle.std.proofs.lemmas.List.{drop-take, length-map, length-take}
use Rattle.ii_io.specs.declared.faults.Part.{Part}
use Rattle.ii_base.specs.declared.schema.index_record_option.IndexRecordOption.{IndexRecordOption}
use Rattle.ii_base.specs.declared.schema.index_record_option.IndexRecordOption.TheVariants.{Basic, WithFreqs, WithFreqsAndPositions}
use Rattle.ii_base.specs.Options.{downgrade, has_freq, has_positions}
use Rattle.ii_base.specs.Entries.{Entry, counted, docs_of, document}
use Rattle.ii_layout.specs.Positions.{written_positions}
use Rattle.ii_layout.specs.TermList.{ReadsTermBack, list_of, located, term_list}
use Rattle.ii_layout.specs.Written.{AreFreqs, block_of, freqs_read, written_postings}
use Rattle.ii_definitions.specs.Cut.{cut_entry}
use Rattle.ii_recorder.specs.Pushed.{FillTooLarge, HaveDeltas, ReadsEntriesBack, counts_of, pushed_deltas, pushed_freqs}
use Rattle.ii_recorder.specs.Terms.{positions_bytes}
use Rattle.ii_recorder.proofs.Documents.{few_documents}

at_each : (P : ℕ → Type 0) (xs : List ℕ) → AllByRecursion P xs → (k : ℕ) → k < length xs → P (get_or xs k 0)
at_each P [] h k below = absurd (omega arith)
at_each P (x ∷ xs) h zero below = h.0
at_each P (x ∷ xs) h (suc k) below = at_each P xs h.1 k (omega arith)

-- a full block whose sum is too large is filled by its last count
large_block : (skip_info : IndexRecordOption) (freqs : List ℕ) (i : ℕ) → IsTrue (has_positions skip_info) → 128 * i + 128 ≤ length freqs → 2 ^ 32 ≤ sum (block_of freqs i) → FillTooLarge skip_info [] freqs
large_block skip_info freqs i kept within large =
    let last : 128 * i + 127 + 1 ≡ 128 * i + 128 = omega arith in
    let size : length (take (128 * i + 128) freqs) ≡ 128 * i + 128 = omega (arith, length-take (128 * i + 128) freqs) in
    let start : 128 * i + 128 - 128 ≡ 128 * i = omega arith in
    let block : drop (128 * i) (take (128 * i + 128) freqs) ≡ block_of freqs i = drop-take (128 * i) 128 freqs in
    (128 * i + 127, omega arith, rw last (record { kept = kept; whole = rw size (omega arith); large = rw (size, start, block) large }))

-- the counts that were pushed to a term that had none
pub pushed_are_freqs : (skip_info : IndexRecordOption) (docs freqs : List ℕ) → length freqs ≡ length docs → AllByRecursion (λ n. 0 < n) freqs → AllByRecursion (λ n. n < 2 ^ 32) freqs → ¬ FillTooLarge skip_info [] freqs → AreFreqs skip_info docs freqs
pushed_are_freqs skip_info docs freqs many some fit small = record {
  many = many;
  some = λ k below. at_each (λ n. 0 < n) freqs some k below;
  fit = λ k below. at_each (λ n. n < 2 ^ 32) freqs fit k below;
  sums = λ kept i within. ⊎_elim (λ (low : sum (block_of freqs i) < 2 ^ 32). low) (λ (large : 2 ^ 32 ≤ sum (block_of freqs i)). absurd (small (large_block skip_info freqs i kept within large))) (cases_lt (sum (block_of freqs i)) (2 ^ 32));
}

pub documents_read : (es : List Entry) → map document (docs_of es) ≡ map (cut_entry Basic) es
documents_read [] = refl
documents_read (e ∷ es) = ap (λ (fs : List Entry). document e.doc ∷ fs) (documents_read es)

counts_read : (es : List Entry) → map (λ (e : ℕ × ℕ). counted e.0 e.1) (zip (docs_of es) (counts_of es)) ≡ map (cut_entry WithFreqs) es
counts_read [] = refl
counts_read (e ∷ es) = ap (λ (fs : List Entry). counted e.doc e.term_freq ∷ fs) (counts_read es)

positions_read : (es : List Entry) → located (map (λ (e : Entry). e.positions) es) (map (λ (e : ℕ × ℕ). counted e.0 e.1) (zip (docs_of es) (counts_of es))) ≡ map (cut_entry WithFreqsAndPositions) es
positions_read [] = refl
positions_read (e ∷ es) = ap (λ (fs : List Entry). record { doc = e.doc; term_freq = e.term_freq; positions = e.positions } ∷ fs) (positions_read es)

entries_read : (mode requested : IndexRecordOption) (es : List Entry) → (IsTrue (has_positions mode) → HaveDeltas es)
    → list_of (docs_of es) (freqs_read mode requested (pushed_freqs mode es)) (if has_positions (downgrade mode requested) then Some (pushed_deltas es) else None) ≡ map (cut_entry (downgrade mode requested)) es
entries_read Basic Basic es h = documents_read es
entries_read Basic WithFreqs es h = documents_read es
entries_read Basic WithFreqsAndPositions es h = documents_read es
entries_read WithFreqs Basic es h = documents_read es
entries_read WithFreqs WithFreqs es h = counts_read es
entries_read WithFreqs WithFreqsAndPositions es h = counts_read es
entries_read WithFreqsAndPositions Basic es h = documents_read es
entries_read WithFreqsAndPositions WithFreqs es h = counts_read es
entries_read WithFreqsAndPositions WithFreqsAndPositions es h = rw (h refl).give (positions_read es)

located_bytes : (mode : IndexRecordOption) (deltas : List ℕ) → IsTrue (has_positions mode) → positions_bytes mode deltas ≡ written_positions deltas
located_bytes mode deltas e = rw e refl

counts_are : (mode : IndexRecordOption) (es : List Entry) → IsTrue (has_positions mode) → pushed_freqs mode es ≡ counts_of es
counts_are Basic es e = absurd (cc)
counts_are WithFreqs es e = absurd (cc)
counts_are WithFreqsAndPositions es e = refl

pub reads_entries_back : ReadsTermBack → ReadsEntriesBack
reads_entries_back law norms mode requested es h =
    let many : length (docs_of es) ≡ length es = length-map es (λ (e : Entry). e.doc) in
    let counts : length (pushed_freqs mode es) ≡ length (docs_of es) = length-map es (λ (e : Entry). if has_freq mode then e.term_freq else 0) ∙ sym many in
    let few = few_documents (docs_of es) h.documents in
    let some = h.some in
    let read = law norms mode requested (docs_of es) (pushed_freqs mode es) (pushed_deltas es) (positions_bytes mode (pushed_deltas es)) h.documents (omega arith) (omega (arith, many))
    (λ has. pushed_are_freqs mode (docs_of es) (pushed_freqs mode es) counts (h.counted has) h.fit h.small) (λ has. (located_bytes mode (pushed_deltas es) has, rw (counts_are mode es has) (h.located has).deltas))
    in
    let as_ok : List Entry → Result (List Entry) Part = λ es. Ok es in
    sym (ap (λ (n : ℕ). term_list mode requested n (written_postings norms mode (docs_of es) (pushed_freqs mode es)) (Some (positions_bytes mode (pushed_deltas es)))) many)
    ∙ read
    ∙ ap as_ok (entries_read mode requested es h.located)
