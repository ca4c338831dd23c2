-- What a recorder adds to the serializer of a field, and the outcomes.
use Rattle.std.specs.Prelude.{◌≡◌, ℕ, ◌+◌, ◌^◌, ◌<◌, ◌⊎◌, true, false, if◌then◌else◌, IsTrue, List, [], ◌++◌, Ok, Option, Some, length, map, take, Result, OnOk, IfErr, IsErrOf}
use Rattle.std.specs.List.{AllByRecursion, flat_map}
use Rattle.ii_io.specs.declared.faults.Fault.{Fault}
use Rattle.ii_io.specs.declared.faults.Fault.TheVariants.{Limit, OutOfMemory, SerializerClosed}
use Rattle.ii_io.specs.declared.faults.LimitName.TheVariants.{BlockFrequencySum}
use Rattle.ii_base.specs.declared.schema.index_record_option.IndexRecordOption.{IndexRecordOption}
use Rattle.ii_base.specs.Options.{downgrade, has_freq, has_positions}
use Rattle.ii_codes.specs.Sums.{differences}
use Rattle.ii_base.specs.Entries.{Entry, are_documents, docs_of}
use Rattle.ii_fieldnorm.specs.Readers.{Norms}
use Rattle.ii_layout.specs.Bounds.{Covers}
use Rattle.ii_layout.specs.Positions.{positions_of}
use Rattle.ii_layout.specs.PostingsSerializer.{IsSumTooLarge}
use Rattle.ii_layout.specs.TermList.{AreDeltas, term_list}
use Rattle.ii_layout.specs.Written.{written_postings}
use Rattle.ii_definitions.specs.Cut.{cut_entry}
use Rattle.ii_recorder.specs.Terms.{positions_bytes}
use Rattle.ii_recorder.specs.IndexSerializer.{EndsInMemory, IndexSerializerState}

-- the term frequencies of entries, 0 if the option keeps none
abbrev pub pushed_freqs : IndexRecordOption → List Entry → List ℕ
pushed_freqs option es = map (λ (e : Entry). if has_freq option then e.term_freq else 0) es

-- the distance of each position of a document from the previous one, the first from 0
abbrev pub pushed_deltas : List Entry → List ℕ
pushed_deltas es = flat_map (λ (e : Entry). differences 0 e.positions) es

-- a serializer whose open term has these additional entries
abbrev pub with_entries : IndexRecordOption → IndexSerializerState → List Entry → IndexSerializerState
with_entries option s es =
    let t = s.field.term in
    record s {
      field = record s.field {
        term = record t {
          docs = t.docs ++ docs_of es;
          freqs = t.freqs ++ pushed_freqs option es;
          deltas = if has_positions t.mode then t.deltas ++ pushed_deltas es else t.deltas;
        };
      };
    }

-- the term frequencies of entries
abbrev pub counts_of : List Entry → List ℕ
counts_of es = map (λ (e : Entry). e.term_freq) es

-- The deltas of entries may be written, and give their positions.
pub record HaveDeltas (es : List Entry) : Type 0 where
  pub deltas : AreDeltas (counts_of es) (pushed_deltas es)
  pub give : positions_of (counts_of es) (pushed_deltas es) ≡ map (λ (e : Entry). e.positions) es

-- One of the added frequencies fills a block whose sum is too large.
abbrev pub FillTooLarge : IndexRecordOption → List ℕ → List ℕ → Type 0
FillTooLarge skip_info old added = (n : ℕ) × (n < length added) × IsSumTooLarge skip_info (old ++ take (n + 1) added)

-- Entries may be added: a term is open, and their documents, frequencies and norms are valid for it.
pub record MayPush (option : IndexRecordOption) (s : IndexSerializerState) (es : List Entry) : Type 0 where
  pub inside : s.closed ≡ false → s.field.term_open ≡ true
  pub ascending : s.closed ≡ false → IsTrue (are_documents (s.field.term.docs ++ docs_of es))
  pub counted : s.closed ≡ false → IsTrue (has_freq s.field.term.skip_info) → AllByRecursion (λ n. 0 < n) (pushed_freqs option es)
  pub covered : s.closed ≡ false → AllByRecursion (Covers s.field.term.norms) (docs_of es)

-- The outcomes of adding entries.
pub record Pushes (option : IndexRecordOption) (old new : IndexSerializerState) (es : List Entry) (result : Result (Unit {0}) Fault) : Type 0 where
  pub ok : OnOk result (new ≡ with_entries option old es)
  pub small : OnOk result (¬ FillTooLarge old.field.term.skip_info old.field.term.freqs (pushed_freqs option es))
  pub fit : OnOk result (AllByRecursion (λ n. n < 2 ^ 32) (pushed_freqs option es))
  pub ends : EndsInMemory old new result
  pub limit : IsErrOf result (Limit BlockFrequencySum) → FillTooLarge old.field.term.skip_info old.field.term.freqs (pushed_freqs option es)
  pub only : IfErr result (λ e. (e ≡ OutOfMemory) ⊎ (e ≡ SerializerClosed) ⊎ (e ≡ Limit BlockFrequencySum))

-- Valid entries of a term of a field that records the term's frequencies and positions.
pub record AreReadable (mode : IndexRecordOption) (es : List Entry) : Type 0 where
  pub documents : IsTrue (are_documents (docs_of es))
  pub some : 0 < length es
  pub counted : IsTrue (has_freq mode) → AllByRecursion (λ n. 0 < n) (pushed_freqs mode es)
  pub fit : AllByRecursion (λ n. n < 2 ^ 32) (pushed_freqs mode es)
  pub small : ¬ FillTooLarge mode [] (pushed_freqs mode es)
  pub located : IsTrue (has_positions mode) → HaveDeltas es

-- Written entries read back, as far as they are requested.
abbrev pub ReadsEntriesBack : Type 0
ReadsEntriesBack =
    (norms : Option Norms) (mode requested : IndexRecordOption) (es : List Entry) → AreReadable mode es
    → term_list mode requested (length es) (written_postings norms mode (docs_of es) (pushed_freqs mode es)) (Some (positions_bytes mode (pushed_deltas es))) ≡ Ok (map (cut_entry (downgrade mode requested)) es)
