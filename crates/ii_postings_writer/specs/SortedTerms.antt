-- The terms of an index, field by field.
use Rattle.std.specs.Prelude.{MatchOption, ⊤, ◌^◌, if◌then◌else◌, IsTrue, [], ℕ, ◌==◌, ◌<◌, ◌≤◌, List, ◌++◌, drop, filter, length, map, slice_index_or, Option, None, Some}
use Rattle.ii_base.specs.Values.{json_key}
use Rattle.ii_recorder.specs.AnyRecorder.{any_state}
use Rattle.ii_recorder.specs.declared.recorder.AnyRecorder.{AnyRecorder}
use Rattle.std.specs.List.{AllByRecursion}
use Rattle.ii_base.specs.declared.schema.index_record_option.IndexRecordOption.{IndexRecordOption}
use Rattle.ii_base.specs.declared.schema.index_record_option.IndexRecordOption.TheVariants.{Basic}
use Rattle.ii_base.specs.Options.{has_freq, has_positions}
use Rattle.ii_base.specs.Entries.{are_documents, docs_of}
use Rattle.ii_fieldnorm.specs.Readers.{Norms, norms_of_ids}
use Rattle.ii_io.specs.Composite.{Body, body_of}
use Rattle.ii_layout.specs.Bounds.{Covers}
use Rattle.std.specs.Option.{option_map}
use Rattle.ii_recorder.specs.Pushed.{FillTooLarge, HaveDeltas, pushed_deltas, pushed_freqs}
use Rattle.ii_recorder.specs.Recorded.{RecorderState, entries_of_recorder}
use Rattle.ii_recorder.specs.Terms.{WrittenTerm}
use Rattle.ii_postings_writer.specs.declared.sorted_terms.KeptTerm.{KeptTerm}
use Rattle.ii_postings_writer.specs.declared.sorted_terms.TermOfField.{TermOfField}
use Rattle.ii_postings_writer.specs.IndexingContext.{TermIndex, recorder_of}
use Rattle.ii_postings_writer.specs.IndexingTerm.{field_bytes, field_in}

-- A term of a field: its key and its recorder.
pub record SortedTerm : Type 0 where
  pub key : List ℕ
  pub recorder : RecorderState

-- the key of a term: the bytes after its field, where the path replaces its id if there is one
abbrev pub key_under : List (List ℕ) → Option ℕ → List ℕ → List ℕ
key_under paths None term = drop 4 term
key_under paths (Some id) term = json_key (slice_index_or paths id []) (drop 8 term)

-- the model of a borrowed term
abbrev pub state_of : TermOfField → SortedTerm
state_of t = record { key = key_under t.paths.now t.id t.term.now; recorder = any_state t.recorder.now }

-- a term of the context, as a term of its field
abbrev pub term_of : List ℕ × RecorderState → SortedTerm
term_of t = record { key = drop 4 t.0; recorder = t.1 }

-- the terms of a field
abbrev pub terms_in : ℕ → TermIndex → List SortedTerm
terms_in field terms = map term_of (filter (λ (t : List ℕ × RecorderState). field_in t.0 == field) terms)

-- an entry of a term map: its bytes and its recorder
abbrev pub seen : List ℕ × AnyRecorder → List ℕ × RecorderState
seen e = (e.0, any_state e.1)

-- a borrowed term: its bytes and its recorder
abbrev pub kept_state : KeptTerm → List ℕ × RecorderState
kept_state t = (t.term.now, any_state t.recorder.now)

-- A term belongs to a field below `num_fields`.
pub record IsTermBelow (num_fields : ℕ) (t : List ℕ × RecorderState) : Type 0 where
  pub long : 4 ≤ length t.0
  pub known : field_in t.0 < num_fields

-- the option of a term's entries in a field: `mode`, or `Basic` if the recorder keeps no term frequencies
abbrev pub term_option : IndexRecordOption → SortedTerm → IndexRecordOption
term_option mode t = if has_freq t.recorder.option then mode else Basic

-- a term as it is written to a field with these norms and the option `mode`
abbrev pub written_term : Option Norms → IndexRecordOption → SortedTerm → WrittenTerm
written_term norms mode t =
    let es = entries_of_recorder t.recorder in
    record {
      key = t.key;
      norms = norms;
      skip_info = term_option mode t;
      docs = docs_of es;
      freqs = pushed_freqs t.recorder.option es;
      deltas = if has_positions mode then pushed_deltas es else [];
    }

-- the norms of a field, if it has any
abbrev pub norms_in : List Body → ℕ → Option Norms
norms_in readers field = option_map norms_of_ids (body_of field readers)

-- A term may be written: its documents ascend, kept frequencies aren't 0, and norms cover the documents.
pub record IsWritable (norms : Option Norms) (t : SortedTerm) : Type 0 where
  pub ascending : IsTrue (are_documents (docs_of (entries_of_recorder t.recorder)))
  pub counted : IsTrue (has_freq t.recorder.option) → AllByRecursion (λ n. 0 < n) (pushed_freqs t.recorder.option (entries_of_recorder t.recorder))
  pub covered : AllByRecursion (Covers norms) (docs_of (entries_of_recorder t.recorder))

-- A written term's counts fit in 32 bits, no block of counts is too large, and its deltas give its positions.
pub record IsTold (mode : IndexRecordOption) (t : SortedTerm) : Type 0 where
  pub small : ¬ FillTooLarge (term_option mode t) [] (pushed_freqs t.recorder.option (entries_of_recorder t.recorder))
  pub fit : AllByRecursion (λ n. n < 2 ^ 32) (pushed_freqs t.recorder.option (entries_of_recorder t.recorder))
  pub located : IsTrue (has_positions t.recorder.option) → HaveDeltas (entries_of_recorder t.recorder)

-- A context's recorder of a term may be written to a field below `num_fields`, with the norms of that field.
pub record MayBeWritten (num_fields : ℕ) (readers : List Body) (bytes : List ℕ) (r : RecorderState) : Type 0 where
  pub known : field_in bytes < num_fields
  pub writable : IsWritable (norms_in readers (field_in bytes)) (record { key = drop 4 bytes; recorder = r })

-- Each term of the context may be written.
abbrev pub AllMayBeWritten : ℕ → List Body → TermIndex → Type 0
AllMayBeWritten num_fields readers terms = (field : ℕ) (key : List ℕ) → field < 2 ^ 32 → MatchOption (recorder_of terms (field_bytes field ++ key)) ⊤ (MayBeWritten num_fields readers (field_bytes field ++ key))
