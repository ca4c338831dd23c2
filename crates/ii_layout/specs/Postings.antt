-- The postings of a term: what its bytes hold, or the first corrupt part.
use Rattle.std.specs.Prelude.{ℕ, ◌/◌, ◌%◌, ◌&&◌, List, map, Option, None, Some, Result, Ok, ok_or}
use Rattle.std.specs.List.{zip}
use Rattle.ii_io.specs.declared.faults.Part.{Part}
use Rattle.ii_io.specs.declared.faults.Part.TheVariants.{Skip, Documents, Frequencies}
use Rattle.ii_io.specs.Parts.{◌>>=◌}
use Rattle.ii_base.specs.declared.schema.index_record_option.IndexRecordOption.{IndexRecordOption}
use Rattle.ii_base.specs.Options.{has_freq}
use Rattle.ii_base.specs.Entries.{Entry, document, counted}
use Rattle.ii_layout.specs.SkipList.{SkipList, skip_list}
use Rattle.ii_layout.specs.Documents.{documents_at}
use Rattle.ii_layout.specs.Frequencies.{has_freqs, freqs_if}

-- A term's skip list, its documents, the bytes after them, and its frequencies if they are read.
pub record Postings : Type 0 where
  pub skip : SkipList
  pub docs : List ℕ
  pub after : List ℕ
  pub freqs : Option (List ℕ)

-- the postings that bytes hold, by the number of documents and the recorded and requested options
abbrev pub postings : IndexRecordOption → IndexRecordOption → ℕ → List ℕ → Result Postings Part
postings recorded requested doc_freq bytes = do
  skip ← ok_or (skip_list recorded (doc_freq / 128) bytes) Skip
  found ← ok_or (documents_at skip (doc_freq % 128)) Documents
  freqs ← ok_or (freqs_if (has_freq requested && has_freqs skip found.1) skip (doc_freq % 128) found.1) Frequencies
  Ok (record { skip = skip; docs = found.0; after = found.1; freqs = freqs })

-- documents with their term frequencies, each 1 if frequencies aren't read
abbrev pub entries_of : List ℕ → Option (List ℕ) → List Entry
entries_of docs None = map document docs
entries_of docs (Some freqs) = map (λ e. counted e.0 e.1) (zip docs freqs)

-- the list of a term without its positions
abbrev pub posting_list : IndexRecordOption → IndexRecordOption → ℕ → List ℕ → Result (List Entry) Part
posting_list recorded requested doc_freq bytes = do
  p ← postings recorded requested doc_freq bytes
  Ok (entries_of p.docs p.freqs)
