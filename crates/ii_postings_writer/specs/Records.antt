-- Which tokens an indexing context has.
use Rattle.std.specs.Prelude.{◌≡◌, ℕ, ◌<◌, ◌^◌, List, [], ◌++◌, map, IsSome, MatchOption}
use Rattle.ii_base.specs.declared.schema.index_record_option.IndexRecordOption.{IndexRecordOption}
use Rattle.ii_recorder.specs.Recorded.{RecorderState, entries_of_recorder}
use Rattle.ii_definitions.specs.Cut.{cut_entry}
use Rattle.ii_definitions.specs.Tokens.{IndexToken}
use Rattle.ii_definitions.specs.Postings.{grouped, tokens_at}
use Rattle.ii_postings_writer.specs.IndexingTerm.{field_bytes}
use Rattle.ii_postings_writer.specs.IndexingContext.{TermIndex, recorder_of}

-- A recorder has the postings of these tokens under an option, and its last document is open.
pub record HasPostings (option : IndexRecordOption) (ts : List IndexToken) (r : RecorderState) : Type 0 where
  pub kept : r.option ≡ option
  pub entries : entries_of_recorder r ≡ map (cut_entry option) (grouped ts)
  pub opened : IsSome r.pending

-- Exactly the keys that occurred have recorders, each with the postings of its key.
abbrev pub Records : (ℕ → List ℕ → IndexRecordOption) → TermIndex → List IndexToken → Type 0
Records kind terms ts =
    (field : ℕ) (key : List ℕ) → field < 2 ^ 32
    → MatchOption (recorder_of terms (field_bytes field ++ key)) (tokens_at field key ts ≡ []) (HasPostings (kind field key) (tokens_at field key ts))
