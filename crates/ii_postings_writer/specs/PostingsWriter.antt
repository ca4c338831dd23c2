-- What a postings writer does with a term, and with the words of a text.
use Rattle.std.specs.Prelude.{◌≡◌, ◌⊎◌, ℕ, ◌+◌, max, Bool, true, if◌then◌else◌, List, ◌++◌, length, map, nat_le, nat_lt, Option, None, Some}
use Rattle.std.specs.List.{fold}
use Rattle.ii_io.specs.declared.faults.Fault.{Fault}
use Rattle.ii_io.specs.declared.faults.Fault.TheVariants.{Limit, OutOfMemory}
use Rattle.ii_io.specs.declared.faults.LimitName.TheVariants as limit
use Rattle.ii_base.specs.declared.schema.index_record_option.IndexRecordOption.{IndexRecordOption}
use Rattle.ii_base.specs.declared.schema.index_record_option.IndexRecordOption.TheVariants.{Basic}
use Rattle.ii_base.specs.declared.schema.value_type.ValueType.{ValueType}
use Rattle.ii_base.specs.declared.schema.value_type.ValueType.TheVariants.{Str, U64, I64, Bool as Truth, Date, Bytes, Json, IpAddr}
use Rattle.ii_base.specs.Schema.{SchemaEntry}
use Rattle.ii_definitions.specs.JsonKeys.{is_json}
use Rattle.ii_base.specs.Words.{Word}
use Rattle.ii_recorder.specs.Recorded.{u32_max}
use Rattle.ii_definitions.specs.Tokens.{IndexToken, Piece, kept_words, word_token}
use Rattle.ii_definitions.specs.Postings.{field_count, kind_of, tokens_at}
use Rattle.ii_postings_writer.specs.IndexingContext.{AllEndBy, IsRecorded, TermIndex, record_fault, recorder_or_new}
use Rattle.ii_postings_writer.specs.declared.indexing_position.IndexingPosition.{IndexingPosition}
use Rattle.ii_postings_writer.specs.IndexingTerm.{IndexingTermState, field_bytes}
use Rattle.ii_postings_writer.specs.Records.{Records}
use Rattle.ii_postings_writer.specs.WordRefusals.{gap_fault, u64_max, words_fault}
use Rattle.ii_json.specs.LeafVisit.{first_fault}

-- What a postings writer keeps of a text's terms and of a value's, and its number of tokens.
pub record PostingsWriterState : Type 0 where
  pub option : IndexRecordOption
  pub value_option : IndexRecordOption
  pub total_num_tokens : ℕ

-- what is kept of a field's terms: the field's option for text and JSON, else only the documents
abbrev pub kept_as : ValueType → IndexRecordOption → IndexRecordOption
kept_as Str option = option
kept_as U64 option = Basic
kept_as I64 option = Basic
kept_as Truth option = Basic
kept_as Date option = Basic
kept_as Bytes option = Basic
kept_as Json option = option
kept_as IpAddr option = Basic

-- what is kept of a text's term in a field
abbrev pub text_kept_of : SchemaEntry → IndexRecordOption
text_kept_of e = kept_as e.value_type e.option

-- what is kept of a value's term in a field: only the documents in a JSON field
abbrev pub value_kept_of : SchemaEntry → IndexRecordOption
value_kept_of e = if is_json e.value_type then Basic else text_kept_of e

-- the writer of a field, before any token
abbrev pub writer_of : SchemaEntry → PostingsWriterState
writer_of e = record { option = text_kept_of e; value_option = value_kept_of e; total_num_tokens = 0 }

-- the writers of a schema, before any token
abbrev pub writers_of : List SchemaEntry → List PostingsWriterState
writers_of entries = map writer_of entries

-- a writer after `n` more tokens
abbrev pub tokens_counted : ℕ → PostingsWriterState → PostingsWriterState
tokens_counted n w = record w { total_num_tokens = w.total_num_tokens + n }

-- the token of a term
abbrev pub term_token : ℕ → ℕ → Bool → IndexingTermState → IndexToken
term_token doc position of_text term = record { doc = doc; field = term.field; key = term.value; position = position; of_text = of_text }

-- why a position can't be recorded under an option: too many tokens in the field, or the recorder's fault
abbrev pub subscribe_fault : IndexRecordOption → ℕ → ℕ → ℕ → List ℕ → TermIndex → Option Fault
subscribe_fault option num_tokens doc position term terms =
    if nat_le u64_max num_tokens then Some (Limit limit.Tokens)
    else record_fault doc position (recorder_or_new option terms term)

-- What changes while the words of a text are indexed.
pub record TextState : Type 0 where
  pub terms : TermIndex
  pub writer : PostingsWriterState
  pub num_tokens : ℕ
  pub end_position : ℕ

-- the state while a text is indexed
abbrev pub text_state : TermIndex → PostingsWriterState → IndexingPosition → TextState
text_state terms w at = record { terms = terms; writer = w; num_tokens = at.num_tokens; end_position = at.end_position }

-- a text of a document, whose keys are a term's value followed by a word
abbrev pub text_piece : ℕ → IndexingTermState → List Word → Piece
text_piece doc term words = record { doc = doc; field = term.field; path = None; prefix = term.value; is_text = true; words = words }

-- where a word ends
abbrev pub word_end : ℕ → Word → ℕ
word_end begin w = begin + w.position + w.position_length

-- the bytes of a word's term
abbrev pub word_bytes : Piece → Word → List ℕ
word_bytes p w = field_bytes p.field ++ (p.prefix ++ w.text)

-- why a kept word can't be indexed: the first cause in this order
abbrev pub kept_fault : Piece → ℕ → Word → TextState → Option Fault
kept_fault p begin w s =
    if nat_lt u32_max (word_end begin w) then Some (Limit limit.Position)
    else if nat_le u32_max s.num_tokens then Some (Limit limit.Tokens)
    else subscribe_fault s.writer.option s.writer.total_num_tokens p.doc (begin + w.position) (word_bytes p w) s.terms

-- A kept word was indexed.
pub record IndexesKept (p : Piece) (begin : ℕ) (w : Word) (old new : TextState) : Type 0 where
  pub recorded : IsRecorded old.writer.option p.doc (begin + w.position) (word_bytes p w) old.terms new.terms
  pub ends : AllEndBy p.doc new.terms
  pub writer : new.writer ≡ tokens_counted 1 old.writer
  pub num_tokens : new.num_tokens ≡ old.num_tokens + 1
  pub end_position : new.end_position ≡ max old.end_position (word_end begin w)

-- A context has these tokens; a writer counts those of a text's field, with one option for the text's keys.
pub record HasTokens (kind : ℕ → List ℕ → IndexRecordOption) (p : Piece) (terms : TermIndex) (w : PostingsWriterState) (ts : List IndexToken) : Type 0 where
  pub records : Records kind terms ts
  pub kinds : (key : List ℕ) → kind p.field (p.prefix ++ key) ≡ w.option
  pub of_text : (key : List ℕ) → kind_of w.option (tokens_at p.field (p.prefix ++ key) ts) ≡ w.option
  pub counted : w.total_num_tokens ≡ field_count p.field ts

-- Kept words of a text were indexed in order.
pub record IndexesWords (p : Piece) (begin : ℕ) (ws : List Word) (old new : TextState) : Type 0 where
  pub tokens : (kind : ℕ → List ℕ → IndexRecordOption) (ts : List IndexToken) → HasTokens kind p old.terms old.writer ts
      → HasTokens kind p new.terms new.writer (ts ++ map (word_token p begin) ws) × (words_fault old.writer.option p begin old.num_tokens ts ws ≡ None)
  pub ends : AllEndBy p.doc new.terms
  pub writer : new.writer ≡ tokens_counted (length ws) old.writer
  pub num_tokens : new.num_tokens ≡ old.num_tokens + length ws
  pub end_position : new.end_position ≡ fold (λ (end : ℕ) (w : Word). max end (word_end begin w)) old.end_position ws

-- Kept words were refused, with `OutOfMemory` or their first fault.
abbrev pub RefusesWords : Piece → ℕ → List Word → TextState → Fault → Type 0
RefusesWords p begin ws old fault =
    (kind : ℕ → List ℕ → IndexRecordOption) (ts : List IndexToken) → HasTokens kind p old.terms old.writer ts
    → (fault ≡ OutOfMemory) ⊎ (words_fault old.writer.option p begin old.num_tokens ts ws ≡ Some fault)

-- why a text is refused after a document's earlier texts: the first fault of its words, or that of the gap
abbrev pub text_fault : IndexRecordOption → Piece → IndexingPosition → List IndexToken → Option Fault
text_fault option p at ts = first_fault (words_fault option p at.end_position at.num_tokens ts (kept_words p.words)) (gap_fault at.end_position p.words)
