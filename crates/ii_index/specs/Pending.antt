-- Documents that weren't committed: in segments that were written, and in memory.
use Rattle.std.specs.Prelude.{◌≡◌, ◌⊎◌, ◌+◌, ℕ, true, List, [], ◌∷◌, ◌++◌, Option, None, Some, IsSome, Result, Ok, Err, length, nat_lt, replicate, if◌then◌else◌}
use Rattle.std.specs.List.{AllZip}
use Rattle.ii_base.specs.Schema.{SchemaEntry}
use Rattle.ii_base.specs.Words.{Word}
use Rattle.ii_base.specs.declared.doc_id.TheConstants.{TERMINATED}
use Rattle.ii_definitions.specs.Tokens.{Call, IndexToken}
use Rattle.ii_directory.specs.Directory.{Files}
use Rattle.ii_directory.specs.declared.name.Name.TheVariants.{Meta}
use Rattle.ii_documents.specs.JsonLines.{Refusal, line_calls_by, too_many_documents}
use Rattle.ii_documents.specs.declared.floats.FloatNumbers.TheVariants as floats
use Rattle.ii_schema_text.specs.SchemaText.{TextSchemaState}
use Rattle.ii_segment_store.specs.Contents.{IndexContents, SegmentContents, index_contents, list_contents}
use Rattle.ii_segment_store.specs.Pending.{FollowsFlags, IsPending, begun, with_next}
use Rattle.ii_segments.specs.Segments.{Segment, num_docs_of}
use Rattle.ii_store.specs.declared.faults.IndexFault.{IndexFault}
use Rattle.ii_store.specs.IndexMeta.{MetaState}
use Rattle.ii_store.specs.Segments.{list_in}
use Rattle.ii_tokenizers.specs.Tokenizers.{analyzed_in}
use Rattle.nequllpa_indexing.specs.Documents.{DocumentsState, next_calls}
use Rattle.nequllpa_indexing.specs.FieldTokens.{tokens_by}
use Rattle.nequllpa_merging.specs.HeldSegments.{HoldsSegment}
use Rattle.ii_index.specs.Index.{FlushedState, IndexWriterState, num_pending}
use Rattle.ii_index.specs.Segments.{HaveTokens, segment_of}

-- an index with more segments, at its end
abbrev pub with_segments : List SegmentContents → Result IndexContents IndexFault → Result IndexContents IndexFault
with_segments cs (Ok c) = Ok (record { schema = c.schema; segments = c.segments ++ cs })
with_segments cs (Err fault) = Err fault

-- Files hold a segment, all of whose documents are alive and counted.
pub record IsWrittenSegment (entries : List SchemaEntry) (c : SegmentContents) (s : Segment) : Type 0 where
  pub holds : HoldsSegment entries c s
  pub counted : IsSome c.counts
  pub alive : s.alive ≡ replicate (length s.alive) true

-- Files of segments hold these, one by one.
abbrev pub AreWrittenSegments : List SchemaEntry → List SegmentContents → List Segment → Type 0
AreWrittenSegments entries cs ss = AllZip (IsWrittenSegment entries) cs ss

-- The segments of the next list of a directory's index that the index doesn't have hold these.
pub record HoldsFlushed (entries : List SchemaEntry) (files : Files) (x : FlushedState) (ss : List Segment) : Type 0 where
  pub pending : IsPending x.list files
  pub follows : FollowsFlags x.list files
  pub first : (c : IndexContents) → index_contents files ≡ Ok c → x.first ≡ length c.segments
  pub contents : List SegmentContents
  pub read : list_contents x.list files ≡ with_segments contents (index_contents files)
  pub written : AreWrittenSegments entries contents ss
  pub num_docs : x.num_docs ≡ num_docs_of ss

-- The same, if segments were written.
abbrev pub HoldsFlushedIf : List SchemaEntry → Files → Option FlushedState → List Segment → Type 0
HoldsFlushedIf entries files None ss = ss ≡ []
HoldsFlushedIf entries files (Some x) ss = HoldsFlushed entries files x ss

-- Segments that were written hold k documents with these tokens.
pub record AreWritten (entries : List SchemaEntry) (files : Files) (x : FlushedState) (k : ℕ) (us : List IndexToken) : Type 0 where
  pub segments : List Segment
  pub flushed : HoldsFlushed entries files x segments
  pub have : HaveTokens k us segments

-- Segments that were written, and documents in memory after them, are k documents with these tokens.
pub record ArePending (s : TextSchemaState) (files : Files) (flushed : Option FlushedState) (d : DocumentsState) (k : ℕ) (us : List IndexToken) : Type 0 where
  pub segments : List Segment
  pub holds : HoldsFlushedIf s.schema files flushed segments
  pub have : HaveTokens k us (segments ++ segment_of (analyzed_in s.tokenizers) d ∷ [])

-- The documents of a writer that weren't committed are k documents with these tokens.
abbrev pub HasPending : {D : Type 0} → Files → IndexWriterState D → ℕ → List IndexToken → Type 0
HasPending files w k us = ArePending w.index.schema files w.flushed w.documents k us

-- the tokens of calls, unless there is an error
abbrev pub tokens_if : (ℕ → List ℕ → List Word) → Result (List Call) Refusal → List IndexToken
tokens_if words (Ok calls) = tokens_by words calls
tokens_if words (Err refusal) = []

-- the tokens of a text as a document under a number
abbrev pub document_tokens : TextSchemaState → ℕ → List ℕ → List IndexToken
document_tokens s doc text = tokens_if (analyzed_in s.tokenizers) (line_calls_by s.unknown_keys floats.Refuse s.schema doc text)

-- A text is a document, whose tokens come after those of the documents that weren't committed.
pub record AddsPending {D : Type 0} (before after : Files) (old new : IndexWriterState D) (text : List ℕ) : Type 0 where
  pub calls : List Call
  pub is_document : next_calls old.documents text ≡ Ok calls
  pub pending : (k : ℕ) (us : List IndexToken) → HasPending before old k us → HasPending after new (k + 1) (us ++ document_tokens old.index.schema k text)

-- the calls of one more document in memory, if there is room for it
abbrev pub calls_to_add : {D : Type 0} → IndexWriterState D → List ℕ → Result (List Call) Refusal
calls_to_add w line = if nat_lt (num_pending w) TERMINATED then next_calls w.documents line else Err too_many_documents

-- The next list of an index starts so: with the segments of the index, or with those that were written as well.
abbrev pub IsFirstList : Option FlushedState → Files → MetaState → Type 0
IsFirstList None files p = (m : MetaState) × (list_in (files Meta) ≡ Ok m) × (p ≡ begun m)
IsFirstList (Some x) files p = p ≡ x.list

-- The next list of an index, once documents in memory are written.
abbrev pub IsNextList : TextSchemaState → Option FlushedState → DocumentsState → Files → MetaState → Type 0
IsNextList s flushed d files p =
    (first : MetaState) × IsFirstList flushed files first × (((d.num_docs ≡ 0) × (p ≡ first)) ⊎ ((c : SegmentContents) × HoldsSegment s.schema c (segment_of (analyzed_in s.tokenizers) d) × (p ≡ with_next first c)))
