-- Why the calls of an index fail.
use Rattle.std.specs.List.{AllZip}
use Rattle.std.specs.Prelude.{◌≡◌, ◌≢◌, ◌⊎◌, ⊤, ℕ, [], ◌∷◌, ◌++◌, List, Option, None, Some, Ok, IsSome, slice_get}
use Rattle.ii_base.specs.Schema.{SchemaEntry}
use Rattle.ii_base.specs.Words.{Word}
use Rattle.ii_definitions.specs.Fields.{option_of}
use Rattle.ii_directory.specs.Directory.{Files}
use Rattle.ii_directory.specs.declared.name.Name.TheVariants.{Meta}
use Rattle.ii_io.specs.declared.faults.Fault.{Fault}
use Rattle.ii_io.specs.declared.faults.Fault.TheVariants.{OutOfMemory}
use Rattle.ii_reader.specs.InvertedIndexReader.{IsRefusal}
use Rattle.ii_reader.specs.OpenIndex.{index_of_files}
use Rattle.ii_schema_text.specs.SchemaText.{TellsOfText, TextSchemaState, told_of_text}
use Rattle.ii_segment_store.specs.Changes.{IsFlaggedList}
use Rattle.ii_segment_store.specs.Pending.{IsBeginFault, IsFlaggingFault, IsPendingFault}
use Rattle.ii_segment_store.specs.Commits.{IsCommitFault, IsRefusedCommit, emptied}
use Rattle.ii_segment_search.specs.Searcher.{AreFew, OpenSegmentState}
use Rattle.ii_segment_store.specs.Contents.{IndexContents, SegmentContents, index_contents, list_contents}
use Rattle.ii_store.specs.Faults.{IsRefused}
use Rattle.ii_store.specs.Index.{Fails}
use Rattle.ii_store.specs.IndexMeta.{MetaState}
use Rattle.ii_segment_store.specs.declared.faults.CommitFault.{CommitFault}
use Rattle.ii_segments.specs.Segments.{Segment}
use Rattle.ii_documents.specs.declared.faults.LineFault.TheVariants.{TooLong}
use Rattle.ii_documents.specs.JsonLines.{TellsOfLine, told_of_line}
use Rattle.ii_store.specs.Segments.{list_in}
use Rattle.ii_store.specs.declared.faults.StoreFault.{StoreFault}
use Rattle.ii_store.specs.declared.faults.StoreFault.TheVariants as store
use Rattle.ii_tokenizers.specs.Tokenizers.{analyzed_in}
use Rattle.nequllpa_indexing.specs.Counted.{IsSegmentFault}
use Rattle.nequllpa_indexing.specs.Documents.{AddsLine, DocumentsState, IsTooLong}
use Rattle.nequllpa_indexing.specs.FieldTokens.{calls_fault_by, tokens_by}
use Rattle.nequllpa_indexing.specs.StoredLines.{IsLinesFault}
use Rattle.nequllpa_merging.specs.HeldSegments.{HoldsSegment}
use Rattle.nequllpa_merging.specs.Joins.{IsJoinFault, IsRefusedJoin}
use Rattle.ii_index.specs.Deletes.{AreDeletedOf, ArePendingDeleted, DeleteState, docs_in_files}
use Rattle.ii_index.specs.Index.{FlushedState, IndexWriterState, NewSchema, new_schema}
use Rattle.ii_index.specs.Pending.{IsNextList, calls_to_add, with_segments}
use Rattle.ii_index.specs.Searching.{OpenSegments}
use Rattle.ii_index.specs.Segments.{no_documents, segment_of}
use Rattle.ii_index.specs.declared.deletes.Scope.TheVariants.{Committed, Pending}
use Rattle.ii_index.specs.declared.faults.IndexError.{IndexError}
use Rattle.ii_index.specs.declared.faults.IndexError.TheVariants as faults

-- Why documents aren't made a segment, given the first fault of their calls: this one, or a limit of what is written, or an allocation failure.
abbrev pub IsBuildFault : Option Fault → (ℕ → List ℕ → List Word) → DocumentsState → Fault → Type 0
IsBuildFault (Some first) words d fault = (fault ≡ first) ⊎ (fault ≡ OutOfMemory)
IsBuildFault None words d fault = IsSegmentFault d.schema d.num_docs (tokens_by words d.calls) fault ⊎ IsLinesFault d.lines fault

-- Why documents aren't made a segment.
abbrev pub IsDocumentsFault : (ℕ → List ℕ → List Word) → DocumentsState → Fault → Type 0
IsDocumentsFault words d fault = IsBuildFault (calls_fault_by words (option_of d.schema) [] d.calls) words d fault

-- A call of the directory failed.
abbrev pub IsDirectoryFault : StoreFault → Type 0
IsDirectoryFault (store.Directory fault) = ⊤
IsDirectoryFault (store.Index fault) = ⊥

-- the directory refused a call
abbrev pub IsRefusedError : IndexError → Type 0
IsRefusedError (faults.Store fault) = IsRefused fault
IsRefusedError (faults.Commit fault) = IsRefusedCommit fault
IsRefusedError (faults.Merge fault) = IsRefusedJoin fault
IsRefusedError _ = ⊥

-- Why an index of the schema of a text isn't created.
abbrev pub IsCreateError : IndexError → List ℕ → Files → Type 0
IsCreateError faults.IndexAlreadyExists given files = IsSome (files Meta)
IsCreateError (faults.Store fault) given files = IsDirectoryFault fault
IsCreateError (faults.Schema fault) given files = TellsOfText (told_of_text fault) (new_schema given)
IsCreateError (faults.Documents fault) given files = (new : NewSchema) × (new_schema given ≡ Ok new) × ((fault ≡ OutOfMemory) ⊎ IsDocumentsFault (analyzed_in new.schema.tokenizers) (no_documents new.schema) fault)
IsCreateError (faults.Commit fault) given files = (new : NewSchema) × (new_schema given ≡ Ok new) × (c : SegmentContents) × HoldsSegment new.schema.schema c (segment_of (analyzed_in new.schema.tokenizers) (no_documents new.schema)) × IsCommitFault fault (Ok (emptied new.text (list_in (files Meta)))) c
IsCreateError _ given files = ⊥

-- Why documents aren't written, or the list with them: there is no list that this follows, or no `meta` can hold it, unless a directory call or an allocation failed.
abbrev pub IsListingFault : CommitFault → TextSchemaState → Option FlushedState → DocumentsState → Files → Type 0
IsListingFault fault s flushed d files = ((flushed ≡ None) × IsBeginFault fault (list_in (files Meta))) ⊎ ((p : MetaState) × IsNextList s flushed d files p × IsPendingFault fault p)

-- Why documents aren't added to an index of this schema.
abbrev pub IsAddError : IndexError → TextSchemaState → Option FlushedState → DocumentsState → Files → Type 0
IsAddError (faults.Documents fault) s flushed d files = (fault ≡ OutOfMemory) ⊎ IsDocumentsFault (analyzed_in s.tokenizers) d fault
IsAddError (faults.Commit fault) s flushed d files = IsListingFault fault s flushed d files
IsAddError _ s flushed d files = ⊥

-- Why a document isn't added to a writer: its line is none, or the documents in memory are to be written with it, and aren't.
abbrev pub IsDocumentError : {D : Type 0} → IndexError → IndexWriterState D → List ℕ → Files → Type 0
IsDocumentError (faults.Document fault) w line files = TellsOfLine (told_of_line fault) (calls_to_add w line) ⊎ ((fault ≡ TooLong) × IsTooLong w.documents line)
IsDocumentError (faults.Documents fault) w line files = (fault ≡ OutOfMemory) ⊎ ((d : DocumentsState) × AddsLine w.documents d line × IsAddError (faults.Documents fault) w.index.schema w.flushed d files)
IsDocumentError (faults.Commit fault) w line files = (d : DocumentsState) × AddsLine w.documents d line × IsAddError (faults.Commit fault) w.index.schema w.flushed d files
IsDocumentError _ w line files = ⊥

-- Why documents of the segment at a place aren't deleted: its files or the list of a term can't be opened, or it has no counts.
abbrev pub IsDeleteErrorAt : IndexError → ℕ → List SchemaEntry → List DeleteState → SegmentContents → Type 0
IsDeleteErrorAt (faults.Segment place fault) at entries deletes c = (place ≡ at) × IsRefusal (docs_in_files Committed entries deletes c) fault
IsDeleteErrorAt (faults.NoCounts place) at entries deletes c = (place ≡ at) × (c.counts ≡ None) × (docs : List ℕ) × (docs_in_files Committed entries deletes c ≡ Ok docs) × (docs ≢ [])
IsDeleteErrorAt _ at entries deletes c = ⊥

-- Why documents of segments aren't deleted: those of the one at a place, or an allocation failed.
abbrev pub IsDeleteError : IndexError → List SchemaEntry → List DeleteState → List SegmentContents → Type 0
IsDeleteError e entries deletes cs = (e ≡ faults.Documents OutOfMemory) ⊎ ((place : ℕ) × (c : SegmentContents) × (slice_get cs place ≡ Some c) × IsDeleteErrorAt e place entries deletes c)

-- Why the documents that deletes reach aren't found in files of a segment that hold it.
abbrev pub IsPendingReachFault : List SchemaEntry → List DeleteState → Fault → Type 0
IsPendingReachFault entries deletes fault = (fault ≡ OutOfMemory) ⊎ ((c : SegmentContents) × (s : Segment) × HoldsSegment entries c s × (base : ℕ) × IsRefusal (docs_in_files (Pending base) entries deletes c) fault)

-- Why documents of a list's segments aren't deleted, or the list isn't put in the place of the current one.
abbrev pub IsListError : IndexError → List (List ℕ) → MetaState → Files → Type 0
IsListError (faults.Documents fault) deleted p files = fault ≡ OutOfMemory
IsListError (faults.Commit fault) deleted p files = IsFlaggingFault fault deleted p files ⊎ ((q : MetaState) × IsFlaggedList deleted p q files × IsPendingFault fault q)
IsListError _ deleted p files = ⊥

-- The same, where files hold an index, and its next list has segments after those of the index.
pub record IsFlaggedError (e : IndexError) (entries : List SchemaEntry) (deletes : List DeleteState) (p : MetaState) (c : IndexContents) : Type 0 where
  pub files : Files
  pub read : index_contents files ≡ Ok c
  pub added : List SegmentContents
  pub listed : list_contents p files ≡ with_segments added (Ok c)
  pub committed : List (List ℕ)
  pub are_committed : AllZip (AreDeletedOf entries deletes) c.segments committed
  pub pending : List (List ℕ)
  pub are_pending : ArePendingDeleted entries deletes 0 added pending
  pub fails : IsListError e (committed ++ pending) p files

-- Why documents aren't deleted and added.
abbrev pub IsChangeError : IndexError → TextSchemaState → Option FlushedState → DocumentsState → List DeleteState → Files → Type 0
IsChangeError (faults.Store fault) s flushed d deletes files = Fails fault (index_contents files)
IsChangeError (faults.Commit fault) s flushed d deletes files =
    IsListingFault fault s flushed d files ⊎ ((c : IndexContents) × (index_contents files ≡ Ok c) × (p : MetaState) × IsNextList s flushed d files p × IsFlaggedError (faults.Commit fault) s.schema deletes p c)
IsChangeError (faults.Documents fault) s flushed d deletes files = IsAddError (faults.Documents fault) s flushed d files ⊎ IsPendingReachFault s.schema deletes fault
IsChangeError e s flushed d deletes files = (c : IndexContents) × (index_contents files ≡ Ok c) × IsDeleteError e s.schema deletes c.segments

-- Why documents and deletes aren't committed.
abbrev pub IsCommitError : IndexError → TextSchemaState → Option FlushedState → DocumentsState → List DeleteState → Files → Type 0
IsCommitError e s flushed d [] files = IsAddError e s flushed d files
IsCommitError e s flushed d (x ∷ xs) files = IsChangeError e s flushed d (x ∷ xs) files

-- Why segments aren't merged: some are written that the index doesn't have yet, or their merge fails.
abbrev pub IsMergeError : IndexError → Option FlushedState → List SchemaEntry → ℕ → Files → Type 0
IsMergeError faults.Uncommitted flushed entries first files = IsSome flushed
IsMergeError (faults.Merge fault) flushed entries first files = IsJoinFault fault entries first files
IsMergeError _ flushed entries first files = ⊥

-- Why files aren't removed: some are of segments that the index doesn't have yet, or it has no list, unless a directory call or an allocation failed.
abbrev pub IsCollectError : IndexError → Option FlushedState → Files → Type 0
IsCollectError faults.Uncommitted flushed files = IsSome flushed
IsCollectError (faults.Store fault) flushed files = Fails fault (list_in (files Meta))
IsCollectError _ flushed files = ⊥

-- Why segments aren't opened: the files of the one at a place can't be, or there are too many documents, or an allocation failed.
abbrev pub IsOpenSegmentsError : IndexError → List SchemaEntry → List SegmentContents → Type 0
IsOpenSegmentsError (faults.Segment place fault) entries cs = (c : SegmentContents) × (slice_get cs place ≡ Some c) × IsRefusal (index_of_files c.terms c.postings c.positions c.fieldnorms entries) fault
IsOpenSegmentsError faults.TooManyDocuments entries cs = (os : List OpenSegmentState) × OpenSegments entries cs os × (AreFew os → ⊥)
IsOpenSegmentsError (faults.Documents fault) entries cs = fault ≡ OutOfMemory
IsOpenSegmentsError _ entries cs = ⊥

-- Why an index isn't read.
abbrev pub IsReadError : IndexError → List SchemaEntry → Files → Type 0
IsReadError (faults.Store fault) entries files = Fails fault (index_contents files)
IsReadError error entries files = (c : IndexContents) × (index_contents files ≡ Ok c) × IsOpenSegmentsError error entries c.segments
