-- What a commit with deletes leaves, and why it fails.
use Rattle.std.proofs.Common.{◌≡◌, ◌∙◌, ◌==◌, ℕ, false, length, true≢false, List, [], ◌∷◌, ◌++◌, Option, Result, Ok, ap, drop, inl, inr, subst, sym}
use Rattle.std.specs.Prelude.{◌⊎◌}
use Rattle.std.specs.List.{AllZip}
use Rattle.ii_base.specs.Schema.{SchemaEntry}
use Rattle.ii_definitions.specs.Tokens.{IndexToken}
use Rattle.ii_directory.specs.Directory.{Files}
use Rattle.ii_schema_text.specs.SchemaText.{TextSchemaState}
use Rattle.ii_segment_store.specs.Changes.{index_without}
use Rattle.ii_segment_store.specs.Commits.{HoldsOldOr}
use Rattle.ii_segment_store.specs.Contents.{IndexContents, SegmentContents, all_contents, index_contents, list_contents}
use Rattle.ii_store.specs.declared.faults.IndexFault.{IndexFault}
use Rattle.ii_store.specs.IndexMeta.{MetaState}
use Rattle.ii_store.specs.declared.faults.StoreFault.{StoreFault}
use Rattle.ii_store.specs.declared.faults.StoreFault.TheVariants as stores
use Rattle.ii_store.specs.Index.{Fails}
use Rattle.nequllpa_indexing.specs.Documents.{AddsLine, DocumentsState}
use Rattle.ii_index.specs.Deletes.{AreDeletedOf, ArePendingDeleted, DeleteState, HoldsIndexOfSegment, committed}
use Rattle.ii_index.specs.Faults.{IsAddError, IsChangeError, IsCommitError, IsDeleteError, IsDocumentError, IsListError}
use Rattle.ii_index.specs.Index.{FlushedState, IndexWriterState, IsUnchangedAfter}
use Rattle.ii_index.specs.Pending.{AreWritten, AreWrittenSegments, IsNextList, with_segments}
use Rattle.ii_index.specs.Segments.{HoldsIndexOf}
use Rattle.ii_index.specs.declared.faults.IndexError.{IndexError}
use Rattle.ii_index.specs.declared.faults.IndexError.TheVariants as faults
use Rattle.ii_index.proofs.ChangeLemmas.{changed, changed_or_not}
use Rattle.ii_index.proofs.PendingLemmas.{flushed_contents}

-- why documents aren't deleted
pub delete_fault : (e : IndexError) (s : TextSchemaState) (x : Option FlushedState) (d : DocumentsState) (deletes : List DeleteState) (files : Files) (c : IndexContents) (es : List SchemaEntry) → es ≡ s.schema → index_contents files ≡ Ok c → IsDeleteError e es deletes c.segments → IsChangeError e s x d deletes files
delete_fault faults.IndexAlreadyExists s x d deletes files c es is read why = (c, read, subst (λ (xs : List SchemaEntry). IsDeleteError faults.IndexAlreadyExists xs deletes c.segments) is why)
delete_fault faults.SchemaBytes s x d deletes files c es is read why = (c, read, subst (λ (xs : List SchemaEntry). IsDeleteError faults.SchemaBytes xs deletes c.segments) is why)
delete_fault (faults.Schema fault) s x d deletes files c es is read why = (c, read, subst (λ (xs : List SchemaEntry). IsDeleteError (faults.Schema fault) xs deletes c.segments) is why)
delete_fault (faults.Store fault) s x d deletes files c es is read (inl memory) = absurd (cc)
delete_fault (faults.Store fault) s x d deletes files c es is read (inr (place, segment, found, why)) = absurd why
delete_fault (faults.Commit fault) s x d deletes files c es is read (inl memory) = absurd (cc)
delete_fault (faults.Commit fault) s x d deletes files c es is read (inr (place, segment, found, why)) = absurd why
delete_fault (faults.Merge fault) s x d deletes files c es is read why = (c, read, subst (λ (xs : List SchemaEntry). IsDeleteError (faults.Merge fault) xs deletes c.segments) is why)
delete_fault (faults.Segment place fault) s x d deletes files c es is read why = (c, read, subst (λ (xs : List SchemaEntry). IsDeleteError (faults.Segment place fault) xs deletes c.segments) is why)
delete_fault (faults.NoCounts place) s x d deletes files c es is read why = (c, read, subst (λ (xs : List SchemaEntry). IsDeleteError (faults.NoCounts place) xs deletes c.segments) is why)
delete_fault faults.TooManyDocuments s x d deletes files c es is read why = (c, read, subst (λ (xs : List SchemaEntry). IsDeleteError faults.TooManyDocuments xs deletes c.segments) is why)
delete_fault (faults.Documents fault) s x d deletes files c es is read (inl memory) = inl (inl (cc))
delete_fault (faults.Documents fault) s x d deletes files c es is read (inr (place, segment, found, why)) = absurd why
delete_fault (faults.Document fault) s x d deletes files c es is read why = (c, read, subst (λ (xs : List SchemaEntry). IsDeleteError (faults.Document fault) xs deletes c.segments) is why)
delete_fault faults.Uncommitted s x d deletes files c es is read why = (c, read, subst (λ (xs : List SchemaEntry). IsDeleteError faults.Uncommitted xs deletes c.segments) is why)

-- why documents aren't written
pub add_fault : (e : IndexError) (s : TextSchemaState) (x : Option FlushedState) (d : DocumentsState) (deletes : List DeleteState) (files : Files) → IsAddError e s x d files → IsChangeError e s x d deletes files
add_fault faults.IndexAlreadyExists s x d deletes files why = absurd why
add_fault faults.SchemaBytes s x d deletes files why = absurd why
add_fault (faults.Schema fault) s x d deletes files why = absurd why
add_fault (faults.Store fault) s x d deletes files why = absurd why
add_fault (faults.Commit fault) s x d deletes files why = inl why
add_fault (faults.Merge fault) s x d deletes files why = absurd why
add_fault (faults.Segment place fault) s x d deletes files why = absurd why
add_fault (faults.NoCounts place) s x d deletes files why = absurd why
add_fault faults.TooManyDocuments s x d deletes files why = absurd why
add_fault (faults.Documents fault) s x d deletes files why = inl why
add_fault (faults.Document fault) s x d deletes files why = absurd why
add_fault faults.Uncommitted s x d deletes files why = absurd why

-- why the list isn't put in the place of the current one
pub list_fault : (e : IndexError) (s : TextSchemaState) (x : Option FlushedState) (d : DocumentsState) (deletes : List DeleteState) (files now : Files) (c : IndexContents) (p : MetaState) (added : List SegmentContents) (gone pending : List (List ℕ)) → index_contents files ≡ Ok c
    → IsNextList s x d files p → index_contents now ≡ Ok c → list_contents p now ≡ with_segments added (Ok c) → AllZip (AreDeletedOf s.schema deletes) c.segments gone → ArePendingDeleted s.schema deletes 0 added pending → IsListError e (gone ++ pending) p now
    → IsChangeError e s x d deletes files
list_fault faults.IndexAlreadyExists s x d deletes files now c p added gone pending read next read_now listed each reached why = absurd why
list_fault faults.SchemaBytes s x d deletes files now c p added gone pending read next read_now listed each reached why = absurd why
list_fault (faults.Schema fault) s x d deletes files now c p added gone pending read next read_now listed each reached why = absurd why
list_fault (faults.Store fault) s x d deletes files now c p added gone pending read next read_now listed each reached why = absurd why
list_fault (faults.Commit fault) s x d deletes files now c p added gone pending read next read_now listed each reached why =
    inr (c, read, p, next, record { files = now; read = read_now; added = added; listed = listed; committed = gone; are_committed = each; pending = pending; are_pending = reached; fails = why })
list_fault (faults.Merge fault) s x d deletes files now c p added gone pending read next read_now listed each reached why = absurd why
list_fault (faults.Segment place fault) s x d deletes files now c p added gone pending read next read_now listed each reached why = absurd why
list_fault (faults.NoCounts place) s x d deletes files now c p added gone pending read next read_now listed each reached why = absurd why
list_fault faults.TooManyDocuments s x d deletes files now c p added gone pending read next read_now listed each reached why = absurd why
list_fault (faults.Documents fault) s x d deletes files now c p added gone pending read next read_now listed each reached why = inl (inl why)
list_fault (faults.Document fault) s x d deletes files now c p added gone pending read next read_now listed each reached why = absurd why
list_fault faults.Uncommitted s x d deletes files now c p added gone pending read next read_now listed each reached why = absurd why

-- why the segments that were written aren't loaded: not for what they hold
pub load_fault : {A B : Type 0} (e : StoreFault) (found : Result A IndexFault) (a : A) (old : Result B IndexFault) → found ≡ Ok a → Fails e found → Fails e old
load_fault (stores.Directory fault) found a old is why = tt
load_fault (stores.Index fault) found a old is why = absurd (cc)

-- why documents and deletes aren't committed, where there are deletes
pub commit_fault : (e : IndexError) (s : TextSchemaState) (x : Option FlushedState) (d : DocumentsState) (deletes : List DeleteState) (files : Files) → (length deletes == 0) ≡ false → IsChangeError e s x d deletes files → IsCommitError e s x d deletes files
commit_fault e s x d [] files some why = absurd (true≢false some)
commit_fault e s x d (y ∷ ys) files some why = why

-- why a document isn't added, where it was to be written
pub document_fault : {D : Type 0} (e : IndexError) (w : IndexWriterState D) (d : DocumentsState) (line : List ℕ) (files : Files) → AddsLine w.documents d line → IsAddError e w.index.schema w.flushed d files → IsDocumentError e w line files
document_fault faults.IndexAlreadyExists w d line files adds why = absurd why
document_fault faults.SchemaBytes w d line files adds why = absurd why
document_fault (faults.Schema fault) w d line files adds why = absurd why
document_fault (faults.Store fault) w d line files adds why = absurd why
document_fault (faults.Commit fault) w d line files adds why = (d, adds, why)
document_fault (faults.Merge fault) w d line files adds why = absurd why
document_fault (faults.Segment place fault) w d line files adds why = absurd why
document_fault (faults.NoCounts place) w d line files adds why = absurd why
document_fault faults.TooManyDocuments w d line files adds why = absurd why
document_fault (faults.Documents fault) w d line files adds why = inr (d, adds, why)
document_fault (faults.Document fault) w d line files adds why = absurd why
document_fault faults.Uncommitted w d line files adds why = absurd why

-- a text that is a document was to be written
pub other_fault : {D : Type 0} (e : IndexError) (s : TextSchemaState) (x : Option FlushedState) (d : DocumentsState) (files : Files) (old new : IndexWriterState D) → IsAddError e s x d files → IsUnchangedAfter e old new
other_fault faults.IndexAlreadyExists s x d files old new why = tt
other_fault faults.SchemaBytes s x d files old new why = tt
other_fault (faults.Schema fault) s x d files old new why = tt
other_fault (faults.Store fault) s x d files old new why = tt
other_fault (faults.Commit fault) s x d files old new why = tt
other_fault (faults.Merge fault) s x d files old new why = tt
other_fault (faults.Segment place fault) s x d files old new why = tt
other_fault (faults.NoCounts place) s x d files old new why = tt
other_fault faults.TooManyDocuments s x d files old new why = tt
other_fault (faults.Documents fault) s x d files old new why = tt
other_fault (faults.Document fault) s x d files old new why = absurd why
other_fault faults.Uncommitted s x d files old new why = tt

-- ---- what is deleted of an index, and of segments that were written
module _ (entries : List SchemaEntry) (deletes : List DeleteState) (old mid : Files) (c : IndexContents) (x : FlushedState) (k : ℕ) (us : List IndexToken) (w : AreWritten entries mid x k us) (is : index_contents old ≡ Ok c) (same : index_contents mid ≡ index_contents old) where
  -- what the segments that were loaded hold
  pub loaded : (found : List SegmentContents) → all_contents (drop x.first x.list.segments) mid ≡ Ok found → found ≡ w.flushed.contents
  loaded found answers = one found w.flushed.contents (sym answers ∙ flushed_contents entries mid x w.segments c w.flushed (same ∙ is))
    where
      one : (a b : List SegmentContents) → ◌≡◌ {A = Result (List SegmentContents) IndexFault} (Ok a) (Ok b) → a ≡ b
      one a b both = cc

  pub loaded_written : (found : List SegmentContents) → all_contents (drop x.first x.list.segments) mid ≡ Ok found → AreWrittenSegments entries found w.segments
  loaded_written found answers = subst (λ (cs : List SegmentContents). AreWrittenSegments entries cs w.segments) (sym (loaded found answers)) w.flushed.written

  pub loaded_listed : (found : List SegmentContents) → all_contents (drop x.first x.list.segments) mid ≡ Ok found → list_contents x.list mid ≡ with_segments found (Ok c)
  loaded_listed found answers = w.flushed.read ∙ ap (with_segments w.flushed.contents) (same ∙ is) ∙ ap (λ (cs : List SegmentContents). with_segments cs (Ok c)) (sym (loaded found answers))

  module _ (found : List SegmentContents) (answers : all_contents (drop x.first x.list.segments) mid ≡ Ok found) (gone pending : List (List ℕ)) (each : AllZip (AreDeletedOf entries deletes) c.segments gone) (reached : ArePendingDeleted entries deletes 0 found pending) (n : ℕ) (ts : List IndexToken)
      (h : HoldsIndexOf entries old n ts) where
    abbrev wanted : Result IndexContents IndexFault
    wanted = index_without (gone ++ pending) (list_contents x.list mid)

    wanted_is : wanted ≡ index_without (gone ++ pending) (with_segments found (Ok c))
    wanted_is = ap (index_without (gone ++ pending)) (loaded_listed found answers)

    pub all_changed : (new : Files) → index_contents new ≡ wanted → HoldsIndexOfSegment entries new (committed deletes n ts k us)
    all_changed new result = changed entries deletes n ts k us old c found w.segments gone pending new is each (loaded_written found answers) w.have reached (result ∙ wanted_is) h

    pub all_or_not : (new : Files) → HoldsOldOr wanted old new → HoldsIndexOf entries new n ts ⊎ HoldsIndexOfSegment entries new (committed deletes n ts k us)
    all_or_not new result = changed_or_not entries deletes n ts k us old c found w.segments gone pending new is each (loaded_written found answers) w.have reached (subst (λ (r : Result IndexContents IndexFault). HoldsOldOr r old new) wanted_is result) h
