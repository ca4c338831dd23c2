-- Why the terms of an index can't be written, and the state after a fault.
use Rattle.std.specs.Prelude.{◌≡◌, ℕ, ◌<◌, ◌⊎◌, IsErrOf, IsTrue, List, [], ◌∷◌, ◌++◌, length, map, Result, OnOk}
use Rattle.std.specs.List.{AllByRecursion, range_with_len}
use Rattle.ii_io.specs.declared.faults.Fault.{Fault}
use Rattle.ii_io.specs.declared.faults.Fault.TheVariants.{Limit, OutOfMemory, SerializerClosed, Write}
use Rattle.ii_io.specs.declared.faults.LimitName.TheVariants as limit
use Rattle.ii_io.specs.Composite.{Body, bodies_bytes}
use Rattle.ii_io.specs.Faults.{OnlyMemoryOrClosed}
use Rattle.ii_base.specs.Schema.{SchemaEntry}
use Rattle.ii_base.specs.declared.schema.index_record_option.IndexRecordOption.{IndexRecordOption}
use Rattle.ii_definitions.specs.Fields.{option_of}
use Rattle.ii_definitions.specs.Tokens.{IndexToken}
use Rattle.ii_termdict.specs.ReadBack.{AreAscending}
use Rattle.ii_recorder.specs.IndexBodies.{AllGrow, CountsFailures, OneIsFull, IndexBodiesState}
use Rattle.ii_recorder.specs.IndexSerializer.{IndexSerializerState}
use Rattle.ii_recorder.specs.Recorded.{RecorderState}
use Rattle.ii_recorder.specs.Terms.{FieldBodies, WrittenTerm, open_bodies}
use Rattle.ii_postings_writer.specs.FieldParts.{FieldPart, HasFields, bodies_of, first_parts, positions_of_part, postings_body, terms_body, written_terms}
use Rattle.ii_postings_writer.specs.IndexingContext.{TermIndex, recorder_of}
use Rattle.ii_postings_writer.specs.IndexingTerm.{AreTermBytes}
use Rattle.ii_postings_writer.specs.PostingsWriter.{PostingsWriterState}
use Rattle.ii_postings_writer.specs.SortedTerms.{terms_in}
use Rattle.ii_postings_writer.specs.TermLimits.{AreWithin, FirstOf, HasLargeSum, IsLong, IsWithin, PassEnds}
use Rattle.ii_postings_writer.specs.TokenFiles.{FirstEnds, FirstTerm, file_bodies}

-- `OutOfMemory`, `Write`, or a limit with its cause: a sum of counts, the bytes of a term, or no room.
abbrev pub IsFaultBy : Type 0 → Type 0 → Type 0 → Fault → Type 0
IsFaultBy sum long full fault =
    (fault ≡ OutOfMemory) ⊎ (fault ≡ Write) ⊎ ((fault ≡ Limit limit.BlockFrequencySum) × sum) ⊎ ((fault ≡ Limit limit.TermBytes) × long) ⊎ ((fault ≡ Limit limit.Offset) × full)

-- Why a term can't be written after `before`, in a field of `tokens` tokens started after `initial`.
abbrev pub IsTermFaultAfter : IndexBodiesState → IndexRecordOption → ℕ → List WrittenTerm → WrittenTerm → Fault → Type 0
IsTermFaultAfter initial mode tokens before t fault =
    let ts = before ++ t ∷ [] in IsFaultBy (HasLargeSum t) (IsLong mode t) (OneIsFull initial (open_bodies mode tokens ts) ⊎ PassEnds mode ts) fault

-- Why terms can't be written after `before`: the first of them that exceeds a limit, or no room.
abbrev pub IsTermsFaultAfter : IndexBodiesState → IndexRecordOption → ℕ → List WrittenTerm → List WrittenTerm → Fault → Type 0
IsTermsFaultAfter initial mode tokens before ts fault =
    let all = before ++ ts in
    IsFaultBy (FirstOf (IsWithin mode) HasLargeSum ts) (FirstOf (IsWithin mode) (IsLong mode) ts) (OneIsFull initial (open_bodies mode tokens all) ⊎ PassEnds mode all) fault

-- Why a field can't be written after `initial`: its first term that exceeds a limit, or no room.
abbrev pub IsPartFault : List SchemaEntry → IndexBodiesState → FieldPart → Fault → Type 0
IsPartFault entries initial p fault =
    let mode = option_of entries p.field in
    let ts = written_terms entries p in
    IsFaultBy (FirstOf (IsWithin mode) HasLargeSum ts) (FirstOf (IsWithin mode) (IsLong mode) ts) (OneIsFull initial (bodies_of entries p) ⊎ PassEnds mode ts) fault

-- The terms of a part exceed no limit.
abbrev pub IsWithinPart : List SchemaEntry → FieldPart → Type 0
IsWithinPart entries p = AreWithin (option_of entries p.field) (written_terms entries p)

-- P holds for the first term of parts that exceeds a limit.
abbrev pub FirstInParts : (IndexRecordOption → WrittenTerm → Type 0) → List SchemaEntry → List FieldPart → Type 0
FirstInParts P entries ps = FirstOf (IsWithinPart entries) (λ (p : FieldPart). let mode = option_of entries p.field in FirstOf (IsWithin mode) (P mode) (written_terms entries p)) ps

-- The terms of a part are too long in total, and the terms of the parts before it exceed no limit.
abbrev pub FirstPartEnds : List SchemaEntry → List FieldPart → Type 0
FirstPartEnds entries ps = FirstOf (IsWithinPart entries) (λ (p : FieldPart). PassEnds (option_of entries p.field) (written_terms entries p)) ps

-- the bodies of parts, in order
abbrev pub all_bodies : List SchemaEntry → List FieldPart → FieldBodies
all_bodies entries ps = record {
  terms = bodies_bytes (map (terms_body entries) ps);
  postings = bodies_bytes (map (postings_body entries) ps);
  positions = bodies_bytes (map (positions_of_part entries) ps);
}

-- Why parts can't be written after `initial`: the first term that exceeds a limit, or no room for all.
abbrev pub IsPartsFault : List SchemaEntry → IndexBodiesState → List FieldPart → Fault → Type 0
IsPartsFault entries initial ps fault =
    IsFaultBy (FirstInParts (λ mode. HasLargeSum) entries ps) (FirstInParts IsLong entries ps) (OneIsFull initial (all_bodies entries ps) ⊎ FirstPartEnds entries ps) fault

-- Why the terms of a context can't be written: its parts can't be, in the order of `WroteTerms`.
pub record IsContextFault (old : IndexSerializerState) (writers : List PostingsWriterState) (readers : List Body) (terms : TermIndex) (fault : Fault) : Type 0 where
  pub sorted : TermIndex
  pub same : (bytes : List ℕ) → recorder_of sorted bytes ≡ recorder_of terms bytes
  pub ascending : AreAscending (map (λ (t : List ℕ × RecorderState). t.0) sorted)
  pub whole : AllByRecursion AreTermBytes (map (λ (t : List ℕ × RecorderState). t.0) sorted)
  pub cause : IsPartsFault old.entries old.bodies (first_parts old.entries writers readers (map (λ (field : ℕ). terms_in field sorted) (range_with_len 0 (length old.entries))) (length old.entries)) fault

-- the bodies that are written for tokens, in each of the three files
abbrev pub bodies_of_tokens : List SchemaEntry → List IndexToken → FieldBodies
bodies_of_tokens entries ts = record {
  terms = bodies_bytes (file_bodies (λ b. b.terms) entries ts);
  postings = bodies_bytes (file_bodies (λ b. b.postings) entries ts);
  positions = bodies_bytes (file_bodies (λ b. b.positions) entries ts);
}

-- Why the terms of tokens can't be written after `initial`.
abbrev pub IsTokensFault : List SchemaEntry → IndexBodiesState → List IndexToken → Fault → Type 0
IsTokensFault entries initial ts fault =
    IsFaultBy (FirstTerm (λ mode. HasLargeSum) entries ts) (FirstTerm IsLong entries ts) (OneIsFull initial (bodies_of_tokens entries ts) ⊎ FirstEnds entries ts) fault

-- A closed serializer is unchanged, and the call fails unless there was nothing to write.
pub record StaysClosed (nothing : Type 0) (old new : IndexSerializerState) (result : Result (Unit {0}) Fault) : Type 0 where
  pub same : new ≡ old
  pub none : OnOk result nothing
  pub only : OnlyMemoryOrClosed result

-- How a call that writes complete parts ends: entries stay, a writer's failure counts once, output is kept.
pub record EndsParts {P : Type 0} (parts : List P) (old new : IndexSerializerState) (result : Result (Unit {0}) Fault) : Type 0 where
  pub entries : new.entries ≡ old.entries
  pub closes : OnOk result (new.closed ≡ old.closed)
  pub failures : CountsFailures old.bodies new.bodies result
  pub grow : AllGrow old.bodies new.bodies
  pub closed : IsErrOf result SerializerClosed → IsTrue old.closed × (0 < length parts)
  pub refused : IsTrue old.closed → StaysClosed (parts ≡ []) old new result

-- Only complete fields were written, and `closed` is unchanged.
pub record IsBetweenFields (old new : IndexSerializerState) : Type 0 where
  pub fs : List FieldPart
  pub fields : HasFields old.entries old.bodies new.bodies fs
  pub closed : new.closed ≡ old.closed

-- A fault closes the serializer, except for `OutOfMemory` between fields.
abbrev pub ClosesOrStays : IndexSerializerState → IndexSerializerState → Fault → Type 0
ClosesOrStays old new fault = IsTrue new.closed ⊎ ((fault ≡ OutOfMemory) × IsBetweenFields old new)
