-- A term while it is merged.
use Rattle.std.specs.Prelude.{◌≡◌, ℕ, suc, ◌<◌, ◌≤◌, ◌^◌, ◌⊎◌, Bool, true, false, if◌then◌else◌, IsTrue, List, [], ◌∷◌, ◌++◌, length, None, Option, Ok, Result, OnOk, IfErr}
use Rattle.ii_io.specs.declared.faults.Fault.{Fault}
use Rattle.ii_io.specs.declared.faults.Fault.TheVariants.{Limit, OutOfMemory}
use Rattle.ii_io.specs.declared.faults.LimitName.TheVariants.{BlockFrequencySum}
use Rattle.ii_io.specs.declared.faults.Part.{Part}
use Rattle.ii_base.specs.declared.schema.index_record_option.IndexRecordOption.{IndexRecordOption}
use Rattle.ii_base.specs.declared.schema.index_record_option.IndexRecordOption.TheVariants.{Basic}
use Rattle.ii_base.specs.Entries.{Entry, are_documents}
use Rattle.ii_base.specs.Options.{has_freq, has_positions}
use Rattle.ii_fieldnorm.specs.Readers.{Norms}
use Rattle.ii_layout.specs.Bounds.{Covers}
use Rattle.ii_termdict.specs.ReadBack.{AreAscending}
use Rattle.ii_recorder.specs.IndexBodies.{IndexBodiesState}
use Rattle.ii_recorder.specs.IndexSerializer.{EndsInMemory, IndexSerializerState, IsWriting}
use Rattle.ii_recorder.specs.Kept.{IsLocated}
use Rattle.ii_recorder.specs.OpenTerm.{OpenTermState}
use Rattle.ii_recorder.specs.Pushed.{FillTooLarge, Pushes, pushed_freqs}
use Rattle.ii_recorder.specs.Terms.{WrittenTerm}
use Rattle.ii_merger.specs.MergeSources.{IsDamageOf}

-- the first entry, under the number of its document in the index
abbrev pub first_under : ℕ → List Entry → List Entry
first_under number [] = []
first_under number (e ∷ es) = (record e { doc = number }) ∷ []

-- A document may be added to the open term: it comes after the others, and the norms cover it.
pub record MayPushDoc (kind : IndexRecordOption) (s : IndexSerializerState) (doc : ℕ) : Type 0 where
  pub inside : s.field.term_open ≡ true
  pub ascending : IsTrue (are_documents (s.field.term.docs ++ doc ∷ []))
  pub kept : IsTrue (has_freq s.field.term.skip_info) → IsTrue (has_freq kind)
  pub covered : Covers s.field.term.norms doc

-- Entries were pushed, unless they are damaged, an allocation failed, or a limit was exceeded.
pub record PushesSound (damage : Option Part) (kind : IndexRecordOption) (old new : IndexSerializerState) (es : List Entry) (result : Result (Unit {0}) Fault) : Type 0 where
  pub ok : OnOk result (Pushes kind old new es (Ok tt))
  pub sound : OnOk result (damage ≡ None)
  pub err : IfErr result (λ e. IsDamageOf damage e ⊎ Pushes kind old new es result)
  pub ends : EndsInMemory old new result

-- A term may be started: no call failed, no term is open, and the key is greater than the others.
pub record MayStart (key : List ℕ) (s : IndexSerializerState) : Type 0 where
  pub unclosed : s.closed ≡ false
  pub between : s.field.term_open ≡ false
  pub ascending : AreAscending (s.field.places.keys ++ key ∷ [])

-- the option of a term's entries, in a field with the option `mode`
abbrev pub skip_of : IndexRecordOption → IndexRecordOption → IndexRecordOption
skip_of mode kind = if has_freq kind then mode else Basic

-- the open term of a field once it was started
abbrev pub started_term : IndexRecordOption → OpenTermState → OpenTermState
started_term kind t = record t { skip_info = skip_of t.mode kind; docs = []; freqs = []; deltas = [] }

-- A term was started under a key.
pub record IsStartedTerm (key : List ℕ) (kind : IndexRecordOption) (old new : IndexSerializerState) : Type 0 where
  pub term : new.field.term ≡ started_term kind old.field.term
  pub inside : new.field.term_open ≡ true
  pub writing : (initial : IndexBodiesState) (field tokens : ℕ) (norms : Option Norms) (ts : List WrittenTerm) → IsWriting initial old field tokens norms ts [] → IsWriting initial new field tokens norms ts (key ∷ [])
  pub ends : EndsInMemory {A = Unit {0}} old new (Ok tt)

-- A term was started under a key, and has these entries.
pub record HasEntries (key : List ℕ) (kind : IndexRecordOption) (old new : IndexSerializerState) (es : List Entry) : Type 0 where
  pub started : IndexSerializerState
  pub start : IsStartedTerm key kind old started
  pub pushed : Pushes kind started new es (Ok tt)

-- What was merged of a term so far: none of its entries, and it wasn't started; or some of them.
abbrev pub Merges : Bool → List ℕ → IndexRecordOption → IndexSerializerState → IndexSerializerState → List Entry → Type 0
Merges false key kind old new es = (new ≡ old) × (es ≡ [])
Merges true key kind old new es = HasEntries key kind old new es × (0 < length es)

-- Documents ascend from a number on, and are less than a limit.
abbrev pub LieBetween : ℕ → ℕ → List Entry → Type 0
LieBetween least limit [] = least ≤ limit
LieBetween least limit (e ∷ es) = (least ≤ e.doc) × LieBetween (suc e.doc) limit es

-- Documents from a number on may be added to a term that may have some.
pub record MayMerge (begun : Bool) (key : List ℕ) (kind : IndexRecordOption) (now : IndexSerializerState) (next : ℕ) : Type 0 where
  pub old : IndexSerializerState
  pub es : List Entry
  pub start : MayStart key old
  pub merges : Merges begun key kind old now es
  pub docs : LieBetween 0 next es

-- The norms of a field, if it has some, cover the documents below a limit.
abbrev pub CoversBelow : Option Norms → ℕ → Type 0
CoversBelow norms limit = (doc : ℕ) → doc < limit → Covers norms doc

-- Why entries can't be added to a term: a damaged part, an allocation failure, or too large a sum of term frequencies.
abbrev pub IsPushFault : Option Part → IndexRecordOption → IndexRecordOption → List Entry → Fault → Type 0
IsPushFault damage skip_info kind es fault = IsDamageOf damage fault ⊎ (fault ≡ OutOfMemory) ⊎ ((fault ≡ Limit BlockFrequencySum) × FillTooLarge skip_info [] (pushed_freqs kind es))

-- An entry can be read back where it is written: it has a term frequency, and as many positions, which don't decrease, or none.
pub record IsReadableEntry (kind : IndexRecordOption) (e : Entry) : Type 0 where
  pub counted : IsTrue (has_freq kind) → 0 < e.term_freq
  pub fits : e.term_freq < 2 ^ 32
  pub located : IsTrue (has_positions kind) → IsLocated e
  pub plain : has_positions kind ≡ false → e.positions ≡ []
