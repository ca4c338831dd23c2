-- Contents of a field whose only term has a recorder's documents.
use Rattle.std.proofs.Common.{◌≡◌, ℕ, [], ◌∷◌, List, Bool, if◌then◌else◌, Option, None, Result, refl}
use Rattle.std.specs.Prelude.{OnOk}
use Rattle.std.specs.List.{AllByRecursion}
use Rattle.ii_fieldnorm.specs.Readers.{Norms}
use Rattle.ii_layout.specs.Bounds.{Covers}
use Rattle.ii_io.specs.declared.faults.Fault.{Fault}
use Rattle.ii_base.specs.declared.schema.index_record_option.IndexRecordOption.{IndexRecordOption}
use Rattle.ii_base.specs.declared.schema.index_record_option.IndexRecordOption.TheVariants.{Basic}
use Rattle.ii_base.specs.Options.{has_freq}
use Rattle.ii_base.specs.Entries.{Entry}
use Rattle.ii_recorder.proofs.PushLemmas.{writing_pushed}
use Rattle.ii_recorder.specs.FieldTerms.{term_under}
use Rattle.ii_recorder.specs.HeldTerms.{HoldsTerms}
use Rattle.ii_recorder.specs.IndexBodies.{IndexBodiesState}
use Rattle.ii_recorder.specs.IndexSerializer.{IndexSerializerState, IsWriting}
use Rattle.ii_recorder.specs.OpenTerm.{OpenTermState}
use Rattle.ii_recorder.specs.Pushed.{with_entries}
use Rattle.ii_recorder.specs.Recorded.{RecorderState, entries_of_recorder}
use Rattle.ii_recorder.specs.Terms.{WrittenTerm, field_bodies}
use Rattle.ii_reader_tests.specs.RecordedTerm.{recorded_term}

-- the open term after a recorder's documents are pushed
pub term_is : (before : OpenTermState) (opened pushed : IndexSerializerState) (r : RecorderState) (mode : IndexRecordOption) (b : Bool)
    → before.norms ≡ None → opened.field.term ≡ record before { skip_info = if b then before.mode else Basic; docs = []; freqs = []; deltas = [] } → b ≡ has_freq r.option → before.mode ≡ mode
    → pushed ≡ with_entries r.option opened (entries_of_recorder r) → term_under (97 ∷ []) pushed.field.term ≡ recorded_term mode r
term_is before opened pushed r mode b none begun counts is entries = rw (entries, begun, counts, is, none) refl

pub held_as : (result : Result (Unit {0}) Fault) (m mode : IndexRecordOption) (t u : WrittenTerm) → m ≡ mode → t ≡ u → OnOk result (HoldsTerms m 3 (field_bodies m 3 (t ∷ [])) (t ∷ []))
    → OnOk result (HoldsTerms mode 3 (field_bodies mode 3 (u ∷ [])) (u ∷ []))
held_as result m mode t u same is h = rw (same, is) at h

pub still_writing : (option : IndexRecordOption) (initial : IndexBodiesState) (s new : IndexSerializerState) (es : List Entry) (field tokens : ℕ) (pending : List (List ℕ)) → new ≡ with_entries option s es → IsWriting initial s field tokens None [] pending
    → IsWriting initial new field tokens None [] pending
still_writing option initial s new es field tokens pending is h = rw is (writing_pushed option initial s es field tokens None [] pending h)

-- where no norms are known, all documents are covered
pub none_lacking : (norms : Option Norms) (docs : List ℕ) → norms ≡ None → AllByRecursion (Covers norms) docs
none_lacking norms [] is = tt
none_lacking norms (d ∷ ds) is = (rw is tt, none_lacking norms ds is)
