-- The state of a recorder for any option.
use Rattle.ii_recorder.specs.declared.recorder.AnyRecorder.{AnyRecorder}
use Rattle.ii_recorder.specs.declared.recorder.AnyRecorder.TheVariants.{DocId, TermFrequency, TfAndPosition}
use Rattle.ii_recorder.specs.Recorded.{RecorderState}

-- the state of a recorder of any kind
abbrev pub any_state : AnyRecorder → RecorderState
any_state (DocId r) = r
any_state (TermFrequency r) = r
any_state (TfAndPosition r) = r
