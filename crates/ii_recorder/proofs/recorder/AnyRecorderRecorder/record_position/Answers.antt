use Rattle.ii_recorder.proofs.recorder.AnyRecorderRecorder.record_position.Goals as goal

pub returns-in-DocId-clause-faults : goal.returns-in-DocId-clause-faults
returns-in-DocId-clause-faults c = rw c.in-DocId.is c.record_position.ensures.faults

pub returns-in-TermFrequency-clause-faults : goal.returns-in-TermFrequency-clause-faults
returns-in-TermFrequency-clause-faults c = rw c.in-TermFrequency.is c.record_position-in-TermFrequency.ensures.faults

pub returns-in-TfAndPosition-clause-faults : goal.returns-in-TfAndPosition-clause-faults
returns-in-TfAndPosition-clause-faults c = rw c.in-TfAndPosition.is c.record_position-in-TfAndPosition.ensures.faults
