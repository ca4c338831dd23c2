use Rattle.std.proofs.Common.{◌≡◌, map}
use Rattle.ii_base.specs.Entries.{document}
use Rattle.ii_base.specs.declared.schema.index_record_option.IndexRecordOption.TheVariants.{Basic}
use Rattle.ii_recorder.specs.Recorded.{entries_of_recorder}
use Rattle.ii_recorder.proofs.PushLemmas.{IsPushing}
use Rattle.ii_recorder.proofs.recorder.DocIdRecorderRecorder.serialize.Given as goal

abbrev pub invariant-loop-doc : goal.invariant-loop-doc
invariant-loop-doc g l =
    (goal.iterator-loop-doc g).can_next l.docs
    × (goal.iterator-loop-doc g).is_finite l.docs
    × (l.serializer.index.ghost_name ≡ l.initial.serializer.index.ghost_name)
    × IsPushing Basic l.initial.serializer.index.now l.serializer.index.now (entries_of_recorder l.self) (map document l.docs)
