use Rattle.std.proofs.Common.{◌≡◌}
use Rattle.ii_base.specs.declared.schema.index_record_option.IndexRecordOption.TheVariants.{WithFreqsAndPositions}
use Rattle.ii_recorder.specs.Gathered.{all_of, gathered, none_after, positions_in, with_number}
use Rattle.ii_recorder.proofs.PushLemmas.{IsPushing}
use Rattle.ii_recorder.proofs.recorder.TfAndPositionRecorderRecorder.serialize.Given as goal

abbrev pub invariant-loop-delta : goal.invariant-loop-delta
invariant-loop-delta g l =
    (goal.iterator-loop-delta g).can_next l.numbers
    × (goal.iterator-loop-delta g).is_finite l.numbers
    × (l.serializer.index.ghost_name ≡ l.initial.serializer.index.ghost_name)
    × IsPushing WithFreqsAndPositions l.initial.serializer.index.now l.serializer.index.now (all_of (positions_in l.initial.numbers)) (all_of (gathered with_number (none_after l.last) l.numbers))
