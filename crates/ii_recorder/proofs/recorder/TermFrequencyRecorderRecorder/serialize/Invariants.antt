use Rattle.std.proofs.Common.{◌≡◌}
use Rattle.ii_base.specs.declared.schema.index_record_option.IndexRecordOption.TheVariants.{WithFreqs}
use Rattle.ii_recorder.specs.Gathered.{counted_all, counts_in, gathered, none_after, with_count}
use Rattle.ii_recorder.proofs.PushLemmas.{IsPushing}
use Rattle.ii_recorder.proofs.recorder.TermFrequencyRecorderRecorder.serialize.Given as goal

abbrev pub invariant-loop-delta : goal.invariant-loop-delta
invariant-loop-delta g l =
    (goal.iterator-loop-delta g).can_next l.numbers
    × (goal.iterator-loop-delta g).is_finite l.numbers
    × (l.serializer.index.ghost_name ≡ l.initial.serializer.index.ghost_name)
    × IsPushing WithFreqs l.initial.serializer.index.now l.serializer.index.now (counted_all l.self-inside.term_freq (counts_in l.initial.numbers)) (counted_all l.self-inside.term_freq (gathered with_count (none_after l.last) l.numbers))
