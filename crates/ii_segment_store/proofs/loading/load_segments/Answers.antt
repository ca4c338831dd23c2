use Rattle.std.proofs.Common.{Result, subst}
use Rattle.ii_store.specs.declared.faults.IndexFault.{IndexFault}
use Rattle.ii_store.specs.Index.{AnswersFromFiles}
use Rattle.ii_segment_store.specs.Contents.{IndexContents, contents_view}
use Rattle.ii_segment_store.proofs.WantedLaws.{all_wanted}
use Rattle.ii_segment_store.proofs.loading.load_segments.Goals as goal

pub returns-clause-answers : goal.returns-clause-answers
returns-clause-answers g c = λ known.
    subst (λ (r : Result IndexContents IndexFault). AnswersFromFiles contents_view c.load_segments_with.result r) (all_wanted (g.D.Directory.seen c.args.directory.now)) (c.load_segments_with.ensures.answers known)
