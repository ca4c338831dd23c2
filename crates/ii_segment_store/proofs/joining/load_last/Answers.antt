use Rattle.std.proofs.Common.{List, map, subst}
use Rattle.ii_store.specs.Index.{AnswersFromFiles}
use Rattle.ii_store.specs.IndexMeta.{SegmentState}
use Rattle.ii_segment_store.specs.Contents.{all_contents, segment_contents}
use Rattle.ii_segment_store.proofs.joining.load_last.Goals as goal

pub returns-clause-answers : goal.returns-clause-answers
returns-clause-answers g c = λ known.
    let files = g.D.Directory.seen c.args.directory.now in
    subst (λ (ss : List SegmentState). AnswersFromFiles (λ v. map segment_contents v.items) c.load_each.result (all_contents ss files)) c.last_segments.ensures (c.load_each.ensures.answers known)
