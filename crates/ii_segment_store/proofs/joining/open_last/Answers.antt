use Rattle.std.proofs.Common.{List, map, subst}
use Rattle.ii_store.specs.Index.{AnswersFromFiles}
use Rattle.ii_store.specs.IndexMeta.{SegmentState}
use Rattle.ii_segment_store.specs.Contents.{all_contents}
use Rattle.ii_segment_store.specs.Sources.{source_contents}
use Rattle.ii_segment_store.proofs.joining.open_last.Goals as goal

pub returns-clause-answers : goal.returns-clause-answers
returns-clause-answers g c = λ known.
    let files = g.D.Directory.seen c.args.directory.now in
    subst (λ (ss : List SegmentState). AnswersFromFiles (λ v. map (source_contents g.D.File.ReadAt.bytes) v.items) c.open_sources.result (all_contents ss files)) c.last_segments.ensures (c.open_sources.ensures.answers known)
