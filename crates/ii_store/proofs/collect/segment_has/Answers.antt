use Rattle.ii_store.specs.IndexMeta.{segment_view}
use Rattle.ii_store.proofs.CollectLaws.{file_of_segment}
use Rattle.ii_store.proofs.collect.segment_has.Goals as goal

pub returns : goal.returns
returns c = rw (c.lists.ensures, c.as_slice.ensures.value) (file_of_segment (segment_view c.args.segment.now) c.args.id c.args.component)
