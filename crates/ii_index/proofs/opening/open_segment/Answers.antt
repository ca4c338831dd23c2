use Rattle.std.proofs.Common.{subst, sym}
use Rattle.ii_segment_store.specs.Contents.{segment_contents}
use Rattle.ii_index.specs.Searching.{OpensSegment, totals_view}
use Rattle.ii_index.proofs.OpenLemmas.{counted_over, opens}
use Rattle.ii_index.proofs.opening.open_segment.Goals as goal

pub returns-clause-opens : goal.returns-clause-opens
returns-clause-opens c =
    let contents = segment_contents c.args.segment in
    subst (OpensSegment c.args.schema.now contents) (sym c.new.ensures) (opens c.args.schema.now contents c.in-Ok.index c.in-Ok.ensures.ok c.in-Ok.ensures.many c.in-Ok.ensures.holds)

pub returns-clause-counted : goal.returns-clause-counted
returns-clause-counted c =
    counted_over c.args.schema.now (segment_contents c.args.segment) c.in-Ok.index (totals_view c.in-Ok-totals_of.totals) c.in-Ok.ensures.ok c.in-Ok-totals_of.ensures.counted
