use Rattle.ii_segment_store.specs.Sources.{source_contents}
use Rattle.nequllpa_merging.proofs.OpenLemmas.{counts_refused, index_refused, opened_result, refused_result}
use Rattle.nequllpa_merging.proofs.opening.open_segment.Goals as goal

pub returns-in-Err-clause-err : goal.returns-in-Err-clause-err
returns-in-Err-clause-err g c = index_refused c.args.schema.now (source_contents g.F.ReadAt.bytes c.args.segment) c.in-Err.fault c.in-Err.ensures.err

pub returns-in-Err-open_counts-clause-err : goal.returns-in-Err-open_counts-clause-err
returns-in-Err-open_counts-clause-err g c = counts_refused c.args.schema.now (source_contents g.F.ReadAt.bytes c.args.segment) c.in-Ok.index c.in-Err-open_counts.fault c.in-Ok.ensures.ok c.in-Err-open_counts.ensures.err

pub returns-clause-ok : goal.returns-clause-ok
returns-clause-ok g c = opened_result c.args.schema.now (source_contents g.F.ReadAt.bytes c.args.segment) c.in-Ok.index c.in-Ok-open_counts.counts c.with_totals.result c.in-Ok.ensures.ok c.in-Ok-open_counts.ensures.ok c.with_totals.ensures.totals c.with_totals.ensures.same

pub returns-clause-err : goal.returns-clause-err
returns-clause-err g c = refused_result c.args.schema.now (source_contents g.F.ReadAt.bytes c.args.segment) c.in-Ok.index c.in-Ok-open_counts.counts c.with_totals.result c.in-Ok.ensures.ok c.in-Ok-open_counts.ensures.ok c.with_totals.ensures.err
