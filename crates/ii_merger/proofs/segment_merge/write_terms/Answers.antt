use Rattle.std.proofs.Common.{map, ◌≡◌, refl}
use Rattle.ii_io.proofs.WriteSteps.{Grows-trans}
use Rattle.ii_merger.specs.MergedIndex.{opened_segment}
use Rattle.ii_merger.proofs.FileLemmas.{closed_files}
use Rattle.ii_merger.proofs.segment_merge.write_terms.Goals as goal
use Rattle.std.specs.Prelude.{◌⊎◌}
use Rattle.ii_merger.proofs.PartLemmas.{closed_parts, tables_fail, files_fail}
use Rattle.ii_recorder.proofs.GrowthLemmas.{three_counted}

pub returns-in-Ok-clause-wrote : goal.returns-in-Ok-clause-wrote
returns-in-Ok-clause-wrote g c =
    closed_parts (record { entries = c.args.schema.now; num_tokens = c.args.num_tokens.now; norms = c.args.norms.now; segments = map opened_segment c.args.sources.now }) c.args.serializer.bodies c.merge_fields.new.serializer.bodies c.in-Ok.ensures.wrote c.close.result.0 c.close.result.1 c.close.result.2 c.close.result.3
    c.requires.may.many c.close.ensures.terms c.close.ensures.postings c.close.ensures.positions

pub returns-in-Ok-clause-failures : goal.returns-in-Ok-clause-failures
returns-in-Ok-clause-failures g c =
    three_counted c.args.serializer.bodies c.merge_fields.new.serializer.bodies c.merge_fields.result c.in-Ok.field-0 c.close.result.0 c.close.result.1 c.close.result.2 c.close.result.3 c.in-Ok.is c.merge_fields.ensures.ends.failures c.close.ensures.failures

pub returns-in-Ok-clause-fault : goal.returns-in-Ok-clause-fault
returns-in-Ok-clause-fault g c =
    tables_fail (record { entries = c.args.schema.now; num_tokens = c.args.num_tokens.now; norms = c.args.norms.now; segments = map opened_segment c.args.sources.now }) c.args.serializer.bodies c.merge_fields.new.serializer.bodies c.in-Ok.ensures.wrote c.close.result.3 c.merge_fields.new.serializer.closed c.in-Ok.ensures.ends.unclosed c.close.ensures.full c.close.ensures.closed c.close.ensures.only

pub returns-in-Err-clause-fault : goal.returns-in-Err-clause-fault
returns-in-Err-clause-fault g c = files_fail (record { entries = c.args.schema.now; num_tokens = c.args.num_tokens.now; norms = c.args.norms.now; segments = map opened_segment c.args.sources.now }) c.args.serializer.bodies c.in-Err.fault c.in-Err.ensures.fault

pub returns-in-Ok-clause-holds : goal.returns-in-Ok-clause-holds
returns-in-Ok-clause-holds g c ss hold counts =
    closed_files c.args.schema.now c.args.serializer c.merge_fields.new.serializer.bodies c.close.result.0 c.close.result.1 c.close.result.2 c.close.result.3 c.args.norms.now (map opened_segment c.args.sources.now) ss c.requires.may.many c.requires.schema c.merged_is_segment.ensures hold
    (c.in-Ok.ensures.holds ss hold counts) c.close.ensures.terms c.close.ensures.postings c.close.ensures.positions

pub returns-in-Ok-clause-grow : goal.returns-in-Ok-clause-grow
returns-in-Ok-clause-grow g c =
    let old = c.args.serializer.bodies in
    let now = c.merge_fields.new.serializer.bodies in
    let before = c.merge_fields.ensures.ends.grow in
    let after = c.close.ensures.grow in (
      Grows-trans old.terms.writer now.terms.writer c.close.result.0 before.terms after.0,
      Grows-trans old.postings.writer now.postings.writer c.close.result.1 before.postings after.1,
      Grows-trans old.positions.writer now.positions.writer c.close.result.2 before.positions after.2,
    )
