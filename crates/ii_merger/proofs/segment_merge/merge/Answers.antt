use Rattle.std.proofs.Common.{inl, map}
use Rattle.ii_merger.specs.MergedFiles.{merging_of}
use Rattle.ii_merger.specs.MergedIndex.{opened_segment}
use Rattle.ii_merger.proofs.FileLemmas.{none_failed}
use Rattle.ii_merger.proofs.NormLemmas.{norms_of_living, norms_undamaged}
use Rattle.ii_merger.proofs.PartLemmas.{merge_fails, not_a_write}
use Rattle.ii_merger.proofs.segment_merge.merge.Goals as goal

pub write_segment-requires-clause-may : goal.write_segment-requires-clause-may
write_segment-requires-clause-may g c = record {
  many = c.requires.many;
  fields = c.requires.fields;
  few = c.requires.few;
  norms = norms_of_living c.args.schema.now (map opened_segment c.args.sources.now) _ c.in-Ok.ensures.norms;
}

pub returns-in-Ok-clause-fault : goal.returns-in-Ok-clause-fault
returns-in-Ok-clause-fault g c = merge_fails (merging_of c.args.schema.now c.args.num_tokens.now (map opened_segment c.args.sources.now)) c.args.writers c.write_segment.result.1 c.write_segment.ensures.fault

pub returns-in-Err-clause-fault : goal.returns-in-Err-clause-fault
returns-in-Err-clause-fault g c = inl c.in-Err.ensures.fault

pub returns-in-Err-clause-failures : goal.returns-in-Err-clause-failures
returns-in-Err-clause-failures g c = none_failed c.args.writers c.in-Err.fault (not_a_write c.args.schema.now (map opened_segment c.args.sources.now) c.in-Err.fault c.in-Err.ensures.fault)

pub returns-in-Err-clause-undamaged : goal.returns-in-Err-clause-undamaged
returns-in-Err-clause-undamaged g c ss hold part = norms_undamaged c.args.schema.now (map opened_segment c.args.sources.now) ss c.in-Err.fault part c.in-Err.ensures.fault hold
