use Rattle.std.proofs.Common.{map}
use Rattle.ii_postings_writer.proofs.TermIndexLemmas.{on_ok}
use Rattle.ii_merger.specs.MergeSources.{source_of}
use Rattle.ii_merger.proofs.FieldMergeLemmas.{err_more}
use Rattle.ii_merger.proofs.UndamagedLemmas.{no_damage}
use Rattle.ii_merger.proofs.WriteLemmas.{wrote_tokens}
use Rattle.ii_merger.proofs.field_merge.merge_field.Goals as goal

pub returns-clause-holds : goal.returns-clause-holds
returns-clause-holds g c ss hold counted some =
    on_ok c.write_field.result _ _
    (λ wrote. wrote_tokens c.keys_of_segments.ensures c.holds_its_tokens.ensures c.bounds_its_tokens.ensures c.args.schema.now c.args.field c.args.total_num_tokens c.args.fieldnorm_reader (map source_of c.args.sources.now) ss c.args.serializer.now.bodies c.write_field.new.serializer.bodies hold counted wrote)
    c.write_field.ensures.wrote

pub returns-clause-undamaged : goal.returns-clause-undamaged
returns-clause-undamaged g c ss hold =
    err_more c.write_field.result _ _ (λ e cause part. no_damage c.args.schema.now c.args.field (map source_of c.args.sources.now) ss hold c.args.total_num_tokens c.args.fieldnorm_reader c.args.serializer.now.bodies e cause part) c.write_field.ensures.fault
