use Rattle.ii_io.proofs.WriteSteps.{writes_then, writes_went}
use Rattle.ii_layout.proofs.PackingLemmas.{rest_written, fits_cases, fits_by}
use Rattle.ii_layout.proofs.serializer.write_rest.Goals as goal

pub returns-clause-written : goal.returns-clause-written
returns-clause-written g c =
    rw (rest_written c.args.skip_info c.args.last_doc _ _ _ _ c.if-not-has_freq.ensures c.doc_ids.ensures c.term_freqs.ensures c.compress_vint_sorted-bytes.ensures c.compress_vint_unsorted-bytes.ensures)
    (writes_then c.args.output_write.now c.write_all-docs.new.self c.write_all.new.self _ _ c.write_all.result
    (writes_went c.args.output_write.now c.write_all-docs.new.self _ c.write_all-docs.result c.if-is_err.ensures.value c.write_all-docs.ensures.written) c.write_all.ensures.written)

pub returns-clause-fits : goal.returns-clause-fits
returns-clause-fits g c =
    rw (rest_written c.args.skip_info c.args.last_doc _ _ _ _ c.if-not-has_freq.ensures c.doc_ids.ensures c.term_freqs.ensures c.compress_vint_sorted-bytes.ensures c.compress_vint_unsorted-bytes.ensures)
    (fits_cases c.args.output_write.now c.write_all-docs.new.self _ _ c.write_all.result
    (writes_went c.args.output_write.now c.write_all-docs.new.self _ c.write_all-docs.result c.if-is_err.ensures.value c.write_all-docs.ensures.written)
    (fits_by c.write_all-docs.new.self _ c.write_all.result c.write_all.ensures.limit))
