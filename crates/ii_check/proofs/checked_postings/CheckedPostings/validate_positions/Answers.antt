use Rattle.std.proofs.Common.{subst, sym, ap, ◌∙◌, arith, is_some, not, ◌≡◌, true}
use Rattle.std.proofs.lemmas.Bool.{and_parts}
use Rattle.ii_base.specs.Options.{downgrade, has_positions}
use Rattle.ii_check.specs.CheckedPostings.{HasDocuments}
use Rattle.ii_check.proofs.CheckedPostingsLemmas.{asked, are_given, has_documents}
use Rattle.ii_check.proofs.PositionLemmas.{last_loaded}
use Rattle.std.proofs.lemmas.Result.{on_ok_weaker}
use Rattle.ii_codes.specs.BlockDecoder.{BlockDecoderState}
use Rattle.ii_check.proofs.SpentLemmas.{checks_more, one_block, one_freqs}
use Rattle.ii_check.proofs.checked_postings.CheckedPostings.validate_positions.Goals as goal

pub open_counted_positions-requires : goal.open_counted_positions-requires
open_counted_positions-requires c =
    let s = c.self.inside in
    let p = c.args.self.now in
    let given = are_given (asked s.record_option s.requested_option s.doc_freq s.bytes s.places.skip_info s.places.entries s.places.body) s.freq_reading_option c.self.invariant in
    let has : HasDocuments p = subst (λ p. HasDocuments p) c.self.view_is (has_documents _ given) in
    let freq = ap (λ p. p.doc_freq) c.self.view_is in
    let read = and_parts (has_positions (downgrade p.recorded p.requested)) (is_some p.postings.freqs) (sym c.reads_positions.ensures ∙ c.if-not-reads_positions.false) in
    let here = c.loop-block.invariant.block in
    let over = c.loop-block-test.false in
    let most = c.loop-block.auto._block-end in
    last_loaded p.postings.freqs p.doc_freq c.loop-block.skip.block c.output_array.result.now c.with_val-freq_decoder.result c.load_block.new.freq_decoder read.1 has.freqs (omega arith) c.load_block.ensures.loads.freqs_are c.output_array.ensures.values

pub returns-clause-checked : goal.returns-clause-checked
returns-clause-checked c =
    let no_docs = ap (λ (d : BlockDecoderState). d.decodes) c.with_val-doc_decoder.ensures in
    let no_freqs = ap (λ (d : BlockDecoderState). d.decodes) c.with_val-freq_decoder.ensures in
    let one_doc = one_block _ _ _ _ _ c.load_block.ensures.loads.docs_are in
    let one_freq = one_freqs _ _ _ _ c.load_block.ensures.loads.freqs_are in
    let docs = c.add_lists.ensures.docs in
    let freqs = c.add_lists.ensures.freqs in
    let given : is_some c.args.bytes ≡ true = c.is_none.ensures ∙ ap not c.if-is_none.false in
    on_ok_weaker c.open_counted_positions.result (λ checks. checks_more _ c.args.bytes _ _ _ given (omega arith) (omega arith) c.add_lists.ensures.positions checks) c.open_counted_positions.ensures.checked
