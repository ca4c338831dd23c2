use Rattle.std.proofs.Common.{◌*◌, drop, eqb, eqb-true, length, ap, subst, refl, ◌∙◌, arith}
use Rattle.ii_codes.specs.BlockDecoder.{BlockDecoderState}
use Rattle.ii_check.specs.CheckedPostings.{HasDocuments}
use Rattle.ii_check.specs.Positions.{suffice}
use Rattle.ii_check.proofs.CheckedPostingsLemmas.{asked, are_given, has_documents}
use Rattle.ii_check.proofs.PositionLemmas.{suffices_first, row_is, end_low, no_end, an_end, none_there, goes_on, all_are}
use Rattle.ii_check.proofs.SpentLemmas.{one_block, one_freqs, spends_all}
use Rattle.ii_check.proofs.checked_postings.CheckedPostings.are_positions.Goals as goal

pub loop-block-init : goal.loop-block-init
loop-block-init c =
    record {
      at = c.skip_reader-skip.ensures.at;
      block = c.skip_reader-skip.ensures.first;
      same = refl;
      to = suffices_first c.args.self.now.postings.freqs c.args.reader.now.deltas c.skip_reader-skip.result.block c.requires c.skip_reader-skip.ensures.first;
      spends = record { nothing = λ e. omega arith; decodes = λ on. absurd (omega arith); block = λ on. absurd (omega arith) };
      docs = omega (arith, ap (λ (d : BlockDecoderState). d.decodes) c.with_val-doc_decoder.ensures);
      freqs = omega (arith, ap (λ (d : BlockDecoderState). d.decodes) c.with_val-freq_decoder.ensures);
    }

pub end_of_positions-requires-clause-low : goal.end_of_positions-requires-clause-low
end_of_positions-requires-clause-low c =
    let l = c.loop-block in
    let s = c.self.inside in
    let p = c.args.self.now.postings in
    let to = l.invariant.to in
    let row = row_is p.freqs l.skip.block l.end c.args.reader.now.deltas c.output_array.result.now l.freq_decoder c.load_block.new.freq_decoder to c.load_block.ensures.loads.freqs_are c.output_array.ensures.values in
    let given = are_given (asked s.record_option s.requested_option s.doc_freq s.bytes s.places.skip_info s.places.entries s.places.body) s.freq_reading_option c.self.invariant in
    let has : HasDocuments c.args.self.now = subst (λ p. HasDocuments p) c.self.view_is (has_documents _ given) in
    let freq = ap (λ p. p.doc_freq) c.self.view_is in
    end_low p.freqs c.args.self.now.doc_freq l.skip.block l.end c.args.reader.now.deltas c.output_array.result.now to row has.freqs (omega arith)

pub returns-in_default-clause-are : goal.returns-in_default-clause-are
returns-in_default-clause-are c =
    let l = c.loop-block in
    let p = c.args.self.now.postings in
    let to = l.invariant.to in
    let row = row_is p.freqs l.skip.block l.end c.args.reader.now.deltas c.output_array.result.now l.freq_decoder c.load_block.new.freq_decoder to c.load_block.ensures.loads.freqs_are c.output_array.ensures.values in
    let none = no_end (suffice c.output_array.result.now (drop l.end l.reader.deltas)) _ c.in_default.ensures.end in
    rw to.are (none_there p.freqs l.skip.block l.end c.args.reader.now.deltas c.output_array.result.now to row (rw l.invariant.same at none))

pub loop-block-preserved : goal.loop-block-preserved
loop-block-preserved c =
    let l = c.loop-block in
    let p = c.args.self.now.postings in
    let to = l.invariant.to in
    let row = row_is p.freqs l.skip.block l.end c.args.reader.now.deltas c.output_array.result.now l.freq_decoder c.load_block.new.freq_decoder to c.load_block.ensures.loads.freqs_are c.output_array.ensures.values in
    let found = an_end (suffice c.output_array.result.now (drop l.end l.reader.deltas)) _ c.in-Some.next c.in-Some.ensures.end in
    let freq = ap (λ p. p.doc_freq) c.self.view_is in
    let more = c.loop-block-test.true in
    let here = l.invariant.block in
    let moved = c.advance.ensures.block in
    record {
      at = c.advance.ensures.at;
      block = omega arith;
      same = c.end_of_positions.ensures.deltas ∙ l.invariant.same;
      to = goes_on p.freqs l.skip.block l.end c.in-Some.next c.advance.new.skip.block c.args.reader.now.deltas c.output_array.result.now to row (rw l.invariant.same at found.0) found.1 (omega arith);
      spends = c.in-Some.ensures.decodes _ l.invariant.spends;
      docs = omega (arith, l.invariant.docs, one_block _ _ _ _ _ c.load_block.ensures.loads.docs_are);
      freqs = omega (arith, l.invariant.freqs, one_freqs _ _ _ _ c.load_block.ensures.loads.freqs_are);
    }

pub returns-clause-are : goal.returns-clause-are
returns-clause-are c =
    let l = c.loop-block in
    let s = c.self.inside in
    let to = l.invariant.to in
    let given = are_given (asked s.record_option s.requested_option s.doc_freq s.bytes s.places.skip_info s.places.entries s.places.body) s.freq_reading_option c.self.invariant in
    let has : HasDocuments c.args.self.now = subst (λ p. HasDocuments p) c.self.view_is (has_documents _ given) in
    let freq = ap (λ p. p.doc_freq) c.self.view_is in
    let many = (has.freqs to.counts to.are).many in
    let over = c.loop-block-test.false in
    let here = l.invariant.block in
    let all = all_are to.counts c.args.reader.now.deltas (128 * l.skip.block) l.end (omega arith) to.enough to.end_is in
    let len = c.len.ensures ∙ ap length l.invariant.same in
    rw to.are ((λ j. eqb (c.from.ensures j) (len j)) ∙ all)

pub returns-clause-decodes : goal.returns-clause-decodes
returns-clause-decodes c = λ are.
    let l = c.loop-block in
    let end = c.from.ensures in
    let len = c.len.ensures ∙ ap length l.invariant.same in
    let same = eqb-true c.from.result c.len.result are in
    spends_all _ _ _ _ l.invariant.spends (omega arith)

pub returns-clause-docs_checked : goal.returns-clause-docs_checked
returns-clause-docs_checked c = λ are.
    let freq = ap (λ p. p.doc_freq) c.self.view_is in
    omega (arith, c.loop-block.invariant.docs, c.add_lists.ensures.docs)

pub returns-clause-freqs_checked : goal.returns-clause-freqs_checked
returns-clause-freqs_checked c = λ are.
    let freq = ap (λ p. p.doc_freq) c.self.view_is in
    omega (arith, c.loop-block.invariant.freqs, c.add_lists.ensures.freqs)
