use Rattle.std.proofs.Common.{ℕ, drop, sym, ap, ◌∙◌, arith}
use Rattle.std.proofs.lemmas.List.{take_all}
use Rattle.ii_codes.specs.Blocks.{unsorted_block_at}
use Rattle.ii_layout.specs.Frequencies.{bounds_counts, has_sum}
use Rattle.ii_layout.proofs.FrequencyLemmas.{block_fits}
use Rattle.ii_check.proofs.FrequencyLemmas.{block_refused, block_there}
use Rattle.ii_check.proofs.check.are_block_freqs.Goals as goal

pub returns-then-not-has_sum-clause-has : goal.returns-then-not-has_sum-clause-has
returns-then-not-has_sum-clause-has c =
    let b = c.in-BitPacked in
    let output = c.try_uncompress_block_unsorted.new.self.output in
    let bytes = c.bytes_from-bytes.ensures ∙ ap (λ (n : ℕ). drop n c.args.bytes.now) c.compressed_block_size.ensures in
    let read = c.in-Ok.ensures.read ∙ ap (unsorted_block_at b.strict_delta_encoded b.tf_num_bits) bytes in
    let size = (block_fits _ _ _ _ _ (sym read)).many in
    let len = c.in-Ok.ensures.len in
    let values = c.output_array-freqs.ensures.values ∙ take_all c.try_uncompress_block_unsorted.new.self.output_len output (omega arith) in
    let sum = ap (has_sum c.args.skip_info b.tf_sum) (sym values) ∙ sym c.has_sum.ensures ∙ c.if-not-has_sum.true in
    rw b.is (block_refused c.args.skip_info b.doc_num_bits b.tf_num_bits b.tf_sum b.block_wand_fieldnorm_id b.block_wand_term_freq b.strict_delta_encoded c.args.bytes.now output _ read sum)

pub returns-clause-has : goal.returns-clause-has
returns-clause-has c =
    let b = c.in-BitPacked in
    let output = c.try_uncompress_block_unsorted.new.self.output in
    let bytes = c.bytes_from-bytes.ensures ∙ ap (λ (n : ℕ). drop n c.args.bytes.now) c.compressed_block_size.ensures in
    let read = c.in-Ok.ensures.read ∙ ap (unsorted_block_at b.strict_delta_encoded b.tf_num_bits) bytes in
    let size = (block_fits _ _ _ _ _ (sym read)).many in
    let len = c.in-Ok.ensures.len in
    let values = c.output_array-freqs.ensures.values ∙ take_all c.try_uncompress_block_unsorted.new.self.output_len output (omega arith) in
    let sum = ap (has_sum c.args.skip_info b.tf_sum) (sym values) ∙ sym c.has_sum.ensures ∙ c.if-not-has_sum.false in
    let bound = ap (bounds_counts b.block_wand_term_freq) (sym values) ∙ sym c.are_bounded.ensures in
    rw b.is (block_there c.args.skip_info b.doc_num_bits b.tf_num_bits b.tf_sum b.block_wand_fieldnorm_id b.block_wand_term_freq b.strict_delta_encoded c.are_bounded.result c.args.bytes.now output _ read sum bound)
