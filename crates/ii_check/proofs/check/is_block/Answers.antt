use Rattle.std.proofs.Common.{true, sym, ◌∙◌}
use Rattle.std.proofs.lemmas.Bool.{leb-true}
use Rattle.ii_codes.specs.Blocks.{least_first}
use Rattle.ii_layout.specs.declared.skip.BlockInfo.TheVariants.{BitPacked}
use Rattle.ii_check.specs.Check.{block_fits}
use Rattle.ii_check.proofs.CheckLemmas.{fits_by_values}
use Rattle.ii_check.proofs.check.is_block.Goals as goal

pub returns-then-comes_after-clause-fits : goal.returns-then-comes_after-clause-fits
returns-then-comes_after-clause-fits c =
    let b = c.in-BitPacked in
    let up = leb-true c.args.least (least_first true c.last_doc_in_previous_block-before.result) (sym c.comes_after.ensures ∙ c.if-comes_after.true) in
    c.is_strict_block.ensures c.args.least up
    ∙ (λ j. block_fits (BitPacked b.doc_num_bits (sym c.if-strict_delta_encoded.true j) b.tf_num_bits b.tf_sum b.block_wand_fieldnorm_id b.block_wand_term_freq) c.last_doc_in_previous_block-before.result c.last_doc_in_block-last_doc.result c.args.least c.args.bytes.now)
    ∙ (λ j. block_fits ((sym b.is ∙ c.block_info.ensures) j) (c.last_doc_in_previous_block-before.ensures j) (c.last_doc_in_block-last_doc.ensures j) c.args.least c.args.bytes.now)

pub returns-clause-fits : goal.returns-clause-fits
returns-clause-fits c =
    c.ascend.ensures ∙ fits_by_values c.args.skip.now c.block_info.result c.in-BitPacked.strict_delta_encoded c.in-BitPacked.doc_num_bits c.in-BitPacked.tf_num_bits c.in-BitPacked.tf_sum c.in-BitPacked.block_wand_fieldnorm_id c.in-BitPacked.block_wand_term_freq
    c.last_doc_in_previous_block-before.result c.args.least c.args.bytes.now _ c.output_array.result.now c.try_uncompress_block_sorted.new.self
    c.block_info.ensures c.in-BitPacked.is c.last_doc_in_previous_block-before.ensures c.in-Ok.ensures.read c.in-Ok.ensures.len c.output_array.ensures.values (sym c.output.ensures ∙ c.if-output-last_doc.false ∙ c.last_doc_in_block-last_doc.ensures)
