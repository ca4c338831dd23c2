use Rattle.std.proofs.Common.{◌≡◌, ◌/◌, ◌%◌, sym, ap, ◌∙◌, arith, is_some}
use Rattle.ii_layout.specs.declared.skip.BlockInfo.{BlockInfo}
use Rattle.ii_check.specs.Check.{skip_list_of, block_freqs_in}
use Rattle.ii_check.proofs.CheckedBlocksLemmas.{decodes_low}
use Rattle.ii_check.proofs.CheckLemmas.{Told, many_entries, went_on}
use Rattle.ii_check.proofs.FrequencyLemmas.{freqs_here, freqs_next, freqs_fail, freqs_all}
use Rattle.ii_check.proofs.check.has_freqs.Goals as goal

pub returns-then-not-are_block_freqs-clause-has : goal.returns-then-not-are_block_freqs-clause-has
returns-then-not-are_block_freqs-clause-has c =
    let skip = skip_list_of c.args.skip_info (c.args.doc_freq / 128) c.args.skip_data.now c.args.body.now in
    let told : Told skip c.loop-block.skip c.byte_offset.result c.bytes_from-bytes.result.now = record { offset_is = c.byte_offset.ensures; here_is = c.bytes_from-bytes.ensures } in
    let here = freqs_here skip c.loop-block.skip c.args.doc_freq c.loop-block._block c.byte_offset.result c.bytes_from-bytes.result.now c.loop-block.invariant.reader c.loop-block-test.true told in
    let missing = sym (ap is_some (ap (λ (info : BlockInfo). block_freqs_in c.args.skip_info info c.bytes_from-bytes.result.now) c.block_info.ensures ∙ here)) ∙ sym c.are_block_freqs.ensures.has ∙ c.if-not-are_block_freqs.true in
    let many = many_entries c.args.skip_info (c.args.doc_freq / 128) c.args.skip_data.now c.args.body.now in
    let below = c.loop-block-test.true in
    freqs_fail skip c.loop-block._block (c.args.doc_freq % 128) c.args.after.now (omega arith) missing

pub loop-block-preserved : goal.loop-block-preserved
loop-block-preserved c =
    let skip = skip_list_of c.args.skip_info (c.args.doc_freq / 128) c.args.skip_data.now c.args.body.now in
    let told : Told skip c.loop-block.skip c.byte_offset.result c.bytes_from-bytes.result.now = record { offset_is = c.byte_offset.ensures; here_is = c.bytes_from-bytes.ensures } in
    let here = freqs_here skip c.loop-block.skip c.args.doc_freq c.loop-block._block c.byte_offset.result c.bytes_from-bytes.result.now c.loop-block.invariant.reader c.loop-block-test.true told in
    let found = sym (ap is_some (ap (λ (info : BlockInfo). block_freqs_in c.args.skip_info info c.bytes_from-bytes.result.now) c.block_info.ensures ∙ here)) ∙ sym c.are_block_freqs.ensures.has ∙ c.if-not-are_block_freqs.false in
    record {
      reader = went_on c.loop-block.skip c.advance.new.self c.args.skip_info c.args.doc_freq c.loop-block._block c.args.skip_data.now c.loop-block.invariant.reader c.loop-block-test.true c.advance.ensures;
      checked = freqs_next skip c.loop-block._block c.loop-block.invariant.checked found;
      decodes = (let more = c.are_block_freqs.ensures.decodes in let old = c.loop-block.invariant.decodes in omega arith);
      counted = (let more = c.next.ensures in let old = c.loop-block.invariant.counted in omega arith);
      new = λ none. absurd (omega arith);
    }

pub returns-clause-has : goal.returns-clause-has
returns-clause-has c =
    let skip = skip_list_of c.args.skip_info (c.args.doc_freq / 128) c.args.skip_data.now c.args.body.now in
    let most = c.loop-block.auto._block-end in
    let least = c.loop-block-test.false in
    let end : c.loop-block._block ≡ c.args.doc_freq / 128 = omega arith in
    let many = many_entries c.args.skip_info (c.args.doc_freq / 128) c.args.skip_data.now c.args.body.now in
    c.are_rest_freqs.ensures.has ∙ freqs_all skip c.loop-block._block (c.args.doc_freq % 128) c.args.after.now (end ∙ sym many) c.loop-block.invariant.checked

pub returns-clause-decodes : goal.returns-clause-decodes
returns-clause-decodes c = λ found.
    let most = c.loop-block.auto._block-end in
    let least = c.loop-block-test.false in
    let so_far = c.loop-block.invariant.decodes in
    let more = c.are_rest_freqs.ensures.decodes found in
    let low = decodes_low (c.args.doc_freq % 128) in
    omega arith

pub returns-clause-checked : goal.returns-clause-checked
returns-clause-checked c = λ found.
    let most = c.loop-block.auto._block-end in
    let least = c.loop-block-test.false in
    let so_far = c.loop-block.invariant.counted in
    let more = c.count_last.ensures in
    omega arith
