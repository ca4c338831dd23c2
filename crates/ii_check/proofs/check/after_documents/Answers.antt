use Rattle.std.proofs.Common.{◌≡◌, ℕ, List, Some, ◌/◌, ◌%◌, true, false, sym, ap, ◌∙◌, arith}
use Rattle.ii_check.specs.Check.{skip_list_of, after_rest}
use Rattle.ii_check.proofs.CheckedBlocksLemmas.{decodes_low}
use Rattle.ii_check.proofs.CheckLemmas.{Told, many_entries, looked_at, told_last, entry_below, checked_fail, checked_next, checked_all, went_on, rest_here, bytes_after}
use Rattle.ii_check.proofs.check.after_documents.Goals as goal

pub returns-then-not-is_block-clause-after : goal.returns-then-not-is_block-clause-after
returns-then-not-is_block-clause-after c =
    let told : Told (skip_list_of c.args.skip_info (c.args.doc_freq / 128) c.args.skip_data.now c.args.body.now) c.loop-block.skip c.byte_offset.result c.bytes_from.result.now = record { offset_is = c.byte_offset.ensures; here_is = c.bytes_from.ensures } in
    let fits = looked_at c.args.skip_info c.args.doc_freq c.loop-block._block c.loop-block.least c.byte_offset.result c.args.skip_data.now c.args.body.now c.bytes_from.result.now c.loop-block.skip c.is_block.result false c.loop-block.invariant.reader c.loop-block-test.true told c.is_block.ensures.fits c.if-not-is_block.true in
    let skip = skip_list_of c.args.skip_info (c.args.doc_freq / 128) c.args.skip_data.now c.args.body.now in
    let many = many_entries c.args.skip_info (c.args.doc_freq / 128) c.args.skip_data.now c.args.body.now in
    let below = c.loop-block-test.true in
    sym (ap bytes_after (checked_fail skip c.loop-block._block c.loop-block.least (c.args.doc_freq % 128) (omega arith) c.loop-block.invariant.checked fits))

pub overflow_add-least : goal.overflow_add-least
overflow_add-least c =
    let told : Told (skip_list_of c.args.skip_info (c.args.doc_freq / 128) c.args.skip_data.now c.args.body.now) c.loop-block.skip c.byte_offset.result c.bytes_from.result.now = record { offset_is = c.byte_offset.ensures; here_is = c.bytes_from.ensures } in
    let fits = looked_at c.args.skip_info c.args.doc_freq c.loop-block._block c.loop-block.least c.byte_offset.result c.args.skip_data.now c.args.body.now c.bytes_from.result.now c.loop-block.skip c.is_block.result true c.loop-block.invariant.reader c.loop-block-test.true told c.is_block.ensures.fits c.if-not-is_block.false in
    let skip = skip_list_of c.args.skip_info (c.args.doc_freq / 128) c.args.skip_data.now c.args.body.now in
    let below = entry_below skip c.loop-block._block c.loop-block.least fits in
    let last = told_last c.args.skip_info c.args.doc_freq c.loop-block._block c.last_doc_in_block-least.result c.args.skip_data.now c.loop-block.skip c.loop-block.invariant.reader c.loop-block-test.true c.last_doc_in_block-least.ensures in
    omega arith

pub loop-block-preserved : goal.loop-block-preserved
loop-block-preserved c =
    let told : Told (skip_list_of c.args.skip_info (c.args.doc_freq / 128) c.args.skip_data.now c.args.body.now) c.loop-block.skip c.byte_offset.result c.bytes_from.result.now = record { offset_is = c.byte_offset.ensures; here_is = c.bytes_from.ensures } in
    let fits = looked_at c.args.skip_info c.args.doc_freq c.loop-block._block c.loop-block.least c.byte_offset.result c.args.skip_data.now c.args.body.now c.bytes_from.result.now c.loop-block.skip c.is_block.result true c.loop-block.invariant.reader c.loop-block-test.true told c.is_block.ensures.fits c.if-not-is_block.false in
    let skip = skip_list_of c.args.skip_info (c.args.doc_freq / 128) c.args.skip_data.now c.args.body.now in
    let last = told_last c.args.skip_info c.args.doc_freq c.loop-block._block c.last_doc_in_block-least.result c.args.skip_data.now c.loop-block.skip c.loop-block.invariant.reader c.loop-block-test.true c.last_doc_in_block-least.ensures in
    record {
      reader = went_on c.loop-block.skip c.advance.new.self c.args.skip_info c.args.doc_freq c.loop-block._block c.args.skip_data.now c.loop-block.invariant.reader c.loop-block-test.true c.advance.ensures;
      checked = rw last (checked_next skip c.loop-block._block c.loop-block.least c.loop-block.invariant.checked fits);
      decodes = (let more = c.is_block.ensures.decodes in let old = c.loop-block.invariant.decodes in omega arith);
      counted = (let more = c.next.ensures in let old = c.loop-block.invariant.counted in omega arith);
      new = λ none. absurd (omega arith);
    }

pub returns-in_default-clause-after : goal.returns-in_default-clause-after
returns-in_default-clause-after c =
    let skip = skip_list_of c.args.skip_info (c.args.doc_freq / 128) c.args.skip_data.now c.args.body.now in
    let told : Told skip c.loop-block.skip c.byte_offset-2.result c.bytes_from-bytes.result.now = record { offset_is = c.byte_offset-2.ensures; here_is = c.bytes_from-bytes.ensures } in
    let most = c.loop-block.auto._block-end in
    let least = c.loop-block-test.false in
    let end : c.loop-block._block ≡ c.args.doc_freq / 128 = omega arith in
    let many = many_entries c.args.skip_info (c.args.doc_freq / 128) c.args.skip_data.now c.args.body.now in
    c.in_default.ensures.after ∙ ap (λ (b : ℕ). after_rest b (c.args.doc_freq % 128) c.loop-block.least c.bytes_from-bytes.result.now) c.last_doc_in_previous_block.ensures
    ∙ rest_here skip c.loop-block.skip c.args.skip_info c.args.doc_freq c.loop-block._block (c.args.doc_freq % 128) c.loop-block.least c.byte_offset-2.result c.bytes_from-bytes.result.now c.loop-block.invariant.reader end told
    ∙ checked_all skip c.loop-block._block c.loop-block.least (c.args.doc_freq % 128) (end ∙ sym many) c.loop-block.invariant.checked

pub returns-clause-after : goal.returns-clause-after
returns-clause-after c =
    let skip = skip_list_of c.args.skip_info (c.args.doc_freq / 128) c.args.skip_data.now c.args.body.now in
    let told : Told skip c.loop-block.skip c.byte_offset-2.result c.bytes_from-bytes.result.now = record { offset_is = c.byte_offset-2.ensures; here_is = c.bytes_from-bytes.ensures } in
    let most = c.loop-block.auto._block-end in
    let least = c.loop-block-test.false in
    let end : c.loop-block._block ≡ c.args.doc_freq / 128 = omega arith in
    let many = many_entries c.args.skip_info (c.args.doc_freq / 128) c.args.skip_data.now c.args.body.now in
    ap (λ (rest : List ℕ). Some rest) c.bytes_from-2.ensures ∙ c.in-Some.ensures.after
    ∙ ap (λ (b : ℕ). after_rest b (c.args.doc_freq % 128) c.loop-block.least c.bytes_from-bytes.result.now) c.last_doc_in_previous_block.ensures
    ∙ rest_here skip c.loop-block.skip c.args.skip_info c.args.doc_freq c.loop-block._block (c.args.doc_freq % 128) c.loop-block.least c.byte_offset-2.result c.bytes_from-bytes.result.now c.loop-block.invariant.reader end told
    ∙ checked_all skip c.loop-block._block c.loop-block.least (c.args.doc_freq % 128) (end ∙ sym many) c.loop-block.invariant.checked

pub returns-clause-decodes : goal.returns-clause-decodes
returns-clause-decodes c =
    let most = c.loop-block.auto._block-end in
    let least = c.loop-block-test.false in
    let so_far = c.loop-block.invariant.decodes in
    let more = c.in-Some.ensures.decodes in
    let low = decodes_low (c.args.doc_freq % 128) in
    omega arith

pub returns-clause-checked : goal.returns-clause-checked
returns-clause-checked c =
    let most = c.loop-block.auto._block-end in
    let least = c.loop-block-test.false in
    let so_far = c.loop-block.invariant.counted in
    let more = c.count_last.ensures in
    omega arith
