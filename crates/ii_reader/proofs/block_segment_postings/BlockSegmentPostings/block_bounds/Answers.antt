use Rattle.std.proofs.Common.{sym, ◌∙◌}
use Rattle.ii_reader.proofs.BoundLemmas.{bounded, bounds_told, bounds_untold}
use Rattle.ii_reader.proofs.block_segment_postings.BlockSegmentPostings.block_bounds.Goals as goal

pub returns-in-BitPacked-clause-bounds : goal.returns-in-BitPacked-clause-bounds
returns-in-BitPacked-clause-bounds c =
    let s = c.self.inside in
    let b = c.in-BitPacked in
    let has = sym c.has_freq.ensures ∙ c.if-not-has_freq.false in
    rw (← c.self.view_is, c.encode_block_wand_max_tf.ensures) (bounds_told s.checked s.skip b.doc_num_bits b.tf_num_bits b.tf_sum b.block_wand_fieldnorm_id b.block_wand_term_freq b.strict_delta_encoded c.self.invariant.has c.self.invariant.at has (sym c.block_info.ensures ∙ b.is))

pub returns-in-VInt-clause-bounds : goal.returns-in-VInt-clause-bounds
returns-in-VInt-clause-bounds c =
    let s = c.self.inside in
    let has = sym c.has_freq.ensures ∙ c.if-not-has_freq.false in
    rw (← c.self.view_is) (bounds_untold s.checked s.skip c.in-VInt.num_docs c.self.invariant.has c.self.invariant.at has (sym c.block_info.ensures ∙ c.in-VInt.is))

pub returns-then-not-has_freq-clause-bounded : goal.returns-then-not-has_freq-clause-bounded
returns-then-not-has_freq-clause-bounded c =
    let s = c.self.inside in
    rw (← c.self.view_is) (λ freqs read. bounded s.checked freqs s.skip.block c.self.invariant.has read)

pub returns-in-BitPacked-clause-bounded : goal.returns-in-BitPacked-clause-bounded
returns-in-BitPacked-clause-bounded c =
    let s = c.self.inside in
    rw (← c.self.view_is) (λ freqs read. bounded s.checked freqs s.skip.block c.self.invariant.has read)

pub returns-in-VInt-clause-bounded : goal.returns-in-VInt-clause-bounded
returns-in-VInt-clause-bounded c =
    let s = c.self.inside in
    rw (← c.self.view_is) (λ freqs read. bounded s.checked freqs s.skip.block c.self.invariant.has read)
