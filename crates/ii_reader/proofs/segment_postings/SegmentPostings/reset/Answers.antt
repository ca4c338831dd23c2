use Rattle.std.proofs.Common.{◌+◌, ◌*◌, arith}
use Rattle.std.proofs.lemmas.Result.{on_ok_weaker}
use Rattle.ii_check.specs.declared.validation.Validation.TheVariants.{Complete}
use Rattle.ii_reader.specs.SegmentPostings.{OpensParts}
use Rattle.ii_reader.proofs.OpenLemmas.{opens_list}
use Rattle.ii_reader.proofs.segment_postings.SegmentPostings.reset.Goals as goal

pub returns-clause-opened : goal.returns-clause-opened
returns-clause-opened c =
    let a = c.args in
    let b = c.fill.new.block_cursor in
    let reader = c.fill.new.position_reader in
    let counts = c.fill.new.checked_positions in
    let opened = rw c.clear_by.ensures at c.fill.ensures.opened in
    on_ok_weaker c.fill.result (λ (parts : OpensParts Complete a.record_option a.requested_option a.doc_freq a.postings a.positions b reader counts). opens_list Complete a.record_option a.requested_option a.doc_freq a.postings a.positions b reader counts (128 * b.block + 0) (omega arith) parts) opened
