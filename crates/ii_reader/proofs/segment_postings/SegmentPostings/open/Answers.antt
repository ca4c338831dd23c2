use Rattle.std.proofs.Common.{◌*◌, refl}
use Rattle.ii_check.specs.declared.validation.Validation.TheVariants.{Complete}
use Rattle.ii_reader.proofs.OpenLemmas.{opens_list, parts_fit}
use Rattle.ii_reader.proofs.segment_postings.SegmentPostings.open.Goals as goal

pub from_parts-requires : goal.from_parts-requires
from_parts-requires c =
    let parts = rw c.empty_by-block_cursor.ensures at c.in_default.ensures.opened in
    parts_fit Complete c.args.record_option c.args.requested_option c.args.doc_freq c.args.postings c.args.positions c.fill.new.block_cursor c.fill.new.position_reader c.fill.new.checked_positions parts

pub returns-clause-opened : goal.returns-clause-opened
returns-clause-opened c =
    let b = c.fill.new.block_cursor in
    let parts = rw c.empty_by-block_cursor.ensures at c.in_default.ensures.opened in
    rw c.from_parts.ensures (opens_list Complete c.args.record_option c.args.requested_option c.args.doc_freq c.args.postings c.args.positions b c.fill.new.position_reader c.fill.new.checked_positions (128 * b.block) refl parts)
