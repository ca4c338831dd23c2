use Rattle.std.proofs.Common.{◌*◌, refl}
use Rattle.ii_check.specs.declared.validation.Validation.TheVariants.{Skipped}
use Rattle.ii_reader.proofs.OpenLemmas.{opens_list, parts_fit}
use Rattle.ii_reader.proofs.segment_postings.SegmentPostings.open_known.Goals as goal

pub fill-requires-clause-known : goal.fill-requires-clause-known
fill-requires-clause-known c = λ skipped. rw c.empty_by-block_cursor.ensures c.requires

pub from_parts-requires : goal.from_parts-requires
from_parts-requires c =
    let parts = rw c.empty_by-block_cursor.ensures at c.in-Ok.ensures.opened in
    parts_fit Skipped c.args.record_option c.args.requested_option c.args.doc_freq c.args.postings c.args.positions c.fill.new.block_cursor c.fill.new.position_reader c.fill.new.checked_positions parts

pub returns : goal.returns
returns c =
    let b = c.fill.new.block_cursor in
    let parts = rw c.empty_by-block_cursor.ensures at c.in-Ok.ensures.opened in
    rw c.from_parts.ensures (opens_list Skipped c.args.record_option c.args.requested_option c.args.doc_freq c.args.postings c.args.positions b c.fill.new.position_reader c.fill.new.checked_positions (128 * b.block) refl parts)
