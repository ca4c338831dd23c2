use Rattle.ii_io.proofs.WriteSteps.{writes_then}
use Rattle.ii_layout.proofs.PackingLemmas.{rest_after, written_lent, written_is, first_refused, second_refused, two_went, fits_cases}
use Rattle.ii_layout.proofs.serializer.PackedBlocks.write_with.Goals as goal

pub write_rest-requires-clause-sorted : goal.write_rest-requires-clause-sorted
write_rest-requires-clause-sorted g c = rest_after _ _ _ _ _ c.self.invariant.0 (rw (← c.self.view_is) at c.requires.ascending)

pub returns-then-is_err-clause-written : goal.returns-then-is_err-clause-written
returns-then-is_err-clause-written g c =
    rw (← c.self.view_is, written_is _ _ _ _ _ c.self.invariant.0 (rw (← c.self.view_is) at c.requires.rest), ← c.data.ensures)
    (first_refused c.args.output_write.now c.write_skip_list-skip_list.new.output_write _ _ _ c.write_skip_list-skip_list.result c.if-is_err.ensures.value c.write_skip_list-skip_list.ensures)

pub returns-then-is_err-2-clause-written : goal.returns-then-is_err-2-clause-written
returns-then-is_err-2-clause-written g c =
    rw (← c.self.view_is, written_is _ _ _ _ _ c.self.invariant.0 (rw (← c.self.view_is) at c.requires.rest), ← c.data.ensures, ← c.deref.ensures.value)
    (second_refused c.args.output_write.now c.write_skip_list-skip_list.new.output_write c.write_all-blocks.new.self _ _ _ c.write_skip_list-skip_list.result c.write_all-blocks.result
    c.if-is_err.ensures.value c.write_skip_list-skip_list.ensures c.if-is_err-2.ensures.value c.write_all-blocks.ensures.written)

pub returns-clause-written : goal.returns-clause-written
returns-clause-written g c =
    rw (← c.self.view_is, written_lent _ _ _ _ _ _ _ c.self.invariant.0 (rw (← c.self.view_is) at c.requires.rest) c.data.ensures c.deref.ensures.value)
    (writes_then c.args.output_write.now c.write_all-blocks.new.self c.write_rest.new.output_write _ _ c.write_rest.result
    (two_went c.args.output_write.now c.write_skip_list-skip_list.new.output_write c.write_all-blocks.new.self _ _ c.write_skip_list-skip_list.result c.write_all-blocks.result
    c.if-is_err.ensures.value c.write_skip_list-skip_list.ensures c.if-is_err-2.ensures.value c.write_all-blocks.ensures.written)
    c.write_rest.ensures.written)

pub returns-clause-fits : goal.returns-clause-fits
returns-clause-fits g c =
    rw (← c.self.view_is, written_lent _ _ _ _ _ _ _ c.self.invariant.0 (rw (← c.self.view_is) at c.requires.rest) c.data.ensures c.deref.ensures.value)
    (fits_cases c.args.output_write.now c.write_all-blocks.new.self _ _ c.write_rest.result
    (two_went c.args.output_write.now c.write_skip_list-skip_list.new.output_write c.write_all-blocks.new.self _ _ c.write_skip_list-skip_list.result c.write_all-blocks.result
    c.if-is_err.ensures.value c.write_skip_list-skip_list.ensures c.if-is_err-2.ensures.value c.write_all-blocks.ensures.written)
    c.write_rest.ensures.fits)
