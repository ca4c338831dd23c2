use Rattle.std.proofs.Common.{Some, arith}
use Rattle.std.proofs.lemmas.List.{length-map}
use Rattle.ii_fieldnorm.proofs.BufferLemmas.{next_asked, written_first, written_more, written_refused}
use Rattle.ii_counts.specs.Counts.{written_counts}
use Rattle.ii_counts.specs.CountsWriter.{row_buffers}
use Rattle.ii_counts.proofs.RowLaws.{all_unwritten, few_bodies, read_next, row_here}
use Rattle.ii_counts.proofs.writer.write_rows.Goals as goal
use Rattle.ii_io.proofs.WriteSteps.{on_ok_went}

pub loop-i-init : goal.loop-i-init
loop-i-init g c = record { has = written_first c.args.serializer.now; read = tt }

pub write_row-written-requires : goal.write_row-written-requires
write_row-written-requires g c =
    let rows = c.args.rows.now in
    let i = c.loop-i.i in
    let row = c.index-rows-i.result in
    rw c.from_field_id-field.ensures (next_asked c.args.serializer.now c.loop-i.serializer (row_buffers rows) i (Some (written_counts row)) (omega (arith, c.loop-i-test.true, length-map rows (λ r. Some (written_counts r)))) (row_here rows i row c.loop-i-test.true c.index-rows-i.is) c.loop-i.invariant.has
    (λ running. all_unwritten c.args.serializer.now (row_buffers rows) c.requires.fresh) (λ running. few_bodies c.args.serializer.now rows c.requires.fresh c.requires.fields))

pub returns-then-is_err-clause-written : goal.returns-then-is_err-clause-written
returns-then-is_err-clause-written g c =
    let rows = c.args.rows.now in
    let i = c.loop-i.i in
    let row = c.index-rows-i.result in
    written_refused c.args.serializer.now c.loop-i.serializer c.write_row-written.new.serializer (row_buffers rows) i (Some (written_counts row)) (omega (arith, c.loop-i-test.true, length-map rows (λ r. Some (written_counts r)))) (row_here rows i row c.loop-i-test.true c.index-rows-i.is) c.loop-i.invariant.has
    c.write_row-written.result c.if-is_err.ensures.value (rw c.as_slice.ensures at c.write_row-written.ensures.written)

pub loop-i-preserved : goal.loop-i-preserved
loop-i-preserved g c =
    let rows = c.args.rows.now in
    let i = c.loop-i.i in
    let row = c.index-rows-i.result in
    record {
      has = written_more c.args.serializer.now c.loop-i.serializer c.write_row-written.new.serializer (row_buffers rows) i (Some (written_counts row)) (omega (arith, c.loop-i-test.true, length-map rows (λ r. Some (written_counts r)))) (row_here rows i row c.loop-i-test.true c.index-rows-i.is) c.loop-i.invariant.has
          c.write_row-written.result c.if-is_err.ensures.value (rw c.as_slice.ensures at c.write_row-written.ensures.written) (rw (c.from_field_id-field.ensures, c.as_slice.ensures) at c.write_row-written.ensures.adds);
      read = read_next rows i row c.loop-i-test.true c.index-rows-i.is c.loop-i.invariant.read (on_ok_went c.write_row-written.result c.if-is_err.ensures.value (rw c.as_slice.ensures at c.write_row-written.ensures.read));
    }
