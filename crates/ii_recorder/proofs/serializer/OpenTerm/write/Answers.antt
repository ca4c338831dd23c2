use Rattle.ii_io.proofs.WriteSteps.{writes_grows}
use Rattle.ii_recorder.proofs.serializer.OpenTerm.write.Goals as goal

pub returns-then-is_err-2-clause-grow : goal.returns-then-is_err-2-clause-grow
returns-then-is_err-2-clause-grow g c = (
  writes_grows c.args.postings_write.now c.close_term-written.new.output_write _ c.close_term-written.result c.close_term-written.ensures.written,
  writes_grows c.args.positions_write.now c.close_term-written-2.new.positions_write _ c.close_term-written-2.result c.close_term-written-2.ensures.written,
)

pub returns-in-Err-len_between-clause-grow : goal.returns-in-Err-len_between-clause-grow
returns-in-Err-len_between-clause-grow g c = (
  writes_grows c.args.postings_write.now c.close_term-written.new.output_write _ c.close_term-written.result c.close_term-written.ensures.written,
  writes_grows c.args.positions_write.now c.close_term-written-2.new.positions_write _ c.close_term-written-2.result c.close_term-written-2.ensures.written,
)

pub returns-clause-grow : goal.returns-clause-grow
returns-clause-grow g c = (
  writes_grows c.args.postings_write.now c.close_term-written.new.output_write _ c.close_term-written.result c.close_term-written.ensures.written,
  writes_grows c.args.positions_write.now c.close_term-written-2.new.positions_write _ c.close_term-written-2.result c.close_term-written-2.ensures.written,
)
