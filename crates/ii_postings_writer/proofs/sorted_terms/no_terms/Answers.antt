use Rattle.std.proofs.Common.{[]}
use Rattle.std.proofs.lemmas.List.{replicate_more}
use Rattle.ii_postings_writer.proofs.sorted_terms.no_terms.Goals as goal

pub loop-field-preserved : goal.loop-field-preserved
loop-field-preserved c = rw (c.in_ok-push.ensures.items, c.loop-field.invariant, c.new.ensures) (replicate_more c.loop-field._field [])
