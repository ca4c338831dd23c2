use Rattle.std.proofs.Common.{◌≡◌, [], replicate}
use Rattle.ii_postings_writer.proofs.sorted_terms.no_terms.Given as goal

abbrev pub invariant-loop-field : goal.invariant-loop-field
invariant-loop-field l = l.fields.items ≡ replicate l._field []
