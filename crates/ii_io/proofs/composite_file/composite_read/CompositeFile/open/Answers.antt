use Rattle.ii_io.proofs.CompositeReadLemmas.{table_lies}
use Rattle.ii_io.proofs.composite_file.composite_read.CompositeFile.open.Goals as goal

pub invariant_of-result : goal.invariant_of-result
invariant_of-result c =
    table_lies c.args.bytes c.in_ok-places.places.items (rw c.as_slice.ensures at c.in_ok-places.ensures.read)
