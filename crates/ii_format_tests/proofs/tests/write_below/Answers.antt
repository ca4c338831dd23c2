use Rattle.std.proofs.Common.{arith}
use Rattle.ii_format_tests.proofs.RunLemmas.{row_is_documents, row_length}
use Rattle.ii_format_tests.proofs.tests.write_below.Goals as goal

pub close_term-requires : goal.close_term-requires
close_term-requires g c =
    rw c.in_ok-add_below.ensures.docs (record { counted = λ _. row_length c.args.count; ascending = row_is_documents c.args.count (omega arith) })
