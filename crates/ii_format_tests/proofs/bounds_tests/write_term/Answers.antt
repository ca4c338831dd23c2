use Rattle.std.proofs.Common.{◌≤◌, arith, rules}
use Rattle.ii_format_tests.proofs.RunLemmas.{row_is_documents, row_length}
use Rattle.ii_format_tests.proofs.bounds_tests.write_term.Goals as goal

pub close_term-requires-clause-counted : goal.close_term-requires-clause-counted
close_term-requires-clause-counted c = rw c.in_ok-add_below.ensures (λ _. row_length c.min-count.result)

pub close_term-requires-clause-ascending : goal.close_term-requires-clause-ascending
close_term-requires-clause-ascending c =
    let few : c.min-count.result ≤ 300 = search rules in
    rw c.in_ok-add_below.ensures (row_is_documents c.min-count.result (omega (arith, few)))
