use Rattle.ii_ram_tests.proofs.CheckedCalls.{AreChecked}
use Rattle.ii_ram_tests.proofs.memory_index.checked.Given as goal

abbrev pub invariant-loop-call : goal.invariant-loop-call
invariant-loop-call l = AreChecked l.schema l.num_docs l.last l.checked.items
