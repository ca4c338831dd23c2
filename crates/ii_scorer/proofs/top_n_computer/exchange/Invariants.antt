use Rattle.std.proofs.Common.{◌≡◌}
use Rattle.ii_scorer.proofs.HeapLemmas.{first_exchanged}
use Rattle.ii_scorer.proofs.top_n_computer.exchange.Given as goal

abbrev pub invariant-loop-document : goal.invariant-loop-document
invariant-loop-document l = l.scored ≡ first_exchanged l.document-index l.fn.scored
