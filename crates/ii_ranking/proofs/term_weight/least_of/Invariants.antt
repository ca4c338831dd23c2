use Rattle.std.proofs.Common.{◌<◌, ◌≤◌, ℕ}
use Rattle.ii_fieldnorm.specs.Readers.{id_of_doc}
use Rattle.ii_ranking.proofs.term_weight.least_of.Given as goal

-- the least of the ids before this one
abbrev pub invariant-loop-doc : goal.invariant-loop-doc
invariant-loop-doc l = record {
  one : l.least ≤ 1;
  ids : (d : ℕ) → d < l.doc → (l.least ≤ id_of_doc l.norms d) × (id_of_doc l.norms d < 256);
}
