use Rattle.std.proofs.Common.{◌≡◌, ◌≤◌, ℕ, drop}
use Rattle.std.specs.List.{AllZip}
use Rattle.ii_query.specs.Phrase.{ReadsOnce, parts_in, stand_left}
use Rattle.ii_query.proofs.phrase.stand_from.Given as goal

abbrev pub invariant-loop-i : goal.invariant-loop-i
invariant-loop-i g l = record {
  same : parts_in l.others.items ≡ parts_in l.fn.others.items;
  kept : drop l.i l.others.items ≡ drop l.i l.fn.others.items;
  left : stand_left (drop l.i l.fn.others.items) l.start ≡ stand_left l.fn.others.items l.start;
  later : (s : ℕ) → l.start ≤ s → stand_left l.others.items s ≡ stand_left l.fn.others.items s;
  work : AllZip (ReadsOnce g.P.Postings.spent) l.fn.others.items l.others.items;
}
