use Rattle.std.proofs.Common.{◌≡◌, map, take}
use Rattle.std.specs.List.{AllByRecursion}
use Rattle.ii_postings_writer.specs.SortKeys.{IsKept}
use Rattle.ii_postings_writer.specs.SortedTerms.{kept_state, seen}
use Rattle.ii_postings_writer.proofs.sorted_terms.lent_terms.Given as goal

abbrev pub invariant-loop-place : goal.invariant-loop-place
invariant-loop-place l = (map kept_state l.terms.items ≡ map seen (take l.place l.recorders.entries)) × AllByRecursion (IsKept l.fn.flags l.fn.ranks) l.terms.items
