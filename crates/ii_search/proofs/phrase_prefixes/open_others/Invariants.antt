use Rattle.std.proofs.Common.{drop, map}
use Rattle.ii_search.specs.PhrasePrefixes.{part_of}
use Rattle.ii_search.proofs.PartLemmas.{IsListing}
use Rattle.ii_search.proofs.phrase_prefixes.open_others.Given as goal

abbrev pub invariant-loop-other : goal.invariant-loop-other
invariant-loop-other l = IsListing l.index l.others (drop l.other-index l.others) (map part_of l.terms.items)
