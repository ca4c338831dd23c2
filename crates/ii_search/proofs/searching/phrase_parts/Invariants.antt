use Rattle.std.proofs.Common.{drop}
use Rattle.std.specs.List.{AllByRecursion}
use Rattle.ii_query.specs.Phrase.{cursors_in, parts_in}
use Rattle.ii_search.specs.Decodes.{DecodesFew}
use Rattle.ii_search.proofs.PartLemmas.{IsListing}
use Rattle.ii_search.proofs.searching.phrase_parts.Given as goal

abbrev pub invariant-loop-other : goal.invariant-loop-other
invariant-loop-other l = record {
  listing : IsListing l.index l.others (drop l.other-index l.others) (parts_in l.parts.items);
  lazy : AllByRecursion DecodesFew (cursors_in l.parts.items);
}
