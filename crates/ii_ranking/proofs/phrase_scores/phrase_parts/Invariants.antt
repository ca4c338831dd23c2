use Rattle.std.proofs.Common.{drop}
use Rattle.std.specs.List.{AllByRecursion}
use Rattle.ii_query.specs.Phrase.{IsUnread, parts_in}
use Rattle.ii_ranking.proofs.ScoreLemmas.{IsListing}
use Rattle.ii_ranking.proofs.phrase_scores.phrase_parts.Given as goal

abbrev pub invariant-loop-other : goal.invariant-loop-other
invariant-loop-other l = record {
  listing : IsListing l.index l.others (drop l.other-index l.others) (parts_in l.parts.items);
  unread : AllByRecursion IsUnread l.parts.items;
}
