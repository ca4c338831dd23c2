use Rattle.std.proofs.Common.{◌≡◌, ◌-◌, ◌<◌, ◌*◌, length}
use Rattle.std.specs.List.{AllZip}
use Rattle.ii_docset.specs.Cursor.{positions_at}
use Rattle.ii_query.specs.declared.phrase.TheConstants.{BEFORE_TEXT}
use Rattle.ii_query.specs.Phrase.{ReadsOnce, parts_in}
use Rattle.ii_query.proofs.CountLemmas.{AreCounted}
use Rattle.ii_query.proofs.phrase_starts.count_here.Given as goal

abbrev pub invariant-loop-start : goal.invariant-loop-start
invariant-loop-start g l = record {
  first_same : l.first.part ≡ l.fn.first.part;
  others_same : parts_in l.others.items ≡ parts_in l.fn.others.items;
  up_to : l.low < 2 * BEFORE_TEXT;
  counted : AreCounted l.slop (positions_at l.fn.first.part.rest) (parts_in l.fn.others.items) l.first.passed l.low l.count l.others.items;
  first_work : ReadsOnce g.P.Postings.spent l.fn.first l.first;
  other_work : AllZip (ReadsOnce g.P.Postings.spent) l.fn.others.items l.others.items;
}

abbrev pub decreases-loop-start : goal.decreases-loop-start
decreases-loop-start g l = length (positions_at l.fn.first.part.rest) - l.first.passed
