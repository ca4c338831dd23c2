use Rattle.std.specs.List.{AllByRecursion, AllZip}
use Rattle.ii_query.specs.Phrase.{IsUnreadFrom, ReadsOnce, parts_in}
use Rattle.ii_query.proofs.PhraseSteps.{IsMeeting}
use Rattle.ii_query.proofs.phrase.meet_others.Given as goal

abbrev pub invariant-loop-i : goal.invariant-loop-i
invariant-loop-i g l = record {
  meeting : IsMeeting l.doc l.i (parts_in l.fn.others.items) (parts_in l.others.items);
  unread : AllByRecursion (IsUnreadFrom l.doc) l.others.items;
  work : AllZip (ReadsOnce g.P.Postings.spent) l.fn.others.items l.others.items;
}
