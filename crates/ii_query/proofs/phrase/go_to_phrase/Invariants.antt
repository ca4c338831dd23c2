use Rattle.std.proofs.Common.{◌≡◌, ◌<◌, ◌-◌}
use Rattle.ii_base.specs.declared.doc_id.TheConstants.{TERMINATED}
use Rattle.ii_docset.specs.Cursor.{doc_at, IsSound}
use Rattle.std.specs.List.{AllByRecursion, AllZip}
use Rattle.ii_query.specs.Phrase.{IsUnread, IsUnreadFrom, ReadsOnce, parts_in}
use Rattle.ii_query.specs.SloppyPhrase.{sloppy_docs}
use Rattle.ii_query.proofs.phrase.go_to_phrase.Given as goal

abbrev pub invariant-loop-doc : goal.invariant-loop-doc
invariant-loop-doc g l = record {
  here : l.doc ≡ doc_at l.first.part.rest;
  sound : IsSound l.first.part.rest;
  met : sloppy_docs l.slop l.first.part.rest (parts_in l.others.items) ≡ sloppy_docs l.slop l.fn.first.part.rest (parts_in l.fn.others.items);
  leads : l.first.part.distance ≡ 0;
  first_unread : IsUnread l.first;
  others_unread : l.doc < TERMINATED → AllByRecursion (IsUnreadFrom l.doc) l.others.items;
  first_work : ReadsOnce g.P.Postings.spent l.fn.first l.first;
  other_work : AllZip (ReadsOnce g.P.Postings.spent) l.fn.others.items l.others.items;
}

abbrev pub decreases-loop-doc : goal.decreases-loop-doc
decreases-loop-doc g l = TERMINATED - l.doc
