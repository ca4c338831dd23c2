use Rattle.std.proofs.Common.{◌≡◌, ◌+◌, ◌≤◌, length}
use Rattle.std.specs.List.{AllZip}
use Rattle.ii_base.specs.declared.doc_id.TheConstants.{TERMINATED}
use Rattle.ii_query.specs.Combined.{StandsAt, either}
use Rattle.ii_query.proofs.query_cursor.count_either.Given as goal

abbrev pub invariant-loop-doc : goal.invariant-loop-doc
invariant-loop-doc g l = record {
  first : StandsAt l.one l.first.rest;
  other : StandsAt l.two l.other.rest;
  at : StandsAt l.doc (either l.first.rest l.other.rest);
  counted : l.count + length (either l.first.rest l.other.rest) ≡ length (either l.fn.first.rest l.fn.other.rest);
  few : length (either l.fn.first.rest l.fn.other.rest) ≤ TERMINATED;
  first_work : AllZip g.T.DocSet.went l.fn.first.cursors l.first.cursors;
  other_work : AllZip g.T.DocSet.went l.fn.other.cursors l.other.cursors;
}

abbrev pub decreases-loop-doc : goal.decreases-loop-doc
decreases-loop-doc g l = length (either l.first.rest l.other.rest)
