use Rattle.std.proofs.Common.{◌≡◌, ◌+◌, ◌≤◌, length}
use Rattle.std.specs.List.{AllZip}
use Rattle.ii_base.specs.declared.doc_id.TheConstants.{TERMINATED}
use Rattle.ii_query.specs.Combined.{StandsAt}
use Rattle.ii_query.proofs.query_cursor.QueryCursor.count_each.Given as goal

abbrev pub invariant-loop-doc : goal.invariant-loop-doc
invariant-loop-doc g l = record {
  at : StandsAt l.doc l.self.rest;
  counted : l.count + length l.self.rest ≡ length l.fn.self.rest;
  few : length l.fn.self.rest ≤ TERMINATED;
  work : AllZip g.T.DocSet.went l.fn.self.cursors l.self.cursors;
}

abbrev pub decreases-loop-doc : goal.decreases-loop-doc
decreases-loop-doc g l = length l.self.rest
