use Rattle.std.proofs.Common.{◌≡◌, ◌+◌, ◌≤◌, length}
use Rattle.std.specs.List.{AllZip}
use Rattle.ii_base.specs.declared.doc_id.TheConstants.{TERMINATED}
use Rattle.ii_query.specs.Combined.{StandsAt, union_of}
use Rattle.ii_query.specs.QueryCursor.{cursors_under, depth_over, rests}
use Rattle.ii_query.proofs.query_cursor.count_union.Given as goal

abbrev pub invariant-loop-doc : goal.invariant-loop-doc
invariant-loop-doc g l = record {
  at : StandsAt l.doc (union_of (rests l.parts.items));
  counted : l.count + length (union_of (rests l.parts.items)) ≡ length (union_of (rests l.fn.parts.items));
  few : length (union_of (rests l.fn.parts.items)) ≤ TERMINATED;
  depth : depth_over l.parts.items ≡ depth_over l.fn.parts.items;
  work : AllZip g.T.DocSet.went (cursors_under l.fn.parts.items) (cursors_under l.parts.items);
}

abbrev pub decreases-loop-doc : goal.decreases-loop-doc
decreases-loop-doc g l = length (union_of (rests l.parts.items))
