use Rattle.std.proofs.Common.{◌≡◌, ◌-◌, ◌+◌, ◌*◌}
use Rattle.std.specs.Prelude.{max, suc}
use Rattle.std.specs.List.{AllZip}
use Rattle.ii_base.specs.declared.doc_id.TheConstants.{TERMINATED}
use Rattle.ii_docset.specs.Cursor.{doc_at, IsSound}
use Rattle.ii_query.specs.Combined.{all_have, picked, without}
use Rattle.ii_query.specs.QueryCursor.{WentTo, cursors_under, depth_of, depth_over, rests}
use Rattle.ii_query.proofs.MeetLemmas.{MetAt}
use Rattle.ii_query.proofs.PartsLemmas.{DoneTo, least_to}
use Rattle.ii_query.proofs.query_cursor.+go_to.Given as goal

abbrev pub decreases-QueryCursor::go_to : goal.decreases-QueryCursor::go_to
decreases-QueryCursor::go_to g l = 6 * l.self.now.depth + 3

abbrev pub decreases-QueryCursor::go_on : goal.decreases-QueryCursor::go_on
decreases-QueryCursor::go_on g l = 6 * l.self.now.depth + 2

abbrev pub decreases-move_to : goal.decreases-move_to
decreases-move_to g l = 6 * depth_of l.parts.now + 1

abbrev pub decreases-go_to_each : goal.decreases-go_to_each
decreases-go_to_each g l = 6 * depth_over l.parts.now.items - 2

abbrev pub decreases-seek_others : goal.decreases-seek_others
decreases-seek_others g l = 6 * depth_over l.others.now.items - 2

abbrev pub decreases-meet : goal.decreases-meet
decreases-meet g l = 6 * max (suc l.leader.now.depth) (depth_over l.others.now.items) - 1

abbrev pub decreases-leave_out : goal.decreases-leave_out
decreases-leave_out g l = 6 * max l.first.now.depth l.other.now.depth + 4

abbrev pub invariant-go_to_each-loop-i : goal.invariant-go_to_each-loop-i
invariant-go_to_each-loop-i g l = record {
  went : DoneTo (WentTo g.T.DocSet.went l.target) l.i l.fn.parts.items l.parts.items;
  least : l.least ≡ least_to l.i l.parts.items;
}

abbrev pub invariant-seek_others-loop-i : goal.invariant-seek_others-loop-i
invariant-seek_others-loop-i g l = DoneTo (MetAt g.T.DocSet.went l.doc) l.i l.fn.others.items l.others.items

abbrev pub invariant-meet-loop-doc : goal.invariant-meet-loop-doc
invariant-meet-loop-doc g l = record {
  here : l.doc ≡ doc_at l.leader.rest;
  sound : IsSound l.leader.rest;
  met : picked (all_have (rests l.others.items)) l.leader.rest ≡ picked (all_have (rests l.fn.others.items)) l.fn.leader.rest;
  leader_depth : l.leader.depth ≡ l.fn.leader.depth;
  other_depth : depth_over l.others.items ≡ depth_over l.fn.others.items;
  leader_work : AllZip g.T.DocSet.went l.fn.leader.cursors l.leader.cursors;
  other_work : AllZip g.T.DocSet.went (cursors_under l.fn.others.items) (cursors_under l.others.items);
}

abbrev pub decreases-meet-loop-doc : goal.decreases-meet-loop-doc
decreases-meet-loop-doc g l = TERMINATED - l.doc

abbrev pub invariant-leave_out-loop-doc : goal.invariant-leave_out-loop-doc
invariant-leave_out-loop-doc g l = record {
  here : l.doc ≡ doc_at l.first.rest;
  sound : IsSound l.first.rest;
  met : without l.first.rest l.other.rest ≡ without l.fn.first.rest l.fn.other.rest;
  first_depth : l.first.depth ≡ l.fn.first.depth;
  other_depth : l.other.depth ≡ l.fn.other.depth;
  first_work : AllZip g.T.DocSet.went l.fn.first.cursors l.first.cursors;
  other_work : AllZip g.T.DocSet.went l.fn.other.cursors l.other.cursors;
}

abbrev pub decreases-leave_out-loop-doc : goal.decreases-leave_out-loop-doc
decreases-leave_out-loop-doc g l = TERMINATED - l.doc
