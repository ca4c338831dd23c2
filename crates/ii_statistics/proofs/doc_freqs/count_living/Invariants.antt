use Rattle.std.proofs.Common.{◌≡◌, ◌+◌, ◌≤◌, length}
use Rattle.ii_base.specs.declared.doc_id.TheConstants.{TERMINATED}
use Rattle.ii_docset.specs.Alive.{alive_in}
use Rattle.ii_docset.specs.Cursor.{IsAscending, IsSound, doc_at}
use Rattle.ii_statistics.proofs.doc_freqs.count_living.Given as goal

abbrev pub invariant-loop-doc : goal.invariant-loop-doc
invariant-loop-doc g l = record {
  here : l.doc ≡ doc_at (g.C.DocSet.rest l.cursor);
  sound : IsSound (g.C.DocSet.rest l.cursor);
  ascending : IsAscending (g.C.DocSet.rest l.fn.cursor);
  counted : l.count + alive_in l.alive (g.C.DocSet.rest l.cursor) ≡ alive_in l.alive (g.C.DocSet.rest l.fn.cursor);
  few : alive_in l.alive (g.C.DocSet.rest l.fn.cursor) ≤ TERMINATED;
}

abbrev pub decreases-loop-doc : goal.decreases-loop-doc
decreases-loop-doc g l = length (g.C.DocSet.rest l.cursor)
