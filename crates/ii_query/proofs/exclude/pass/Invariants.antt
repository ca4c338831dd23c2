use Rattle.std.proofs.Common.{◌≡◌, ◌-◌}
use Rattle.ii_base.specs.declared.doc_id.TheConstants.{TERMINATED}
use Rattle.ii_docset.specs.Cursor.{doc_at, IsSound}
use Rattle.ii_query.specs.Combined.{without}
use Rattle.ii_query.proofs.exclude.pass.Given as goal

abbrev pub invariant-loop-doc : goal.invariant-loop-doc
invariant-loop-doc g l = record {
  here : l.doc ≡ doc_at (g.A.DocSet.rest l.first);
  sound : IsSound (g.A.DocSet.rest l.first);
  met : without (g.A.DocSet.rest l.first) (g.B.DocSet.rest l.other) ≡ without (g.A.DocSet.rest l.fn.first) (g.B.DocSet.rest l.fn.other);
  first_work : g.A.DocSet.went l.fn.first l.first;
  other_work : g.B.DocSet.went l.fn.other l.other;
}

abbrev pub decreases-loop-doc : goal.decreases-loop-doc
decreases-loop-doc g l = TERMINATED - l.doc
