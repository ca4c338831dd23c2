use Rattle.std.proofs.Common.{◌≡◌, ◌-◌, ◌++◌}
use Rattle.ii_base.specs.declared.doc_id.TheConstants.{TERMINATED}
use Rattle.ii_docset.specs.Cursor.{doc_at, IsSound}
use Rattle.ii_docset.specs.Intersection.{common_docs}
use Rattle.ii_docset.proofs.intersection.intersect.Given as goal

abbrev pub invariant-loop-doc : goal.invariant-loop-doc
invariant-loop-doc g l = record {
  here : l.doc ≡ doc_at (g.A.DocSet.rest l.first);
  sound : IsSound (g.A.DocSet.rest l.first);
  met : l.docs.items ++ common_docs (g.A.DocSet.rest l.first) (g.B.DocSet.rest l.other) ≡ common_docs (g.A.DocSet.rest l.fn.first) (g.B.DocSet.rest l.fn.other);
  first_kind : g.A.DocSet.always_one l.first ≡ g.A.DocSet.always_one l.fn.first;
  other_kind : g.B.DocSet.always_one l.other ≡ g.B.DocSet.always_one l.fn.other;
  first_work : g.A.DocSet.went l.fn.first l.first;
  other_work : g.B.DocSet.went l.fn.other l.other;
}

abbrev pub decreases-loop-doc : goal.decreases-loop-doc
decreases-loop-doc g l = TERMINATED - l.doc
