use Rattle.std.proofs.Common.{◌≡◌, ◌-◌, ℕ}
use Rattle.ii_base.specs.declared.doc_id.TheConstants.{TERMINATED}
use Rattle.ii_docset.specs.Cursor.{doc_at, IsSound}
use Rattle.ii_segments.specs.Segments.{living_entries}
use Rattle.ii_living_docs.proofs.living_docs.pass.Given as goal

abbrev pub invariant-loop-doc : goal.invariant-loop-doc
invariant-loop-doc g l = record {
  here : l.doc ≡ doc_at (g.D.DocSet.rest l.inner);
  sound : IsSound (g.D.DocSet.rest l.inner);
  same : (base : ℕ) → living_entries base l.alive (g.D.DocSet.rest l.inner) ≡ living_entries base l.alive (g.D.DocSet.rest l.fn.inner);
  kind : g.D.DocSet.always_one l.inner ≡ g.D.DocSet.always_one l.fn.inner;
  work : g.D.DocSet.went l.fn.inner l.inner;
}

abbrev pub decreases-loop-doc : goal.decreases-loop-doc
decreases-loop-doc g l = TERMINATED - l.doc
