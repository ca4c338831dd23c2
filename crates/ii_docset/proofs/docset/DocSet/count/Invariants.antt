use Rattle.std.proofs.Common.{◌≡◌, ◌+◌, ◌≤◌, length}
use Rattle.ii_base.specs.declared.doc_id.TheConstants.{TERMINATED}
use Rattle.ii_docset.specs.Alive.{IsCovered, alive_in}
use Rattle.ii_docset.specs.Cursor.{doc_at, IsSound}
use Rattle.ii_docset.proofs.docset.DocSet.count.Given as goal

abbrev pub invariant-loop-doc : goal.invariant-loop-doc
invariant-loop-doc g l = record {
  here : l.doc ≡ doc_at (g.Self.DocSet.rest l.self);
  sound : IsSound (g.Self.DocSet.rest l.self);
  covered : IsCovered l.alive_bitset (g.Self.DocSet.rest l.self);
  work : g.Self.DocSet.went l.fn.self l.self;
  kind : g.Self.DocSet.always_one l.self ≡ g.Self.DocSet.always_one l.fn.self;
  counted : l.count + alive_in l.alive_bitset (g.Self.DocSet.rest l.self) ≡ alive_in l.alive_bitset (g.Self.DocSet.rest l.fn.self);
  few : alive_in l.alive_bitset (g.Self.DocSet.rest l.fn.self) ≤ TERMINATED;
}

abbrev pub decreases-loop-doc : goal.decreases-loop-doc
decreases-loop-doc g l = length (g.Self.DocSet.rest l.self)
