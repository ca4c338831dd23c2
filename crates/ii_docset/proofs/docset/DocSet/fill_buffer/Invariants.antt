use Rattle.std.proofs.Common.{◌≡◌, ◌<◌, ◌++◌, length, take, drop}
use Rattle.ii_base.specs.Entries.{docs_of}
use Rattle.ii_docset.specs.Cursor.{IsSound}
use Rattle.ii_docset.proofs.docset.DocSet.fill_buffer.Given as goal

abbrev pub invariant-loop-i : goal.invariant-loop-i
invariant-loop-i g l = record {
  left : g.Self.DocSet.rest l.self ≡ drop l.i (g.Self.DocSet.rest l.fn.self);
  more : l.i < length (g.Self.DocSet.rest l.fn.self);
  sound : IsSound (g.Self.DocSet.rest l.self);
  filled : l.buffer ≡ docs_of (take l.i (g.Self.DocSet.rest l.fn.self)) ++ drop l.i l.fn.buffer;
  size : length l.fn.buffer ≡ 64;
  kind : g.Self.DocSet.always_one l.self ≡ g.Self.DocSet.always_one l.fn.self;
  work : g.Self.DocSet.went l.fn.self l.self;
}
