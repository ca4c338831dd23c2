use Rattle.std.proofs.Common.{Vec, ℕ}
use Rattle.std.specs.declared.alloc.Global.{Global}
use Rattle.nequllpa_searching.specs.Deleting.{docs_with_term}
use Rattle.nequllpa_opening.specs.declared.opened.Opened.{Opened}
use Rattle.nequllpa_searching.proofs.DeletingLemmas.{IsGoing}
use Rattle.nequllpa_searching.proofs.deleting.docs_in_each.Given as goal

-- the documents of the segments before the index are in front of those of the others
abbrev pub invariant-loop-segment : goal.invariant-loop-segment
invariant-loop-segment l = IsGoing (λ (s : Opened). docs_with_term s.index s.alive l.term) (λ (v : Vec ℕ Global). v.items) l.segments l.segment-index l.all.items
