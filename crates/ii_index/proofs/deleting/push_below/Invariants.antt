use Rattle.std.proofs.Common.{◌-◌}
use Rattle.ii_base.specs.declared.doc_id.TheConstants.{TERMINATED}
use Rattle.ii_index.proofs.ReachLemmas.{IsTaking}
use Rattle.ii_index.proofs.deleting.push_below.Given as goal

-- the documents below the limit so far were taken
abbrev pub invariant-loop-doc : goal.invariant-loop-doc
invariant-loop-doc g l = IsTaking l.limit (g.C.DocSet.rest l.fn.cursor) (g.C.DocSet.rest l.cursor) l.doc l.fn.docs.items l.docs.items

abbrev pub decreases-loop-doc : goal.decreases-loop-doc
decreases-loop-doc g l = TERMINATED - l.doc
