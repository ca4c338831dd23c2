use Rattle.std.proofs.Common.{◌-◌}
use Rattle.ii_base.specs.declared.doc_id.TheConstants.{TERMINATED}
use Rattle.nequllpa_searching.proofs.FindingLemmas.{IsTaking}
use Rattle.nequllpa_searching.proofs.finding.take_docs.Given as goal

-- the living documents so far were taken
abbrev pub invariant-loop-doc : goal.invariant-loop-doc
invariant-loop-doc g l = IsTaking l.alive l.limit (g.C.DocSet.rest l.fn.cursor) (g.C.DocSet.rest l.cursor) l.doc l.docs.items

abbrev pub decreases-loop-doc : goal.decreases-loop-doc
decreases-loop-doc g l = TERMINATED - l.doc
