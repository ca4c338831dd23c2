use Rattle.std.proofs.Common.{ap, Err}
use Rattle.ii_io.specs.declared.faults.Fault.{Fault}
use Rattle.ii_merger.specs.MergedIndex.{opened_segment}
use Rattle.ii_merger.proofs.NormLemmas.{damaged_norms}
use Rattle.ii_merger.proofs.norms.push_norms.Goals as goal

pub returns-in-Err-clause-fault : goal.returns-in-Err-clause-fault
returns-in-Err-clause-fault c =
    damaged_norms c.args.field c.num_docs-num_docs.result (opened_segment c.args.source) c.in-Err.fault c.num_docs-num_docs.ensures c.num_docs-num_docs.type_inv c.in-Err.ensures.only (λ is. c.in-Err.ensures.damaged.0 (ap (λ (e : Fault). Err e) is))
