use Rattle.std.proofs.Common.{[], Result, inl, inr, subst, ⊎_elim, ℕ}
use Rattle.std.specs.Prelude.{IfErr, OnOk}
use Rattle.ii_io.specs.declared.faults.Fault.{Fault}
use Rattle.ii_definitions.specs.Tokens.{tokens_after}
use Rattle.ii_indexing.proofs.RamLaws.{fault_in_ram}
use Rattle.ii_indexing.specs.IndexFiles.{IsIndexFault, WroteIndex}
use Rattle.nequllpa_indexing.proofs.StoredLaws.{holds_written, norms_written}
use Rattle.nequllpa_indexing.proofs.storing.written.Goals as goal

pub returns-in-Ok-clause-holds : goal.returns-in-Ok-clause-holds
returns-in-Ok-clause-holds c ps stored =
    let es = c.args.indexer.schema in
    let n = c.args.indexer.num_docs in
    let ts = tokens_after [] ps in
    let files = c.in_memory in
    let new = c.finish-files.result.0 in
    let wrote : WroteIndex es n files.result new ts = subst (λ (r : Result (Unit {0}) Fault). OnOk r (WroteIndex es n files.result new ts)) c.in-Ok.is (c.finish-files.ensures.wrote ps stored) in
    let s = c.stored in
    holds_written es n files.result new ts wrote files.ensures s.result.terms.items s.result.postings.items s.result.positions.items s.ensures.terms s.ensures.postings s.ensures.positions

pub returns-in-Ok-clause-norms : goal.returns-in-Ok-clause-norms
returns-in-Ok-clause-norms c ps stored =
    let es = c.args.indexer.schema in
    let n = c.args.num_docs in
    let ts = tokens_after [] ps in
    let files = c.in_memory in
    let new = c.finish-files.result.0 in
    let docs = c.requires.docs in
    let known : WroteIndex es c.args.indexer.num_docs files.result new ts = subst (λ (r : Result (Unit {0}) Fault). OnOk r (WroteIndex es c.args.indexer.num_docs files.result new ts)) c.in-Ok.is (c.finish-files.ensures.wrote ps stored) in
    let wrote : WroteIndex es n files.result new ts = subst (λ (m : ℕ). WroteIndex es m files.result new ts) docs known in
    norms_written es n files.result new ts wrote files.ensures c.stored.result.fieldnorms.items c.stored.ensures.fieldnorms

pub returns-in-Err-clause-fault : goal.returns-in-Err-clause-fault
returns-in-Err-clause-fault c ps stored =
    let es = c.args.indexer.schema in
    let ts = tokens_after [] ps in
    let cause = subst (λ (r : Result (Unit {0}) Fault). IfErr r (IsIndexFault es c.args.indexer.num_docs c.in_memory.result ts)) c.in-Err.is (c.finish-files.ensures.fault c.requires.running ps stored) in
    let known = subst (λ (n : ℕ). IsIndexFault es n c.in_memory.result ts c.in-Err.fault) c.requires.docs cause in
    rw c.in_memory-in-Err.ensures (⊎_elim inl (λ ram. inr ram) (fault_in_ram es c.args.num_docs c.in_memory.result ts c.in-Err.fault c.in_memory.ensures known))
