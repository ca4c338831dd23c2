-- Why an index of calls can't be written.
use Rattle.std.proofs.Common.{◌≡◌, ℕ, List, Result, subst}
use Rattle.std.specs.Prelude.{IfErr}
use Rattle.ii_io.specs.declared.faults.Fault.{Fault}
use Rattle.ii_base.specs.Schema.{SchemaEntry}
use Rattle.ii_definitions.specs.Tokens.{IndexToken}
use Rattle.ii_indexing.specs.IndexFiles.{IsIndexFault}
use Rattle.ii_indexing.specs.Indexer.{IndexerState}
use Rattle.ii_indexing.specs.declared.index_writers.IndexWriters.{IndexWriters}

pub written_fault : {W : Type 0} (entries : List SchemaEntry) (num_docs : ℕ) (writers : IndexWriters W) (s : IndexerState) (ts : List IndexToken) (result : Result (Unit {0}) Fault) → s.schema ≡ entries → s.num_docs ≡ num_docs
    → IfErr result (IsIndexFault s.schema s.num_docs writers ts) → IfErr result (IsIndexFault entries num_docs writers ts)
written_fault {W} entries num_docs writers s ts result schema docs fault =
    subst (λ (n : ℕ). IfErr result (IsIndexFault {W = W} entries n writers ts)) docs
    (subst (λ (es : List SchemaEntry). IfErr result (IsIndexFault {W = W} es s.num_docs writers ts)) schema fault)
