use Rattle.std.proofs.Common.{◌≡◌, [], Err, subst}
use Rattle.std.specs.Prelude.{◌⊎◌, IfSome}
use Rattle.ii_io.specs.declared.faults.Fault.TheVariants.{OutOfMemory}
use Rattle.ii_definitions.specs.Fields.{option_of}
use Rattle.ii_indexing.specs.Refusals.{calls_fault}
use Rattle.nequllpa_indexing.specs.Documents.{DocumentsState}
use Rattle.nequllpa_indexing.proofs.documents.Documents.write.Goals as goal

pub returns-clause-refused : goal.returns-clause-refused
returns-clause-refused g c =
    let analyze = g.A.TextAnalyzer.words c.args.analyzer.now in
    subst (λ (x : DocumentsState). IfSome (calls_fault analyze (option_of x.schema) [] x.calls) (λ fault. ((c.write_index.result.1 ≡ Err fault) ⊎ (c.write_index.result.1 ≡ Err OutOfMemory)) × (c.write_index.result.0 ≡ c.args.writers))) c.self.view_is c.write_index.ensures.refused
