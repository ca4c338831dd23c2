use Rattle.std.proofs.Common.{◌≡◌, [], List, subst, ℕ}
use Rattle.std.specs.Prelude.{◌⊎◌, IfErr}
use Rattle.ii_io.specs.declared.faults.Fault.TheVariants.{OutOfMemory}
use Rattle.ii_base.specs.Schema.{SchemaEntry}
use Rattle.ii_definitions.specs.Tokens.{tokens_after}
use Rattle.ii_indexing.specs.RamFiles.{IsRamFault}
use Rattle.nequllpa_indexing.specs.FieldTokens.{pieces_by}
use Rattle.nequllpa_indexing.proofs.storing.store.Goals as goal

pub returns-in-Ok-clause-fault : goal.returns-in-Ok-clause-fault
returns-in-Ok-clause-fault g c = λ none.
    let ps = pieces_by (g.F.FieldAnalyzers.words c.args.analyzers.now) c.args.documents.calls in
    let fault = c.written.ensures.fault ps c.in-Ok.ensures.stored in
    let known = subst (λ (es : List SchemaEntry). IfErr c.written.result (λ e. (e ≡ OutOfMemory) ⊎ IsRamFault es c.num_docs-num_docs.result (tokens_after [] ps) e)) c.in-Ok.ensures.rest.0 fault in
    subst (λ (n : ℕ). IfErr c.written.result (λ e. (e ≡ OutOfMemory) ⊎ IsRamFault c.args.documents.schema n (tokens_after [] ps) e)) c.num_docs-num_docs.ensures.number known
