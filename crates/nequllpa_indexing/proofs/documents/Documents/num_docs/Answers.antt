use Rattle.std.proofs.Common.{refl, subst}
use Rattle.nequllpa_indexing.specs.Documents.{DocumentsState, WereCalls}
use Rattle.nequllpa_indexing.proofs.documents.Documents.num_docs.Goals as goal

pub returns-clause-calls : goal.returns-clause-calls
returns-clause-calls c =
    subst (λ (s : DocumentsState). WereCalls s.schema s.num_docs s.calls) c.self.view_is (record { made = c.self.inside.calls.items; may = c.self.invariant.1; are = refl })
