use Rattle.std.proofs.Common.{[], subst, sym}
use Rattle.ii_definitions.specs.Tokens.{tokens_after}
use Rattle.ii_indexing.specs.Indexer.{IndexedFieldsState, StoresPieces}
use Rattle.ii_indexing.proofs.indexed_fields.IndexedFields.num_tokens.Goals as goal

pub returns : goal.returns
returns c entries ps h =
    let stored = subst (λ (s : IndexedFieldsState). StoresPieces entries s ps) (sym c.self.view_is) h in
    c.num_tokens.ensures ps (tokens_after [] ps) stored.documents
