use Rattle.std.proofs.Common.{◌≡◌, [], ap, min, subst, sym}
use Rattle.ii_definitions.specs.Postings.{doc_count}
use Rattle.ii_definitions.specs.Tokens.{tokens_after}
use Rattle.ii_indexing.specs.Indexer.{IndexerState, Stores}
use Rattle.ii_recorder.specs.Recorded.{u32_max}
use Rattle.ii_indexing.proofs.indexer.Indexer.last_num_tokens.Goals as goal

pub returns : goal.returns
returns c ps h =
    let stored = subst (λ (s : IndexerState). Stores s ps) (sym c.self.view_is) h in
    subst (λ (s : IndexerState). c.num_tokens.result ≡ min (doc_count s.last_doc c.args.field (tokens_after [] ps)) u32_max) c.self.view_is (c.num_tokens.ensures c.self.inside.schema ps stored.pieces)
