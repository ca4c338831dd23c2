use Rattle.ii_segment_store.specs.Contents.{contents_view}
use Rattle.ii_index.proofs.IndexLemmas.{index_open_of}
use Rattle.ii_index.proofs.index.load_searcher.Goals as goal

pub returns-in-Ok-open_searcher-clause-opens : goal.returns-in-Ok-open_searcher-clause-opens
returns-in-Ok-open_searcher-clause-opens g c = λ known. (contents_view c.in-Ok.stored, c.in-Ok.ensures.answers known, c.in-Ok-open_searcher.ensures.opens, c.in-Ok-open_searcher.ensures.counted)

pub returns-in-Ok-open_searcher-clause-holds : goal.returns-in-Ok-open_searcher-clause-holds
returns-in-Ok-open_searcher-clause-holds g c = λ known n ts holds.
    index_open_of c.args.schema.now (g.D.Directory.seen c.args.directory.now) n ts c.in-Ok-open_searcher.searcher (contents_view c.in-Ok.stored, c.in-Ok.ensures.answers known, c.in-Ok-open_searcher.ensures.opens, c.in-Ok-open_searcher.ensures.counted) holds
