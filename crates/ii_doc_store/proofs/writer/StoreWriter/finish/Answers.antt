use Rattle.ii_doc_store.proofs.StoredLaws.{wrote_store}
use Rattle.ii_doc_store.proofs.writer.StoreWriter.finish.Goals as goal

pub returns-clause-store : goal.returns-clause-store
returns-clause-store g c =
    rw (← c.self.view_is, c.into_writer-2.ensures)
    (λ initial documents has. wrote_store c.end_store-written.result initial c.end_store-written.new.blocks.writer _ documents has c.end_store-written.ensures)
