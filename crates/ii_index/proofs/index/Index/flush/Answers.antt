use Rattle.ii_index.proofs.index.Index.flush.Goals as goal

pub returns-clause-written : goal.returns-clause-written
returns-clause-written g c = rw (← c.self.view_is) c.write_documents.ensures.written

pub returns-clause-same : goal.returns-clause-same
returns-clause-same g c = rw (← c.self.view_is) c.write_documents.ensures.same

pub returns-clause-leaves_same : goal.returns-clause-leaves_same
returns-clause-leaves_same g c = rw (← c.self.view_is) c.write_documents.ensures.leaves_same
