use Rattle.ii_index.proofs.index_writer.IndexWriter.commit.Goals as goal

pub returns-clause-added : goal.returns-clause-added
returns-clause-added g c = rw (← c.self.view_is) (rw (c.replace-documents.ensures.value, c.take-flushed.ensures.value, c.as_slice.ensures.value, c.replace-deletes.ensures.value) at c.commit.ensures.added)

pub returns-clause-changed : goal.returns-clause-changed
returns-clause-changed g c = rw (← c.self.view_is) (rw (c.replace-documents.ensures.value, c.take-flushed.ensures.value, c.as_slice.ensures.value, c.replace-deletes.ensures.value) at c.commit.ensures.changed)

pub returns-clause-leaves_one : goal.returns-clause-leaves_one
returns-clause-leaves_one g c = rw (← c.self.view_is) (rw (c.replace-documents.ensures.value, c.take-flushed.ensures.value, c.as_slice.ensures.value, c.replace-deletes.ensures.value) at c.commit.ensures.leaves_one)

pub returns-clause-fault : goal.returns-clause-fault
returns-clause-fault g c = rw (← c.self.view_is) (rw (c.replace-documents.ensures.value, c.take-flushed.ensures.value, c.as_slice.ensures.value, c.replace-deletes.ensures.value) at c.commit.ensures.fault)
