use Rattle.ii_index.proofs.index.Index.commit.Goals as goal

pub returns-clause-added : goal.returns-clause-added
returns-clause-added g c = rw (← c.self.view_is) c.commit_documents.ensures.added

pub returns-clause-changed : goal.returns-clause-changed
returns-clause-changed g c = rw (← c.self.view_is) c.commit_documents.ensures.changed

pub returns-clause-leaves_one : goal.returns-clause-leaves_one
returns-clause-leaves_one g c = rw (← c.self.view_is) c.commit_documents.ensures.leaves_one

pub returns-clause-fault : goal.returns-clause-fault
returns-clause-fault g c = rw (← c.self.view_is) c.commit_documents.ensures.fault
