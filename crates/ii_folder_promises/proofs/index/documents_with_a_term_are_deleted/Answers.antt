use Rattle.std.proofs.Common.{[]}
use Rattle.ii_folder_promises.proofs.index.documents_with_a_term_are_deleted.Goals as goal

pub returns-clause-one : goal.returns-clause-one
returns-clause-one g c = λ ok. rw c.requires.delete at (c.in-Ok.ensures.changed c.requires.known 0 [] c.requires.pending 2 _ c.requires.two)

pub returns-clause-stopped : goal.returns-clause-stopped
returns-clause-stopped g c = λ files left. rw c.requires.delete at (c.commit.ensures.leaves_one c.requires.known 0 [] c.requires.pending 2 _ c.requires.two files left)

pub returns-in_default-clause-stopped : goal.returns-in_default-clause-stopped
returns-in_default-clause-stopped g c = λ files left. rw c.requires.delete at (c.commit.ensures.leaves_one c.requires.known 0 [] c.requires.pending 2 _ c.requires.two files left)
