use Rattle.ii_indexing.proofs.FieldLists.{nothing_above, nothing_known}
use Rattle.ii_indexing.proofs.StoredLaws.{norms_of_schema}
use Rattle.ii_indexing.proofs.indexed_fields.IndexedFields.new.Goals as goal

pub returns-clause-stored : goal.returns-clause-stored
returns-clause-stored c = rw (c.in_ok-new.ensures.ok, c.in_ok-new-2.ensures.ok, c.in_ok-new-3.ensures.ok) (nothing_known c.args.schema.now)

pub returns-clause-ends : goal.returns-clause-ends
returns-clause-ends c = rw (c.in_ok-new.ensures.ok, c.in_ok-new-2.ensures.ok, c.in_ok-new-3.ensures.ok) (nothing_above c.args.schema.now)

pub returns-clause-norms : goal.returns-clause-norms
returns-clause-norms c = rw (c.in_ok-new-2.ensures.ok) (norms_of_schema c.args.schema.now)
