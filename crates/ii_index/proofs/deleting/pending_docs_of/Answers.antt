use Rattle.std.proofs.Common.{length}
use Rattle.ii_index.proofs.DeleteLemmas.{all_reached}
use Rattle.ii_index.proofs.deleting.pending_docs_of.Goals as goal
use Rattle.ii_index.specs.declared.deletes.Scope.TheVariants.{Pending}

pub returns-in-Ok-docs_reached-clause-reached : goal.returns-in-Ok-docs_reached-clause-reached
returns-in-Ok-docs_reached-clause-reached c = λ alive s h doc.
    all_reached (Pending c.args.base) c.args.schema.now (length s.alive) c.in-Ok.index s.tokens c.args.deletes.now c.in-Ok-docs_reached.docs.items (c.in-Ok.ensures.holds (length s.alive) s.tokens h.lists h.norms) c.requires c.in-Ok-docs_reached.ensures.docs doc
