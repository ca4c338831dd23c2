use Rattle.nequllpa_searching.proofs.DeletingLemmas.{once_found}
use Rattle.nequllpa_searching.proofs.deleting.docs_with_terms.Goals as goal

pub returns-in-Ok-clause-found : goal.returns-in-Ok-clause-found
returns-in-Ok-clause-found c = once_found c.args.segment.now.index c.args.segment.now.alive c.args.terms.now c.in-Ok.docs.items c.each_once.result.items c.in-Ok.ensures.found c.each_once.ensures
