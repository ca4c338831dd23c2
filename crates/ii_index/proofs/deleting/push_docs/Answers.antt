use Rattle.std.proofs.Common.{◌≡◌, Ok, subst}
use Rattle.ii_base.specs.Terms.{TermState}
use Rattle.ii_base.specs.declared.schema.index_record_option.IndexRecordOption.TheVariants.{Basic}
use Rattle.ii_index.proofs.ReachLemmas.{pushed}
use Rattle.ii_index.proofs.deleting.push_docs.Goals as goal
use Rattle.ii_search.specs.Found.{docs_of_term}

pub returns-in-Ok-pushed-clause-pushed : goal.returns-in-Ok-pushed-clause-pushed
returns-in-Ok-pushed-clause-pushed c =
    let found = subst (λ (t : TermState). docs_of_term Basic c.args.index.now t ≡ Ok c.in-Ok.cursor.rest) c.term.ensures c.in-Ok.ensures.listed in
    pushed c.args.scope c.args.index.now c.args.delete.now c.limit_in-limit.result c.in-Ok.cursor.rest c.args.docs.now.items c.push_below-pushed.new.docs.items c.limit_in-limit.ensures found c.push_below-pushed.ensures.sound c.in-Ok-pushed.ensures.pushed
