use Rattle.std.proofs.Common.{ℕ, List, subst}
use Rattle.ii_directory.specs.declared.name.Name.TheVariants.{Meta}
use Rattle.ii_index.specs.Index.{IsSchemaFault}
use Rattle.ii_index.proofs.WriterLemmas.{open_fault}
use Rattle.ii_index.proofs.index.Index.open.Goals as goal
use Rattle.ii_store.specs.IndexMeta.{meta_view}
use Rattle.ii_store.specs.Segments.{list_in}

pub returns-in-Err-stored_schema-clause-fault : goal.returns-in-Err-stored_schema-clause-fault
returns-in-Err-stored_schema-clause-fault g c = λ known.
    let fault = c.in-Err-stored_schema.fault in
    open_fault (list_in (g.D.Directory.seen c.args.directory Meta)) (meta_view c.in-Ok.list) fault (c.in-Ok.ensures.answers known)
    (subst (λ (bytes : List ℕ). IsSchemaFault bytes fault) c.as_slice.ensures.value c.in-Err-stored_schema.ensures.fault)
