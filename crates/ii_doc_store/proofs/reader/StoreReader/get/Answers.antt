use Rattle.std.proofs.Common.{[]}
use Rattle.std.specs.Prelude.{get_or}
use Rattle.ii_doc_store.specs.StoreReader.{document_of_read}
use Rattle.ii_doc_store.proofs.IndexLaws.{got}
use Rattle.ii_doc_store.proofs.reader.StoreReader.get.Goals as goal

pub returns-in-Ok-clause-stored : goal.returns-in-Ok-clause-stored
returns-in-Ok-clause-stored c = λ documents held.
    let block = c.in-Ok.ensures.stored documents held in
    let here = c.in-Ok.ensures.here in
    got (document_of_read c.in-Ok.block c.args.doc) (get_or documents c.args.doc []) c.get.result (block.each c.args.doc here.0 here.1) c.get.ensures

pub returns-in-Err-clause-stored : goal.returns-in-Err-clause-stored
returns-in-Err-clause-stored c = λ documents held. c.in-Err.ensures.stored documents held
