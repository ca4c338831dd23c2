use Rattle.std.proofs.Common.{◌-◌, ◌+◌, sym, ap, ◌∙◌}
use Rattle.ii_doc_store.specs.StoreReader.{document_in}
use Rattle.ii_doc_store.proofs.RecordLaws.{document_after}
use Rattle.ii_doc_store.proofs.reader.document_at.Goals as goal

pub loop-preserved : goal.loop-preserved
loop-preserved c =
    ap (document_in (c.args.k - (c.loop.counter + 1))) c.in-Some.ensures.2
    ∙ sym (document_after c.args.k c.loop.counter c.loop.rest.now c.loop-test.true c.in-Some.ensures.0)
    ∙ c.loop.invariant
