use Rattle.std.proofs.Common.{◌∙◌, ap, inr, refl, sym}
use Rattle.ii_index.specs.Segments.{no_documents}
use Rattle.ii_index.proofs.CommitLemmas.{document_fault, other_fault}
use Rattle.ii_index.proofs.PendingLemmas.{adds_line}
use Rattle.ii_index.proofs.index_writer.IndexWriter.add_last.Goals as goal

pub returns-in-Ok-flush-clause-added : goal.returns-in-Ok-flush-clause-added
returns-in-Ok-flush-clause-added g c =
    let were = rw (← c.self.view_is) at c.requires.calls in
    rw (← c.self.view_is)
    (λ known.
    record {
      calls = c.in-Ok-push_line.ensures.ok.0;
      is_document = c.in-Ok-push_line.ensures.ok.2;
      pending = λ k us h.
          let p = adds_line c.self.inside.index.schema c.self.inside.documents c.push_line.new.self c.args.document.now c.self.invariant.0 were c.in-Ok-push_line.ensures.ok (g.D.Directory.seen c.self.inside.index.directory) c.self.inside.flushed k us h in
          let written = (rw (c.replace-documents.ensures.value, c.take-flushed.ensures.value) at c.in-Ok-flush.ensures.written) known _ _ p in
          let fresh = c.replace-documents.ensures.after ∙ c.in-Ok.ensures.none in
          rw (c.in-Ok-flush.ensures.schema, fresh) written;
    })

pub returns-in-Ok-flush-clause-same : goal.returns-in-Ok-flush-clause-same
returns-in-Ok-flush-clause-same g c =
    let were = rw (← c.self.view_is) at c.requires.calls in
    rw (← c.self.view_is)
    (λ known k us h.
    let p = adds_line c.self.inside.index.schema c.self.inside.documents c.push_line.new.self c.args.document.now c.self.invariant.0 were c.in-Ok-push_line.ensures.ok (g.D.Directory.seen c.self.inside.index.directory) c.self.inside.flushed k us h in
    (rw (c.replace-documents.ensures.value, c.take-flushed.ensures.value) at c.in-Ok-flush.ensures.same) known _ _ p)

pub returns-in-Ok-flush-clause-leaves_same : goal.returns-in-Ok-flush-clause-leaves_same
returns-in-Ok-flush-clause-leaves_same g c =
    let were = rw (← c.self.view_is) at c.requires.calls in
    rw (← c.self.view_is)
    (λ known k us h n ts held files left.
    let p = adds_line c.self.inside.index.schema c.self.inside.documents c.push_line.new.self c.args.document.now c.self.invariant.0 were c.in-Ok-push_line.ensures.ok (g.D.Directory.seen c.self.inside.index.directory) c.self.inside.flushed k us h in
    (rw (c.replace-documents.ensures.value, c.take-flushed.ensures.value) at c.flush.ensures.leaves_same) known _ _ p n ts held files left)

pub returns-in-Err-flush-clause-leaves_same : goal.returns-in-Err-flush-clause-leaves_same
returns-in-Err-flush-clause-leaves_same g c =
    let were = rw (← c.self.view_is) at c.requires.calls in
    rw (← c.self.view_is)
    (λ known k us h n ts held files left.
    let p = adds_line c.self.inside.index.schema c.self.inside.documents c.push_line.new.self c.args.document.now c.self.invariant.0 were c.in-Ok-push_line.ensures.ok (g.D.Directory.seen c.self.inside.index.directory) c.self.inside.flushed k us h in
    (rw (c.replace-documents.ensures.value, c.take-flushed.ensures.value) at c.flush.ensures.leaves_same) known _ _ p n ts held files left)

pub returns-in-Err-flush-clause-err : goal.returns-in-Err-flush-clause-err
returns-in-Err-flush-clause-err g c = inr (record {
  flushed = c.take-flushed.ensures.after;
  documents = c.replace-documents.ensures.after ∙ c.in-Ok.ensures.none ∙ ap no_documents (sym c.in-Err-flush.ensures.schema);
  num_bytes = refl;
  deletes = c.new.ensures.items;
})

pub returns-in-Err-flush-clause-unchanged : goal.returns-in-Err-flush-clause-unchanged
returns-in-Err-flush-clause-unchanged g c = rw (← c.self.view_is) (λ known. other_fault c.in-Err-flush.fault c.self.inside.index.schema c.take-flushed.result c.replace-documents.result (g.D.Directory.seen c.self.inside.index.directory) _ _ (c.in-Err-flush.ensures.fault known))

pub returns-in-Err-flush-clause-fault : goal.returns-in-Err-flush-clause-fault
returns-in-Err-flush-clause-fault g c = rw (← c.self.view_is)
    (λ known. document_fault c.in-Err-flush.fault _ c.push_line.new.self c.args.document.now (g.D.Directory.seen c.self.inside.index.directory) c.in-Ok-push_line.ensures.ok ((rw (c.replace-documents.ensures.value, c.take-flushed.ensures.value) at c.in-Err-flush.ensures.fault) known))
