use Rattle.std.proofs.Common.{◌≡◌, ◌∙◌, ◌+◌, ◌<◌, IfSome, List, Option, Result, Ok, Err, ap, arith, inr, length, subst, sym, ℕ}
use Rattle.ii_doc_store.specs.declared.faults.StoreDamage.{StoreDamage}
use Rattle.ii_doc_store.specs.StoreReader.{IsBlockOf, StoreBlockState}
use Rattle.ii_doc_store.specs.StoreWriter.{StoreWriterState}
use Rattle.ii_doc_store_merger.specs.StoreSources.{IsDocumentFault, OrWriterFailed, StoresMore, block_fault, opened_store}
use Rattle.ii_doc_store_merger.proofs.ReadLemmas.{HasStoredTo, all_stored, block_source_fault, document_fault_or, next_dead, next_living}
use Rattle.ii_doc_store_merger.proofs.WriterLemmas.{StoresMore-trans, reads_nothing}
use Rattle.ii_doc_store_merger.proofs.source.store_source.Goals as goal
use Rattle.ii_doc_store_merger.proofs.source.store_source.Goals.{then-is_alive+in-Ok+in_default, else-is_alive}

pub returns-in-Err-clause-more : goal.returns-in-Err-clause-more
returns-in-Err-clause-more g c =
    let now = c.loop-doc.writer in
    let e = c.in-Err.fault in
    rw c.block_fault.ensures (StoresMore-trans c.args.writer.now now now (Err (block_fault c.args.place e)) c.loop-doc.invariant.more (reads_nothing now c.args.place e))

pub returns-in-Err-clause-fault : goal.returns-in-Err-clause-fault
returns-in-Err-clause-fault g c = λ readable initial before stored.
    let s = opened_store g.H.FileHandle.bytes c.args.source.now in
    let doc = c.loop-doc.doc in
    let low = subst (λ (k : ℕ). doc < k) c.num_docs-doc-end.ensures c.loop-doc-test.true in
    rw c.block_fault.ensures (inr (block_source_fault s doc low c.args.writer.now c.loop-doc.writer (length before) c.args.place c.in-Err.fault (sym c.is_alive.ensures ∙ c.if-is_alive.true) (c.loop-doc.invariant.so_far readable)
    (λ damage is. c.in-Err.ensures.damaged s.store.bytes damage readable.known (ap Err is)) (λ fault is. c.in-Err.ensures.sound s.store.bytes fault readable.known readable.sound (ap Err is))))

pub returns-in-Err-store_from-clause-fault : goal.returns-in-Err-store_from-clause-fault
returns-in-Err-store_from-clause-fault g c = λ readable initial before stored.
    let s = opened_store g.H.FileHandle.bytes c.args.source.now in
    let doc = c.loop-doc.doc in
    let now = c.loop-doc.writer in
    let fault = c.in-Err-store_from.fault in
    let low = subst (λ (k : ℕ). doc < k) c.num_docs-doc-end.ensures c.loop-doc-test.true in
    let value = c.in-Ok.ensures.value s.store.bytes readable.known (c.loop-doc.invariant.kept readable) in
    let same = value.each doc c.in-Ok.ensures.here.0 c.in-Ok.ensures.here.1 in
    document_fault_or s doc low initial before c.args.writer.now now c.args.place fault (sym c.is_alive.ensures ∙ c.if-is_alive.true) stored (c.loop-doc.invariant.so_far readable)
    (subst (λ (r : Result (List ℕ) StoreDamage). OrWriterFailed (IsDocumentFault now.num_docs c.args.place r) fault) same (rw c.as_block.ensures at c.in-Err-store_from.ensures.fault))

pub loop-doc-preserved : goal.loop-doc-preserved
loop-doc-preserved g c =
    let s = opened_store g.H.FileHandle.bytes c.args.source.now in
    let doc = c.loop-doc.doc in
    let old = c.args.writer.now in
    let now = c.loop-doc.writer in
    let low = subst (λ (k : ℕ). doc < k) c.num_docs-doc-end.ensures c.loop-doc-test.true in
    elim c.if-is_alive.branch [
      | then-is_alive+in-Ok+in_default w ↦ record {
        so_far = λ readable. let value = w.in-Ok.ensures.value s.store.bytes readable.known (c.loop-doc.invariant.kept readable) in
            let same = value.each doc w.in-Ok.ensures.here.0 w.in-Ok.ensures.here.1 in
            let (d, read, adds) = w.in_default.ensures.stored in
            subst (HasStoredTo s (doc + 1) old) (sym w.writer-is) (next_living s doc low old now w.store_from.new.writer d (sym c.is_alive.ensures ∙ w.if-is_alive.true) (sym same ∙ rw w.as_block.ensures at read) adds w.in_default.ensures.«open» (c.loop-doc.invariant.so_far readable));
        unclosed = rw w.writer-is w.in_default.ensures.«open»;
        more = subst (λ (x : StoreWriterState). StoresMore old x (Ok tt)) (sym w.writer-is) (StoresMore-trans old now w.store_from.new.writer (Ok tt) c.loop-doc.invariant.more w.in_default.ensures.more);
        kept = λ readable. subst (λ (o : Option StoreBlockState). IfSome o (IsBlockOf s.store.bytes s.store.checkpoints)) (sym w.kept-is) (w.in-Ok.ensures.value s.store.bytes readable.known (c.loop-doc.invariant.kept readable));
      }
      | else-is_alive w ↦ record {
        so_far = λ readable. subst (HasStoredTo s (doc + 1) old) (sym w.writer-is) (next_dead s doc low old now (sym c.is_alive.ensures ∙ w.if-is_alive.false) (c.loop-doc.invariant.so_far readable));
        unclosed = rw w.writer-is c.loop-doc.invariant.unclosed;
        more = subst (λ (x : StoreWriterState). StoresMore old x (Ok tt)) (sym w.writer-is) c.loop-doc.invariant.more;
        kept = λ readable. subst (λ (o : Option StoreBlockState). IfSome o (IsBlockOf s.store.bytes s.store.checkpoints)) (sym w.kept-is) (c.loop-doc.invariant.kept readable);
      }
    ]

pub returns-in-Err-store_from-clause-more : goal.returns-in-Err-store_from-clause-more
returns-in-Err-store_from-clause-more g c = StoresMore-trans c.args.writer.now c.loop-doc.writer c.store_from.new.writer (Err c.in-Err-store_from.fault) c.loop-doc.invariant.more c.in-Err-store_from.ensures.more

pub returns-clause-stored : goal.returns-clause-stored
returns-clause-stored g c = λ readable.
    let s = opened_store g.H.FileHandle.bytes c.args.source.now in
    let end : c.loop-doc.doc ≡ length s.alive = omega (arith, c.loop-doc-test.false, c.loop-doc.auto.doc-end, c.num_docs-doc-end.ensures) in
    all_stored s c.args.writer.now c.loop-doc.writer (subst (λ (n : ℕ). HasStoredTo s n c.args.writer.now c.loop-doc.writer) end (c.loop-doc.invariant.so_far readable))
