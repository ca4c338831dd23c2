use Rattle.std.proofs.Common.{Bool, Err, Ok, Result, ap, map, subst, false}
use Rattle.std.specs.Prelude.{OnOk}
use Rattle.ii_io.specs.declared.faults.Fault.{Fault}
use Rattle.ii_io.specs.CountingWriter.{WritesInMemory}
use Rattle.ii_doc_store.specs.StoreWriter.{StoreWriterState, WroteStore, end_bytes}
use Rattle.ii_doc_store_merger.specs.StoreSources.{IsStoreMergeFault, opened_store}
use Rattle.ii_doc_store_merger.proofs.MergeLemmas.{undamaged_or, wrote_merged}
use Rattle.ii_doc_store_merger.proofs.WriterLemmas.{all_grows, call_fault, counted_at_end, counted_before, ended_uncounted, output_fault, uncounted_at_end, uncounted_before}
use Rattle.ii_doc_store_merger.proofs.merged_store.merge_stores_to.Goals as goal

-- ---- a store can't be stored

pub returns-in-Err-clause-grow : goal.returns-in-Err-clause-grow
returns-in-Err-clause-grow g c =
    let new = c.store_all-stored.new.writer in
    all_grows c.args.writer c.finish-writer.result.0 c.new-store.result new (end_bytes new) c.finish-writer.result.1 (ap (λ (s : StoreWriterState). s.writer) c.new-store.ensures.state) c.finish-writer.ensures.written (Err c.in-Err.fault) c.in-Err.ensures.more

pub returns-in-Err-clause-by_one : goal.returns-in-Err-clause-by_one
returns-in-Err-clause-by_one g c = λ failed.
    let new = c.store_all-stored.new.writer in
    counted_before c.args.writer c.finish-writer.result.0 c.new-store.result new (end_bytes new) c.finish-writer.result.1 (ap (λ (s : StoreWriterState). s.writer) c.new-store.ensures.state) c.finish-writer.ensures.written c.in-Err.fault c.in-Err.ensures.more failed

pub returns-in-Err-clause-no_other : goal.returns-in-Err-clause-no_other
returns-in-Err-clause-no_other g c = λ other sound.
    let new = c.store_all-stored.new.writer in
    uncounted_before c.args.writer c.finish-writer.result.0 c.new-store.result new (end_bytes new) c.finish-writer.result.1 (ap (λ (s : StoreWriterState). s.writer) c.new-store.ensures.state) c.finish-writer.ensures.written c.in-Err.fault c.in-Err.ensures.more other sound

pub returns-in-Err-clause-fault : goal.returns-in-Err-clause-fault
returns-in-Err-clause-fault g c = λ readable. c.in-Err.ensures.fault readable c.args.writer c.new-store.ensures.stored

pub returns-in-Err-clause-undamaged : goal.returns-in-Err-clause-undamaged
returns-in-Err-clause-undamaged g c = λ readable ds hold damage. undamaged_or (map (opened_store g.H.FileHandle.bytes) c.args.sources.now) ds c.in-Err.fault c.requires.fits hold (c.in-Err.ensures.fault readable c.args.writer c.new-store.ensures.stored) damage

-- ---- the store is ended

pub returns-in-Ok-finished-clause-merged : goal.returns-in-Ok-finished-clause-merged
returns-in-Ok-finished-clause-merged g c = λ readable.
    let all = c.in-Ok.ensures.stored readable in
    let start = c.args.writer in
    let final = c.finish-writer.result.0 in
    let wrote = subst (λ (r : Result (Unit {0}) Fault). OnOk r (WroteStore start final all.documents)) c.in-Ok-finished.is (c.finish-writer.ensures.store start all.documents (all.stored start _ c.new-store.ensures.stored)) in
    wrote_merged (map (opened_store g.H.FileHandle.bytes) c.args.sources.now) start final c.new-store.result c.store_all-stored.new.writer c.requires.fits all wrote

pub returns-in-Ok-finished-clause-no_other : goal.returns-in-Ok-finished-clause-no_other
returns-in-Ok-finished-clause-no_other g c = λ other sound.
    let new = c.store_all-stored.new.writer in
    let final = c.finish-writer.result.0 in
    let unclosed = subst (λ (closed : Bool). WritesInMemory closed new.writer final (end_bytes new) c.finish-writer.result.1) c.in-Ok.ensures.«open» c.finish-writer.ensures.written in
    let ended = subst (λ (r : Result (Unit {0}) Fault). WritesInMemory false new.writer final (end_bytes new) r) c.in-Ok-finished.is unclosed in
    ended_uncounted c.args.writer final c.new-store.result new (end_bytes new) (ap (λ (s : StoreWriterState). s.writer) c.new-store.ensures.state) c.in-Ok.ensures.more ended

pub returns-in-Ok-finished-clause-grow : goal.returns-in-Ok-finished-clause-grow
returns-in-Ok-finished-clause-grow g c =
    let new = c.store_all-stored.new.writer in
    all_grows c.args.writer c.finish-writer.result.0 c.new-store.result new (end_bytes new) c.finish-writer.result.1 (ap (λ (s : StoreWriterState). s.writer) c.new-store.ensures.state) c.finish-writer.ensures.written (Ok tt) c.in-Ok.ensures.more

pub returns-in-Err-finished-clause-grow : goal.returns-in-Err-finished-clause-grow
returns-in-Err-finished-clause-grow g c =
    let new = c.store_all-stored.new.writer in
    all_grows c.args.writer c.finish-writer.result.0 c.new-store.result new (end_bytes new) c.finish-writer.result.1 (ap (λ (s : StoreWriterState). s.writer) c.new-store.ensures.state) c.finish-writer.ensures.written (Ok tt) c.in-Ok.ensures.more

pub returns-in-Err-finished-clause-by_one : goal.returns-in-Err-finished-clause-by_one
returns-in-Err-finished-clause-by_one g c = λ failed.
    let new = c.store_all-stored.new.writer in
    let final = c.finish-writer.result.0 in
    let unclosed = subst (λ (closed : Bool). WritesInMemory closed new.writer final (end_bytes new) c.finish-writer.result.1) c.in-Ok.ensures.«open» c.finish-writer.ensures.written in
    let ended = subst (λ (r : Result (Unit {0}) Fault). WritesInMemory false new.writer final (end_bytes new) r) c.in-Err-finished.is unclosed in
    counted_at_end c.args.writer final c.new-store.result new (end_bytes new) c.in-Err-finished.fault (ap (λ (s : StoreWriterState). s.writer) c.new-store.ensures.state) c.in-Ok.ensures.more ended failed

pub returns-in-Err-finished-clause-no_other : goal.returns-in-Err-finished-clause-no_other
returns-in-Err-finished-clause-no_other g c = λ other sound.
    let new = c.store_all-stored.new.writer in
    let final = c.finish-writer.result.0 in
    let unclosed = subst (λ (closed : Bool). WritesInMemory closed new.writer final (end_bytes new) c.finish-writer.result.1) c.in-Ok.ensures.«open» c.finish-writer.ensures.written in
    let ended = subst (λ (r : Result (Unit {0}) Fault). WritesInMemory false new.writer final (end_bytes new) r) c.in-Err-finished.is unclosed in
    uncounted_at_end c.args.writer final c.new-store.result new (end_bytes new) c.in-Err-finished.fault (ap (λ (s : StoreWriterState). s.writer) c.new-store.ensures.state) c.in-Ok.ensures.more ended other

pub returns-in-Err-finished-clause-fault : goal.returns-in-Err-finished-clause-fault
returns-in-Err-finished-clause-fault g c = λ readable.
    let new = c.store_all-stored.new.writer in
    let final = c.finish-writer.result.0 in
    let unclosed = subst (λ (closed : Bool). WritesInMemory closed new.writer final (end_bytes new) c.finish-writer.result.1) c.in-Ok.ensures.«open» c.finish-writer.ensures.written in
    let ended = subst (λ (r : Result (Unit {0}) Fault). WritesInMemory false new.writer final (end_bytes new) r) c.in-Err-finished.is unclosed in
    output_fault (IsStoreMergeFault (map (opened_store g.H.FileHandle.bytes) c.args.sources.now)) c.in-Err-finished.fault (λ known. known) (call_fault new.writer final (end_bytes new) c.in-Err-finished.fault ended)
