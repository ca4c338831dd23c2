use Rattle.std.proofs.Common.{◌∙◌, Ok, Err, Some, ap, map, sym}
use Rattle.std.proofs.lemmas.Option.{slice_get-get_or}
use Rattle.ii_doc_store_merger.specs.StoreSources.{FitsFlags, IsReadable, opened_store}
use Rattle.ii_doc_store_merger.proofs.MergeLemmas.{one_of, source_fault_or, source_found, stored_more}
use Rattle.ii_doc_store_merger.proofs.WriterLemmas.{StoresMore-trans}
use Rattle.ii_doc_store_merger.proofs.merged_store.store_all.Goals as goal

pub store_source-requires-clause-fits : goal.store_source-requires-clause-fits
store_source-requires-clause-fits g c =
    let xs = c.args.sources.now in
    let x = c.index-sources-place.result in
    let view = opened_store g.H.FileHandle.bytes in
    one_of FitsFlags (map view xs) c.loop-place.place (view x) (source_found view xs c.loop-place.place x c.loop-place-test.true c.index-sources-place.is) c.requires.fits

pub returns-in-Err-clause-fault : goal.returns-in-Err-clause-fault
returns-in-Err-clause-fault g c = λ readable initial stored.
    let xs = c.args.sources.now in
    let x = c.index-sources-place.result in
    let i = c.loop-place.place in
    let view = opened_store g.H.FileHandle.bytes in
    let all = c.loop-place.invariant.so_far readable in
    let found = source_found view xs i x c.loop-place-test.true c.index-sources-place.is in
    let one = one_of (IsReadable g.H.FileHandle.bytes g.H.FileHandle.is_sound) xs i x (slice_get-get_or xs i x c.loop-place-test.true ∙ ap Some (sym c.index-sources-place.is)) readable in
    source_fault_or (map view xs) i (view x) c.args.writer.now c.loop-place.writer c.in-Err.fault found all (c.in-Err.ensures.fault one initial _ (all.stored initial _ stored))

pub loop-place-preserved : goal.loop-place-preserved
loop-place-preserved g c =
    let xs = c.args.sources.now in
    let x = c.index-sources-place.result in
    let i = c.loop-place.place in
    let view = opened_store g.H.FileHandle.bytes in
    record {
      so_far = λ readable.
          let one = one_of (IsReadable g.H.FileHandle.bytes g.H.FileHandle.is_sound) xs i x (slice_get-get_or xs i x c.loop-place-test.true ∙ ap Some (sym c.index-sources-place.is)) readable in
          stored_more view xs i x c.loop-place-test.true c.index-sources-place.is c.args.writer.now c.loop-place.writer c.store_source.new.writer (c.loop-place.invariant.so_far readable) (c.in_default.ensures.stored one);
      unclosed = c.in_default.ensures.«open»;
      more = StoresMore-trans c.args.writer.now c.loop-place.writer c.store_source.new.writer (Ok tt) c.loop-place.invariant.more c.in_default.ensures.more;
    }

pub returns-in-Err-clause-more : goal.returns-in-Err-clause-more
returns-in-Err-clause-more g c = StoresMore-trans c.args.writer.now c.loop-place.writer c.store_source.new.writer (Err c.in-Err.fault) c.loop-place.invariant.more c.in-Err.ensures.more
