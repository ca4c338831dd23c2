use Rattle.std.proofs.Common.{◌∙◌, [], ◌∷◌, Err, List, Option, Some, ap, map, subst, sym, IfSome}
use Rattle.std.specs.List.{AllByRecursion}
use Rattle.std.proofs.lemmas.List.{map-append}
use Rattle.std.proofs.lemmas.Option.{slice_get-get_or}
use Rattle.ii_doc_store_merger.specs.StoreSources.{FitsFlags, IsReadable, StoreSourceState, opened_store}
use Rattle.ii_doc_store_merger.specs.declared.store_source.StoreSource.{StoreSource}
use Rattle.ii_doc_store_merger.proofs.MergeLemmas.{one_of}
use Rattle.nequllpa_merging.specs.StoredDocuments.{KnowsStore, file_bytes, is_sound_file, stored_view}
use Rattle.nequllpa_merging.proofs.LoopLemmas.{all_more}
use Rattle.nequllpa_merging.proofs.StoreLemmas.{index_fault, one_missing, opened_more}
use Rattle.nequllpa_merging.proofs.stores.open_stores.Goals as goal

pub returns-in-Ok-None-clause-opened : goal.returns-in-Ok-None-clause-opened
returns-in-Ok-None-clause-opened g c = λ known.
    let bytes = g.F.ReadAt.bytes in
    let xs = c.args.segments.now in
    let i = c.loop-place.place in
    let x = c.index-segments-place.result in
    let one = one_of (KnowsStore bytes) xs i x (slice_get-get_or xs i x c.loop-place-test.true ∙ ap Some (sym c.index-segments-place.is)) known in
    one_missing (stored_view bytes) (opened_store (file_bytes bytes)) xs i x c.in-Ok-None.field-0 c.loop-place-test.true c.index-segments-place.is c.in-Ok-None.field-0-is (c.in-Ok-None.ensures.ok one)

pub returns-in-Err-clause-fault : goal.returns-in-Err-clause-fault
returns-in-Err-clause-fault g c = λ known.
    let bytes = g.F.ReadAt.bytes in
    let xs = c.args.segments.now in
    let i = c.loop-place.place in
    let x = c.index-segments-place.result in
    let one = one_of (KnowsStore bytes) xs i x (slice_get-get_or xs i x c.loop-place-test.true ∙ ap Some (sym c.index-segments-place.is)) known in
    rw c.store_fault.ensures
    (index_fault (stored_view bytes) (opened_store (file_bytes bytes)) xs i x c.loop-place.sources.items c.in-Err.fault c.loop-place-test.true c.index-segments-place.is (λ damage is. c.in-Err.ensures.damaged one damage (ap Err is)) (λ fault is. c.in-Err.ensures.memory one fault (ap Err is))
    (c.loop-place.invariant.opened known))

pub loop-place-preserved : goal.loop-place-preserved
loop-place-preserved g c =
    let bytes = g.F.ReadAt.bytes in
    let xs = c.args.segments.now in
    let i = c.loop-place.place in
    let x = c.index-segments-place.result in
    let y = c.in-Ok-Some.source in
    let made = c.loop-place.sources.items in
    let new = c.push.new.self.items in
    let source = opened_store (file_bytes bytes) in
    let pushed = c.in_ok-push.ensures.items in
    record {
      opened = λ known.
          let one = one_of (KnowsStore bytes) xs i x (slice_get-get_or xs i x c.loop-place-test.true ∙ ap Some (sym c.index-segments-place.is)) known in
          opened_more (stored_view bytes) source xs i x c.loop-place-test.true c.index-segments-place.is made new y c.in-Ok-Some.field-0 c.in-Ok-Some.field-0-is pushed (c.in-Ok-Some.ensures.ok one) (c.loop-place.invariant.opened known);
      fit =
          let own = subst (λ (o : Option (StoreSource _)). IfSome o (λ s. FitsFlags (source s))) c.in-Ok-Some.field-0-is c.in-Ok-Some.ensures.fits in
          subst (λ (ss : List StoreSourceState). AllByRecursion FitsFlags ss) (sym (ap (map source) pushed ∙ map-append source made (y ∷ []))) (all_more FitsFlags (map source made) (source y) c.loop-place.invariant.fit own);
      readable = λ known.
          let one = one_of (KnowsStore bytes) xs i x (slice_get-get_or xs i x c.loop-place-test.true ∙ ap Some (sym c.index-segments-place.is)) known in
          let own = subst (λ (o : Option (StoreSource _)). IfSome o (IsReadable (file_bytes bytes) (is_sound_file bytes))) c.in-Ok-Some.field-0-is (c.in-Ok-Some.ensures.readable one) in
          subst (AllByRecursion (IsReadable (file_bytes bytes) (is_sound_file bytes))) (sym pushed) (all_more (IsReadable (file_bytes bytes) (is_sound_file bytes)) made y (c.loop-place.invariant.readable known) own);
    }
