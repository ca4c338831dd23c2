use Rattle.std.proofs.Common.{◌∙◌, ◌<◌, ◌+◌, ◌++◌, ◌∷◌, [], List, drop, length, map, refl, ap}
use Rattle.std.proofs.lemmas.List.{map-append}
use Rattle.ii_merger.specs.MergeSources.{FieldSourceState, source_of}
use Rattle.ii_merger.specs.MergedIndex.{MergeSourceState, field_sources, opened_segment}
use Rattle.ii_merger.specs.declared.field_source.FieldSource.{FieldSource}
use Rattle.ii_merger.proofs.IndexMergeLemmas.{each_segment, field_at}
use Rattle.ii_merger.proofs.index_merge.field_sources.Goals as goal

pub reader-requires : goal.reader-requires
reader-requires c =
    each_segment (λ (s : MergeSourceState). c.args.field < length s.index.readers) c.args.sources.now c.loop-place.place c.index-sources-place.result c.loop-place-test.true c.index-sources-place.is c.requires.fields

pub loop-place-preserved : goal.loop-place-preserved
loop-place-preserved c =
    let own : FieldSource = record { reader = c.reader.result; alive = c.index-sources-place.result.alive } in
    ap (λ (fs : List FieldSource). map source_of fs ++ field_sources c.args.field (drop (c.loop-place.place + 1) (map opened_segment c.args.sources.now))) c.in_ok-push.ensures.items
    ∙ ap (λ (fs : List FieldSourceState). fs ++ field_sources c.args.field (drop (c.loop-place.place + 1) (map opened_segment c.args.sources.now))) (map-append source_of c.loop-place.fields.items (own ∷ []))
    ∙ field_at c.args.field c.args.sources.now c.loop-place.place c.index-sources-place.result (source_of own) (map source_of c.loop-place.fields.items) c.loop-place-test.true c.index-sources-place.is c.reader.ensures refl c.loop-place.invariant
