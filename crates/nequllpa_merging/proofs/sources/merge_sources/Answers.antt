use Rattle.nequllpa_merging.proofs.LoopLemmas.{sources_more}
use Rattle.nequllpa_merging.proofs.sources.merge_sources.Goals as goal

pub loop-place-preserved : goal.loop-place-preserved
loop-place-preserved g c =
    let xs = c.args.segments.now in
    let x = c.index-segments-place.result in
    sources_more xs c.loop-place.place x c.loop-place.sources.items c.push.new.self.items c.merge_source-source.result c.loop-place-test.true c.index-segments-place.is c.in_ok-push.ensures.items
    c.merge_source-source.ensures c.loop-place.invariant
