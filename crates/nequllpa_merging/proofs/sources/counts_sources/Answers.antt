use Rattle.std.proofs.Common.{map}
use Rattle.nequllpa_merging.specs.MergedSegments.{counts_sources}
use Rattle.nequllpa_merging.specs.OpenedSegments.{opened_view}
use Rattle.nequllpa_merging.proofs.LoopLemmas.{counts_more, counts_none}
use Rattle.nequllpa_merging.proofs.sources.counts_sources.Goals as goal

pub returns-in_default-clause-ok : goal.returns-in_default-clause-ok
returns-in_default-clause-ok g c =
    let xs = c.args.segments.now in
    counts_none xs c.loop-place.place c.index-segments-place.result c.loop-place.sources.items c.counts_source.result (counts_sources (map opened_view xs)) c.loop-place-test.true c.index-segments-place.is c.in_default.is
    c.counts_source.ensures c.loop-place.invariant

pub loop-place-preserved : goal.loop-place-preserved
loop-place-preserved g c =
    let xs = c.args.segments.now in
    counts_more xs c.loop-place.place c.index-segments-place.result c.loop-place.sources.items c.push.new.self.items c.counts_source.result c.in-Some.source (counts_sources (map opened_view xs)) c.loop-place-test.true c.index-segments-place.is c.in_ok-push.ensures.items c.in-Some.is
    c.counts_source.ensures c.loop-place.invariant
