use Rattle.ii_reader.proofs.BoundLemmas.{looking_on, looks_nowhere}
use Rattle.ii_reader.proofs.block_segment_postings.BlockSegmentPostings.seek_with_freq.Goals as goal

pub loop-place-init : goal.loop-place-init
loop-place-init c = record { looks = looks_nowhere c.args.least c.args.self.now; placed = c.place_with_freq-place.ensures.found; lazy = c.place_with_freq-place.ensures.lazy }

pub loop-place-preserved : goal.loop-place-preserved
loop-place-preserved c =
    let n = c.next_with_freq.ensures in
    looking_on c.args.target c.args.least c.args.from c.loop-place.place c.place_with_freq-place-in-loop-place.result c.args.self.now c.loop-place.self c.next_with_freq.new.self c.loop-place.invariant c.loop-place-test.true n.goes n.later n.lands n.passes c.place_with_freq-place-in-loop-place.ensures.found c.place_with_freq-place-in-loop-place.ensures.lazy
