use Rattle.std.proofs.Common.{refl}
use Rattle.ii_store.proofs.ListChecks.{fits_at}
use Rattle.ii_store.proofs.commit_check.segments_fit.Goals as goal

pub returns-then-not-segment_fits-clause-otherwise : goal.returns-then-not-segment_fits-clause-otherwise
returns-then-not-segment_fits-clause-otherwise c = λ _ fits.
    c.if-not-segment_fits.ensures.otherwise refl (rw c.segment-item.is (fits_at c.args.segments.now c.loop-segment.segment-index c.segment-item.result c.loop-segment-test.true fits))
