use Rattle.std.proofs.Common.{subst}
use Rattle.std.specs.Prelude.{map}
use Rattle.std.proofs.lemmas.Result.{err_from_is_err_and}
use Rattle.ii_store.specs.Index.{Fails}
use Rattle.ii_store.specs.Segments.{HasContents, contents_of}
use Rattle.ii_store.proofs.CheckLaws.{has_nothing, listed_as, more_segments, segment_fails}
use Rattle.ii_store.proofs.commit_check.look_at.Goals as goal

pub loop-segment-init : goal.loop-segment-init
loop-segment-init g c = λ known. has_nothing (g.D.Directory.seen c.args.directory.now)

pub loop-segment-preserved : goal.loop-segment-preserved
loop-segment-preserved g c = λ known.
    let files = g.D.Directory.seen c.args.directory.now in
    more_segments c.args.segments.now c.loop-segment.segment-index c.segment-item.result files c.loop-segment-test.true c.segment-item.is (c.loop-segment.invariant known)
    (subst (λ fs. HasContents (map (listed_as c.segment-item.result.id) fs) files) c.as_slice.ensures.value (c.in_ok-look_at_files.ensures.reports known))

pub returns-in_err-look_at_files-clause-reports : goal.returns-in_err-look_at_files-clause-reports
returns-in_err-look_at_files-clause-reports g c = λ known.
    let files = g.D.Directory.seen c.args.directory.now in
    let p = err_from_is_err_and c.from_residual.result c.from_residual.ensures.1 in
    let failed = subst (λ fs. Fails c.in_err-look_at_files.field-0.0 (contents_of (map (listed_as c.segment-item.result.id) fs) files)) c.as_slice.ensures.value (c.in_err-look_at_files.ensures.reports known) in
    rw (p.1, p.2) (segment_fails c.in_err-look_at_files.field-0.0 c.args.segments.now c.loop-segment.segment-index c.segment-item.result files c.loop-segment-test.true c.segment-item.is (c.loop-segment.invariant known) failed)
