use Rattle.std.proofs.Common.{◌≡◌, List, subst, sym}
use Rattle.std.specs.Prelude.{map}
use Rattle.std.proofs.lemmas.Result.{err_from_is_err_and}
use Rattle.ii_store.specs.IndexMeta.{segment_view}
use Rattle.ii_segment_store.specs.Contents.{all_of}
use Rattle.ii_open_segments.specs.OpenSegments.{OpenSegmentState, opened_segment}
use Rattle.ii_segment_store.proofs.LoadLaws.{begins, ends, goes_on, is_done, with_front}
use Rattle.ii_open_segments.proofs.opened_segments.open_each.Goals as goal

pub loop-segment-init : goal.loop-segment-init
loop-segment-init g c = λ known.
    let all = all_of opened_segment (map segment_view c.args.listed.now) (g.D.Directory.seen c.args.directory.now) in
    subst (λ (xs : List OpenSegmentState). with_front xs all ≡ all) (sym c.new-segments.ensures.items) (begins all)

pub loop-segment-preserved : goal.loop-segment-preserved
loop-segment-preserved g c = λ known.
    let files = g.D.Directory.seen c.args.directory.now in
    rw c.in_ok-push.ensures.items (goes_on opened_segment c.loop-segment.segments.items c.args.listed.now c.loop-segment.segment-index c.segment-item.result files c.in_ok-opened.opened (all_of opened_segment (map segment_view c.args.listed.now) files)
    c.loop-segment-test.true c.segment-item.is (c.in_ok-opened.ensures.answers known) (c.loop-segment.invariant known))

pub returns-in_err-opened-clause-answers : goal.returns-in_err-opened-clause-answers
returns-in_err-opened-clause-answers g c = λ known.
    let files = g.D.Directory.seen c.args.directory.now in
    let p = err_from_is_err_and c.from_residual.result c.from_residual.ensures.1 in
    rw (p.1, p.2) (ends opened_segment c.in_err-opened.field-0.0 c.loop-segment.segments.items c.args.listed.now c.loop-segment.segment-index c.segment-item.result files (all_of opened_segment (map segment_view c.args.listed.now) files)
    c.loop-segment-test.true c.segment-item.is (c.in_err-opened.ensures.answers known) (c.loop-segment.invariant known))

pub returns-clause-answers : goal.returns-clause-answers
returns-clause-answers g c = λ known.
    is_done opened_segment c.loop-segment.segments.items c.args.listed.now c.loop-segment.segment-index (g.D.Directory.seen c.args.directory.now) (all_of opened_segment (map segment_view c.args.listed.now) (g.D.Directory.seen c.args.directory.now)) c.loop-segment-test.false (c.loop-segment.invariant known)
