use Rattle.std.proofs.Common.{◌≡◌, ◌++◌, ◌∷◌, List, [], ap, ◌∙◌, subst, sym}
use Rattle.std.specs.Prelude.{map}
use Rattle.std.proofs.lemmas.List.{map_push}
use Rattle.std.proofs.lemmas.Result.{err_from_is_err_and}
use Rattle.ii_store.specs.IndexMeta.{segment_view}
use Rattle.ii_segment_store.specs.declared.stored_segments.StoredSegment.{StoredSegment}
use Rattle.ii_segment_store.specs.Contents.{all_contents, segment_contents, segment_in}
use Rattle.ii_segment_store.proofs.LoadLaws.{begins, ends, goes_on, is_done, with_front}
use Rattle.ii_segment_store.proofs.loading.load_each.Goals as goal

pub loop-segment-init : goal.loop-segment-init
loop-segment-init g c = λ known.
    let all = all_contents (map segment_view c.args.listed.now) (g.D.Directory.seen c.args.directory.now) in
    subst (λ (xs : List StoredSegment). with_front (map segment_contents xs) all ≡ all) (sym c.new-segments.ensures.items) (begins all)

pub loop-segment-preserved : goal.loop-segment-preserved
loop-segment-preserved g c = λ known.
    let files = g.D.Directory.seen c.args.directory.now in
    let e : map segment_contents c.push.new.self.items ≡ map segment_contents c.loop-segment.segments.items ++ segment_contents c.in_ok-loaded.loaded ∷ [] =
    ap (map segment_contents) c.in_ok-push.ensures.items ∙ map_push segment_contents c.loop-segment.segments.items c.in_ok-loaded.loaded in
    rw e (goes_on segment_in (map segment_contents c.loop-segment.segments.items) c.args.listed.now c.loop-segment.segment-index c.segment-item.result files (segment_contents c.in_ok-loaded.loaded) (all_contents (map segment_view c.args.listed.now) files)
    c.loop-segment-test.true c.segment-item.is (c.in_ok-loaded.ensures.answers known) (c.loop-segment.invariant known))

pub returns-in_err-loaded-clause-answers : goal.returns-in_err-loaded-clause-answers
returns-in_err-loaded-clause-answers g c = λ known.
    let files = g.D.Directory.seen c.args.directory.now in
    let p = err_from_is_err_and c.from_residual.result c.from_residual.ensures.1 in
    rw (p.1, p.2) (ends segment_in c.in_err-loaded.field-0.0 (map segment_contents c.loop-segment.segments.items) c.args.listed.now c.loop-segment.segment-index c.segment-item.result files (all_contents (map segment_view c.args.listed.now) files)
    c.loop-segment-test.true c.segment-item.is (c.in_err-loaded.ensures.answers known) (c.loop-segment.invariant known))

pub returns-clause-answers : goal.returns-clause-answers
returns-clause-answers g c = λ known.
    let files = g.D.Directory.seen c.args.directory.now in
    is_done segment_in (map segment_contents c.loop-segment.segments.items) c.args.listed.now c.loop-segment.segment-index files (all_contents (map segment_view c.args.listed.now) files) c.loop-segment-test.false (c.loop-segment.invariant known)
