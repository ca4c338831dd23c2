use Rattle.std.proofs.Common.{◌≡◌, ◌++◌, ◌∷◌, List, [], ap, ◌∙◌, subst, sym}
use Rattle.std.specs.Prelude.{map}
use Rattle.std.specs.List.{AllByRecursion}
use Rattle.std.proofs.lemmas.List.{map_push}
use Rattle.std.proofs.lemmas.Result.{err_from_is_err_and}
use Rattle.ii_store.specs.IndexMeta.{segment_view}
use Rattle.ii_segment_store.specs.declared.segment_source.SegmentSource.{SegmentSource}
use Rattle.ii_segment_store.specs.Contents.{all_contents, segment_in}
use Rattle.ii_segment_store.specs.Sources.{HasKnownStore, source_contents}
use Rattle.ii_segment_store.proofs.LoadLaws.{begins, ends, goes_on, is_done, with_front}
use Rattle.ii_segment_store.proofs.segment_source.open_sources.Goals as goal

all_push : {X : Type 0} (P : X → Type 0) (xs : List X) (x : X) → AllByRecursion P xs → P x → AllByRecursion P (xs ++ x ∷ [])
all_push P [] x all one = (one, tt)
all_push P (y ∷ ys) x all one = (all.0, all_push P ys x all.1 one)

pub loop-segment-init : goal.loop-segment-init
loop-segment-init g c =
    let all = all_contents (map segment_view c.args.listed.now) (g.D.Directory.seen c.args.directory.now) in
    let bytes = g.D.File.ReadAt.bytes in
    record {
      answers = λ known. subst (λ (xs : List (SegmentSource _)). with_front (map (source_contents bytes) xs) all ≡ all) (sym c.new-sources.ensures.items) (begins all);
      known = λ known. subst (AllByRecursion (HasKnownStore bytes)) (sym c.new-sources.ensures.items) tt;
    }

pub loop-segment-preserved : goal.loop-segment-preserved
loop-segment-preserved g c =
    let files = g.D.Directory.seen c.args.directory.now in
    let bytes = g.D.File.ReadAt.bytes in
    let before = c.loop-segment.sources.items in
    let source = c.in_ok-source.source in
    let more : map (source_contents bytes) c.push.new.self.items ≡ map (source_contents bytes) before ++ source_contents bytes source ∷ [] = ap (map (source_contents bytes)) c.in_ok-push.ensures.items ∙ map_push (source_contents bytes) before source in
    record {
      answers = λ known. rw more (goes_on segment_in (map (source_contents bytes) before) c.args.listed.now c.loop-segment.segment-index c.segment-item.result files (source_contents bytes source) (all_contents (map segment_view c.args.listed.now) files)
          c.loop-segment-test.true c.segment-item.is (c.in_ok-source.ensures.answers known) (c.loop-segment.invariant.answers known));
      known = λ known. subst (AllByRecursion (HasKnownStore bytes)) (sym c.in_ok-push.ensures.items) (all_push (HasKnownStore bytes) before source (c.loop-segment.invariant.known known) (c.in_ok-source.ensures.known known));
    }

pub returns-in_err-source-clause-answers : goal.returns-in_err-source-clause-answers
returns-in_err-source-clause-answers g c = λ known.
    let files = g.D.Directory.seen c.args.directory.now in
    let p = err_from_is_err_and c.from_residual.result c.from_residual.ensures.1 in
    rw (p.1, p.2) (ends segment_in c.in_err-source.field-0.0 (map (source_contents g.D.File.ReadAt.bytes) c.loop-segment.sources.items) c.args.listed.now c.loop-segment.segment-index c.segment-item.result files (all_contents (map segment_view c.args.listed.now) files)
    c.loop-segment-test.true c.segment-item.is (c.in_err-source.ensures.answers known) (c.loop-segment.invariant.answers known))

pub returns-clause-answers : goal.returns-clause-answers
returns-clause-answers g c = λ known.
    let files = g.D.Directory.seen c.args.directory.now in
    is_done segment_in (map (source_contents g.D.File.ReadAt.bytes) c.loop-segment.sources.items) c.args.listed.now c.loop-segment.segment-index files (all_contents (map segment_view c.args.listed.now) files) c.loop-segment-test.false (c.loop-segment.invariant.answers known)

pub returns-clause-known : goal.returns-clause-known
returns-clause-known g c = c.loop-segment.invariant.known
