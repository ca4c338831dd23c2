use Rattle.std.proofs.Common.{◌≡◌, ◌++◌, ◌∷◌, [], ap, ◌∙◌}
use Rattle.std.specs.Prelude.{map}
use Rattle.std.proofs.lemmas.Result.{err_from_is_err_and}
use Rattle.std.proofs.lemmas.List.{map_push}
use Rattle.ii_store.specs.IndexMeta.{segment_at, items_at, segment_view}
use Rattle.ii_store.proofs.ListLoop.{ends, goes_on, is_done}
use Rattle.ii_store.proofs.index_meta_reader.segments_of.Goals as goal

pub returns-in_err-segment-clause-answers : goal.returns-in_err-segment-clause-answers
returns-in_err-segment-clause-answers c =
    let p = err_from_is_err_and c.from_residual.result c.from_residual.ensures.1 in
    rw (p.1, p.2) (ends (segment_at c.args.version) c.in_err-segment.field-0.0 (map segment_view c.loop.segments.items) c.args.count c.loop.counter c.loop.rest.now (items_at (segment_at c.args.version) c.args.count c.args.bytes.now) c.loop-test.true c.in_err-segment.ensures.answers c.loop.invariant)

pub loop-preserved : goal.loop-preserved
loop-preserved c =
    let e : map segment_view c.push.new.self.items ≡ (map segment_view c.loop.segments.items) ++ (segment_view c.in_ok-segment.segment) ∷ [] = (ap (map segment_view) c.in_ok-push.ensures.items ∙ map_push segment_view c.loop.segments.items c.in_ok-segment.segment) in
    rw e (goes_on (segment_at c.args.version) (map segment_view c.loop.segments.items) c.args.count c.loop.counter c.loop.rest.now (segment_view c.in_ok-segment.segment) c.in_ok-segment.after.now (items_at (segment_at c.args.version) c.args.count c.args.bytes.now) c.loop-test.true c.in_ok-segment.ensures.answers c.loop.invariant)

pub returns-clause-answers : goal.returns-clause-answers
returns-clause-answers c = is_done (segment_at c.args.version) (map segment_view c.loop.segments.items) c.args.count c.loop.counter c.loop.rest.now (items_at (segment_at c.args.version) c.args.count c.args.bytes.now) c.loop-test.false c.loop.invariant
