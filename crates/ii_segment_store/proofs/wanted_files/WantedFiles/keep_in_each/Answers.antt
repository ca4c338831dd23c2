use Rattle.std.proofs.Common.{◌<◌, ◌≤◌, ◌∙◌, length, sym, arith}
use Rattle.std.specs.Prelude.{map}
use Rattle.std.proofs.lemmas.List.{length-map}
use Rattle.ii_store.specs.IndexMeta.{segment_view}
use Rattle.ii_segment_store.specs.WantedFiles.{wanted_segment}
use Rattle.ii_segment_store.proofs.KeptLaws.{all_changed, next_changed, none_changed}
use Rattle.ii_segment_store.proofs.wanted_files.WantedFiles.keep_in_each.Goals as goal

pub loop-segment-init : goal.loop-segment-init
loop-segment-init c = sym (none_changed (wanted_segment c.args.self) (map segment_view c.args.segments.now))

pub loop-segment-preserved : goal.loop-segment-preserved
loop-segment-preserved c =
    let within : c.loop-segment.segment-index < length (map segment_view c.args.segments.now) = omega (arith, length-map c.args.segments.now segment_view) in
    next_changed (wanted_segment c.args.self) c.loop-segment.segments c.loop-segment.segment-index c.segment-item.result c.keep_in.new.segment (map segment_view c.args.segments.now) within c.keep_in.ensures c.loop-segment.invariant

pub returns : goal.returns
returns c =
    let done : length (map segment_view c.args.segments.now) ≤ c.loop-segment.segment-index = omega (arith, length-map c.args.segments.now segment_view) in
    c.loop-segment.invariant ∙ all_changed (wanted_segment c.args.self) c.loop-segment.segment-index (map segment_view c.args.segments.now) done
