use Rattle.std.proofs.Common.{◌∙◌, List, map, sym, ap}
use Rattle.std.proofs.lemmas.List.{take-map}
use Rattle.ii_store.specs.IndexMeta.{SegmentState, segment_view}
use Rattle.ii_segment_store.proofs.joining.first_listed.Goals as goal

pub returns : goal.returns
returns c =
    let l = c.args.list in
    ap (λ (ss : List SegmentState). record { generation = l.generation; next_segment_id = l.next_segment_id; schema = l.schema.items; segments = ss }) (ap (map segment_view) c.truncate.ensures.items ∙ sym (take-map segment_view c.args.first l.segments.items))
