use Rattle.std.proofs.Common.{ap, arith, length, map, refl}
use Rattle.std.proofs.lemmas.List.{length-map}
use Rattle.ii_store.specs.IndexMeta.{MetaState, meta_view, segment_view}
use Rattle.ii_segment_store.proofs.ListLaws.{list_changed}
use Rattle.ii_segment_store.proofs.deleting.write_deletes.Goals as goal

pub returns-in-Ok-clause-contents : goal.returns-in-Ok-clause-contents
returns-in-Ok-clause-contents g c = λ known.
    let d = g.D.Directory in
    let m = meta_view c.args.list in
    let n : MetaState = record m { segments = map segment_view c.in-Ok.segments.items } in
    let changed = rw c.as_slice-2.ensures.value at (c.in-Ok.ensures.changed known) in
    list_changed (map (λ v. v.items) c.args.deleted.now) c.latest_generation-latest.result m n (d.seen c.args.directory.now) (d.seen c.flag_segments.new.directory) refl
    (omega (arith, length-map c.in-Ok.segments.items segment_view, length-map c.args.list.segments.items segment_view, c.in-Ok.ensures.many, ap length c.as_slice-2.ensures.value)) changed
