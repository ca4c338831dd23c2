use Rattle.std.proofs.Common.{◌≡◌, ◌∙◌, ◌+◌, ◌++◌, ◌∷◌, List, [], ℕ, ap, arith, get_or, length, length-append, map, subst, sym}
use Rattle.std.proofs.lemmas.List.{length-map}
use Rattle.std.proofs.lemmas.List.{map_push}
use Rattle.std.proofs.lemmas.Result.{err_from_is_err_and}
use Rattle.ii_store.specs.IndexMeta.{SegmentState, segment_view}
use Rattle.ii_segment_store.specs.Changes.{AreChanged, IsChangedTo, FailsForFlags}
use Rattle.ii_segment_store.proofs.ListLaws.{changed_next, flag_time, flags_fail, flags_fail_old, latest_of, view_at}
use Rattle.ii_segment_store.proofs.deleting.flag_segments.Goals as goal

pub flag_segment-requires : goal.flag_segment-requires
flag_segment-requires g c = record { later = omega (arith, latest_of c.args.segments.now c.loop-place.place c.index-segments-place.result c.args.latest c.loop-place-test.true c.index-segments-place.is c.requires.latest) }

pub returns-in_err-segment-clause-time : goal.returns-in_err-segment-clause-time
returns-in_err-segment-clause-time g c = λ known.
    let d = g.D.Directory in
    let inv = c.loop-place.invariant in
    flag_time d.moment d.left_since d.seen c.args.directory.now c.loop-place.directory c.flag_segment.new.directory c.args.latest (c.args.latest + 1 + c.loop-place.place) (omega arith) (inv.changed known).keeps (inv.time known) (c.flag_segment.ensures.time (inv.known known))

pub returns-in_err-segment-clause-fault : goal.returns-in_err-segment-clause-fault
returns-in_err-segment-clause-fault g c = λ known.
    let d = g.D.Directory in
    let inv = c.loop-place.invariant in
    let s = c.index-segments-place.result in
    let segs = c.args.segments.now in
    let i = c.loop-place.place in
    let deleted = map (λ v. v.items) c.args.deleted.now in
    let e = c.in_err-segment.field-0.0 in
    let p = err_from_is_err_and c.from_residual.result c.from_residual.ensures.1 in
    let fails : FailsForFlags e (get_or deleted i []) (segment_view s) (d.seen c.loop-place.directory) = subst (λ (docs : List ℕ). FailsForFlags e docs (segment_view s) (d.seen c.loop-place.directory)) c.docs_at-docs.ensures (c.in_err-segment.ensures.fault (inv.known known)) in
    rw (p.1, p.2) (flags_fail e deleted (map segment_view segs) i (segment_view s) (d.seen c.args.directory.now) (omega (arith, c.loop-place-test.true, length-map segs segment_view)) (view_at segs i s c.loop-place-test.true c.index-segments-place.is)
    (flags_fail_old e (get_or deleted i []) c.args.latest (segment_view s) (d.seen c.args.directory.now) (d.seen c.loop-place.directory) (latest_of segs i s c.args.latest c.loop-place-test.true c.index-segments-place.is c.requires.latest) (inv.changed known).keeps fails))

pub returns-in_err-push-clause-time : goal.returns-in_err-push-clause-time
returns-in_err-push-clause-time g c = λ known.
    let d = g.D.Directory in
    let inv = c.loop-place.invariant in
    flag_time d.moment d.left_since d.seen c.args.directory.now c.loop-place.directory c.flag_segment.new.directory c.args.latest (c.args.latest + 1 + c.loop-place.place) (omega arith) (inv.changed known).keeps (inv.time known) (c.flag_segment.ensures.time (inv.known known))

pub loop-place-preserved : goal.loop-place-preserved
loop-place-preserved g c =
    let d = g.D.Directory in
    let inv = c.loop-place.invariant in
    let s = c.index-segments-place.result in
    let t = c.in_ok-segment.segment in
    let segs = c.args.segments.now in
    let ss = map segment_view segs in
    let ts = map segment_view c.loop-place.flagged.items in
    let i = c.loop-place.place in
    let deleted = map (λ v. v.items) c.args.deleted.now in
    let mid = d.seen c.loop-place.directory in
    let new = d.seen c.flag_segment.new.directory in
    let pushed : map segment_view c.push.new.self.items ≡ ts ++ segment_view t ∷ [] = ap (map segment_view) c.in_ok-push.ensures.items ∙ map_push segment_view c.loop-place.flagged.items t in
    record {
      known = λ known. c.in_ok-segment.ensures.known (inv.known known);
      still = λ may. inv.still (c.flag_segment.ensures.obeys.still may);
      many = omega (arith, inv.many, ap length c.in_ok-push.ensures.items, length-append c.loop-place.flagged.items (t ∷ []));
      changed = λ known.
          let step : IsChangedTo (get_or deleted i []) (c.args.latest + 1 + i) (segment_view s) (segment_view t) mid new =
          subst (λ (docs : List ℕ). IsChangedTo docs (c.args.latest + 1 + i) (segment_view s) (segment_view t) mid new) c.docs_at-docs.ensures (c.in_ok-segment.ensures.changed (inv.known known)) in
          subst (λ (xs : List SegmentState). AreChanged deleted c.args.latest ss xs (d.seen c.args.directory.now) new) (sym pushed)
          (changed_next deleted c.args.latest ss ts (segment_view s) (segment_view t) (d.seen c.args.directory.now) mid new i c.requires.latest (length-map c.loop-place.flagged.items segment_view ∙ inv.many) (view_at segs i s c.loop-place-test.true c.index-segments-place.is)
          (omega (arith, c.loop-place-test.true, length-map segs segment_view)) (inv.changed known) step);
      time = λ known. flag_time d.moment d.left_since d.seen c.args.directory.now c.loop-place.directory c.flag_segment.new.directory c.args.latest (c.args.latest + 1 + i) (omega arith) (inv.changed known).keeps (inv.time known) (c.flag_segment.ensures.time (inv.known known));
    }
