use Rattle.std.proofs.Common.{◌≡◌, ◌∙◌, ◌+◌, ◌<◌, ℕ, Bool, List, [], Some, ap, arith, drop, false, get_or, if◌then◌else◌, length, map, subst, sym, true}
use Rattle.std.proofs.lemmas.List.{length-map}
use Rattle.std.proofs.lemmas.List.{get_or_default}
use Rattle.ii_store.specs.declared.index_meta.SegmentMeta.{SegmentMeta}
use Rattle.ii_store.specs.IndexMeta.{segment_view}
use Rattle.ii_segment_store.specs.Changes.{first_uncounted, is_uncounted}
use Rattle.ii_segment_store.proofs.ListLaws.{uncounted_step, view_at}
use Rattle.ii_segment_store.proofs.deleting.first_uncounted.Goals as goal

pub loop-place-preserved : goal.loop-place-preserved
loop-place-preserved c =
    let deleted = map (λ v. v.items) c.args.deleted.now in
    let ss = map segment_view c.args.segments.now in
    let s = c.index-segments-place.result in
    let i = c.loop-place.place in
    let within : i < length ss = omega (arith, c.loop-place-test.true, length-map c.args.segments.now segment_view) in
    let step = uncounted_step deleted ss i (segment_view s) within (view_at c.args.segments.now i s c.loop-place-test.true c.index-segments-place.is) in
    let test : is_uncounted (get_or deleted i []) (segment_view s) ≡ false = subst (λ (docs : List ℕ). is_uncounted docs (segment_view s) ≡ false) c.docs_at.ensures (sym c.is_uncounted.ensures ∙ c.if-is_uncounted.false) in
    sym (step ∙ ap (λ (b : Bool). if b then Some s.id else first_uncounted (drop (i + 1) deleted) (drop (i + 1) ss)) test) ∙ c.loop-place.invariant

pub returns-then-is_uncounted : goal.returns-then-is_uncounted
returns-then-is_uncounted c =
    let deleted = map (λ v. v.items) c.args.deleted.now in
    let ss = map segment_view c.args.segments.now in
    let s = c.index-segments-place.result in
    let i = c.loop-place.place in
    let within : i < length ss = omega (arith, c.loop-place-test.true, length-map c.args.segments.now segment_view) in
    let step = uncounted_step deleted ss i (segment_view s) within (view_at c.args.segments.now i s c.loop-place-test.true c.index-segments-place.is) in
    let test : is_uncounted (get_or deleted i []) (segment_view s) ≡ true = subst (λ (docs : List ℕ). is_uncounted docs (segment_view s) ≡ true) c.docs_at.ensures (sym c.is_uncounted.ensures ∙ c.if-is_uncounted.true) in
    ap (λ (x : SegmentMeta). Some x.id) (get_or_default c.args.segments.now i c.index-segments-place-then-is_uncounted.result s c.loop-place-test.true ∙ sym c.index-segments-place.is) ∙ sym (step ∙ ap (λ (b : Bool). if b then Some s.id else first_uncounted (drop (i + 1) deleted) (drop (i + 1) ss)) test) ∙ c.loop-place.invariant
