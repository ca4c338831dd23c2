use Rattle.std.proofs.Common.{◌≡◌, ◌∙◌, ◌<◌, ◌⊎◌, ◌++◌, inl, inr, append-nil, List, ℕ, drop, length, map, sym, ap, arith}
use Rattle.std.specs.List.{slice_range}
use Rattle.std.proofs.lemmas.List.{drop_all, drop-map}
use Rattle.std.proofs.lemmas.List.Folds.{drop_split}
use Rattle.ii_store.specs.IndexMeta.{segment_view}
use Rattle.ii_store.specs.declared.index_meta.SegmentMeta.{SegmentMeta}
use Rattle.ii_segment_store.proofs.JoinLaws.{none_left}
use Rattle.ii_segment_store.proofs.joining.last_segments.Goals as goal

pub returns-in-Some : goal.returns-in-Some
returns-in-Some c =
    let listed = c.args.list.now.segments.items in
    let first = c.args.first in
    let value : c.as_slice.result.now ≡ listed = c.as_slice.ensures.value in
    let cut : c.in-Some.last.now ≡ drop first listed =
    c.in-Some.ensures.lookup.0.2 ∙ ap (λ (xs : List SegmentMeta). slice_range xs first (length xs)) value ∙ sym (append-nil (slice_range listed first (length listed)))
    ∙ ap (λ (xs : List SegmentMeta). slice_range listed first (length listed) ++ xs) (sym (drop_all (length listed) listed (omega arith)))
    ∙ sym (drop_split listed first (length listed) (rw value at c.in-Some.ensures.lookup.0.0)) in
    ap (map segment_view) cut ∙ sym (drop-map segment_view first listed)

pub returns-in-None : goal.returns-in-None
returns-in-None c =
    let listed = c.args.list.now.segments.items in
    let over : length listed < c.args.first = rw c.as_slice.ensures.value at (past c.in-None.ensures.lookup.0) in
    none_left c.args.first listed over
  where
    past : {a b : ℕ} → (b < a) ⊎ (b < b) → b < a
    past (inl over) = over
    past (inr never) = absurd (omega (arith, never))
