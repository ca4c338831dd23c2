-- What loops over segments in memory find.
use Rattle.std.proofs.Common.{◌≡◌, ℕ, zero, suc, ◌≤◌, ◌<◌, ◌==◌, Bool, true, false, List, [], ◌∷◌, length, get_or, take, refl, sym, ap, ◌∙◌, arith}
use Rattle.std.specs.Prelude.{map}
use Rattle.std.specs.List.{list_all, list_any, AllByRecursion}
use Rattle.std.proofs.lemmas.Bool.{eq-eqb}
use Rattle.std.proofs.lemmas.List.{take_all}
use Rattle.std.proofs.lemmas.List.Folds.{list_all-map, list_all_at, list_any_at}
use Rattle.ii_store.specs.declared.index_meta.SegmentMeta.{SegmentMeta}
use Rattle.ii_store.specs.IndexMeta.{SegmentFits, SegmentState, is_segment, segment_view}

pub list_any-map : {X Y : Type 0} (p : X → Bool) (h : Y → X) (ys : List Y) → list_any p (map h ys) ≡ list_any (λ y. p (h y)) ys
list_any-map p h [] = refl
list_any-map p h (y ∷ ys) = rw (list_any-map p h ys) refl

pub fits_at : (xs : List SegmentMeta) (i : ℕ) (d : SegmentMeta) → i < length xs → AllByRecursion SegmentFits (map segment_view xs) → SegmentFits (segment_view (get_or xs i d))
fits_at [] i d lt fits = absurd (omega (arith, lt))
fits_at (x ∷ xs) zero d lt fits = fits.0
fits_at (x ∷ xs) (suc i) d lt fits = fits_at xs i d (omega (arith, lt)) fits.1

pub any_id : (id : ℕ) (xs : List SegmentMeta) (i : ℕ) (x : SegmentMeta) → i < length xs → x ≡ get_or xs i x → x.id ≡ id → true ≡ list_any (λ (s : SegmentState). s.id == id) (map segment_view xs)
any_id id xs i x lt is same =
    let here : (get_or xs i x).id ≡ id = ap (λ (s : SegmentMeta). s.id) (sym is) ∙ same in
    sym (list_any-map (λ (s : SegmentState). s.id == id) segment_view xs ∙ list_any_at (λ (s : SegmentMeta). s.id == id) xs i x lt (eq-eqb (get_or xs i x).id id here))

pub no_id : (id : ℕ) (xs : List SegmentMeta) (i : ℕ) → length xs ≤ i → list_any (λ (s : SegmentMeta). s.id == id) (take i xs) ≡ false → false ≡ list_any (λ (s : SegmentState). s.id == id) (map segment_view xs)
no_id id xs i le none =
    sym (list_any-map (λ (s : SegmentState). s.id == id) segment_view xs ∙ ap (list_any (λ (s : SegmentMeta). s.id == id)) (sym (take_all i xs le)) ∙ none)

pub not_segment : (next : ℕ) (xs : List SegmentMeta) (i : ℕ) (x : SegmentMeta) → i < length xs → x ≡ get_or xs i x → false ≡ is_segment next (segment_view x) → false ≡ list_all (is_segment next) (map segment_view xs)
not_segment next xs i x lt is fails =
    let here : is_segment next (segment_view (get_or xs i x)) ≡ false = ap (λ (s : SegmentMeta). is_segment next (segment_view s)) (sym is) ∙ sym fails in
    sym (list_all-map (is_segment next) segment_view xs ∙ list_all_at (λ (s : SegmentMeta). is_segment next (segment_view s)) xs i x lt here)

pub all_segments : (next : ℕ) (xs : List SegmentMeta) (i : ℕ) → length xs ≤ i → list_all (λ (s : SegmentMeta). is_segment next (segment_view s)) (take i xs) ≡ true → true ≡ list_all (is_segment next) (map segment_view xs)
all_segments next xs i le all =
    sym (list_all-map (is_segment next) segment_view xs ∙ ap (list_all (λ (s : SegmentMeta). is_segment next (segment_view s))) (sym (take_all i xs le)) ∙ all)
