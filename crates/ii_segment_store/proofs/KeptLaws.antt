-- A change of each element of a list, one after the other.
use Rattle.std.proofs.Common.{◌≡◌, ℕ, zero, suc, ◌+◌, ◌<◌, ◌≤◌, List, [], ◌∷◌, length, get_or, refl, sym, ap, ◌∙◌, arith}
use Rattle.std.specs.Prelude.{map}
use Rattle.std.proofs.Math.ListN.{set}
use Rattle.std.proofs.lemmas.List.{map-set}
use Rattle.ii_store.specs.declared.index_meta.SegmentMeta.{SegmentMeta}
use Rattle.ii_store.specs.IndexMeta.{SegmentState, segment_view}

-- a list whose first elements were changed
pub first_changed : (SegmentState → SegmentState) → ℕ → List SegmentState → List SegmentState
first_changed f n [] = []
first_changed f zero (s ∷ ss) = s ∷ ss
first_changed f (suc n) (s ∷ ss) = f s ∷ first_changed f n ss

pub none_changed : (f : SegmentState → SegmentState) (ss : List SegmentState) → first_changed f 0 ss ≡ ss
unfolding first_changed
none_changed f [] = refl
none_changed f (s ∷ ss) = refl

pub all_changed : (f : SegmentState → SegmentState) (n : ℕ) (ss : List SegmentState) → length ss ≤ n → first_changed f n ss ≡ map f ss
unfolding first_changed
all_changed f n [] le = refl
all_changed f zero (s ∷ ss) le = absurd (omega arith)
all_changed f (suc n) (s ∷ ss) le = ap (λ (ts : List SegmentState). f s ∷ ts) (all_changed f n ss (omega arith))

pub length_changed : (f : SegmentState → SegmentState) (n : ℕ) (ss : List SegmentState) → length (first_changed f n ss) ≡ length ss
unfolding first_changed
length_changed f n [] = refl
length_changed f zero (s ∷ ss) = refl
length_changed f (suc n) (s ∷ ss) = ap suc (length_changed f n ss)

one_more : (f : SegmentState → SegmentState) (n : ℕ) (ss : List SegmentState) (s d : SegmentState) → n < length ss → s ≡ get_or (first_changed f n ss) n d → set (first_changed f n ss) n (f s) ≡ first_changed f (suc n) ss
unfolding first_changed
one_more f n [] s d lt is = absurd (omega arith)
one_more f zero (t ∷ ss) s d lt is = ap (λ (x : SegmentState). f x ∷ ss) is ∙ ap (λ (ts : List SegmentState). f t ∷ ts) (sym (none_changed f ss))
one_more f (suc n) (t ∷ ss) s d lt is = ap (λ (ts : List SegmentState). f t ∷ ts) (one_more f n ss s d (omega arith) is)

viewed : (xs : List SegmentMeta) (i : ℕ) (d : SegmentMeta) → segment_view (get_or xs i d) ≡ get_or (map segment_view xs) i (segment_view d)
viewed [] i d = refl
viewed (x ∷ xs) zero d = refl
viewed (x ∷ xs) (suc i) d = viewed xs i d

pub next_changed : (f : SegmentState → SegmentState) (xs : List SegmentMeta) (i : ℕ) (d y : SegmentMeta) (ss : List SegmentState) → i < length ss → segment_view y ≡ f (segment_view (get_or xs i d))
    → map segment_view xs ≡ first_changed f i ss → map segment_view (set xs i y) ≡ first_changed f (i + 1) ss
next_changed f xs i d y ss lt changed so_far =
    let next : i + 1 ≡ suc i = omega arith in
    let s = segment_view (get_or xs i d) in
    let there : s ≡ get_or (first_changed f i ss) i (segment_view d) = viewed xs i d ∙ ap (λ (vs : List SegmentState). get_or vs i (segment_view d)) so_far in
    map-set segment_view xs i y ∙ ap (λ (v : SegmentState). set (map segment_view xs) i v) changed ∙ ap (λ (vs : List SegmentState). set vs i (f s)) so_far ∙ one_more f i ss s (segment_view d) lt there ∙ ap (λ (n : ℕ). first_changed f n ss) (sym next)
