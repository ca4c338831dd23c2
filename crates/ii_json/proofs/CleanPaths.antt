-- A path of segments without byte 0 has no byte 0.
use Rattle.std.proofs.Common.{◌≡◌, ℕ, Bool, true, false, ◌||◌, ◌==◌, List, [], ◌∷◌, ◌++◌, refl, sym, ◌∙◌}
use Rattle.std.proofs.lemmas.List.Folds.{list_any-append}
use Rattle.ii_base.proofs.CleanLemmas.{clean_segment}
use Rattle.ii_base.specs.Paths.{PathState, has_zero, joined_segments, segment_bytes}

neither : (a b : Bool) → a ≡ false → b ≡ false → (a || b) ≡ false
neither a b none nor = rw (none, nor) refl

pub or_left : (a b : Bool) → (a || b) ≡ false → a ≡ false
or_left false b none = refl
or_left true b none = absurd (cc)

pub or_right : (a b : Bool) → (a || b) ≡ false → b ≡ false
or_right false b none = none
or_right true b none = absurd (cc)

-- two parts with byte 1 between them
none_held : (x s : List ℕ) → has_zero (x ++ 1 ∷ s) ≡ (has_zero x || has_zero s)
none_held x s = list_any-append (λ (b : ℕ). b == 0) x (1 ∷ s)

clean_joined : (segments : List (List ℕ)) (s : List ℕ) → has_zero (joined_segments segments) ≡ false → has_zero s ≡ false → has_zero (joined_segments (segments ++ s ∷ [])) ≡ false
clean_joined [] s none s_none = s_none
clean_joined (x ∷ []) s none s_none = none_held x s ∙ neither (has_zero x) (has_zero s) none s_none
clean_joined (x ∷ y ∷ ss) s none s_none =
    let both : (has_zero x || has_zero (joined_segments (y ∷ ss))) ≡ false = sym (none_held x (joined_segments (y ∷ ss))) ∙ none in
    none_held x (joined_segments (y ∷ ss ++ s ∷ []))
    ∙ neither (has_zero x) (has_zero (joined_segments (y ∷ ss ++ s ∷ []))) (or_left (has_zero x) (has_zero (joined_segments (y ∷ ss))) both)
    (clean_joined (y ∷ ss) s (or_right (has_zero x) (has_zero (joined_segments (y ∷ ss))) both) s_none)

-- and with a further segment
pub clean_key : (at : PathState) (key : List ℕ) → has_zero (joined_segments at.segments) ≡ false → has_zero key ≡ false → has_zero (joined_segments (at.segments ++ segment_bytes at.expand_dots key ∷ [])) ≡ false
clean_key at key none key_none = clean_joined at.segments (segment_bytes at.expand_dots key) none (clean_segment at.expand_dots key key_none)
