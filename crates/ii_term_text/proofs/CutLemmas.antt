-- A text that is cut at its first space.
use Rattle.std.proofs.Common.{◌≡◌, ◌<◌, ◌≤◌, ◌+◌, ℕ, suc, Bool, true, false, ◌&&◌, ◌==◌, not, cond, List, [], ◌∷◌, None, Some, ap, arith, add-one, drop, take, get_or, length, refl}
use Rattle.std.specs.Str.{IsCharBoundary, IsUtf8}
use Rattle.std.proofs.lemmas.Bool.{and_parts, eqb-true}
use Rattle.std.proofs.lemmas.Str.{IsCharBoundary-after_ascii, IsCharBoundary-before_ascii}
use Rattle.ii_term_text.specs.PathTexts.{cut_at_space, space_place}

-- whether a space is kept decides where it is
pub place_case : (kept : Bool) (b : ℕ) (bs : List ℕ) (here : Bool) → (not kept && (b == 32)) ≡ here → space_place kept (b ∷ bs) ≡ cond here 0 (suc (space_place (not kept && (b == 92)) bs))
place_case kept b bs here is = ap (λ (h : Bool). cond h 0 (suc (space_place (not kept && (b == 92)) bs))) is

-- there is none
cut_none_from : (kept : Bool) (text : List ℕ) → length text ≤ space_place kept text → cut_at_space kept text ≡ None
cut_none_from kept [] far = refl
cut_none_from kept (b ∷ bs) far = by (not kept && (b == 32)) refl (λ h. cut_none_from (not kept && (b == 92)) bs h)
  where
    by : (here : Bool) → (not kept && (b == 32)) ≡ here → (length bs ≤ space_place (not kept && (b == 92)) bs → cut_at_space (not kept && (b == 92)) bs ≡ None) → cut_at_space kept (b ∷ bs) ≡ None
    by true is rest = absurd (omega (arith, far, place_case kept b bs true is))
    by false is rest = rw (is, rest (omega (arith, far, place_case kept b bs false is))) refl

pub cut_none : (text : List ℕ) (place : ℕ) → place ≡ space_place false text → length text ≤ place → cut_at_space false text ≡ None
cut_none text place is far = cut_none_from false text (omega (arith, is, far))

-- there is one
cut_some_from : (kept : Bool) (text : List ℕ) → space_place kept text < length text
    → cut_at_space kept text ≡ Some (record { front = take (space_place kept text) text; rest = drop (suc (space_place kept text)) text })
cut_some_from kept [] near = absurd (omega (arith, near))
cut_some_from kept (b ∷ bs) near = by (not kept && (b == 32)) refl (λ h. cut_some_from (not kept && (b == 92)) bs h)
  where
    by : (here : Bool) → (not kept && (b == 32)) ≡ here
        → (space_place (not kept && (b == 92)) bs < length bs → cut_at_space (not kept && (b == 92)) bs ≡ Some (record { front = take (space_place (not kept && (b == 92)) bs) bs; rest = drop (suc (space_place (not kept && (b == 92)) bs)) bs }))
        → cut_at_space kept (b ∷ bs) ≡ Some (record { front = take (space_place kept (b ∷ bs)) (b ∷ bs); rest = drop (suc (space_place kept (b ∷ bs))) (b ∷ bs) })
    by true is rest = rw is refl
    by false is rest = rw (is, rest (omega (arith, near, place_case kept b bs false is))) refl

pub cut_some : (text : List ℕ) (place : ℕ) → place ≡ space_place false text → place < length text → cut_at_space false text ≡ Some (record { front = take place text; rest = drop (place + 1) text })
cut_some text place is near = rw (is, add-one (space_place false text)) (cut_some_from false text (omega (arith, is, near)))

-- it is a space
at_space_from : (kept : Bool) (text : List ℕ) → space_place kept text < length text → get_or text (space_place kept text) 0 ≡ 32
at_space_from kept [] near = absurd (omega (arith, near))
at_space_from kept (b ∷ bs) near = by (not kept && (b == 32)) refl (λ h. at_space_from (not kept && (b == 92)) bs h)
  where
    by : (here : Bool) → (not kept && (b == 32)) ≡ here → (space_place (not kept && (b == 92)) bs < length bs → get_or bs (space_place (not kept && (b == 92)) bs) 0 ≡ 32) → get_or (b ∷ bs) (space_place kept (b ∷ bs)) 0 ≡ 32
    by true is rest = rw is (eqb-true b 32 (and_parts (not kept) (b == 32) is).1)
    by false is rest = rw is (rest (omega (arith, near, place_case kept b bs false is)))

pub at_space : (text : List ℕ) (place : ℕ) → place ≡ space_place false text → place < length text → get_or text place 0 ≡ 32
at_space text place is near = rw is (at_space_from false text (omega (arith, is, near)))

-- a text may be cut before it and after it
pub before_space : (text : List ℕ) (place : ℕ) → place ≡ space_place false text → place < length text → IsCharBoundary text place
before_space text place is near = let space = at_space text place is near in IsCharBoundary-before_ascii text place near (omega (arith, space))

pub after_space : (text : List ℕ) (place : ℕ) → IsUtf8 text → place ≡ space_place false text → place < length text → IsCharBoundary text (place + 1)
after_space text place utf8 is near = let space = at_space text place is near in IsCharBoundary-after_ascii text place utf8 near (omega (arith, space))
