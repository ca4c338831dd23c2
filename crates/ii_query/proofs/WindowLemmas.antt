-- Windows of positions.
use Rattle.std.proofs.Common.{◌≡◌, ◌∙◌, ℕ, zero, suc, ◌+◌, ◌-◌, ◌<◌, ◌≤◌, Bool, true, false, ◌&&◌, Option, Some, None, List, [], ◌∷◌, drop, get_or, length, nat_le, take, inl, inr, refl, sym, ap, subst, arith}
use Rattle.std.specs.Prelude.{IfSome, max, slice_get}
use Rattle.std.specs.List.{AllByRecursion, list_all}
use Rattle.std.specs.List.Sorted.{IsNonDecreasing}
use Rattle.std.proofs.Math.Seq.{drop-cons}
use Rattle.std.proofs.lemmas.Bool.{and_right, cases_lt, le-leb, lt-leb}
use Rattle.std.proofs.lemmas.List.Folds.{list_all_more}
use Rattle.std.proofs.lemmas.Option.{get_or_from_slice_get, slice_get_within}
use Rattle.ii_query.specs.declared.phrase.TheConstants.{BEFORE_TEXT}
use Rattle.ii_query.specs.Phrase.{IsUnread, PhraseTermState, parts_in, parts_pass}
use Rattle.ii_query.specs.PositionPiece.{PassesBelow}
use Rattle.ii_query.specs.SloppyPhrase.{IsRaised, are_in_window, is_near, is_within}
use Rattle.ii_query.proofs.PieceLemmas.{all_passed, none_after}
use Rattle.ii_query.proofs.ReadsLemmas.{unread_pass}

within_below : (slop least n : ℕ) → n < least → is_within slop least n ≡ false
within_below slop least n low = rw (lt-leb least n low) refl

within_above : (slop least n : ℕ) → least + slop < n → is_within slop least n ≡ false
within_above slop least n up = and_right (nat_le least n) (nat_le n (least + slop)) (lt-leb n (least + slop) up)

pub within_here : (slop least n : ℕ) → least ≤ n → n ≤ least + slop → is_within slop least n ≡ true
within_here slop least n low up = rw (le-leb least n low, le-leb n (least + slop) up) refl

-- the positions that were passed are in no window from a least one on
pub window_kept : (slop low window distance least old new : ℕ) (positions : List ℕ) → PassesBelow positions least old new → least ≡ low + distance - BEFORE_TEXT → low ≤ window
    → is_near slop BEFORE_TEXT window distance (drop new positions) ≡ is_near slop BEFORE_TEXT window distance (drop old positions)
window_kept slop low window distance least old new positions passed place up =
    passed (λ (p : ℕ). is_within slop (window + distance) (p + BEFORE_TEXT)) (λ p below. within_below slop (window + distance) (p + BEFORE_TEXT) (omega (arith, place, up, below)))

-- no position is left, so no window from the least one on has one
pub window_none : (slop low window distance least old new : ℕ) (positions : List ℕ) → PassesBelow positions least old new → least ≡ low + distance - BEFORE_TEXT → None ≡ slice_get positions new → low ≤ window
    → is_near slop BEFORE_TEXT window distance (drop old positions) ≡ false
window_none slop low window distance least old new positions passed place is up =
    sym (window_kept slop low window distance least old new positions passed place up) ∙ ap (is_near slop BEFORE_TEXT window distance) (all_passed positions new is)

-- the least window that has the next position
pub window_least : (slop low distance least old new p next : ℕ) (positions : List ℕ) → PassesBelow positions least old new → least ≡ low + distance - BEFORE_TEXT → IsNonDecreasing positions → Some p ≡ slice_get positions new → least ≤ p
    → next ≡ max low (p + BEFORE_TEXT - (distance + slop)) → IsRaised (λ (w : ℕ). is_near slop BEFORE_TEXT w distance (drop old positions)) low (Some next)
window_least slop low distance least old new p next positions passed place order is from raised =
    let here = get_or_from_slice_get positions new p 0 (sym is) in
    let inside = slice_get_within positions new p (sym is) in (
      omega (arith, raised),
      λ same.
          let has : is_within slop (low + distance) (p + BEFORE_TEXT) ≡ true = within_here slop (low + distance) (p + BEFORE_TEXT) (omega (arith, from, place)) (omega (arith, same, raised)) in
          sym (window_kept slop low low distance least old new positions passed place (omega arith)) ∙ ap (is_near slop BEFORE_TEXT low distance) (drop-cons positions new 0 inside) ∙ rw (here, has) refl,
      λ n up below.
          sym (window_kept slop low n distance least old new positions passed place up)
          ∙ none_after (λ (q : ℕ). is_within slop (n + distance) (q + BEFORE_TEXT)) positions new p order is (λ q above. within_above slop (n + distance) (q + BEFORE_TEXT) (omega (arith, raised, up, below, above))),
    )

-- a test raises a start, and then another test
pub raised_both : (f g : ℕ → Bool) (low window : ℕ) (found : Option ℕ) → IsRaised f low (Some window) → IsRaised g window found → IsRaised (λ (n : ℕ). f n && g n) low found
raised_both f g low window None first other = λ n up. elim (cases_lt n window) [
  | inl below ↦ rw (first.2 n up below) refl
  | inr above ↦ and_right (f n) (g n) (other n above)
]
raised_both f g low window (Some next) first other =
    let up = first.0 in
    let more = other.0 in (
      omega (arith, up, more),
      λ same.
          let still : window ≡ low = omega (arith, up, more, same) in
          let again : next ≡ window = omega (arith, up, more, same) in
          rw (first.1 still, subst (λ (n : ℕ). g n ≡ true) still (other.1 again)) refl,
      λ n from below. elim (cases_lt n window) [
        | inl lower ↦ rw (first.2 n from lower) refl
        | inr above ↦ and_right (f n) (g n) (other.2 n above below)
      ],
    )

-- tests that agree raise a start alike
pub raised_alike : (f g : ℕ → Bool) (low : ℕ) (found : Option ℕ) → ((n : ℕ) → f n ≡ g n) → IsRaised f low found → IsRaised g low found
raised_alike f g low None same raised = λ n up. sym (same n) ∙ raised n up
raised_alike f g low (Some next) same raised = (raised.0, λ is. sym (same low) ∙ raised.1 is, λ n up below. sym (same n) ∙ raised.2 n up below)

-- tests that stay as they were from a start on, and from a later one on, do so together
pub raised_keeps : (test f g h k : ℕ → Bool) (low window : ℕ) (found : Option ℕ) → low ≤ window → IsRaised test window found → ((n : ℕ) → low ≤ n → f n ≡ h n) → IfSome found (λ (next : ℕ). (n : ℕ) → next ≤ n → g n ≡ k n) → IfSome found (λ (next : ℕ). (n : ℕ) → next ≤ n → (f n && g n) ≡ (h n && k n))
raised_keeps test f g h k low window None up raised first other = tt
raised_keeps test f g h k low window (Some next) up raised first other = λ n above.
    let more = raised.0 in
    rw (first n (omega (arith, up, more, above)), other n above) refl

-- no test raises nothing
pub raised_first : (low : ℕ) → IsRaised (λ (n : ℕ). true) low (Some low)
raised_first low = (omega arith, λ same. refl, λ n up below. absurd (omega (arith, up, below)))

-- a first test finds nothing, so both find nothing
pub raised_left : (f g : ℕ → Bool) (low : ℕ) → IsRaised f low None → IsRaised (λ (n : ℕ). f n && g n) low None
raised_left f g low raised = λ n up. rw (raised n up) refl

-- the first terms and the next one
pub front_more : {X : Type 0} (test : X → Bool) (xs : List X) (i : ℕ) (x : X) → i < length xs → x ≡ get_or xs i x → (list_all test (take i xs) && test x) ≡ list_all test (take (i + 1) xs)
front_more test xs i x inside is = ap (λ y. list_all test (take i xs) && test y) is ∙ sym (list_all_more test xs i x inside)

-- terms of which the first ones fail
pub front_fails : {X : Type 0} (test : X → Bool) (n : ℕ) (xs : List X) → list_all test (take n xs) ≡ false → list_all test xs ≡ false
front_fails test zero xs fails = absurd (let wrong : true ≡ false = fails in cc)
front_fails test (suc n) [] fails = fails
front_fails test (suc n) (x ∷ xs) fails = by (test x) refl (front_fails test n xs)
  where
    by : (b : Bool) → test x ≡ b → (list_all test (take n xs) ≡ false → list_all test xs ≡ false) → list_all test (x ∷ xs) ≡ false
    by true is later = let rest : list_all test (take n xs) ≡ false = rw is at fails in rw is (later rest)
    by false is later = rw is refl

-- terms of which nothing was read
pub unread_window : {P : Type 0} (slop window : ℕ) (ts : List (PhraseTermState P)) → AllByRecursion IsUnread ts → are_in_window slop ts window ≡ parts_pass (is_near slop BEFORE_TEXT window) (parts_in ts)
unread_window slop window ts all = unread_pass (is_near slop BEFORE_TEXT window) ts all
