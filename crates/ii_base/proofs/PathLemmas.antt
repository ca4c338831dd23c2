-- A path grows by a segment, and is cut at the starts of its segments.
use Rattle.std.proofs.Common.{◌≡◌, ℕ, suc, ◌+◌, ◌-◌, ◌<◌, ◌≤◌, Bool, not, List, [], ◌∷◌, ◌++◌, length, length-append, append_assoc, take, get_or, refl, sym, ap, subst, arith, ◌∙◌, ◌==◌}
use mir.Val.{bool_byte}
use Rattle.std.specs.List.{slice_index, slice_range}
use Rattle.std.proofs.Math.Seq.{take-append_seam, drop-append_seam}
use Rattle.std.proofs.lemmas.Bool.{ne_eqb}
use Rattle.std.proofs.lemmas.List.{take_more, take_all, same_from_push, get_or-append-add}
use Rattle.ii_base.specs.Paths.{IsPathOf, behind_separator, cut_at, joined_segments, segment_starts}

-- a segment after these
abbrev pub separated : List (List ℕ) → List ℕ → List ℕ
separated [] s = s
separated (x ∷ xs) s = 1 ∷ s

-- where it begins
abbrev pub place_after : List (List ℕ) → ℕ
place_after [] = 0
place_after (x ∷ xs) = length (joined_segments (x ∷ xs)) + 1

pub joined-more : (ss : List (List ℕ)) (s : List ℕ) → joined_segments (ss ++ s ∷ []) ≡ joined_segments ss ++ separated ss s
joined-more [] s = refl
joined-more (x ∷ []) s = refl
joined-more (x ∷ y ∷ ss) s =
    ap (λ (l : List ℕ). x ++ (1 ∷ l)) (joined-more (y ∷ ss) s) ∙ sym (append_assoc x (1 ∷ joined_segments (y ∷ ss)) (1 ∷ s))

pub starts-more : (n : ℕ) (ss : List (List ℕ)) (s : List ℕ) → segment_starts n (ss ++ s ∷ []) ≡ segment_starts n ss ++ (n + place_after ss) ∷ []
starts-more n [] s = ap (λ (k : ℕ). k ∷ []) (omega arith)
starts-more n (x ∷ []) s = ap (λ (k : ℕ). n ∷ k ∷ []) (omega arith)
starts-more n (x ∷ y ∷ ss) s =
    let len = length-append x (1 ∷ joined_segments (y ∷ ss)) in
    ap (λ (l : List ℕ). n ∷ l) (starts-more (n + length x + 1) (y ∷ ss) s)
    ∙ ap (λ (k : ℕ). n ∷ (segment_starts (n + length x + 1) (y ∷ ss) ++ k ∷ [])) (omega (arith, len))

first_cut : (front s rest : List ℕ) (start end : ℕ) → start ≡ length front → end ≡ start + length s → slice_range (front ++ (s ++ rest)) start end ≡ s
first_cut front s rest start end from to =
    let len : end - start ≡ length s = omega (arith, to) in
    rw (len, from, drop-append_seam front (s ++ rest)) (take-append_seam s rest)

two_equal : {x y : List ℕ} → {xs ys : List (List ℕ)} → x ≡ y → xs ≡ ys → x ∷ xs ≡ y ∷ ys
two_equal p q = cc

-- the segments are found again
cut_behind : (front : List ℕ) (ss : List (List ℕ)) (n : ℕ) → n ≡ length front → cut_at (front ++ joined_segments ss) (segment_starts n ss) ≡ ss
cut_behind front [] n place = refl
cut_behind front (s ∷ []) n place = rw place (ap (λ (l : List ℕ). l ∷ []) (drop-append_seam front s))
cut_behind front (s ∷ t ∷ ss) n place =
    let longer : n + length s + 1 ≡ length (front ++ (s ++ 1 ∷ [])) = omega (arith, place, length-append front (s ++ 1 ∷ []), length-append s (1 ∷ [])) in
    let more = cut_behind (front ++ (s ++ 1 ∷ [])) (t ∷ ss) (n + length s + 1) longer in
    let whole : (front ++ (s ++ 1 ∷ [])) ++ joined_segments (t ∷ ss) ≡ front ++ (s ++ 1 ∷ joined_segments (t ∷ ss)) =
    append_assoc front (s ++ 1 ∷ []) (joined_segments (t ∷ ss)) ∙ ap (λ (l : List ℕ). front ++ l) (append_assoc s (1 ∷ []) (joined_segments (t ∷ ss)))
    in
    let first : slice_range (front ++ (s ++ 1 ∷ joined_segments (t ∷ ss))) n (n + length s + 1 - 1) ≡ s = first_cut front s (1 ∷ joined_segments (t ∷ ss)) n (n + length s + 1 - 1) place (omega arith) in
    two_equal first (ap (λ (p : List ℕ). cut_at p (segment_starts (n + length s + 1) (t ∷ ss))) (sym whole) ∙ more)

pub cut_is : (segments : List (List ℕ)) (path starts : List ℕ) → IsPathOf segments path starts → cut_at path starts ≡ segments
cut_is segments path starts is = rw (is.bytes, is.places) (cut_behind [] segments 0 refl)

pub cut_holds : (segments : List (List ℕ)) (path starts : List ℕ) → IsPathOf segments path starts → IsPathOf (cut_at path starts) path starts
cut_holds segments path starts is = subst (λ (ss : List (List ℕ)). IsPathOf ss path starts) (sym (cut_is segments path starts is)) is

-- what a push writes, by whether no segment begins yet
pub pushed : (segments : List (List ℕ)) (path starts s : List ℕ) (is_first : Bool) (start : ℕ) → IsPathOf segments path starts → is_first ≡ (length starts == 0) → start ≡ length path + bool_byte (not is_first) → IsPathOf (segments ++ s ∷ []) (path ++ behind_separator is_first s) (starts ++ start ∷ [])
pushed segments path starts s is_first start is first at =
    let none = first ∙ ap (λ (l : List ℕ). length l == 0) is.places in
    let here : start ≡ 0 + place_after segments = at ∙ ap (λ (l : List ℕ). length l + bool_byte (not is_first)) is.bytes ∙ ap (λ (b : Bool). length (joined_segments segments) + bool_byte (not b)) none ∙ place_is segments in
    record {
      bytes = rw is.bytes (ap (λ (b : Bool). joined_segments segments ++ behind_separator b s) none ∙ ap (λ (l : List ℕ). joined_segments segments ++ l) (separator_is segments s) ∙ sym (joined-more segments s));
      places = rw is.places (ap (λ (k : ℕ). segment_starts 0 segments ++ k ∷ []) here ∙ sym (starts-more 0 segments s));
    }
  where
    separator_is : (segments : List (List ℕ)) (s : List ℕ) → behind_separator (length (segment_starts 0 segments) == 0) s ≡ separated segments s
    separator_is [] s = refl
    separator_is (x ∷ xs) s = rw (ne_eqb (suc (length (segment_starts (0 + length x + 1) xs))) 0 (λ e. omega (arith, e))) refl

    place_is : (segments : List (List ℕ)) → length (joined_segments segments) + bool_byte (not (length (segment_starts 0 segments) == 0)) ≡ 0 + place_after segments
    place_is [] = refl
    place_is (x ∷ xs) = rw (ne_eqb (suc (length (segment_starts (0 + length x + 1) xs))) 0 (λ e. omega (arith, e))) (omega arith)

-- a list but for its last, and that
all_but_last : {X : Type 0} (xs : List X) (d : X) → 0 < length xs → xs ≡ take (length xs - 1) xs ++ get_or xs (length xs - 1) d ∷ []
all_but_last xs d some =
    let here : length xs - 1 + 1 ≡ length xs = omega (arith, some) in
    let more = take_more xs (length xs - 1) d (omega (arith, some)) in
    sym (take_all (length xs) xs (omega arith)) ∙ ap (λ (k : ℕ). take k xs) (sym here) ∙ more

some_segments : (segments : List (List ℕ)) (starts : List ℕ) (start : ℕ) → starts ++ start ∷ [] ≡ segment_starts 0 segments → 0 < length segments
some_segments [] starts start e = absurd (omega (arith, ap length e, length-append starts (start ∷ [])))
some_segments (s ∷ ss) starts start e = omega arith

-- what is known of a path whose last segment begins at a place
pub record EndsAt (segments : List (List ℕ)) (path starts : List ℕ) (start : ℕ) (s : List ℕ) : Type 0 where
  pub bytes : path ≡ joined_segments segments ++ separated segments s
  pub starts_are : starts ≡ segment_starts 0 segments
  pub start_is : start ≡ place_after segments

pub ends_at : (segments : List (List ℕ)) (path all starts : List ℕ) (start : ℕ) → IsPathOf segments path all → all ≡ starts ++ start ∷ [] → EndsAt (take (length segments - 1) segments) path starts start (get_or segments (length segments - 1) [])
ends_at segments path all starts start is e =
    let found = sym e ∙ is.places in
    let parts = all_but_last segments [] (some_segments segments starts start found) in
    let before = take (length segments - 1) segments in
    let s = get_or segments (length segments - 1) [] in
    let places : starts ++ start ∷ [] ≡ segment_starts 0 before ++ (0 + place_after before) ∷ [] = found ∙ ap (segment_starts 0) parts ∙ starts-more 0 before s in
    let same = same_from_push starts (segment_starts 0 before) start (0 + place_after before) places in
    let last : start ≡ 0 + place_after before = same.1 in
    record {
      bytes = is.bytes ∙ ap joined_segments parts ∙ joined-more before s;
      starts_are = same.0;
      start_is = omega (arith, last);
    }

front_of : (segments : List (List ℕ)) (s : List ℕ) → take (place_after segments - 1) (joined_segments segments ++ separated segments s) ≡ joined_segments segments
front_of [] s =
    let none : 0 - 1 ≡ 0 = omega arith in
    ap (λ (k : ℕ). take k s) none
front_of (x ∷ xs) s =
    let len : length (joined_segments (x ∷ xs)) + 1 - 1 ≡ length (joined_segments (x ∷ xs)) = omega arith in
    rw len (take-append_seam (joined_segments (x ∷ xs)) (1 ∷ s))

pub popped : (segments : List (List ℕ)) (path starts : List ℕ) (start : ℕ) (s : List ℕ) → EndsAt segments path starts start s → IsPathOf segments (take (start - 1) path) starts
popped segments path starts start s is = record {
  bytes = ap (λ (k : ℕ). take (k - 1) path) is.start_is ∙ ap (take (place_after segments - 1)) is.bytes ∙ front_of segments s;
  places = is.starts_are;
}

-- a path may be cut before what parts two segments
no_place : 0 < 0 - 1 → ⊥
no_place some = omega (arith, some)

part_at : (segments : List (List ℕ)) (s : List ℕ) → 0 < place_after segments - 1 → slice_index (joined_segments segments ++ separated segments s) (place_after segments - 1) ≡ 1
part_at [] s some = absurd (no_place some)
part_at (x ∷ xs) s some =
    let len : length (joined_segments (x ∷ xs)) + 1 - 1 ≡ length (joined_segments (x ∷ xs)) + 0 = omega arith in
    rw len (get_or-append-add (joined_segments (x ∷ xs)) (1 ∷ s) 0 0)

pub part_before : (segments : List (List ℕ)) (path starts : List ℕ) (start : ℕ) (s : List ℕ) → EndsAt segments path starts start s → 0 < start - 1 → slice_index path (start - 1) ≡ 1
part_before segments path starts start s is some =
    let same = is.start_is in
    ap (λ (k : ℕ). slice_index path (k - 1)) is.start_is ∙ ap (λ (l : List ℕ). slice_index l (place_after segments - 1)) is.bytes ∙ part_at segments s (omega (arith, some, same))

place_within : (segments : List (List ℕ)) (s : List ℕ) → place_after segments - 1 ≤ length (joined_segments segments ++ separated segments s)
place_within [] s = omega arith
place_within (x ∷ xs) s = omega (arith, length-append (joined_segments (x ∷ xs)) (1 ∷ s))

pub may_be_cut : (segments : List (List ℕ)) (path starts : List ℕ) (start : ℕ) (s : List ℕ) (n : ℕ) → EndsAt segments path starts start s → n ≡ start - 1 → (n ≤ length path) × (0 < n → n < length path → 128 ≤ slice_index path n → 192 ≤ slice_index path n)
may_be_cut segments path starts start s n is place =
    let len = ap length is.bytes in
    let same = is.start_is in
    let within = place_within segments s in (
      omega (arith, len, within, same, place),
      λ some less high.
          let low : slice_index path n ≡ 1 = ap (slice_index path) place ∙ part_before segments path starts start s is (omega (arith, some, place)) in
          absurd (omega (arith, low, high)),
    )
