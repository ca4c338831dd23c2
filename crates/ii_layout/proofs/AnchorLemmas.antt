-- How the places of blocks are found: the widths of a stride are summed, and each sum is an anchor.
use Rattle.std.proofs.Common.{◌≡◌, ℕ, zero, suc, ◌+◌, ◌-◌, ◌*◌, ◌<◌, ◌≤◌, Bool, true, false, ◌&&◌, List, length, take, drop, get_or, set, is_some, ◌⊎◌, inl, inr, nat_le, Option, Some, None, IfSome, refl, sym, ap, ◌∙◌, arith}
use Rattle.std.proofs.Math.Nat.{mul-le-mul_right, lt_of_mul-lt-mul_right}
use Rattle.std.proofs.Math.Seq.{take-add}
use Rattle.std.proofs.lemmas.Bool.{and_cases, cases_Bool, cases_lt, leb-true, leb-false}
use Rattle.std.proofs.lemmas.List.{get_or-drop, get_or-take, get_or-set_same, get_or-set_other, length-drop, length-take-le, length-set}
use Rattle.std.proofs.lemmas.List.Folds.{list_all_at, list_all_more}
use Rattle.std.proofs.lemmas.Option.{IfSome_then}
use Rattle.std.specs.List.{list_all, sum}
use Rattle.ii_layout.specs.Each.{each}
use Rattle.ii_layout.specs.Positions.{place_by_widths, block_deltas}
use Rattle.ii_layout.specs.PositionReader.{AreAnchors, is_width}
use Rattle.ii_layout.proofs.PositionLemmas.{place_more, each_more, block_there, wide_none, short_none}
use Rattle.ii_layout.proofs.PositionSums.{sum-append}

-- where a range of blocks ends
place_after : (widths : List ℕ) (first n : ℕ) → place_by_widths widths (first + n) ≡ place_by_widths widths first + 16 * sum (take n (drop first widths))
place_after widths first n =
    let cut = ap sum (take-add first n widths) ∙ sum-append (take first widths) (take n (drop first widths)) in
    omega (arith, cut)

no_more : (n : ℕ) → n + 0 ≡ n
no_more n = omega arith

-- each block of some that are there
blocks_there : (widths body : List ℕ) (first n : ℕ) → is_some (each (block_deltas (record { widths = widths; body = body })) first) ≡ true → first + n ≤ length widths
    → ((k : ℕ) → k < n → get_or widths (first + k) 0 ≤ 32) → place_by_widths widths (first + n) ≤ length body → is_some (each (block_deltas (record { widths = widths; body = body })) (first + n)) ≡ true
blocks_there widths body first zero found inside narrow fits = rw (no_more first) found
blocks_there widths body first (suc n) found inside narrow fits =
    let next : first + suc n ≡ first + n + 1 = omega arith in
    let more = place_more widths (first + n) (omega arith) in
    let end = ap (place_by_widths widths) next in
    let earlier = blocks_there widths body first n found (omega arith) (λ k h. narrow k (omega arith)) (omega arith) in
    let one = block_there widths body (place_by_widths widths (first + n)) (first + n) refl (narrow n (omega arith)) (omega arith) in
    rw next (each_more (block_deltas (record { widths = widths; body = body })) (first + n) _ one earlier)

-- the first of them that the body doesn't have
blocks_short : (widths body : List ℕ) (first n : ℕ) → place_by_widths widths first ≤ length body → first + n ≤ length widths → ((k : ℕ) → k < n → get_or widths (first + k) 0 ≤ 32)
    → length body < place_by_widths widths (first + n) → false ≡ is_some (each (block_deltas (record { widths = widths; body = body })) (length widths))
blocks_short widths body first zero within inside narrow short = let same = ap (place_by_widths widths) (no_more first) in absurd (omega arith)
blocks_short widths body first (suc n) within inside narrow short =
    by (cases_lt (length body) (place_by_widths widths (first + n))) (λ before. blocks_short widths body first n within (omega arith) (λ k h. narrow k (omega arith)) before)
  where
    next : first + suc n ≡ first + n + 1
    next = omega arith

    by : (length body < place_by_widths widths (first + n)) ⊎ (place_by_widths widths (first + n) ≤ length body)
        → (length body < place_by_widths widths (first + n) → false ≡ is_some (each (block_deltas (record { widths = widths; body = body })) (length widths)))
        → false ≡ is_some (each (block_deltas (record { widths = widths; body = body })) (length widths))
    by (inl before) earlier = earlier before
    by (inr here) earlier =
        let more = place_more widths (first + n) (omega arith) in
        let end = ap (place_by_widths widths) next in
        short_none widths body (place_by_widths widths (first + n)) (first + n) (16 * get_or widths (first + n) 0) (omega arith) refl (narrow n (omega arith)) refl (omega arith)

-- a width that is too large, in a range of blocks
blocks_wide : (widths body : List ℕ) (first n : ℕ) → first + n ≤ length widths → list_all is_width (take n (drop first widths)) ≡ false
    → false ≡ is_some (each (block_deltas (record { widths = widths; body = body })) (length widths))
blocks_wide widths body first zero inside wide = absurd (cc)
blocks_wide widths body first (suc n) inside wide =
    by (and_cases (list_all is_width (take n (drop first widths))) (is_width (get_or (drop first widths) n 0)) (sym (list_all_more is_width (drop first widths) n 0 (omega (arith, length-drop first widths))) ∙ ap (λ (m : ℕ). list_all is_width (take m (drop first widths))) one ∙ wide)) (λ before. blocks_wide widths body first n (omega arith) before)
  where
    one : n + 1 ≡ suc n
    one = omega arith

    by : (list_all is_width (take n (drop first widths)) ≡ false) ⊎ (is_width (get_or (drop first widths) n 0) ≡ false)
        → (list_all is_width (take n (drop first widths)) ≡ false → false ≡ is_some (each (block_deltas (record { widths = widths; body = body })) (length widths)))
        → false ≡ is_some (each (block_deltas (record { widths = widths; body = body })) (length widths))
    by (inl before) earlier = earlier before
    by (inr here) earlier = wide_none widths body (first + n) (omega arith) (omega (arith, leb-false (get_or (drop first widths) n 0) 32 here, get_or-drop first widths n 0))

-- widths that are all small
narrow_at : (widths : List ℕ) (first n : ℕ) → first + n ≤ length widths → list_all is_width (take n (drop first widths)) ≡ true → (k : ℕ) → k < n → get_or widths (first + k) 0 ≤ 32
narrow_at widths first n inside narrow k h = by (is_width (get_or widths (first + k) 0)) refl
  where
    at : get_or (take n (drop first widths)) k 0 ≡ get_or widths (first + k) 0
    at = get_or-take n (drop first widths) k 0 h ∙ get_or-drop first widths k 0

    by : (t : Bool) → is_width (get_or widths (first + k) 0) ≡ t → get_or widths (first + k) 0 ≤ 32
    by true test = leb-true (get_or widths (first + k) 0) 32 test
    by false test =
        let no = list_all_at is_width (take n (drop first widths)) k 0 (omega (arith, length-take-le n (drop first widths) (omega (arith, length-drop first widths)))) (ap is_width at ∙ test) in
        absurd (cc)

-- What a walk over strides has found: the blocks before one are there, and the place of each stride is kept.
pub record FindsBlocks (widths body : List ℕ) (stride : ℕ) (anchors : List ℕ) (place first anchor : ℕ) : Type 0 where
  pub many : length anchors ≡ 64
  pub first_is : first ≡ anchor * stride
  pub inside : first ≤ length widths
  pub place_is : place ≡ place_by_widths widths first
  pub within : place ≤ length body
  pub found : is_some (each (block_deltas (record { widths = widths; body = body })) first) ≡ true
  pub anchors_are : (k : ℕ) → k < anchor → get_or anchors k 0 ≡ place_by_widths widths (k * stride)

next_stride : (n stride : ℕ) → (n + 1) * stride ≡ n * stride + stride
next_stride n stride = omega arith

swapped : {A B : Type 0} → A ⊎ B → B ⊎ A
swapped (inl a) = inr a
swapped (inr b) = inl b

both : (x y : Bool) → true ≡ (x && y) → (x ≡ true) × (y ≡ true)
both true true e = (refl, refl)
both true false e = absurd (cc)
both false y e = absurd (cc)

module _ (widths body anchors : List ℕ) (stride place first anchor : ℕ) (f : FindsBlocks widths body stride anchors place first anchor) (low : length widths < 64 * stride) where
  pub few_anchors : anchor < 64
  few_anchors =
      let first_is = f.first_is in
      let inside = f.inside in
      lt_of_mul-lt-mul_right stride (omega arith)

  anchor_kept : (k : ℕ) → k < anchor + 1 → get_or (set anchors anchor place) k 0 ≡ place_by_widths widths (k * stride)
  anchor_kept k h = by (cases_lt k anchor)
    where
      by : (k < anchor) ⊎ (anchor ≤ k) → get_or (set anchors anchor place) k 0 ≡ place_by_widths widths (k * stride)
      by (inl before) = get_or-set_other anchors anchor k place 0 (λ same. absurd (omega (arith, same))) ∙ f.anchors_are k before
      by (inr from) =
          let here : k ≡ anchor = omega arith in
          let many = f.many in
          let few = few_anchors in
          ap (λ (i : ℕ). get_or (set anchors anchor place) i 0) here ∙ get_or-set_same anchors anchor place 0 (omega arith) ∙ f.place_is
          ∙ ap (place_by_widths widths) (f.first_is ∙ ap (λ (i : ℕ). i * stride) (sym here))

  -- a stride more
  pub finds_more : (end : ℕ) (piece new : List ℕ) → first + stride ≤ length widths → piece ≡ take stride (drop first widths) → true ≡ (list_all is_width piece && nat_le (place + 16 * sum piece) (length body))
      → end ≡ place + 16 * sum piece → new ≡ set anchors anchor place → FindsBlocks widths body stride new end (first + stride) (anchor + 1)
  finds_more end piece new inside piece_is fits end_is new_is =
      let two = both (list_all is_width piece) (nat_le (place + 16 * sum piece) (length body)) fits in
      let room = leb-true (place + 16 * sum piece) (length body) two.1 in
      let bits = ap sum piece_is in
      let after = place_after widths first stride in
      let place_is = f.place_is in
      let first_is = f.first_is in
      let narrow = narrow_at widths first stride inside (ap (list_all is_width) (sym piece_is) ∙ two.0) in
      record {
        many = ap length new_is ∙ length-set anchors anchor place ∙ f.many;
        first_is = ap (λ (i : ℕ). i + stride) first_is ∙ sym (next_stride anchor stride);
        inside = inside;
        place_is = omega arith;
        within = omega arith;
        found = blocks_there widths body first stride f.found inside narrow (omega arith);
        anchors_are = λ k h. ap (λ (xs : List ℕ). get_or xs k 0) new_is ∙ anchor_kept k h;
      }

  -- all blocks from one on, or one that isn't there
  pub piece_found : (t : Bool) (n : ℕ) (piece : List ℕ) → first + n ≤ length widths → piece ≡ take n (drop first widths) → t ≡ (list_all is_width piece && nat_le (place + 16 * sum piece) (length body))
      → (t ≡ true → is_some (each (block_deltas (record { widths = widths; body = body })) (first + n)) ≡ true) × (t ≡ false → false ≡ is_some (each (block_deltas (record { widths = widths; body = body })) (length widths)))
  piece_found t n piece inside piece_is fits = (there, none)
    where
      bits : sum piece ≡ sum (take n (drop first widths))
      bits = ap sum piece_is

      there : t ≡ true → is_some (each (block_deltas (record { widths = widths; body = body })) (first + n)) ≡ true
      there is =
          let two = both (list_all is_width piece) (nat_le (place + 16 * sum piece) (length body)) (sym is ∙ fits) in
          let room = leb-true (place + 16 * sum piece) (length body) two.1 in
          let after = place_after widths first n in
          let place_is = f.place_is in
          let cut = bits in
          blocks_there widths body first n f.found inside (narrow_at widths first n inside (ap (list_all is_width) (sym piece_is) ∙ two.0)) (omega arith)

      by : (list_all is_width piece ≡ true) ⊎ (list_all is_width piece ≡ false) → nat_le (place + 16 * sum piece) (length body) ≡ false ⊎ (list_all is_width piece ≡ false)
          → false ≡ is_some (each (block_deltas (record { widths = widths; body = body })) (length widths))
      by (inr wide) why = blocks_wide widths body first n inside (ap (list_all is_width) (sym piece_is) ∙ wide)
      by (inl narrow) (inr wide) = blocks_wide widths body first n inside (ap (list_all is_width) (sym piece_is) ∙ wide)
      by (inl narrow) (inl short) =
          let past = leb-false (place + 16 * sum piece) (length body) short in
          let after = place_after widths first n in
          let place_is = f.place_is in
          let within = f.within in
          let cut = bits in
          blocks_short widths body first n (omega arith) inside (narrow_at widths first n inside (ap (list_all is_width) (sym piece_is) ∙ narrow)) (omega arith)

      none : t ≡ false → false ≡ is_some (each (block_deltas (record { widths = widths; body = body })) (length widths))
      none isnt = by (cases_Bool (list_all is_width piece)) (swapped (and_cases (list_all is_width piece) (nat_le (place + 16 * sum piece) (length body)) (sym fits ∙ isnt)))

  -- what the last blocks, fewer than a stride, say about all of them
  pub last_found : (o : Option ℕ) (n : ℕ) (piece : List ℕ) → first + n ≡ length widths → piece ≡ take n (drop first widths) → is_some o ≡ (list_all is_width piece && nat_le (place + 16 * sum piece) (length body))
      → is_some o ≡ is_some (each (block_deltas (record { widths = widths; body = body })) (length widths))
  last_found None n piece all piece_is fits = (piece_found false n piece (omega arith) piece_is fits).1 refl
  last_found (Some end) n piece all piece_is fits = sym (rw all at (piece_found true n piece (omega arith) piece_is fits).0 refl)

  pub last_end : (o : Option ℕ) (n : ℕ) (piece : List ℕ) → first + n ≡ length widths → piece ≡ take n (drop first widths) → IfSome o (λ end. end ≡ place + 16 * sum piece)
      → IfSome o (λ end. end ≡ place_by_widths widths (length widths))
  last_end o n piece all piece_is ends = IfSome_then o ends (λ end end_is.
      let place_is = f.place_is in
      let after = place_after widths first n in
      let whole = ap (place_by_widths widths) all in
      let bits = ap sum piece_is in
      omega arith)

  -- each anchor, once less than a stride is left
  pub anchors_all : length widths - first < stride → AreAnchors widths stride (length widths) (set anchors anchor place)
  anchors_all short k h = by (cases_lt k (anchor + 1))
    where
      by : (k < anchor + 1) ⊎ (anchor + 1 ≤ k) → get_or (set anchors anchor place) k 0 ≡ place_by_widths widths (k * stride)
      by (inl before) = anchor_kept k before
      by (inr past) =
          let far = mul-le-mul_right stride past in
          let next = next_stride anchor stride in
          let first_is = f.first_is in
          let inside = f.inside in
          absurd (omega arith)
