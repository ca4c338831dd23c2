-- Laws of lanes of 32 bits: entries of a block, four at a time.
use Rattle.std.proofs.Common.{◌≡◌, ℕ, zero, suc, ◌+◌, ◌-◌, ◌*◌, ◌/◌, ◌%◌, ◌^◌, ◌<◌, ◌≤◌, Bool, false, List, [], ◌∷◌, ◌++◌, length, take, drop, get_or, replicate, refl, sym, ap, ◌∙◌, arith, cond, append_assoc}
use lib.Dec.{leb}
use lib.Lanes.{chunk, number_l, digits_l}
use mir.Syntax.{w8}
use Rattle.std.proofs.Math.Pow.{pow_mono}
use Rattle.std.proofs.lemmas.Bool.{lt-leb}
use Rattle.std.proofs.lemmas.List.{get_or-drop, drop_more, drop_all, take_all, append-nil, drop-map, map-append, length-map}
use Rattle.std.proofs.lemmas.Simd.{swz_l, get_or_wider}
use Rattle.ii_codes.specs.Packed.{bits_in, unpacked}
use Rattle.ii_codes.specs.Blocks.{values_from, raised}
use Rattle.ii_codes.proofs.PackedLemmas.{bits_in-lt}
use Rattle.ii_codes.proofs.PackedLaws.{length-unpacked, get_or-unpacked}
use Rattle.ii_codes.proofs.PrefixLemmas.{wrapped_from}
use Rattle.ii_codes.proofs.WindowLemmas.{little_bits}
use Rattle.ii_codes.proofs.LaneLemmas.{after, block_eight, cons_same, eight_same, chosen_small, lane_cut, loaded, taken_small, wrapped_same}
use Rattle.ii_codes.proofs.PairLemmas.{four_same}

quad_value : (b c d e : Bool) (x y z u : ℕ) {v w s t : ℕ} → b ≡ false → c ≡ false → d ≡ false → e ≡ false → x ≡ v → y ≡ w → z ≡ s → u ≡ t
    → cond b 0 x + 256 * (cond c 0 y + 256 * (cond d 0 z + 256 * (cond e 0 u + 256 * 0))) ≡ v + 256 * (w + 256 * (s + 256 * (t + 256 * 0)))
quad_value b c d e x y z u f g h i j k l m = rw (f, g, h, i, j, k, l, m) refl

-- four bytes that are chosen, as a number
quad : (row : List ℕ) (at p : ℕ) → ((k : ℕ) → get_or row k 0 < 256) → p ≤ 12
    → cond (leb 128 p) 0 (get_or (chunk 0 16 (take (at + 16 - at) (drop at row))) (0 + p) 0) + 256 * (cond (leb 128 (p + 1)) 0 (get_or (chunk 0 16 (take (at + 16 - at) (drop at row))) (0 + (p + 1)) 0) + 256 * (cond (leb 128 (p + 2)) 0 (get_or (chunk 0 16 (take (at + 16 - at) (drop at row))) (0 + (p + 2)) 0) + 256 * (cond (leb 128 (p + 3)) 0 (get_or (chunk 0 16 (take (at + 16 - at) (drop at row))) (0 + (p + 3)) 0) + 256 * 0)))
    ≡ bits_in 8 row ((at + p) * 8) 32
quad row at p h near =
    let one : at + (p + 1) ≡ suc (at + p) = omega arith in
    let two : at + (p + 2) ≡ suc (suc (at + p)) = omega arith in
    let three : at + (p + 3) ≡ suc (suc (suc (at + p))) = omega arith in
    quad_value (leb 128 p) (leb 128 (p + 1)) (leb 128 (p + 2)) (leb 128 (p + 3)) _ _ _ _
    (lt-leb 128 p (omega arith)) (lt-leb 128 (p + 1) (omega arith)) (lt-leb 128 (p + 2) (omega arith)) (lt-leb 128 (p + 3) (omega arith))
    (loaded row at p (omega arith)) (loaded row at (p + 1) (omega arith) ∙ ap (λ (k : ℕ). get_or row k 0) one) (loaded row at (p + 2) (omega arith) ∙ ap (λ (k : ℕ). get_or row k 0) two) (loaded row at (p + 3) (omega arith) ∙ ap (λ (k : ℕ). get_or row k 0) three)
    ∙ little_bits row 4 (at + p) h

-- four times four bytes, as numbers
pub words_of : (row : List ℕ) (at b c d : ℕ) → ((k : ℕ) → get_or row k 0 < 256) → at + 16 ≤ length row → b ≤ 12 → c ≤ 12 → d ≤ 12
    → digits_l 4294967296 4 (number_l 256 (swz_l w8 16 (chunk 0 16 (take (at + 16 - at) (drop at row))) 0 (0 ∷ 1 ∷ 2 ∷ 3 ∷ b ∷ (b + 1) ∷ (b + 2) ∷ (b + 3) ∷ c ∷ (c + 1) ∷ (c + 2) ∷ (c + 3) ∷ d ∷ (d + 1) ∷ (d + 2) ∷ (d + 3) ∷ [])))
    ≡ bits_in 8 row (at * 8) 32 ∷ bits_in 8 row ((at + b) * 8) 32 ∷ bits_in 8 row ((at + c) * 8) 32 ∷ bits_in 8 row ((at + d) * 8) 32 ∷ []
words_of row at b c d small within nb nc nd =
    let v = chunk 0 16 (take (at + 16 - at) (drop at row)) in
    let js = 0 ∷ 1 ∷ 2 ∷ 3 ∷ b ∷ (b + 1) ∷ (b + 2) ∷ (b + 3) ∷ c ∷ (c + 1) ∷ (c + 2) ∷ (c + 3) ∷ d ∷ (d + 1) ∷ (d + 2) ∷ (d + 3) ∷ [] in
    let bytes : (k : ℕ) → get_or v k 0 < 256 = taken_small 16 (take (at + 16 - at) (drop at row)) (taken_small (at + 16 - at) (drop at row) (λ j. rw (get_or-drop at row j 0) (small (at + j)))) in
    let each = chosen_small v 0 js bytes in
    let here : at + 0 ≡ at = omega arith in
    four_same _ _ _ _
    (get_or_wider 256 4 4294967296 4 (swz_l w8 16 v 0 js) 0 refl each (omega arith) ∙ rw here at (quad row at 0 small (omega arith)))
    (get_or_wider 256 4 4294967296 4 (swz_l w8 16 v 0 js) 1 refl each (omega arith) ∙ quad row at b small nb)
    (get_or_wider 256 4 4294967296 4 (swz_l w8 16 v 0 js) 2 refl each (omega arith) ∙ quad row at c small nc)
    (get_or_wider 256 4 4294967296 4 (swz_l w8 16 v 0 js) 3 refl each (omega arith) ∙ quad row at d small nd)

-- the entry that begins at bit b from byte at on
wide_lane : (row : List ℕ) (at w b : ℕ) → 1 ≤ w → w ≤ 25 → bits_in 8 row ((at + b / 8) * 8) 32 * (1 * 2 ^ (32 - w - b % 8) % 4294967296) % 4294967296 / 2 ^ (32 - w) ≡ bits_in 8 row (at * 8 + b) w
wide_lane row at w b some narrow =
    let place : (at + b / 8) * 8 + b % 8 ≡ at * 8 + b = omega arith in
    lane_cut 32 row ((at + b / 8) * 8) w (b % 8) (bits_in 8 row ((at + b / 8) * 8) 32) refl some (omega arith) ∙ ap (λ (k : ℕ). bits_in 8 row k w) place

first_wide : (row : List ℕ) (at w first : ℕ) → 1 ≤ w → w ≤ 25 → first ≤ 4 → bits_in 8 row (at * 8) 32 * (1 * 2 ^ (32 - w - first) % 4294967296) % 4294967296 / 2 ^ (32 - w) ≡ bits_in 8 row (at * 8 + (first + 0 * w)) w
first_wide row at w first some narrow low =
    let place : at * 8 + first ≡ at * 8 + (first + 0 * w) = omega arith in
    lane_cut 32 row (at * 8) w first (bits_in 8 row (at * 8) 32) refl some (omega arith) ∙ ap (λ (k : ℕ). bits_in 8 row k w) place

pub four_of : (row : List ℕ) (at w first : ℕ) → 1 ≤ w → w ≤ 25 → first ≤ 4
    → (bits_in 8 row (at * 8) 32 * (1 * 2 ^ (32 - w - first) % 4294967296) % 4294967296 / 2 ^ (32 - w)) ∷ (bits_in 8 row ((at + (first + 1 * w) / 8) * 8) 32 * (1 * 2 ^ (32 - w - (first + 1 * w) % 8) % 4294967296) % 4294967296 / 2 ^ (32 - w)) ∷ (bits_in 8 row ((at + (first + 2 * w) / 8) * 8) 32 * (1 * 2 ^ (32 - w - (first + 2 * w) % 8) % 4294967296) % 4294967296 / 2 ^ (32 - w)) ∷ (bits_in 8 row ((at + (first + 3 * w) / 8) * 8) 32 * (1 * 2 ^ (32 - w - (first + 3 * w) % 8) % 4294967296) % 4294967296 / 2 ^ (32 - w)) ∷ []
    ≡ bits_in 8 row (at * 8 + (first + 0 * w)) w ∷ bits_in 8 row (at * 8 + (first + 1 * w)) w ∷ bits_in 8 row (at * 8 + (first + 2 * w)) w ∷ bits_in 8 row (at * 8 + (first + 3 * w)) w ∷ []
four_of row at w first some narrow low =
    four_same _ _ _ _ (first_wide row at w first some narrow low) (wide_lane row at w (first + 1 * w) some narrow) (wide_lane row at w (first + 2 * w) some narrow) (wide_lane row at w (first + 3 * w) some narrow)

abbrev plus : ℕ → ℕ → ℕ
plus x y = (x + y) % 4294967296

-- sums of four numbers and those before them
pub running_four_of : (a b c d gap : ℕ) → a ≤ 33554431 → b ≤ 33554431 → c ≤ 33554431 → d ≤ 33554431 → gap ≤ 1
    → plus (plus (plus a 0) 0) (1 * gap % 4294967296) ∷ plus (plus (plus b a) 0) (2 * gap % 4294967296) ∷ plus (plus (plus c b) (plus a 0)) (3 * gap % 4294967296) ∷ plus (plus (plus d c) (plus b a)) (4 * gap % 4294967296) ∷ []
    ≡ values_from gap gap (a ∷ b ∷ c ∷ d ∷ [])
running_four_of a b c d gap pa pb pc pd one = four_same _ _ _ _ (omega arith) (omega arith) (omega arith) (omega arith)

pub four_list : (xs : List ℕ) → length xs ≡ 4 → xs ≡ get_or xs 0 0 ∷ get_or xs 1 0 ∷ get_or xs 2 0 ∷ get_or xs 3 0 ∷ []
four_list [] many = absurd (omega arith)
four_list (a ∷ []) many = absurd (omega arith)
four_list (a ∷ b ∷ []) many = absurd (omega arith)
four_list (a ∷ b ∷ c ∷ []) many = absurd (omega arith)
four_list (a ∷ b ∷ c ∷ d ∷ []) many = refl
four_list (a ∷ b ∷ c ∷ d ∷ (e ∷ es)) many = absurd (omega arith)

wide_small : (row : List ℕ) (place w : ℕ) → w ≤ 25 → bits_in 8 row place w ≤ 33554431
wide_small row place w narrow =
    let small = bits_in-lt 8 row place w in
    let wide = pow_mono {i = w} {j = 25} narrow in
    omega arith

pub four_small : (row : List ℕ) (at w first : ℕ) → w ≤ 25 → (k : ℕ) → k < 4 → get_or (bits_in 8 row (at * 8 + (first + 0 * w)) w ∷ bits_in 8 row (at * 8 + (first + 1 * w)) w ∷ bits_in 8 row (at * 8 + (first + 2 * w)) w ∷ bits_in 8 row (at * 8 + (first + 3 * w)) w ∷ []) k 0 ≤ 33554431
four_small row at w first narrow zero h = wide_small row (at * 8 + (first + 0 * w)) w narrow
four_small row at w first narrow (suc zero) h = wide_small row (at * 8 + (first + 1 * w)) w narrow
four_small row at w first narrow (suc (suc zero)) h = wide_small row (at * 8 + (first + 2 * w)) w narrow
four_small row at w first narrow (suc (suc (suc zero))) h = wide_small row (at * 8 + (first + 3 * w)) w narrow
four_small row at w first narrow (suc (suc (suc (suc k)))) h = absurd (omega arith)

four_wrapped : (b gap e0 e1 e2 e3 : ℕ) (rest : List ℕ)
    → after b (values_from gap gap (e0 ∷ e1 ∷ e2 ∷ e3 ∷ [])) ++ wrapped_from gap (get_or (after b (values_from gap gap (e0 ∷ e1 ∷ e2 ∷ e3 ∷ []))) 3 0 + gap) rest
    ≡ wrapped_from gap (b + gap) (e0 ∷ e1 ∷ e2 ∷ e3 ∷ rest)
four_wrapped b gap e0 e1 e2 e3 rest =
    cons_same (omega arith) (cons_same (omega arith) (cons_same (omega arith) (cons_same (omega arith) (wrapped_same gap _ _ rest (omega arith)))))

-- What a loop knows that has k values in its output, of which `before` holds the last one four times.
pub record IsSummingFours (gap least k : ℕ) (es out before : List ℕ) : Type 0 where
  pub lanes : before ≡ replicate 4 (get_or before 0 0)
  pub values : take k out ++ wrapped_from gap (get_or before 0 0 + gap) (drop k es) ≡ wrapped_from gap least es

pub fours-first : (gap least : ℕ) (es out : List ℕ) → gap ≤ 1 → least < 2 ^ 32 + gap → IsSummingFours gap least 0 es out (replicate 4 ((4294967296 + least - gap) % 4294967296))
fours-first gap least es out g l = record {
  lanes = refl;
  values = wrapped_same gap ((4294967296 + least - gap) % 4294967296 + gap) least es (omega arith);
}

pub fours-more : (gap least k b e0 e1 e2 e3 : ℕ) (es out new : List ℕ) → take k out ++ wrapped_from gap (b + gap) (drop k es) ≡ wrapped_from gap least es → drop k es ≡ e0 ∷ e1 ∷ e2 ∷ e3 ∷ drop (k + 4) es
    → take (k + 4) new ≡ take k out ++ after b (values_from gap gap (e0 ∷ e1 ∷ e2 ∷ e3 ∷ []))
    → IsSummingFours gap least (k + 4) es new (replicate 4 (get_or (after b (values_from gap gap (e0 ∷ e1 ∷ e2 ∷ e3 ∷ []))) 3 0))
fours-more gap least k b e0 e1 e2 e3 es out new h here written =
    let vs = after b (values_from gap gap (e0 ∷ e1 ∷ e2 ∷ e3 ∷ [])) in
    let so_far = rw here at h in
    record {
      lanes = refl;
      values = rw written (append_assoc (take k out) vs (wrapped_from gap (get_or vs 3 0 + gap) (drop (k + 4) es))
          ∙ ap (λ (xs : List ℕ). take k out ++ xs) (four_wrapped b gap e0 e1 e2 e3 (drop (k + 4) es)) ∙ so_far);
    }

-- four entries of a list
drop_four : (es : List ℕ) (k : ℕ) → k + 4 ≤ length es → drop k es ≡ get_or es k 0 ∷ get_or es (k + 1) 0 ∷ get_or es (k + 2) 0 ∷ get_or es (k + 3) 0 ∷ drop (k + 4) es
drop_four es k within =
    let d0 = drop_more es k 0 (omega arith) in
    let d1 = drop_more es (k + 1) 0 (omega arith) in
    let d2 = drop_more es (k + 2) 0 (omega arith) in
    let d3 = drop_more es (k + 3) 0 (omega arith) in
    let p1 : k + 1 + 1 ≡ k + 2 = omega arith in
    let p2 : k + 2 + 1 ≡ k + 3 = omega arith in
    let p3 : k + 3 + 1 ≡ k + 4 = omega arith in
    d0 ∙ ap (λ (xs : List ℕ). get_or es k 0 ∷ xs) (rw p1 at d1) ∙ ap (λ (xs : List ℕ). get_or es k 0 ∷ get_or es (k + 1) 0 ∷ xs) (rw p2 at d2) ∙ ap (λ (xs : List ℕ). get_or es k 0 ∷ get_or es (k + 1) 0 ∷ get_or es (k + 2) 0 ∷ xs) (rw p3 at d3)

entry_from : (w k j at first : ℕ) (bytes : List ℕ) → k + j < 128 → at * 8 + first ≡ k * w → get_or (unpacked w bytes) (k + j) 0 ≡ bits_in 8 bytes (at * 8 + (first + j * w)) w
entry_from w k j at first bytes few here =
    let place : (k + j) * w ≡ at * 8 + (first + j * w) = omega (arith, here) in
    get_or-unpacked w (k + j) bytes few ∙ ap (λ (i : ℕ). bits_in 8 bytes i w) place

-- the four entries from a place on
pub block_four : (w k at first : ℕ) (bytes : List ℕ) → k + 4 ≤ 128 → at * 8 + first ≡ k * w → drop k (unpacked w bytes) ≡ bits_in 8 bytes (at * 8 + (first + 0 * w)) w ∷ bits_in 8 bytes (at * 8 + (first + 1 * w)) w ∷ bits_in 8 bytes (at * 8 + (first + 2 * w)) w ∷ bits_in 8 bytes (at * 8 + (first + 3 * w)) w ∷ drop (k + 4) (unpacked w bytes)
block_four w k at first bytes few here =
    let none : k ≡ k + 0 = omega arith in
    drop_four (unpacked w bytes) k (omega (arith, length-unpacked w bytes))
    ∙ cons_same (ap (λ (i : ℕ). get_or (unpacked w bytes) i 0) none ∙ entry_from w k 0 at first bytes (omega arith) here) (cons_same (entry_from w k 1 at first bytes (omega arith) here) (cons_same (entry_from w k 2 at first bytes (omega arith) here) (cons_same (entry_from w k 3 at first bytes (omega arith) here) refl)))

-- values more, in front of those to come
filling-more : (k n : ℕ) (es out new vs : List ℕ) → take k out ++ drop k es ≡ es → drop k es ≡ vs ++ drop (k + n) es → take (k + n) new ≡ take k out ++ vs → take (k + n) new ++ drop (k + n) es ≡ es
filling-more k n es out new vs h here written =
    rw written (append_assoc (take k out) vs (drop (k + n) es) ∙ ap (λ (xs : List ℕ). take k out ++ xs) (sym here) ∙ h)

pub filling-all : (k : ℕ) (es out : List ℕ) → take k out ++ drop k es ≡ es → length es ≤ k → length out ≤ k → out ≡ es
filling-all k es out h done full =
    let all = rw (drop_all k es done, take_all k out full, append-nil out) at h in
    all

-- entries of at most 25 bits that are raised
raise_lane : (row : List ℕ) (place w more : ℕ) → w ≤ 25 → more ≤ 1 → (bits_in 8 row place w + more) % 4294967296 ≡ bits_in 8 row place w + more
raise_lane row place w more narrow one =
    let small = bits_in-lt 8 row place w in
    let wide = pow_mono {i = w} {j = 25} narrow in
    omega arith

-- some entries of a list, raised
raised_more : (more k n : ℕ) (es vs : List ℕ) → drop k es ≡ vs ++ drop (k + n) es → drop k (raised more es) ≡ raised more vs ++ drop (k + n) (raised more es)
raised_more more k n es vs h =
    rw (drop-map (λ (e : ℕ). e + more) k es, drop-map (λ (e : ℕ). e + more) (k + n) es, h) (map-append (λ (e : ℕ). e + more) vs (drop (k + n) es))

raised_eight : (bytes : List ℕ) (g w more : ℕ) → w ≤ 25 → more ≤ 1
    → ((bits_in 8 bytes (g * w * 8 + 0 * w) w + more) % 4294967296) ∷ ((bits_in 8 bytes (g * w * 8 + 1 * w) w + more) % 4294967296) ∷ ((bits_in 8 bytes (g * w * 8 + 2 * w) w + more) % 4294967296) ∷ ((bits_in 8 bytes (g * w * 8 + 3 * w) w + more) % 4294967296) ∷ ((bits_in 8 bytes (g * w * 8 + 4 * w) w + more) % 4294967296) ∷ ((bits_in 8 bytes (g * w * 8 + 5 * w) w + more) % 4294967296) ∷ ((bits_in 8 bytes (g * w * 8 + 6 * w) w + more) % 4294967296) ∷ ((bits_in 8 bytes (g * w * 8 + 7 * w) w + more) % 4294967296) ∷ []
    ≡ raised more (bits_in 8 bytes (g * w * 8 + 0 * w) w ∷ bits_in 8 bytes (g * w * 8 + 1 * w) w ∷ bits_in 8 bytes (g * w * 8 + 2 * w) w ∷ bits_in 8 bytes (g * w * 8 + 3 * w) w ∷ bits_in 8 bytes (g * w * 8 + 4 * w) w ∷ bits_in 8 bytes (g * w * 8 + 5 * w) w ∷ bits_in 8 bytes (g * w * 8 + 6 * w) w ∷ bits_in 8 bytes (g * w * 8 + 7 * w) w ∷ [])
raised_eight bytes g w more narrow one =
    eight_same _ _ _ _ _ _ _ _ (raise_lane bytes (g * w * 8 + 0 * w) w more narrow one) (raise_lane bytes (g * w * 8 + 1 * w) w more narrow one) (raise_lane bytes (g * w * 8 + 2 * w) w more narrow one) (raise_lane bytes (g * w * 8 + 3 * w) w more narrow one) (raise_lane bytes (g * w * 8 + 4 * w) w more narrow one) (raise_lane bytes (g * w * 8 + 5 * w) w more narrow one) (raise_lane bytes (g * w * 8 + 6 * w) w more narrow one) (raise_lane bytes (g * w * 8 + 7 * w) w more narrow one)

-- the eight entries of a group are raised
pub raised_eight-more : (more w g : ℕ) (bytes out new : List ℕ) → g < 16 → w ≤ 25 → more ≤ 1 → take (8 * g) out ++ drop (8 * g) (raised more (unpacked w bytes)) ≡ raised more (unpacked w bytes)
    → take (8 * g + 8) new ≡ take (8 * g) out ++ (((bits_in 8 bytes (g * w * 8 + 0 * w) w + more) % 4294967296) ∷ ((bits_in 8 bytes (g * w * 8 + 1 * w) w + more) % 4294967296) ∷ ((bits_in 8 bytes (g * w * 8 + 2 * w) w + more) % 4294967296) ∷ ((bits_in 8 bytes (g * w * 8 + 3 * w) w + more) % 4294967296) ∷ ((bits_in 8 bytes (g * w * 8 + 4 * w) w + more) % 4294967296) ∷ ((bits_in 8 bytes (g * w * 8 + 5 * w) w + more) % 4294967296) ∷ ((bits_in 8 bytes (g * w * 8 + 6 * w) w + more) % 4294967296) ∷ ((bits_in 8 bytes (g * w * 8 + 7 * w) w + more) % 4294967296) ∷ [])
    → take (8 * g + 8) new ++ drop (8 * g + 8) (raised more (unpacked w bytes)) ≡ raised more (unpacked w bytes)
raised_eight-more more w g bytes out new few narrow one h written =
    let entries : List ℕ = bits_in 8 bytes (g * w * 8 + 0 * w) w ∷ bits_in 8 bytes (g * w * 8 + 1 * w) w ∷ bits_in 8 bytes (g * w * 8 + 2 * w) w ∷ bits_in 8 bytes (g * w * 8 + 3 * w) w ∷ bits_in 8 bytes (g * w * 8 + 4 * w) w ∷ bits_in 8 bytes (g * w * 8 + 5 * w) w ∷ bits_in 8 bytes (g * w * 8 + 6 * w) w ∷ bits_in 8 bytes (g * w * 8 + 7 * w) w ∷ [] in
    filling-more (8 * g) 8 (raised more (unpacked w bytes)) out new (raised more entries) h
    (raised_more more (8 * g) 8 (unpacked w bytes) entries (block_eight w g bytes few))
    (written ∙ ap (λ (xs : List ℕ). take (8 * g) out ++ xs) (raised_eight bytes g w more narrow one))

raised_four : (bytes : List ℕ) (at w first more : ℕ) → w ≤ 25 → more ≤ 1
    → ((bits_in 8 bytes (at * 8 + (first + 0 * w)) w + more) % 4294967296) ∷ ((bits_in 8 bytes (at * 8 + (first + 1 * w)) w + more) % 4294967296) ∷ ((bits_in 8 bytes (at * 8 + (first + 2 * w)) w + more) % 4294967296) ∷ ((bits_in 8 bytes (at * 8 + (first + 3 * w)) w + more) % 4294967296) ∷ []
    ≡ raised more (bits_in 8 bytes (at * 8 + (first + 0 * w)) w ∷ bits_in 8 bytes (at * 8 + (first + 1 * w)) w ∷ bits_in 8 bytes (at * 8 + (first + 2 * w)) w ∷ bits_in 8 bytes (at * 8 + (first + 3 * w)) w ∷ [])
raised_four bytes at w first more narrow one =
    cons_same (raise_lane bytes (at * 8 + (first + 0 * w)) w more narrow one) (cons_same (raise_lane bytes (at * 8 + (first + 1 * w)) w more narrow one) (cons_same (raise_lane bytes (at * 8 + (first + 2 * w)) w more narrow one) (cons_same (raise_lane bytes (at * 8 + (first + 3 * w)) w more narrow one) refl)))

-- four entries are raised
pub raised_four-more : (more w k at first : ℕ) (bytes out new : List ℕ) → k + 4 ≤ 128 → at * 8 + first ≡ k * w → w ≤ 25 → more ≤ 1 → take k out ++ drop k (raised more (unpacked w bytes)) ≡ raised more (unpacked w bytes)
    → take (k + 4) new ≡ take k out ++ (((bits_in 8 bytes (at * 8 + (first + 0 * w)) w + more) % 4294967296) ∷ ((bits_in 8 bytes (at * 8 + (first + 1 * w)) w + more) % 4294967296) ∷ ((bits_in 8 bytes (at * 8 + (first + 2 * w)) w + more) % 4294967296) ∷ ((bits_in 8 bytes (at * 8 + (first + 3 * w)) w + more) % 4294967296) ∷ [])
    → take (k + 4) new ++ drop (k + 4) (raised more (unpacked w bytes)) ≡ raised more (unpacked w bytes)
raised_four-more more w k at first bytes out new few here narrow one h written =
    let entries : List ℕ = bits_in 8 bytes (at * 8 + (first + 0 * w)) w ∷ bits_in 8 bytes (at * 8 + (first + 1 * w)) w ∷ bits_in 8 bytes (at * 8 + (first + 2 * w)) w ∷ bits_in 8 bytes (at * 8 + (first + 3 * w)) w ∷ [] in
    filling-more k 4 (raised more (unpacked w bytes)) out new (raised more entries) h
    (raised_more more k 4 (unpacked w bytes) entries (block_four w k at first bytes few here))
    (written ∙ ap (λ (xs : List ℕ). take k out ++ xs) (raised_four bytes at w first more narrow one))

pub length-raised : (more w : ℕ) (bytes : List ℕ) → length (raised more (unpacked w bytes)) ≡ 128
length-raised more w bytes = length-map (unpacked w bytes) (λ (e : ℕ). e + more) ∙ length-unpacked w bytes
