-- Invariants of reading and writing vints.
use Rattle.std.proofs.Common.{◌≡◌, ℕ, zero, suc, ◌+◌, ◌-◌, ◌*◌, ◌/◌, ◌%◌, ◌^◌, ◌<◌, ◌≤◌, List, [], ◌∷◌, ◌++◌, length, take, drop, Option, Some, None, nat_lt, refl, sym, ap, ◌∙◌, arith, get_or, set, add-one, append_assoc, ⊎_elim}
use Rattle.std.proofs.Math.Nat.{pow-suc, mul-le-mul_left, pow-le-pow_right}
use Rattle.std.proofs.Math.Seq.{drop-cons}
use Rattle.std.proofs.lemmas.List.{drop_all, drop-drop, drop-set-lt, take_more_set}
use Rattle.std.specs.Option.{option_map}
use Rattle.std.proofs.lemmas.Bool.{lt-ltb, le-ltb, cases_lt}
use Rattle.ii_io.specs.Steps.{◌>>=◌, needs}
use Rattle.ii_io.specs.StepLemmas.{some-same}
use Rattle.ii_io.specs.Vints.{groups_at, vint_at, u32_at, fewest_groups}

-- what a reader has gathered goes in front of what it reads on
abbrev pub gathered : ℕ → ℕ → Option (ℕ × List ℕ) → Option (ℕ × List ℕ)
gathered value place found = option_map (λ (f : ℕ × List ℕ). (value + place * f.0, f.1)) found

gathered_later : (v p b : ℕ) (o : Option (ℕ × List ℕ)) → gathered v p (o >>= λ later. Some (b % 128 + 128 * later.0, later.1)) ≡ gathered (v + b % 128 * p) (p * 128) o
gathered_later v p b None = refl
gathered_later v p b (Some (n, rest)) =
    let value : v + p * (b % 128 + 128 * n) ≡ v + b % 128 * p + p * 128 * n = omega arith in
    ap (λ (m : ℕ). Some (m, rest)) value

-- a group that is not the last
gathered-low : (v p b m : ℕ) (rest : List ℕ) → b < 128 → gathered v p (groups_at (suc m) (b ∷ rest)) ≡ gathered (v + b % 128 * p) (p * 128) (groups_at m rest)
gathered-low v p b m rest low = rw (lt-ltb b 128 low) (gathered_later v p b (groups_at m rest))

-- the last group
gathered-high : (v p b m : ℕ) (rest : List ℕ) → 128 ≤ b → gathered v p (groups_at (suc m) (b ∷ rest)) ≡ Some (v + b % 128 * p, rest)
gathered-high v p b m rest high =
    let value : v + p * (b % 128) ≡ v + b % 128 * p = omega arith in
    rw (le-ltb b 128 high, value) refl

gathered-nothing : (v p m : ℕ) → gathered v p (groups_at m []) ≡ None
gathered-nothing v p zero = refl
gathered-nothing v p (suc m) = refl

-- What a reader knows after i bytes, none of which was the last of a spelling.
pub record IsReading (most : ℕ) (bytes : List ℕ) (i value place : ℕ) : Type 0 where
  pub within : i ≤ most
  pub groups : groups_at most bytes ≡ gathered value place (groups_at (most - i) (drop i bytes))

reading_first : (most : ℕ) (bytes : List ℕ) (o : Option (ℕ × List ℕ)) → o ≡ gathered 0 1 o
reading_first most bytes None = refl
reading_first most bytes (Some (n, rest)) =
    let value : n ≡ 0 + 1 * n = omega arith in
    ap (λ (m : ℕ). Some (m, rest)) value

pub reading-first : (most : ℕ) (bytes : List ℕ) → IsReading most bytes 0 0 1
reading-first most bytes =
    let all : most - 0 ≡ most = omega arith in
    record { within = omega arith; groups = rw all (reading_first most bytes (groups_at most bytes)) }

-- what is read on from a byte that is there
reading_on : (most : ℕ) (bytes : List ℕ) (i value place b : ℕ) → IsReading most bytes i value place → i < most → i < length bytes → get_or bytes i 0 ≡ b
    → groups_at most bytes ≡ gathered value place (groups_at (suc (most - (i + 1))) (b ∷ drop (i + 1) bytes))
reading_on most bytes i value place b r few within e =
    let left : most - i ≡ suc (most - suc i) = omega arith in
    let known = rw (drop-cons bytes i 0 within, e, left) at r.groups in
    rw add-one known

pub reading-low : (most : ℕ) (bytes : List ℕ) (i value place b : ℕ) → IsReading most bytes i value place → i < most → i < length bytes → get_or bytes i 0 ≡ b → b < 128
    → IsReading most bytes (i + 1) (value + b % 128 * place) (place * 128)
reading-low most bytes i value place b r few within e low =
    record {
      within = omega arith;
      groups = reading_on most bytes i value place b r few within e ∙ gathered-low value place b (most - (i + 1)) (drop (i + 1) bytes) low;
    }

pub reading-high : (most : ℕ) (bytes : List ℕ) (i value place b : ℕ) → IsReading most bytes i value place → i < most → i < length bytes → get_or bytes i 0 ≡ b → 128 ≤ b
    → groups_at most bytes ≡ Some (value + b % 128 * place, drop (i + 1) bytes)
reading-high most bytes i value place b r few within e high =
    reading_on most bytes i value place b r few within e ∙ gathered-high value place b (most - (i + 1)) (drop (i + 1) bytes) high

-- neither more bytes nor more groups
pub reading-full : (most : ℕ) (bytes : List ℕ) (i value place : ℕ) → IsReading most bytes i value place → i ≡ most → groups_at most bytes ≡ None
reading-full most bytes i value place r e =
    let left : most - i ≡ 0 = omega arith in
    rw left at r.groups

pub reading-short : (most : ℕ) (bytes : List ℕ) (i value place : ℕ) → IsReading most bytes i value place → length bytes ≤ i → groups_at most bytes ≡ None
reading-short most bytes i value place r e =
    (rw (drop_all i bytes e) at r.groups) ∙ gathered-nothing value place (most - i)

-- what a reader answers: nothing, or the sum of the groups where it is below the limit
vint_at-none : (most limit : ℕ) (bytes : List ℕ) → groups_at most bytes ≡ None → None ≡ vint_at most limit bytes
vint_at-none most limit bytes e = rw e refl

vint_at-found : (most limit n : ℕ) (bytes rest : List ℕ) → groups_at most bytes ≡ Some (n, rest) → n < limit → Some (n, rest) ≡ vint_at most limit bytes
vint_at-found most limit n bytes rest e fits = rw (e, lt-ltb n limit fits) refl

vint_at-past : (most limit n : ℕ) (bytes rest : List ℕ) → groups_at most bytes ≡ Some (n, rest) → limit ≤ n → None ≡ vint_at most limit bytes
vint_at-past most limit n bytes rest e past = rw (e, le-ltb n limit past) refl

-- one more of the fewest groups
pub fewest_groups-more : (m k n : ℕ) → m ≡ suc k → 128 ≤ n → fewest_groups m n ≡ n % 128 ∷ fewest_groups k (n / 128)
fewest_groups-more m k n e high = rw (e, le-ltb n 128 high) refl

pub fewest_groups-last : (m n : ℕ) → n < 128 → fewest_groups m n ≡ (n + 128) ∷ []
fewest_groups-last zero n low = refl
fewest_groups-last (suc m) n low = rw (lt-ltb n 128 low) refl

-- What a writer of at most more + 1 groups knows that has written groups up to end, and has high left of the value.
pub record IsWriting (more : ℕ) (before after : List ℕ) (start end high value : ℕ) : Type 0 where
  pub forward : start ≤ end
  pub few : end ≤ start + more
  pub fits : high < 128 ^ suc (start + more - end)
  pub written : take end after ++ fewest_groups (start + more - end) high ≡ take start before ++ fewest_groups more value
  pub kept : drop end after ≡ drop end before

pub writing-first : (more : ℕ) (before : List ℕ) (start value : ℕ) → value < 128 ^ suc more → IsWriting more before before start start value value
writing-first more before start value h =
    let left : start + more - start ≡ more = omega arith in
    record { forward = omega arith; few = omega arith; fits = rw left h; written = rw left refl; kept = refl }

-- the bytes after a written byte are unchanged
kept_after : (before after : List ℕ) (end byte : ℕ) → drop end after ≡ drop end before → drop (end + 1) (set after end byte) ≡ drop (end + 1) before
kept_after before after end byte same =
    drop-set-lt (end + 1) after end byte (omega arith) ∙ sym (drop-drop 1 end after) ∙ ap (drop 1) same ∙ drop-drop 1 end before

-- a number of 128 and more takes a group that isn't the last
not_last : (m high : ℕ) → high < 128 ^ suc m → 128 ≤ high → (k : ℕ) × (m ≡ suc k)
not_last zero high fits large = absurd (omega arith)
not_last (suc k) high fits large = (k, refl)

pub writing-more : (more : ℕ) (before after new : List ℕ) (start end high value : ℕ) → IsWriting more before after start end high value → 128 ≤ high → end < length after
    → new ≡ set after end (high % 128) → IsWriting more before new start (end + 1) (high / 128) value
writing-more more before after new start end high value w large within e =
    let next = not_last (start + more - end) high w.fits large in
    let forward = w.forward in
    let some = next.1 in
    let left : start + more - (end + 1) ≡ next.0 = omega arith in
    let below = rw (next.1, pow-suc) at w.fits in
    let groups = ap (λ (k : ℕ). fewest_groups k high) next.1 ∙ fewest_groups-more (suc next.0) next.0 high refl large in
    let parts = append_assoc (take end after) (high % 128 ∷ []) (fewest_groups next.0 (high / 128)) in
    let put : take (end + 1) new ≡ take end after ++ high % 128 ∷ [] = rw e (take_more_set after end (high % 128) within) in
    record {
      forward = omega arith;
      few = omega arith;
      fits = rw left (omega arith);
      kept = rw e (kept_after before after end (high % 128) w.kept);
      written = rw (left, put) (parts ∙ sym (ap (λ (gs : List ℕ). take end after ++ gs) groups) ∙ w.written);
    }

pub writing-last : (more : ℕ) (before after new : List ℕ) (start end high value : ℕ) → IsWriting more before after start end high value → high < 128 → end < length after
    → new ≡ set after end (high + 128) → take (end + 1) new ≡ take start before ++ fewest_groups more value
writing-last more before after new start end high value w low within e =
    rw (e, take_more_set after end (high + 128) within) (sym (ap (λ (gs : List ℕ). take end after ++ gs) (fewest_groups-last (start + more - end) high low)) ∙ w.written)

pub writing-last-after : (more : ℕ) (before after new : List ℕ) (start end high value : ℕ) → IsWriting more before after start end high value → new ≡ set after end (high + 128) → drop (end + 1) new ≡ drop (end + 1) before
writing-last-after more before after new start end high value w e = rw e (kept_after before after end (high + 128) w.kept)

-- a value below its place, one group on
next_place : (value place b : ℕ) → value < place → value + b % 128 * place < place * 128
next_place value place b below =
    let group : b % 128 ≤ 127 = omega arith in
    let most = mul-le-mul_left place group in
    omega arith

-- What a reader of 64 bits knows after i bytes.
pub record IsReadingLong (most : ℕ) (bytes : List ℕ) (i value place : ℕ) : Type 0 where
  pub reading : IsReading most bytes i value place
  pub power : place ≡ 128 ^ i
  pub below : value < place

-- And at a byte that is there, one of at most ten.
pub record IsAtByte (most : ℕ) (bytes : List ℕ) (i value place b : ℕ) : Type 0 where
  pub known : IsReadingLong most bytes i value place
  pub ten : most ≤ 10
  pub left : i < most
  pub within : i < length bytes
  pub byte : get_or bytes i 0 ≡ b

module _ (most : ℕ) (bytes : List ℕ) (i value place b : ℕ) (at : IsAtByte most bytes i value place b) where
  -- nine groups fit 63 bits
  nine_fit : i < 9 → place * 128 ≤ 2 ^ 63
  nine_fit few =
      let power = at.known.power in
      let fits : 128 ^ i ≤ 128 ^ 8 = pow-le-pow_right {n = 128} (omega arith) {i = i} {j = 8} (omega arith) in
      omega arith

  -- the tenth byte is the last
  tenth : b < 128 → ¬ (i < 9) → None ≡ vint_at most (2 ^ 64) bytes
  tenth low more =
      let left = at.left in
      let ten = at.ten in
      let nine : 9 ≤ i = ⊎_elim (λ few. absurd (more few)) (λ nine. nine) (cases_lt i 9) in
      let next = reading-low most bytes i value place b at.known.reading at.left at.within at.byte low in
      vint_at-none most (2 ^ 64) bytes (reading-full most bytes (i + 1) (value + b % 128 * place) (place * 128) next (omega arith))

  -- a group that passes 64 bits
  pub group_past : ¬ (b % 128 * place < 2 ^ 64) → None ≡ vint_at most (2 ^ 64) bytes
  group_past past =
      let next = next_place value place b at.known.below in
      ⊎_elim
      (λ low. tenth low (λ few. let fits = nine_fit few in past (omega arith)))
      (λ high. vint_at-past most (2 ^ 64) (value + b % 128 * place) bytes (drop (i + 1) bytes) (reading-high most bytes i value place b at.known.reading at.left at.within at.byte high) (⊎_elim (λ fits. absurd (past (omega arith))) (λ large. large) (cases_lt (value + b % 128 * place) (2 ^ 64))))
      (cases_lt b 128)

  -- a place that passes 64 bits
  pub place_past : b < 128 → ¬ (place * 128 < 2 ^ 64) → None ≡ vint_at most (2 ^ 64) bytes
  place_past low past = tenth low (λ few. let fits = nine_fit few in past (omega arith))

  tenth_place : 9 ≤ i → place ≡ 2 ^ 63
  tenth_place nine =
      let left = at.left in
      let ten = at.ten in
      let last : i ≡ 9 = omega arith in
      rw last at at.known.power

  tenth_fits : place ≡ 2 ^ 63 → value < place → b % 128 * place < 2 ^ 64 → value + b % 128 * place < 2 ^ 64
  tenth_fits is below fits =
      let low = rw is at below in
      let group = rw is at fits in
      rw is (omega (arith, low, group))

  -- a group that fits 64 bits fits with those before it
  pub sum_fits : b % 128 * place < 2 ^ 64 → value + b % 128 * place < 2 ^ 64
  sum_fits fits =
      let below = at.known.below in
      let next = next_place value place b at.known.below in
      ⊎_elim (λ few. let fit = nine_fit few in omega arith) (λ nine. tenth_fits (tenth_place nine) below fits) (cases_lt i 9)

  -- the last byte
  pub last_read : 128 ≤ b → b % 128 * place < 2 ^ 64 → Some (value + b % 128 * place, drop (i + 1) bytes) ≡ vint_at most (2 ^ 64) bytes
  last_read high fits =
      vint_at-found most (2 ^ 64) (value + b % 128 * place) bytes (drop (i + 1) bytes) (reading-high most bytes i value place b at.known.reading at.left at.within at.byte high) (sum_fits fits)

  -- one that is not
  pub low_read : b < 128 → IsReadingLong most bytes (i + 1) (value + b % 128 * place) (place * 128)
  low_read low =
      let power = at.known.power in
      record {
        reading = reading-low most bytes i value place b at.known.reading at.left at.within at.byte low;
        power = rw (add-one, pow-suc) (omega arith);
        below = next_place value place b at.known.below;
      }

pub first_read : (most : ℕ) (bytes : List ℕ) → IsReadingLong most bytes 0 0 1
first_read most bytes = record { reading = reading-first most bytes; power = refl; below = omega arith }

pub all_read : (most : ℕ) (bytes : List ℕ) (i value place : ℕ) → IsReadingLong most bytes i value place → length bytes ≤ i → None ≡ vint_at most (2 ^ 64) bytes
all_read most bytes i value place known end = vint_at-none most (2 ^ 64) bytes (reading-short most bytes i value place known.reading end)

pub full_read : (most : ℕ) (bytes : List ℕ) (i value place : ℕ) → IsReadingLong most bytes i value place → i ≡ most → None ≡ vint_at most (2 ^ 64) bytes
full_read most bytes i value place known full = vint_at-none most (2 ^ 64) bytes (reading-full most bytes i value place known.reading full)

-- what is read below a limit, where it was read below a greater one
abbrev below_limit : ℕ → Option (ℕ × List ℕ) → Option (ℕ × List ℕ)
below_limit limit found = found >>= λ f. needs (nat_lt f.0 limit) >>= λ _. Some f

none_below : (big limit : ℕ) (found : Option (ℕ × List ℕ)) → limit ≤ big → None ≡ below_limit big found → None ≡ below_limit limit found
none_below big limit None less e = refl
none_below big limit (Some (n, rest)) less e =
    ⊎_elim (λ fits. absurd (let some = rw (lt-ltb n big fits) at e in cc)) (λ past. rw (le-ltb n limit (omega arith)) refl) (cases_lt n big)

some_below : (big limit n : ℕ) (rest : List ℕ) (found : Option (ℕ × List ℕ)) → n < limit → Some (n, rest) ≡ below_limit big found → Some (n, rest) ≡ below_limit limit found
some_below big limit n rest None fits e = absurd (cc)
some_below big limit n rest (Some (m, others)) fits e =
    ⊎_elim
    (λ below. let both = some-same (rw (lt-ltb m big below) at e) in let same : n ≡ m = ap (λ (f : ℕ × List ℕ). f.0) both in rw (lt-ltb m limit (rw same at fits)) (rw (lt-ltb m big below) at e))
    (λ past. absurd (let none = rw (le-ltb m big past) at e in cc))
    (cases_lt m big)

past_below : (big limit n : ℕ) (rest : List ℕ) (found : Option (ℕ × List ℕ)) → ¬ (n < limit) → Some (n, rest) ≡ below_limit big found → None ≡ below_limit limit found
past_below big limit n rest None past e = absurd (cc)
past_below big limit n rest (Some (m, others)) past e =
    ⊎_elim
    (λ below. let both = some-same (rw (lt-ltb m big below) at e) in let same : n ≡ m = ap (λ (f : ℕ × List ℕ). f.0) both in ⊎_elim (λ fits. absurd (past (rw same fits))) (λ large. rw (le-ltb m limit large) refl) (cases_lt m limit))
    (λ none. absurd (let none = rw (le-ltb m big none) at e in cc))
    (cases_lt m big)

-- what a reader of 32 bits answers by one of 64
pub u32_at-none : (bytes : List ℕ) → None ≡ vint_at 5 (2 ^ 64) bytes → None ≡ u32_at bytes
unfolding u32_at
u32_at-none bytes e = none_below (2 ^ 64) (2 ^ 32) (groups_at 5 bytes) (omega arith) e

pub u32_at-some : (n : ℕ) (bytes rest : List ℕ) → n < 2 ^ 32 → Some (n, rest) ≡ vint_at 5 (2 ^ 64) bytes → Some (n, rest) ≡ u32_at bytes
unfolding u32_at
u32_at-some n bytes rest fits e = some_below (2 ^ 64) (2 ^ 32) n rest (groups_at 5 bytes) fits e

pub u32_at-past : (n : ℕ) (bytes rest : List ℕ) → ¬ (n < 2 ^ 32) → Some (n, rest) ≡ vint_at 5 (2 ^ 64) bytes → None ≡ u32_at bytes
unfolding u32_at
u32_at-past n bytes rest past e = past_below (2 ^ 64) (2 ^ 32) n rest (groups_at 5 bytes) past e
