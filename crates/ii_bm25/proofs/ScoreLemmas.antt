-- Laws of shares and scores.
use Rattle.std.proofs.Common.{◌≡◌, ℕ, zero, suc, ◌+◌, ◌-◌, ◌*◌, ◌/◌, ◌%◌, ◌^◌, ◌<◌, ◌≤◌, Bool, true, false, min, nat_lt, refl, sym, ap, ◌∙◌, arith}
use Rattle.std.proofs.lemmas.Bool.{ltb-true, ltb-false}
use Rattle.std.proofs.lemmas.Nat.{div-add-mod', div-mul-add, div_below, le-div, mod_below, mul-le}
use Rattle.ii_bm25.specs.Bm25.{RisesAndFalls, score, share}

-- a factor that both products have
over : (p s d : ℕ) → 0 < d → (p + suc s) * d ≤ p * d → ⊥
over p s d some below = absurd (omega (arith, below, some))

cancel : (q p d : ℕ) → 0 < d → q * d ≤ p * d → q ≤ p
cancel q p d some below = by (nat_lt p q) refl
  where
    by : (t : Bool) → nat_lt p q ≡ t → q ≤ p
    by true t =
        let more = ltb-true p q t in
        let split : q ≡ p + suc (q - p - 1) = omega arith in
        absurd (over p (q - p - 1) d some (rw split at below))
    by false t = let not_more = ltb-false p q t in omega arith

-- a quotient never falls with its numerator
pub div_rises : (m n d : ℕ) → 0 < d → m ≤ n → m / d ≤ n / d
div_rises m n d some below =
    let split = div-add-mod' m d in
    le-div (m / d) n d some (omega arith)

-- a part of a whole rises with the part
together : (q p a s k : ℕ) → q * (a + k) ≤ p * a → q * s ≤ p * s → q * (a + s + k) ≤ p * (a + s)
together q p a s k reached more = omega (arith, reached, more)

whole : (q p a k : ℕ) → q * (a + k) ≤ p * a → q * (a + k) ≤ p * (a + k)
whole q p a k reached = omega (arith, reached)

pub part_rises : (p a s k : ℕ) → 0 < k → p * a / (a + k) ≤ p * (a + s) / (a + s + k)
part_rises p a s k some =
    let split = div-add-mod' (p * a) (a + k) in
    let reached : p * a / (a + k) * (a + k) ≤ p * a = omega arith in
    let most : p * a / (a + k) ≤ p = cancel (p * a / (a + k)) p (a + k) (omega arith) (whole (p * a / (a + k)) p a k reached) in
    let more : p * a / (a + k) * s ≤ p * s = mul-le (p * a / (a + k)) s p s most (omega arith) in
    le-div (p * a / (a + k)) (p * (a + s)) (a + s + k) (omega arith) (together (p * a / (a + k)) p a s k reached more)

-- and falls with the rest
pub part_falls : (n a k l : ℕ) → 0 < k → k ≤ l → n / (a + l) ≤ n / (a + k)
part_falls n a k l some below =
    let split = div-add-mod' n (a + l) in
    let less : n / (a + l) * (a + k) ≤ n / (a + l) * (a + l) = mul-le (n / (a + l)) (a + k) (n / (a + l)) (a + l) (omega arith) (omega arith) in
    le-div (n / (a + l)) n (a + k) (omega arith) (omega arith)

-- a number that a rest completes to whole parts
rest_quotient : (n t d r : ℕ) → r < d → n + r ≡ t * d → (min 1 r ≤ t) × (n / d ≡ t - min 1 r)
rest_quotient n t d zero small e =
    let same : n ≡ t * d + 0 = omega arith in
    let found : n / d ≡ t = rw same (div-mul-add t d 0 (omega arith)) in
    let none : t ≡ t - min 1 0 = omega arith in
    (omega arith, found ∙ none)
rest_quotient n zero d (suc r) small e = absurd (omega arith)
rest_quotient n (suc t) d (suc r) small e =
    let same : n ≡ t * d + (d - suc r) = omega arith in
    let found : n / d ≡ t = rw same (div-mul-add t d (d - suc r) (omega arith)) in
    let one : t ≡ suc t - min 1 (suc r) = omega arith in
    (omega arith, found ∙ one)

completes : (q t a k r : ℕ) → q * (a + k) + r ≡ (q + t) * k → (q + t) * a + r ≡ t * (a + k)
completes q t a k r e = omega (arith, e)

-- what a part takes of a whole, and what the rest takes, rounded up, are all of it
pub complement : (p a k : ℕ) → 0 < k
    → (p * k / (a + k) + min 1 (p * k % (a + k)) ≤ p) × (p * a / (a + k) ≡ p - (p * k / (a + k) + min 1 (p * k % (a + k))))
complement p a k some =
    let q = p * k / (a + k) in
    let r = p * k % (a + k) in
    let split : q * (a + k) + r ≡ p * k = div-add-mod' (p * k) (a + k) in
    let small : r < a + k = mod_below (p * k) (a + k) (omega arith) in
    let reached : q * (a + k) ≤ p * (a + k) = omega arith in
    let most : q ≤ p = cancel q p (a + k) (omega arith) reached in
    let two : p ≡ q + (p - q) = omega arith in
    let e : q * (a + k) + r ≡ (q + (p - q)) * k = split ∙ ap (λ (x : ℕ). x * k) two in
    let done : p * a + r ≡ (p - q) * (a + k) = ap (λ (x : ℕ). x * a + r) two ∙ completes q (p - q) a k r e in
    let found = rest_quotient (p * a) (p - q) (a + k) r small done in
    let at_most = found.0 in
    (omega arith, found.1 ∙ omega arith)

-- what is missing of a share, as the code has it
pub share_is : (count counted length missing : ℕ) → 0 < length → counted ≡ count
    → missing ≡ 268435456 * length / (counted * 1048576 + length) + min 1 (268435456 * length % (counted * 1048576 + length))
    → (missing ≤ 268435456) × (268435456 - missing ≡ share count length)
share_is count counted length missing some same is =
    let all = complement (2 ^ 28) (count * 2 ^ 20) length some in
    let least : missing ≡ 2 ^ 28 * length / (count * 2 ^ 20 + length) + min 1 (2 ^ 28 * length % (count * 2 ^ 20 + length)) =
    is ∙ ap (λ (n : ℕ). 2 ^ 28 * length / (n * 2 ^ 20 + length) + min 1 (2 ^ 28 * length % (n * 2 ^ 20 + length))) same in
    (rw least all.0, ap (λ (n : ℕ). 2 ^ 28 - n) least ∙ sym all.1)

-- a share is never whole
pub share_below : (count length : ℕ) → 0 < length → share count length < 2 ^ 28
share_below count length some = div_below (2 ^ 28 * (count * 2 ^ 20)) (count * 2 ^ 20 + length) (2 ^ 28) (omega arith) (omega arith)

pub share_rises : (count more length : ℕ) → 0 < length → count ≤ more → share count length ≤ share more length
share_rises count more length some below =
    let split : more * 2 ^ 20 ≡ count * 2 ^ 20 + (more - count) * 2 ^ 20 = omega arith in
    rw split (part_rises (2 ^ 28) (count * 2 ^ 20) ((more - count) * 2 ^ 20) length some)

pub share_falls : (count length longer : ℕ) → 0 < length → length ≤ longer → share count longer ≤ share count length
share_falls count length longer some below = part_falls (2 ^ 28 * (count * 2 ^ 20)) (count * 2 ^ 20) length longer some below

weighed : (weight low high : ℕ) → low ≤ high → weight * low / 2 ^ 12 ≤ weight * high / 2 ^ 12
weighed weight low high below = div_rises (weight * low) (weight * high) (2 ^ 12) (omega arith) (mul-le weight low weight high (omega arith) below)

pub rises_and_falls : RisesAndFalls
rises_and_falls = record {
  rises = λ weight count more length some below. weighed weight (share count length) (share more length) (share_rises count more length some below);
  falls = λ weight count length longer some below. weighed weight (share count longer) (share count length) (share_falls count length longer some below);
  bounds = λ weight count more length longer some few long.
      let one = weighed weight (share count longer) (share count length) (share_falls count length longer some long) in
      let two = weighed weight (share count length) (share more length) (share_rises count more length some few) in
      omega arith;
}

-- ---- the search for the least count that scores so much
-- Each count below the one scores less, and the other one doesn't, or is the greatest.
pub record IsSearching (weight length least low high : ℕ) : Type 0 where
  pub order : low ≤ high
  pub fits : high < 2 ^ 32
  pub below : (fewer : ℕ) → fewer < low → score weight fewer length < least
  pub reached : high < 2 ^ 32 - 1 → least ≤ score weight high length

pub searches_above : (weight length least low high middle : ℕ) → 0 < length → middle < high → score weight middle length < least → IsSearching weight length least low high → IsSearching weight length least (middle + 1) high
searches_above weight length least low high middle some inside less s = record {
  order = omega (arith, inside);
  fits = s.fits;
  below = λ fewer few. let up = rises_and_falls.rises weight fewer middle length some (omega (arith, few)) in omega (arith, up, less);
  reached = s.reached;
}

-- a score rises with the share
pub share_bounds : (weight same part most : ℕ) → same ≡ weight → part ≤ most → weight * part / 2 ^ 12 ≤ same * most / 2 ^ 12
share_bounds weight same part most is low = rw is (div_rises (weight * part) (weight * most) (2 ^ 12) (omega arith) (mul-le weight part weight most (omega arith) low))
