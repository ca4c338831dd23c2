-- The bytes of the number of an address are those of the address.
use Rattle.std.proofs.Common.{◌≡◌, ◌∙◌, ◌<◌, ◌≤◌, ◌+◌, ◌*◌, ◌/◌, ◌%◌, ◌^◌, ℕ, zero, suc, List, [], ◌∷◌, ap, arith, get_or, length, refl, subst, sym}
use Rattle.std.specs.Int.{byte_at, bytes_high_first, from_be_bytes, w128}
use Rattle.std.specs.Net.Addr.{IsIpv6Addr, octets_of}
use Rattle.std.proofs.Math.Nat.{add-mul, add_assoc, div-one, mod-eq_of_lt, mul-add-mod_self_right, mul-le-mul_right, mul_assoc, pow-succ'}
use Rattle.std.proofs.NetLemmas.Arrays.{eight_items, sixteen_items}
use Rattle.std.proofs.lemmas.Nat.{div-mul-add}

-- a byte of a number, by its place from the lowest
pub byte_is : (k n : ℕ) → byte_at k n ≡ n / 256 ^ k % 256
byte_is zero n = ap (λ (m : ℕ). m % 256) (sym (div-one n))
byte_is (suc k) n = refl

-- what bytes are worth, the highest of them first
abbrev worth : List ℕ → ℕ
worth [] = 0
worth (b ∷ bs) = b * 256 ^ length bs + worth bs

-- bytes
abbrev AreLow : List ℕ → Type 0
AreLow bs = (k : ℕ) → get_or bs k 0 < 256

-- the first of a number and lower bytes
on_top : (c b p w : ℕ) → c * (256 * p) + (b * p + w) ≡ (c * 256 + b) * p + w
on_top c b p w = sym (add_assoc (c * (256 * p)) (b * p) w) ∙ ap (λ (m : ℕ). m + b * p + w) (sym (mul_assoc c 256 p)) ∙ ap (λ (m : ℕ). m + w) (sym (add-mul (c * 256) b p))

worth_low : (bs : List ℕ) → AreLow bs → worth bs < 256 ^ length bs
worth_low [] low = omega arith
worth_low (b ∷ bs) low =
    let p = 256 ^ length bs in
    let rest = worth_low bs (λ k. low (suc k)) in
    let most : (b + 1) * p ≤ 256 * p = mul-le-mul_right p (let first = low 0 in omega (arith, first)) in
    let expand : (b + 1) * p ≡ b * p + 1 * p = add-mul b 1 p in
    subst (λ (m : ℕ). b * p + worth bs < m) (sym (pow-succ' 256 (length bs))) (omega (arith, rest, most, expand))

-- bytes below a number are read back
bytes_again : (c : ℕ) (bs : List ℕ) → AreLow bs → bytes_high_first (length bs) (c * 256 ^ length bs + worth bs) ≡ bs
bytes_again c [] low = refl
bytes_again c (b ∷ bs) low =
    let k = length bs in
    let p = 256 ^ k in
    let n = (c * 256 + b) * p + worth bs in
    let same : c * 256 ^ suc k + (b * p + worth bs) ≡ n = ap (λ (m : ℕ). c * m + (b * p + worth bs)) (pow-succ' 256 k) ∙ on_top c b p (worth bs) in
    let top : byte_at k n ≡ b =
    byte_is k n ∙ ap (λ (q : ℕ). q % 256) (div-mul-add (c * 256 + b) p (worth bs) (worth_low bs (λ k. low (suc k)))) ∙ mul-add-mod_self_right c 256 b ∙ mod-eq_of_lt (low 0) in
    ap (bytes_high_first (suc k)) same ∙ ap (λ (first : ℕ). first ∷ bytes_high_first k n) top ∙ ap (λ (rest : List ℕ). b ∷ rest) (bytes_again (c * 256 + b) bs (λ k. low (suc k)))

-- sixteen bytes are read back from their number
sixteen_again : (bs : List ℕ) → length bs ≡ 16 → AreLow bs → bytes_high_first 16 (from_be_bytes w128 bs) ≡ bs
sixteen_again bs sixteen low =
    let same : from_be_bytes w128 bs ≡ worth bs = worth_is ∙ ap worth (sym (sixteen_items bs sixteen)) in
    let number : from_be_bytes w128 bs ≡ 0 * 256 ^ length bs + worth bs = omega (arith, same) in
    ap (bytes_high_first 16) number ∙ ap (λ (k : ℕ). bytes_high_first k (0 * 256 ^ length bs + worth bs)) (sym sixteen) ∙ bytes_again 0 bs low
  where
    worth_is : from_be_bytes w128 bs
        ≡ worth (get_or bs 0 0 ∷ get_or bs 1 0 ∷ get_or bs 2 0 ∷ get_or bs 3 0 ∷ get_or bs 4 0 ∷ get_or bs 5 0 ∷ get_or bs 6 0 ∷ get_or bs 7 0 ∷ get_or bs 8 0 ∷ get_or bs 9 0 ∷ get_or bs 10 0 ∷ get_or bs 11 0 ∷ get_or bs 12 0 ∷ get_or bs 13 0 ∷ get_or bs 14 0 ∷ get_or bs 15 0 ∷ [])
    worth_is = omega arith

-- octets are bytes
octets_low : (xs : List ℕ) → ((k : ℕ) → get_or xs k 0 < 2 ^ 16) → AreLow (octets_of xs)
octets_low [] low k = omega arith
octets_low (x ∷ xs) low zero = let first = low 0 in omega (arith, first)
octets_low (x ∷ xs) low (suc zero) = omega arith
octets_low (x ∷ xs) low (suc (suc k)) = octets_low xs (λ i. low (suc i)) k

-- the length of the octets of eight segments
pub sixteen_octets : (xs : List ℕ) → length xs ≡ 8 → length (octets_of xs) ≡ 16
sixteen_octets xs eight = ap (λ (l : List ℕ). length (octets_of l)) (eight_items xs eight)

-- the bytes of the number of an address
pub octets_again : (xs : List ℕ) → IsIpv6Addr (record { segments = xs }) → bytes_high_first 16 (from_be_bytes w128 (octets_of xs)) ≡ octets_of xs
octets_again xs is = sixteen_again (octets_of xs) (sixteen_octets xs is.0) (octets_low xs is.1)
