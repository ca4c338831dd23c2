-- The order of the keys of values is that of the values.
use Rattle.std.proofs.Common.{◌≡◌, ◌∙◌, ℕ, zero, suc, ◌+◌, ◌-◌, ◌*◌, ◌/◌, ◌%◌, ◌^◌, ◌<◌, ◌≤◌, Bool, true, false, cond, nat_lt, Equal, Greater, Less, Ordering, refl, sym, ap, arith}
use Rattle.std.specs.Prelude.{◌==◌, ◌&&◌, not, ℤ, pos, negsuc, int_lt, FitsSigned}
use Rattle.std.specs.Int.{w64}
use Rattle.std.specs.Cmp.{nat_cmp_is, ranked}
use Rattle.std.specs.Cmp.Lexicographic.{slice_cmp}
use Rattle.std.specs.Int.{byte_at, bytes_high_first}
use Rattle.std.specs.Ordering.{MatchOrdering, is_lt, nat_cmp, ordering_then}
use Rattle.std.proofs.Math.Nat.{add-mul, add_assoc, div-add-mod', mod-eq_of_lt, mod-lt, mul-add-mod_self_right, mul-le-mul_right, mul_assoc, one-le-pow, pow-succ'}
use Rattle.std.proofs.lemmas.Bool.{le-ltb, lt-ltb, ltb-false, ltb-true}
use Rattle.ii_base.specs.Values.{flipped, number_of_bool, u64_bytes}
use Rattle.ii_term_text.proofs.AddressBytes.{byte_is}
use Rattle.ii_term_text.proofs.KeyLemmas.{flipped_small}
use Rattle.ii_query_parser.specs.Ranges.{is_less}

-- numbers of two digits to a base are in the order of the first ones, and then of the others
by_digits : (base x y r s : ℕ) → r < base → s < base → ordering_then (nat_cmp x y) (nat_cmp r s) ≡ nat_cmp (x * base + r) (y * base + s)
by_digits base x y r s r_low s_low = nat_cmp_is (x * base + r) (y * base + s) (ordering_then (nat_cmp x y) (nat_cmp r s)) (by (nat_cmp x y) (ranked x y (nat_cmp x y) refl))
  where
    far : (p q : ℕ) → p < q → p * base + base ≤ q * base
    far p q less = let most : (p + 1) * base ≤ q * base = mul-le-mul_right base (omega (arith, less)) in let expand : (p + 1) * base ≡ p * base + 1 * base = add-mul p 1 base in omega (arith, most, expand)

    last : (o : Ordering) → x ≡ y → MatchOrdering o (r < s) (r ≡ s) (s < r) → MatchOrdering o (x * base + r < y * base + s) (x * base + r ≡ y * base + s) (y * base + s < x * base + r)
    last Less same is = let front = ap (λ (n : ℕ). n * base) same in omega (arith, front, is)
    last Equal same is = let front = ap (λ (n : ℕ). n * base) same in omega (arith, front, is)
    last Greater same is = let front = ap (λ (n : ℕ). n * base) same in omega (arith, front, is)

    by : (o : Ordering) → MatchOrdering o (x < y) (x ≡ y) (y < x) → MatchOrdering (ordering_then o (nat_cmp r s)) (x * base + r < y * base + s) (x * base + r ≡ y * base + s) (y * base + s < x * base + r)
    by Less is = let most = far x y is in omega (arith, most, r_low)
    by Equal is = last (nat_cmp r s) is (ranked r s (nat_cmp r s) refl)
    by Greater is = let most = far y x is in omega (arith, most, s_low)

-- a power of 256 is above zero
some_power : (k : ℕ) → 0 < 256 ^ k
some_power k = let least = one-le-pow k 256 (omega arith) in omega arith

-- the lowest bytes of a number, by the first of them and the others
front_byte : (k n : ℕ) → n % 256 ^ suc k ≡ byte_at k n * 256 ^ k + n % 256 ^ k
front_byte k n = ap (λ (m : ℕ). n % m) (pow-succ' 256 k) ∙ split (256 ^ k) (some_power k) ∙ ap (λ (m : ℕ). m * 256 ^ k + n % 256 ^ k) (sym (byte_is k n))
  where
    split : (c : ℕ) → 0 < c → n % (256 * c) ≡ (n / c % 256) * c + n % c
    split c some =
        let base : 0 < 256 = omega arith in
        let a = mod-lt (n / c) base in
        let b = mod-lt n some in
        let top : (n / c % 256 + 1) * c ≤ 256 * c = mul-le-mul_right c (omega arith) in
        let expand : (n / c % 256 + 1) * c ≡ n / c % 256 * c + 1 * c = add-mul (n / c % 256) 1 c in
        let parts : n ≡ n / c / 256 * (256 * c) + (n / c % 256 * c + n % c) =
        sym (div-add-mod' n c)
        ∙ ap (λ (x : ℕ). x * c + n % c) (sym (div-add-mod' (n / c) 256))
        ∙ ap (λ (x : ℕ). x + n % c) (add-mul (n / c / 256 * 256) (n / c % 256) c ∙ ap (λ (x : ℕ). x + n / c % 256 * c) (mul_assoc (n / c / 256) 256 c))
        ∙ add_assoc (n / c / 256 * (256 * c)) (n / c % 256 * c) (n % c) in
        ap (λ (x : ℕ). x % (256 * c)) parts ∙ mul-add-mod_self_right (n / c / 256) (256 * c) (n / c % 256 * c + n % c) ∙ mod-eq_of_lt (omega arith)

-- the lowest bytes of numbers, the highest of them first, are in the order of what they are worth
by_bytes : (k a b : ℕ) → slice_cmp nat_cmp (bytes_high_first k a) (bytes_high_first k b) ≡ nat_cmp (a % 256 ^ k) (b % 256 ^ k)
by_bytes zero a b = nat_cmp_is (a % 1) (b % 1) Equal (omega arith)
by_bytes (suc k) a b =
    ap (ordering_then (nat_cmp (byte_at k a) (byte_at k b))) (by_bytes k a b)
    ∙ by_digits (256 ^ k) (byte_at k a) (byte_at k b) (a % 256 ^ k) (b % 256 ^ k) (mod-lt a (some_power k)) (mod-lt b (some_power k))
    ∙ rw (front_byte k a, front_byte k b) refl

less_is : (a b : ℕ) → is_lt (nat_cmp a b) ≡ nat_lt a b
less_is a b = by (nat_lt a b) (a == b)
  where
    by : (less same : Bool) → is_lt (cond less Less (cond same Equal Greater)) ≡ less
    by true same = refl
    by false true = refl
    by false false = refl

-- the keys of numbers
pub u64_order : (a b : ℕ) → a < 2 ^ 64 → b < 2 ^ 64 → is_less (u64_bytes a) (u64_bytes b) ≡ nat_lt a b
u64_order a b a_low b_low =
    let first : a % 256 ^ 8 ≡ a = mod-eq_of_lt a_low in
    let other : b % 256 ^ 8 ≡ b = mod-eq_of_lt b_low in
    ap is_lt (by_bytes 8 a b) ∙ rw (first, other) (less_is a b)

-- those of addresses
pub address_order : (a b : ℕ) → a < 2 ^ 128 → b < 2 ^ 128 → is_less (bytes_high_first 16 a) (bytes_high_first 16 b) ≡ nat_lt a b
address_order a b a_low b_low =
    let first : a % 256 ^ 16 ≡ a = mod-eq_of_lt a_low in
    let other : b % 256 ^ 16 ≡ b = mod-eq_of_lt b_low in
    ap is_lt (by_bytes 16 a b) ∙ rw (first, other) (less_is a b)

same_order : (p q r s : ℕ) → (p < q → r < s) → (q ≤ p → s ≤ r) → nat_lt p q ≡ nat_lt r s
same_order p q r s less more = by (nat_lt p q) refl
  where
    by : (b : Bool) → nat_lt p q ≡ b → b ≡ nat_lt r s
    by true is = sym (lt-ltb r s (less (ltb-true p q is)))
    by false is = sym (le-ltb r s (more (ltb-false p q is)))

flipped_order : (a b : ℤ) → FitsSigned w64 a → FitsSigned w64 b → nat_lt (flipped a) (flipped b) ≡ int_lt a b
flipped_order (pos m) (pos n) first other = same_order (2 ^ 63 + m) (2 ^ 63 + n) m n (λ is. omega (arith, is)) (λ is. omega (arith, is))
flipped_order (pos m) (negsuc n) first other = le-ltb (2 ^ 63 + m) (2 ^ 63 - suc n) (omega arith)
flipped_order (negsuc m) (pos n) first other = lt-ltb (2 ^ 63 - suc m) (2 ^ 63 + n) (omega arith)
flipped_order (negsuc m) (negsuc n) first other =
    let f = first.sfits in
    let g = other.sfits in
    same_order (2 ^ 63 - suc m) (2 ^ 63 - suc n) n m (λ is. omega (arith, is, f, g)) (λ is. omega (arith, is, f, g))

-- those of signed numbers
pub i64_order : (a b : ℤ) → FitsSigned w64 a → FitsSigned w64 b → is_less (u64_bytes (flipped a)) (u64_bytes (flipped b)) ≡ int_lt a b
i64_order a b first other = u64_order (flipped a) (flipped b) (flipped_small a first) (flipped_small b other) ∙ flipped_order a b first other

-- those of booleans
pub bool_order : (a b : Bool) → is_less (u64_bytes (number_of_bool a)) (u64_bytes (number_of_bool b)) ≡ (not a && b)
bool_order true true = refl
bool_order true false = refl
bool_order false true = refl
bool_order false false = refl
