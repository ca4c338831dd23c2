-- Laws of field norms.
use Rattle.std.proofs.Common.{◌≡◌, ℕ, zero, suc, ◌+◌, ◌<◌, ◌≤◌, ◌⊎◌, inl, inr, Bool, true, false, ◌&&◌, cond, List, [], ◌∷◌, map, length, get_or, nat_le, nat_lt, refl, sym, ◌∙◌, ap, add-one, arith}
use Rattle.std.proofs.lemmas.Bool.{leb-true, leb-false, ltb-true, and_parts}
use Rattle.std.specs.List.{range_with_len}
use Rattle.ii_fieldnorm.specs.Norms.{norm_of_id, norms, greatest_id, id_of_norm, IsGreatestNotAbove, ApproximatesFromBelow}
use Rattle.ii_fieldnorm.specs.declared.code.TheConstants.{FIELD_NORMS_TABLE}

-- each number is below the next
abbrev pub are_ascending : List ℕ → Bool
are_ascending [] = true
are_ascending (x ∷ []) = true
are_ascending (x ∷ y ∷ ys) = nat_lt x y && are_ascending (y ∷ ys)

-- the complete table follows its rule, computed once
pub table_is_norms : FIELD_NORMS_TABLE ≡ norms
unfolding norm_of_id
table_is_norms = refl

norms_ascend : are_ascending norms ≡ true
unfolding norm_of_id
norms_ascend = refl

get_or-norms : (start count b : ℕ) → b < count → get_or (map norm_of_id (range_with_len start count)) b 0 ≡ norm_of_id (start + b)
get_or-norms start zero b h = absurd (omega arith)
get_or-norms start (suc count) zero h = let same : start ≡ start + 0 = omega arith in ap norm_of_id same
get_or-norms start (suc count) (suc b) h =
    let same : start + 1 + b ≡ start + suc b = omega arith in
    get_or-norms (start + 1) count b (omega arith) ∙ ap norm_of_id same

head_below : (x : ℕ) (xs : List ℕ) (j : ℕ) → are_ascending (x ∷ xs) ≡ true → j < length xs → x < get_or xs j 0
head_below x [] j e h = absurd (omega arith)
head_below x (y ∷ ys) zero e h = ltb-true x y (and_parts (nat_lt x y) (are_ascending (y ∷ ys)) e).0
head_below x (y ∷ ys) (suc j) e h =
    let both = and_parts (nat_lt x y) (are_ascending (y ∷ ys)) e in
    let first = ltb-true x y both.0 in
    let later = head_below y ys j both.1 (omega arith) in
    omega arith

tail_ascends : (x : ℕ) (xs : List ℕ) → are_ascending (x ∷ xs) ≡ true → are_ascending xs ≡ true
tail_ascends x [] e = refl
tail_ascends x (y ∷ ys) e = (and_parts (nat_lt x y) (are_ascending (y ∷ ys)) e).1

ascends : (xs : List ℕ) (i j : ℕ) → are_ascending xs ≡ true → i < j → j < length xs → get_or xs i 0 < get_or xs j 0
ascends [] i j e order within = absurd (omega arith)
ascends (x ∷ xs) i zero e order within = absurd (omega arith)
ascends (x ∷ xs) zero (suc j) e order within = head_below x xs j e (omega arith)
ascends (x ∷ xs) (suc i) (suc j) e order within = ascends xs i j (tail_ascends x xs e) (omega arith) (omega arith)

-- a greater id has a greater field norm
pub norm_of_id-lt : (b c : ℕ) → b < c → c < 256 → norm_of_id b < norm_of_id c
norm_of_id-lt b c order within =
    let first = get_or-norms 0 256 b (omega arith) in
    let second = get_or-norms 0 256 c within in
    let zero_first : 0 + b ≡ b = omega arith in
    let zero_second : 0 + c ≡ c = omega arith in
    let order_in_list = ascends norms b c norms_ascend order within in
    rw (first, second, zero_first, zero_second) at order_in_list

pub norm_of_id-get_or : (b : ℕ) → b < 256 → get_or FIELD_NORMS_TABLE b 0 ≡ norm_of_id b
norm_of_id-get_or b h =
    let zero_place : 0 + b ≡ b = omega arith in
    ap (λ (xs : List ℕ). get_or xs b 0) table_is_norms ∙ get_or-norms 0 256 b h ∙ ap norm_of_id zero_place

at_or_below : (b limit : ℕ) → b < suc limit → (b ≡ limit) ⊎ (b < limit)
at_or_below zero zero h = inl refl
at_or_below zero (suc limit) h = inr (omega arith)
at_or_below (suc b) zero h = absurd (omega arith)
at_or_below (suc b) (suc limit) h = elim (at_or_below b limit (omega arith)) [ inl same ↦ inl (ap suc same) | inr below ↦ inr (omega arith) ]

above_cases : (n limit b : ℕ) → norm_of_id limit ≤ n → (b < limit → n < norm_of_id limit) → (b ≡ limit) ⊎ (b < limit) → limit ≡ b
above_cases n limit b within high (inl same) = sym same
above_cases n limit b within high (inr below) = let above = high below in absurd (omega arith)

below_cases : (n limit b : ℕ) → norm_of_id b ≤ n → n < norm_of_id limit → (b ≡ limit) ⊎ (b < limit) → b < limit
below_cases n limit b low above (inl same) = let within = rw same at low in absurd (omega arith)
below_cases n limit b low above (inr below) = below

-- the greatest byte is found
found_cases : (n limit b : ℕ) (t : Bool) → nat_le (norm_of_id limit) n ≡ t → (b < limit → greatest_id n limit ≡ b)
    → (b ≡ limit) ⊎ (b < limit) → norm_of_id b ≤ n → (b < limit → n < norm_of_id limit) → cond t limit (greatest_id n limit) ≡ b
found_cases n limit b true e ih place low high = above_cases n limit b (leb-true (norm_of_id limit) n e) high place
found_cases n limit b false e ih place low high = ih (below_cases n limit b low (leb-false (norm_of_id limit) n e) place)

found : (n limit b : ℕ) → b < limit → norm_of_id b ≤ n → ((c : ℕ) → b < c → c < limit → n < norm_of_id c) → greatest_id n limit ≡ b
found n zero b h low high = absurd (omega arith)
found n (suc limit) b h low high =
    found_cases n limit b (nat_le (norm_of_id limit) n) refl (λ below. found n limit b below low (λ c above within. high c above (omega arith)))
    (at_or_below b limit h) low (λ below. high limit below (omega arith))

-- every later id has a field norm greater than n, if the next one does
later_above : (n b c : ℕ) → (b + 1 < 256 → n < norm_of_id (b + 1)) → c < 256 → (b + 1 ≡ c) ⊎ (b + 1 < c) → n < norm_of_id c
later_above n b c next within (inl same) = rw (← same) (next (omega arith))
later_above n b c next within (inr order) =
    let above = next (omega arith) in
    let more = norm_of_id-lt (b + 1) c order within in
    omega arith

later_split : (b c : ℕ) → b < c → (b + 1 ≡ c) ⊎ (b + 1 < c)
later_split b zero order = absurd (omega arith)
later_split b (suc c) order = elim (at_or_below b c (omega arith)) [ inl same ↦ inl (omega arith) | inr below ↦ inr (omega arith) ]

above : (n b : ℕ) → (b + 1 < 256 → n < norm_of_id (b + 1)) → (c : ℕ) → b < c → c < 256 → n < norm_of_id c
above n b next c order within = later_above n b c next within (later_split b c order)

-- a byte is that of n where its number is not above n, and the next one is
pub id_of_norm-found : (n b : ℕ) → b < 256 → norm_of_id b ≤ n → (b + 1 < 256 → n < norm_of_id (b + 1)) → id_of_norm n ≡ b
unfolding id_of_norm
id_of_norm-found n b h low next = found n 256 b h low (above n b next)

none_greater : (n b c : ℕ) → (b + 1 < 256 → n < norm_of_id (b + 1)) → c < 256 → norm_of_id c ≤ n → (c ≤ b) ⊎ (b < c) → c ≤ b
none_greater n b c next within below (inl small) = small
none_greater n b c next within below (inr order) = let high = above n b next c order within in absurd (omega arith)

order_split : (b c : ℕ) → (c ≤ b) ⊎ (b < c)
order_split b zero = inl (omega arith)
order_split zero (suc c) = inr (omega arith)
order_split (suc b) (suc c) = elim (order_split b c) [ inl small ↦ inl (omega arith) | inr order ↦ inr (omega arith) ]

pub is_greatest : (n b : ℕ) → b < 256 → norm_of_id b ≤ n → (b + 1 < 256 → n < norm_of_id (b + 1)) → IsGreatestNotAbove n b
is_greatest n b h low next = record {
  is_byte = h;
  not_above = low;
  greatest = λ c within below. none_greater n b c next within below (order_split b c);
}

pub norm-zero : norm_of_id 0 ≡ 0
unfolding norm_of_id
norm-zero = refl

pub record HasByte (n : ℕ) : Type 0 where
  pub byte : ℕ
  pub is_byte : byte < 256
  pub low : norm_of_id byte ≤ n
  pub next : byte + 1 < 256 → n < norm_of_id (byte + 1)

byte_cases : (n limit : ℕ) → suc limit < 256 → (suc limit + 1 < 256 → n < norm_of_id (suc limit + 1)) → (norm_of_id (suc limit) ≤ n) ⊎ (n < norm_of_id (suc limit)) → (n < norm_of_id (suc limit) → HasByte n) → HasByte n
byte_cases n limit within above (inl low) later = record { byte = suc limit; is_byte = within; low = low; next = above }
byte_cases n limit within above (inr high) later = later high

-- each number has such a byte, sought from a limit down
has_byte : (n limit : ℕ) → limit < 256 → (limit + 1 < 256 → n < norm_of_id (limit + 1)) → HasByte n
has_byte n zero within above = record { byte = 0; is_byte = omega arith; low = rw norm-zero (omega arith); next = above }
has_byte n (suc limit) within above = byte_cases n limit within above (order_split n (norm_of_id (suc limit))) (λ high. has_byte n limit (omega arith) (λ _. rw add-one high))

byte_of : (n : ℕ) → HasByte n
byte_of n = has_byte n 255 (omega arith) (λ h. absurd (omega arith))

pub id_of_norm-greatest : (n : ℕ) → IsGreatestNotAbove n (id_of_norm n)
id_of_norm-greatest n =
    let b = byte_of n in
    rw (id_of_norm-found n b.byte b.is_byte b.low b.next) (is_greatest n b.byte b.is_byte b.low b.next)

monotone : (n m : ℕ) → n ≤ m → id_of_norm n ≤ id_of_norm m
monotone n m order =
    let lesser = id_of_norm-greatest n in
    let greater = id_of_norm-greatest m in
    let low = lesser.not_above in
    greater.greatest (id_of_norm n) lesser.is_byte (omega arith)

pub approximates_from_below : ApproximatesFromBelow
approximates_from_below = record {
  below = λ n. (id_of_norm-greatest n).not_above;
  monotone = monotone;
  own = λ b h. id_of_norm-found (norm_of_id b) b h (omega arith) (λ within. norm_of_id-lt b (b + 1) (omega arith) within);
}
