-- Field norms: a byte encodes one of 256 numbers, and other numbers are rounded down to one of them.
use Rattle.std.specs.Prelude.{◌≡◌, ℕ, zero, suc, ◌+◌, ◌-◌, ◌*◌, ◌/◌, ◌%◌, ◌^◌, ◌<◌, ◌≤◌, List, map, nat_lt, nat_le, if◌then◌else◌}
use Rattle.std.specs.List.{range_with_len}

-- the field norm with this id
unfoldable pub norm_of_id : ℕ → ℕ
norm_of_id b = if nat_lt b 32 then b else 24 + ((b - 24) % 8 + 8) * 2 ^ ((b - 24) / 8 - 1)

-- the table of all field norms
abbrev pub norms : List ℕ
norms = map norm_of_id (range_with_len 0 256)

-- the greatest id less than a limit whose field norm is at most n, or 0
abbrev pub greatest_id : ℕ → ℕ → ℕ
greatest_id n zero = 0
greatest_id n (suc b) = if nat_le (norm_of_id b) n then b else greatest_id n b

-- the id of a number
unfoldable pub id_of_norm : ℕ → ℕ
id_of_norm n = greatest_id n 256

-- Of all ids whose field norm is at most n, this is the greatest.
pub record IsGreatestNotAbove (n b : ℕ) : Type 0 where
  pub is_byte : b < 256
  pub not_above : norm_of_id b ≤ n
  pub greatest : (c : ℕ) → c < 256 → norm_of_id c ≤ n → c ≤ b

-- A number's field norm is at most the number, ids preserve order, and each field norm has its own id.
pub record ApproximatesFromBelow : Type 0 where
  pub below : (n : ℕ) → norm_of_id (id_of_norm n) ≤ n
  pub monotone : (n m : ℕ) → n ≤ m → id_of_norm n ≤ id_of_norm m
  pub own : (b : ℕ) → b < 256 → id_of_norm (norm_of_id b) ≡ b
