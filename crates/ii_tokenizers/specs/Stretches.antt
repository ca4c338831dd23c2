-- Where a text may be cut into stretches.
use Rattle.std.specs.Prelude.{ℕ, ◌≡◌, ◌<◌, ◌-◌, true, List, length}
use Rattle.std.specs.Char.{is_ascii_alphanumeric}
use Rattle.std.specs.List.{slice_index}

-- an offset behind a space and before a letter or digit
abbrev pub IsBehindSpace : List ℕ → ℕ → Type 0
IsBehindSpace bytes i = (0 < i) × (i < length bytes) × (slice_index bytes (i - 1) ≡ 32) × (is_ascii_alphanumeric (slice_index bytes i) ≡ true)
