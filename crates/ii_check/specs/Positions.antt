-- What the check asks of a term's positions.
use Rattle.std.specs.Prelude.{ℕ, Bool, ◌&&◌, List, length, nat_le, Option}
use Rattle.std.specs.Option.{option_map}
use Rattle.std.specs.List.{sum, list_all}
use Rattle.ii_codes.specs.Sums.{fit_u32}
use Rattle.ii_layout.specs.PositionReader.{PositionReaderState}
use Rattle.ii_layout.specs.Positions.{positions_of}

-- whether deltas suffice for frequencies: there are enough, and each position has 32 bits
abbrev pub suffice : List ℕ → List ℕ → Bool
suffice freqs deltas = nat_le (sum freqs) (length deltas) && list_all fit_u32 (positions_of freqs deltas)

-- the deltas of a reader, if there is one
abbrev pub deltas_read : Option PositionReaderState → Option (List ℕ)
deltas_read reader = option_map (λ r. r.deltas) reader
