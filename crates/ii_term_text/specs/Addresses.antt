-- The IP address that a text spells.
use Rattle.std.specs.Prelude.{ℕ, List, ◌∷◌, Option, None, Some, option_map}
use Rattle.std.specs.Int.{w128, from_be_bytes}
use Rattle.std.specs.Net.Addr.{octets_of, segments_of}
use Rattle.std.specs.Net.Reader.{read_ipv4, read_ipv6, whole_value}

-- an IPv4 address as an IPv6 address, ::ffff:a.b.c.d
abbrev pub mapped : List ℕ → List ℕ
mapped octets = 0 ∷ 0 ∷ 0 ∷ 0 ∷ 0 ∷ 0xffff ∷ segments_of octets

-- the first option that is `Some`
abbrev pub or_else : Option (List ℕ) → Option (List ℕ) → Option (List ℕ)
or_else None other = other
or_else (Some x) other = Some x

-- the eight 16-bit segments of the address that a text spells, in either version
unfoldable pub segments_in : List ℕ → Option (List ℕ)
segments_in text = or_else (option_map mapped (whole_value (read_ipv4 text))) (whole_value (read_ipv6 text))

-- the address as a 128-bit number
unfoldable pub address_in : List ℕ → Option ℕ
address_in text = option_map (λ segments. from_be_bytes w128 (octets_of segments)) (segments_in text)
