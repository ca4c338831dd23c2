-- Paths with dots between their segments.
use Rattle.std.specs.Prelude.{ℕ, List, map, ◌==◌, if◌then◌else◌}

-- the byte between the segments of a path
abbrev pub segment_separator : ℕ
segment_separator = 0x01

-- a dot for the byte between segments, any other byte unchanged
abbrev pub dot_between : ℕ → ℕ
dot_between byte = if byte == segment_separator then 0x2E else byte

-- a path with a dot for each byte between segments
abbrev pub with_dots : List ℕ → List ℕ
with_dots path = map dot_between path
