-- Paths into a JSON value.
use Rattle.std.specs.Prelude.{◌≡◌, ℕ, ◌+◌, ◌-◌, Bool, true, false, not, ◌&&◌, List, [], ◌∷◌, drop, length, map, filter, slice_range, ◌==◌, if◌then◌else◌}
use Rattle.std.specs.List.{join_with_byte, list_any, slice_split}

-- the bytes of a text, each with whether a backslash escapes it
abbrev pub marked : Bool → List ℕ → List (ℕ × Bool)
marked kept [] = []
marked kept (c ∷ cs) = (c, kept) ∷ marked (not kept && (c == 92)) cs

-- whether a byte is this one, and isn't escaped
abbrev pub acts_as : ℕ → ℕ × Bool → Bool
acts_as c b = not b.1 && (b.0 == c)

-- the bytes without the escaping backslashes
abbrev pub kept_bytes : List (ℕ × Bool) → List ℕ
kept_bytes bs = map (λ b. b.0) (filter (λ b. not (acts_as 92 b)) bs)

-- the segments of a path's text, separated by dots
abbrev pub segments_of : List ℕ → List (List ℕ)
segments_of text = map kept_bytes (slice_split (acts_as 46) (marked false text))

-- the bytes of a segment in a path; expanded dots split it
abbrev pub segment_bytes : Bool → List ℕ → List ℕ
segment_bytes false segment = segment
segment_bytes true segment = map (λ c. if c == 46 then 1 else c) segment

-- the bytes of a path: its segments, separated by byte 1
abbrev pub joined_segments : List (List ℕ) → List ℕ
joined_segments segments = join_with_byte 1 segments

-- the bytes of a path, from its segments
abbrev pub path_bytes : Bool → List (List ℕ) → List ℕ
path_bytes expand_dots segments = joined_segments (map (segment_bytes expand_dots) segments)

-- whether bytes hold byte 0, which ends a path
abbrev pub has_zero : List ℕ → Bool
has_zero bytes = list_any (λ b. b == 0) bytes

-- the offsets where the segments of a path start, given the first
abbrev pub segment_starts : ℕ → List (List ℕ) → List ℕ
segment_starts place [] = []
segment_starts place (s ∷ ss) = place ∷ segment_starts (place + length s + 1) ss

-- the segments of a path that start at these offsets
abbrev pub cut_at : List ℕ → List ℕ → List (List ℕ)
cut_at path [] = []
cut_at path (start ∷ []) = drop start path ∷ []
cut_at path (start ∷ next ∷ starts) = slice_range path start (next - 1) ∷ cut_at path (next ∷ starts)

-- The bytes of a path and the starts of its segments.
pub record IsPathOf (segments : List (List ℕ)) (path starts : List ℕ) : Type 0 where
  pub bytes : path ≡ joined_segments segments
  pub places : starts ≡ segment_starts 0 segments

-- The state of a path writer: the segments as written, and whether dots in further ones are expanded.
pub record PathState : Type 0 where
  pub segments : List (List ℕ)
  pub expand_dots : Bool

-- the bytes of a segment after its separator, if it isn't the first
abbrev pub behind_separator : Bool → List ℕ → List ℕ
behind_separator is_first segment = if is_first then segment else 1 ∷ segment
