-- The description of a term: its document frequency, and where its postings and positions are.
use Rattle.std.specs.Prelude.{ℕ, ◌+◌, ◌-◌, ◌^◌, ◌<◌, ◌≤◌, Bool, ◌&&◌, List, ◌++◌, Option, Some, nat_lt, nat_le}
use Rattle.std.specs.declared.ops.Range.{Range}
use Rattle.ii_io.specs.Steps.{◌>>=◌, needs}
use Rattle.ii_io.specs.Numbers.{le_bytes, number_at}
use Rattle.ii_termstore.specs.declared.term_info.TermInfo.{TermInfo}

-- a term by its document frequency and the start and end of its postings and positions
abbrev pub term_info_from : ℕ → ℕ → ℕ → ℕ → ℕ → TermInfo
term_info_from doc_freq a b p q = record { doc_freq = doc_freq; postings_range = record { start = a; end = b }; positions_range = record { start = p; end = q } }

-- the number of bytes of a term's postings
abbrev pub postings_len : TermInfo → ℕ
postings_len i = i.postings_range.end - i.postings_range.start

-- the number of bytes of a term's positions
abbrev pub positions_len : TermInfo → ℕ
positions_len i = i.positions_range.end - i.positions_range.start

-- the number of bytes of a term info
abbrev pub info_size : ℕ
info_size = 28

-- the bytes of a term info: document frequency, and each range by its start and length
unfoldable pub info_bytes : TermInfo → List ℕ
info_bytes i =
    le_bytes 4 i.doc_freq ++ le_bytes 8 i.postings_range.start ++ le_bytes 4 (postings_len i)
    ++ le_bytes 8 i.positions_range.start ++ le_bytes 4 (positions_len i)

-- the term info at the front of bytes and the bytes after it, or `None` if an end exceeds 64 bits
unfoldable pub info_at : List ℕ → Option (TermInfo × List ℕ)
info_at bytes = do
  doc_freq ← number_at 4 bytes
  postings ← number_at 8 doc_freq.1
  postings_len ← number_at 4 postings.1
  positions ← number_at 8 postings_len.1
  positions_len ← number_at 4 positions.1
  _ ← needs (nat_lt (postings.0 + postings_len.0) (2 ^ 64))
  _ ← needs (nat_lt (positions.0 + positions_len.0) (2 ^ 64))
  Some (term_info_from doc_freq.0 postings.0 (postings.0 + postings_len.0) positions.0 (positions.0 + positions_len.0), positions_len.1)

-- Each range begins at or before its end, and has at most 2 ^ 32 - 1 bytes.
pub record HasLengths (i : TermInfo) : Type 0 where
  pub postings : i.postings_range.start ≤ i.postings_range.end
  pub postings_short : postings_len i < 2 ^ 32
  pub positions : i.positions_range.start ≤ i.positions_range.end
  pub positions_short : positions_len i < 2 ^ 32

-- The numbers of a term have the bits of their types.
pub record IsInRange (i : TermInfo) : Type 0 where
  pub doc_freq : i.doc_freq < 256 ^ 4
  pub postings : i.postings_range.end < 2 ^ 64
  pub positions : i.positions_range.end < 2 ^ 64

-- whether a range ends at or after its start and within 64 bits, and has fewer than 2 ^ 32 bytes
abbrev pub is_short : Range ℕ → Bool
is_short r = nat_le r.start r.end && nat_lt (r.end - r.start) (2 ^ 32) && nat_lt r.end (2 ^ 64)

-- whether both ranges of a term are short enough
abbrev pub is_sound : TermInfo → Bool
is_sound i = is_short i.postings_range && is_short i.positions_range
