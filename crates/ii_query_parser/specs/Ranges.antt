-- Which keys a range has.
use Rattle.std.specs.Prelude.{ℕ, Bool, true, ◌&&◌, List, Option, nat_eq, not}
use Rattle.std.specs.Cmp.Lexicographic.{slice_cmp}
use Rattle.std.specs.List.{starts_with}
use Rattle.std.specs.Option.{option_map}
use Rattle.std.specs.Ordering.{is_lt, nat_cmp}
use Rattle.ii_base.specs.Terms.{TermState}
use Rattle.ii_query_grammar.specs.Trees.{Bound, exclusive, inclusive, unbounded}
use Rattle.ii_query_parser.specs.declared.range_text.TermRanges.{TermRanges}
use Rattle.ii_query_parser.specs.declared.term_range.KeyBound.{KeyBound}
use Rattle.ii_query_parser.specs.declared.term_range.KeyBound.TheVariants.{Excluded, Included, Unbounded}
use Rattle.ii_query_parser.specs.declared.term_range.TermRange.{TermRange}

-- The keys of a field that start with a prefix and are between two bounds.
pub record KeyRange : Type 0 where
  pub prefix : TermState
  pub lower : Bound
  pub upper : Bound

-- One range of keys, or two, where each may be missing.
pub record KeyRanges : Type 0 where
  pub first : Option KeyRange
  pub other : Option KeyRange

-- the model of a bound
abbrev pub key_bound : KeyBound → Bound
key_bound Unbounded = unbounded
key_bound (Included key) = inclusive key.items
key_bound (Excluded key) = exclusive key.items

-- the model of a range of terms
abbrev pub keys_of : TermRange → KeyRange
keys_of range = record { prefix = range.prefix; lower = key_bound range.lower; upper = key_bound range.upper }

-- the model of ranges of terms
abbrev pub ranges_of : TermRanges → KeyRanges
ranges_of ranges = record { first = option_map keys_of ranges.first; other = option_map keys_of ranges.other }

-- whether a key is less than another by its bytes
abbrev pub is_less : List ℕ → List ℕ → Bool
is_less key other = is_lt (slice_cmp nat_cmp key other)

-- whether a lower bound lets a key in
abbrev pub is_from : Bound → List ℕ → Bool
is_from unbounded key = true
is_from (inclusive bound) key = not (is_less key bound)
is_from (exclusive bound) key = is_less bound key

-- whether an upper bound lets a key in
abbrev pub is_up_to : Bound → List ℕ → Bool
is_up_to unbounded key = true
is_up_to (inclusive bound) key = not (is_less bound key)
is_up_to (exclusive bound) key = is_less key bound

-- whether a range has a key: it starts with the prefix, and both bounds let it in
abbrev pub in_keys : KeyRange → List ℕ → Bool
in_keys range key = starts_with nat_eq key range.prefix.value && is_from range.lower key && is_up_to range.upper key

-- whether a range of terms has a key
abbrev pub in_range : TermRange → List ℕ → Bool
in_range range key = in_keys (keys_of range) key
