-- Sorted keys, each with its term info.
use Rattle.std.specs.Prelude.{◌≡◌, ◌≤◌, ℕ, ◌+◌, ◌-◌, ◌*◌, Bool, true, ◌&&◌, List, [], IsSomeAnd, length, drop, map, nat_le, ◌==◌, if◌then◌else◌, Option, None, Some, Result, Ok, Err, unwrap_or, bytes_eq}
use Rattle.std.specs.Ordering.{nat_cmp, is_lt}
use Rattle.std.specs.Cmp.Lexicographic.{slice_cmp}
use Rattle.std.specs.List.{list_all, range_with_len, slice_range, zip}
use Rattle.std.specs.Map.{lookup}
use Rattle.std.specs.Option.{option_map}
use Rattle.ii_io.specs.declared.faults.Part.{Part}
use Rattle.ii_io.specs.declared.faults.Part.TheVariants.{Dictionary, TermStore}
use Rattle.ii_io.specs.Steps.{◌>>=◌, needs}
use Rattle.ii_io.specs.Numbers.{number_at}
use Rattle.ii_termstore.specs.declared.term_info.TermInfo.{TermInfo}
use Rattle.ii_termstore.specs.TermStore.{term_store}

-- a key and its term info
abbrev pub TermEntry : Type 0
TermEntry = List ℕ × TermInfo

-- whether a key is less than another by its bytes
abbrev pub is_below : List ℕ → List ℕ → Bool
is_below k l = is_lt (slice_cmp nat_cmp k l)

-- the number of bytes of the end of a key
abbrev pub end_size : ℕ
end_size = 8

-- where key i ends
unfoldable pub end_of : List ℕ → ℕ → ℕ
end_of ends i = unwrap_or (option_map (λ found. found.0) (number_at end_size (drop (end_size * i) ends))) 0

-- where key i begins
abbrev pub start_of : List ℕ → ℕ → ℕ
start_of ends i = if i == 0 then 0 else end_of ends (i - 1)

-- key i
abbrev pub key_of : List ℕ → List ℕ → ℕ → List ℕ
key_of ends body i = slice_range body (start_of ends i) (end_of ends i)

-- whether no end is less than the previous one, and the last one lies within the body
abbrev pub ends_rise : ℕ → List ℕ → List ℕ → Bool
ends_rise n ends body = list_all (λ i. nat_le (start_of ends i) (end_of ends i)) (range_with_len 0 n) && nat_le (start_of ends n) (length body)

-- whether each key is less than the next
abbrev pub keys_ascend : ℕ → List ℕ → List ℕ → Bool
keys_ascend n ends body = list_all (λ i. is_below (key_of ends body i) (key_of ends body (i + 1))) (range_with_len 0 (n - 1))

-- all keys
abbrev pub keys_of : ℕ → List ℕ → List ℕ → List (List ℕ)
keys_of n ends body = map (key_of ends body) (range_with_len 0 n)

-- the number of keys, the bytes from their ends on, and the body of keys and store
unfoldable pub key_parts : List ℕ → Option (ℕ × List ℕ × List ℕ)
key_parts bytes = do
  n ← number_at 8 bytes
  _ ← needs (nat_le (end_size * n.0) (length n.1))
  Some (n.0, n.1, drop (end_size * n.0) n.1)

-- the keys, and the bytes of the store after them
unfoldable pub keys_at : List ℕ → Option (List (List ℕ) × List ℕ)
keys_at bytes = do
  parts ← key_parts bytes
  _ ← needs (ends_rise parts.0 parts.1 parts.2)
  _ ← needs (keys_ascend parts.0 parts.1 parts.2)
  Some (keys_of parts.0 parts.1 parts.2, drop (start_of parts.1 parts.0) parts.2)

-- the keys, each with its term, if there are as many
abbrev pub with_infos : List (List ℕ) → Option (List TermInfo) → Result (List TermEntry) Part
with_infos keys None = Err TermStore
with_infos keys (Some infos) = if length infos == length keys then Ok (zip keys infos) else Err Dictionary

-- the keys and the store after them, as entries
abbrev pub with_keys : Option (List (List ℕ) × List ℕ) → Result (List TermEntry) Part
with_keys None = Err Dictionary
with_keys (Some found) = with_infos found.0 (term_store found.1)

-- the list that a dictionary's bytes hold, or the first corrupt part
unfoldable pub dictionary : List ℕ → Result (List TermEntry) Part
dictionary bytes = with_keys (keys_at bytes)

-- the term info of a key
abbrev pub info_under : List ℕ → List TermEntry → Option TermInfo
info_under key entries = lookup (bytes_eq key) entries

-- the keys of entries
abbrev pub entry_keys : List TermEntry → List (List ℕ)
entry_keys entries = map (λ (e : TermEntry). e.0) entries

-- the bytes of the store after the keys
abbrev pub store_after : ℕ → List ℕ → List ℕ → List ℕ
store_after n ends body = drop (start_of ends n) body

-- the entries of an opened dictionary, by its parts
unfoldable pub opened_entries : ℕ → List ℕ → List ℕ → List TermEntry
opened_entries n ends body = zip (keys_of n ends body) (unwrap_or (term_store (store_after n ends body)) [])

-- What holds for the parts of an opened dictionary.
pub record AreOpened (n : ℕ) (ends body : List ℕ) : Type 0 where
  pub there : end_size * n ≤ length ends
  pub rise : ends_rise n ends body ≡ true
  pub ascend : keys_ascend n ends body ≡ true
  pub store : IsSomeAnd (term_store (store_after n ends body)) (λ infos. length infos ≡ n)

-- the terms of entries
abbrev pub entry_infos : List TermEntry → List TermInfo
entry_infos entries = map (λ (e : TermEntry). e.1) entries
