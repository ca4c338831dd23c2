-- What is gathered for a dictionary: its keys and its terms, and whether a call failed.
use Rattle.std.specs.Prelude.{◌≡◌, Bool, ℕ, ◌^◌, ◌<◌, List, [], ◌∷◌, length}
use Rattle.std.specs.List.{flat_map, slice_range}
use Rattle.ii_termstore.specs.declared.term_info.TermInfo.{TermInfo}
use Rattle.ii_termdict.specs.Written.{ends_from}

pub record TermDictionaryWriterState : Type 0 where
  pub keys : List (List ℕ)
  pub infos : List TermInfo
  pub closed : Bool

-- the keys that end at these places of their bytes
abbrev pub keys_between : ℕ → List ℕ → List ℕ → List (List ℕ)
keys_between start [] bytes = []
keys_between start (end ∷ ends) bytes = slice_range bytes start end ∷ keys_between end ends bytes

-- Bytes and ends of fewer than 2 ^ 64 keys.
pub record HasKeys (bytes ends : List ℕ) (keys : List (List ℕ)) : Type 0 where
  pub joined : bytes ≡ flat_map (λ (k : List ℕ). k) keys
  pub places : ends ≡ ends_from 0 keys
  pub few : length ends < 2 ^ 64
