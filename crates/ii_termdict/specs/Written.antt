-- The bytes that are written for keys and term infos.
use Rattle.std.specs.Prelude.{ℕ, ◌+◌, List, [], ◌∷◌, ◌++◌, length}
use Rattle.std.specs.List.{flat_map}
use Rattle.ii_io.specs.Numbers.{le_bytes}
use Rattle.ii_termstore.specs.declared.term_info.TermInfo.{TermInfo}
use Rattle.ii_termstore.specs.Written.{written_store}

-- where keys end that follow each other from a place on
abbrev pub ends_from : ℕ → List (List ℕ) → List ℕ
ends_from start [] = []
ends_from start (k ∷ ks) = (start + length k) ∷ ends_from (start + length k) ks

-- the dictionary of these keys and terms
unfoldable pub written_dictionary : List (List ℕ) → List TermInfo → List ℕ
written_dictionary keys infos =
    le_bytes 8 (length keys) ++ flat_map (le_bytes 8) (ends_from 0 keys) ++ flat_map (λ (k : List ℕ). k) keys ++ written_store infos
