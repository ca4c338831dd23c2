-- The law of dictionaries: what is written reads back.
use Rattle.std.specs.Prelude.{◌≡◌, ℕ, suc, ◌^◌, ◌<◌, List, [], ◌++◌, length, slice_index_or, Ok}
use Rattle.std.specs.Ordering.{nat_cmp}
use Rattle.std.specs.Cmp.Lexicographic.{slice_cmp}
use Rattle.std.specs.List.{flat_map, zip}
use Rattle.std.specs.List.Sorted.{IsStrictlySortedBy}
use Rattle.ii_termstore.specs.declared.term_info.TermInfo.{TermInfo}
use Rattle.ii_termdict.specs.Dictionary.{dictionary}
use Rattle.ii_termdict.specs.Written.{written_dictionary}
use Rattle.ii_termstore.specs.ReadBack.{AreJoined, AreStorable}

-- Each key is less than all later ones by its bytes.
abbrev pub AreAscending : List (List ℕ) → Type 0
AreAscending keys = IsStrictlySortedBy (slice_cmp nat_cmp) keys

-- The last key, if there is one, is `key`.
abbrev pub LastKey : List (List ℕ) → List ℕ → Type 0
LastKey keys key = (k : ℕ) → suc k ≡ length keys → slice_index_or keys k [] ≡ key

-- The dictionary of ascending keys and joined terms reads back as these pairs.
abbrev pub ReadsDictionaryBack : Type 0
ReadsDictionaryBack =
    (keys : List (List ℕ)) (infos : List TermInfo) (rest : List ℕ)
    → length keys ≡ length infos → AreAscending keys → length (flat_map (λ (k : List ℕ). k) keys) < 2 ^ 64 → AreStorable infos → AreJoined infos
    → dictionary (written_dictionary keys infos ++ rest) ≡ Ok (zip keys infos)
