-- Computed examples.
use Rattle.std.specs.Prelude.{◌≡◌, ℕ, List, [], ◌∷◌, ◌++◌, codes, map, replicate, fold, None, Some, refl}
use Rattle.ii_json.specs.DottedPaths.{with_dots}
use Rattle.ii_json.specs.FastValues.{fast_value_in}
use Rattle.ii_json.specs.JsonTerms.{written_path}
use Rattle.ii_json.specs.PathRank.{path_rank, path_ranks}
use Rattle.ii_json.specs.PathTerms.{PathTerm, key_of_term, term_cmp}
use Rattle.ii_json.specs.Paths.{path_id, with_path}
use Rattle.std.proofs.Common.{Less}

abbrev a : List ℕ
a = codes "a"

abbrev b : List ℕ
b = codes "b"

abbrev c : List ℕ
c = codes "c"

-- the paths b, a, b, c
pub known_paths : fold with_path [] (b ∷ a ∷ b ∷ c ∷ []) ≡ b ∷ a ∷ c ∷ []
known_paths = refl

pub id_of_the_first : path_id [] b ≡ 0
id_of_the_first = refl

pub id_of_a_new_path : path_id (b ∷ []) a ≡ 1
id_of_a_new_path = refl

pub id_of_a_known_path : path_id (b ∷ a ∷ []) b ≡ 0
id_of_a_known_path = refl

pub id_of_the_last : path_id (b ∷ a ∷ []) c ≡ 2
id_of_the_last = refl

pub ranks_by_id : path_ranks (b ∷ a ∷ c ∷ []) ≡ 1 ∷ 0 ∷ 2 ∷ []
ranks_by_id = refl

-- a path comes before what goes on from it
pub rank_of_a_longer_path : path_rank (a ∷ (0x61 ∷ 0x01 ∷ 0x62 ∷ []) ∷ codes "ab" ∷ []) (codes "ab") ≡ 2
rank_of_a_longer_path = refl

-- a byte 00 in a path
pub path_with_a_zero : written_path (0x61 ∷ 0x00 ∷ 0x62 ∷ []) ≡ 0x61 ∷ 0x30 ∷ 0x62 ∷ 0x00 ∷ []
path_with_a_zero = refl

pub path_of_three_segments : with_dots (0x61 ∷ 0x01 ∷ 0x62 ∷ 0x01 ∷ []) ≡ codes "a.b."
path_of_three_segments = refl

pub text_below_zero : fast_value_in (codes "-4") ≡ Some (0x69 ∷ 0x7F ∷ replicate 6 0xFF ++ 0xFC ∷ [])
text_below_zero = refl

pub text_with_a_plus : fast_value_in (codes "+5") ≡ Some (0x69 ∷ 0x80 ∷ replicate 6 0 ++ 5 ∷ [])
text_with_a_plus = refl

pub text_of_the_least : fast_value_in (codes "-9223372036854775808") ≡ Some (0x69 ∷ replicate 8 0)
text_of_the_least = refl

pub text_below_the_least : fast_value_in (codes "-9223372036854775809") ≡ None
text_below_the_least = refl

pub text_above_signed : fast_value_in (codes "9223372036854775808") ≡ Some (0x75 ∷ 0x80 ∷ replicate 7 0)
text_above_signed = refl

pub text_of_the_greatest : fast_value_in (codes "18446744073709551615") ≡ Some (0x75 ∷ replicate 8 0xFF)
text_of_the_greatest = refl

pub text_above_all : fast_value_in (codes "18446744073709551616") ≡ None
text_above_all = refl

pub text_of_truth : fast_value_in (codes "true") ≡ Some (0x6F ∷ replicate 7 0 ++ 1 ∷ [])
text_of_truth = refl

pub text_with_a_point : fast_value_in (codes "1.5") ≡ None
text_with_a_point = refl

pub text_of_a_sign : fast_value_in (codes "-") ≡ None
text_of_a_sign = refl

pub text_of_nothing : fast_value_in [] ≡ None
text_of_nothing = refl

-- the terms of {"a": {"b": 1}, "a": 2}: 1 at the path a, b with id 0, and 2 at the path a with id 1
abbrev paths_of_value : List (List ℕ)
paths_of_value = (0x61 ∷ 0x01 ∷ 0x62 ∷ []) ∷ a ∷ []

abbrev one_below : PathTerm
one_below = record { path_id = 0; code = 0x69; payload = 0x80 ∷ 0x00 ∷ 0x00 ∷ 0x00 ∷ 0x00 ∷ 0x00 ∷ 0x00 ∷ 0x01 ∷ [] }

abbrev two : PathTerm
two = record { path_id = 1; code = 0x69; payload = 0x80 ∷ 0x00 ∷ 0x00 ∷ 0x00 ∷ 0x00 ∷ 0x00 ∷ 0x00 ∷ 0x02 ∷ [] }

pub ids_of_value : map (path_id paths_of_value) paths_of_value ≡ 0 ∷ 1 ∷ []
ids_of_value = refl

pub ranks_of_value : path_ranks paths_of_value ≡ 1 ∷ 0 ∷ []
ranks_of_value = refl

pub later_id_comes_first : term_cmp paths_of_value two one_below ≡ Less
later_id_comes_first = refl

pub keys_of_value : map (key_of_term paths_of_value) (two ∷ one_below ∷ [])
    ≡ (0x61 ∷ 0x00 ∷ 0x69 ∷ 0x80 ∷ 0x00 ∷ 0x00 ∷ 0x00 ∷ 0x00 ∷ 0x00 ∷ 0x00 ∷ 0x02 ∷ [])
    ∷ (0x61 ∷ 0x01 ∷ 0x62 ∷ 0x00 ∷ 0x69 ∷ 0x80 ∷ 0x00 ∷ 0x00 ∷ 0x00 ∷ 0x00 ∷ 0x00 ∷ 0x00 ∷ 0x01 ∷ []) ∷ []
keys_of_value = refl
