-- Worked rows, each computed.
use Rattle.std.specs.Prelude.{◌≡◌, [], ◌∷◌, ◌++◌, map, replicate, None, Some, Ok, Err, List, ℕ, refl}
use Rattle.ii_io.specs.declared.faults.Part.TheVariants.{Dictionary, TermStore}
use Rattle.ii_io.specs.Numbers.{number_at}
use Rattle.ii_termstore.specs.TermInfos.{term_info_from, info_at}
use Rattle.ii_termstore.specs.TermStore.{meta_at, later_info, is_block, block_meta_at, term_info_at, store_parts, term_store}
use Rattle.ii_termdict.specs.Dictionary.{TermEntry, end_of, key_parts, keys_at, dictionary}
use Rattle.ii_termdict.specs.TermMerger.{behind_key, first_info, least_key}

-- one key, 61, in 3 documents with 3 bytes of postings
abbrev one : List ℕ
one =
    1 ∷ replicate 7 0 ++ 1 ∷ replicate 7 0 ++ 0x61 ∷ [] ++ 0x27 ∷ replicate 7 0 ++ 1 ∷ replicate 7 0 ++ replicate 8 0 ++ 3 ∷ replicate 11 0
    ++ 3 ∷ replicate 15 0 ++ 0 ∷ 2 ∷ 0 ∷ 3 ∷ []

pub empty : dictionary (replicate 24 0) ≡ Ok []
unfolding dictionary keys_at key_parts end_of number_at term_store store_parts
empty = refl

pub seven : dictionary (replicate 7 0) ≡ Err Dictionary
unfolding dictionary keys_at key_parts number_at
seven = refl

pub no_store : dictionary (replicate 23 0) ≡ Err TermStore
unfolding dictionary keys_at key_parts end_of number_at term_store store_parts
no_store = refl

pub one_key : dictionary one ≡ Ok ((0x61 ∷ [], term_info_from 3 0 3 0 0) ∷ [])
unfolding dictionary keys_at key_parts end_of number_at term_store store_parts block_meta_at meta_at info_at is_block later_info term_info_at
one_key = refl

-- two dictionaries, with the keys 1, 3 and the keys 2, 3
abbrev first_dictionary : List TermEntry
first_dictionary = (1 ∷ [], term_info_from 5 0 1 0 0) ∷ (3 ∷ [], term_info_from 6 1 2 0 0) ∷ []

abbrev second_dictionary : List TermEntry
second_dictionary = (2 ∷ [], term_info_from 7 0 1 0 0) ∷ (3 ∷ [], term_info_from 8 1 2 0 0) ∷ []

pub least_of_two : least_key (first_dictionary ∷ second_dictionary ∷ []) ≡ Some (1 ∷ [])
least_of_two = refl

pub behind_one : map (behind_key (1 ∷ [])) (first_dictionary ∷ second_dictionary ∷ []) ≡ ((3 ∷ [], term_info_from 6 1 2 0 0) ∷ []) ∷ second_dictionary ∷ []
behind_one = refl

pub infos_of_one : map (first_info (1 ∷ [])) (first_dictionary ∷ second_dictionary ∷ []) ≡ Some (term_info_from 5 0 1 0 0) ∷ None ∷ []
infos_of_one = refl

pub least_of_none : least_key ([] ∷ [] ∷ []) ≡ None
least_of_none = refl
