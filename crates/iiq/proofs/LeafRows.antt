-- Worked rows of lines with a JSON value, each computed.
use Rattle.std.specs.Prelude.{◌≡◌, ℕ, ◌+◌, ◌^◌, ◌++◌, [], ◌∷◌, List, Option, None, Some, codes, replicate, refl}
use Rattle.ii_base.specs.Json.{Leaf, text_leaf, value_leaf}
use Rattle.ii_base.specs.declared.schema.index_record_option.IndexRecordOption.TheVariants.{Basic, WithFreqsAndPositions}
use Rattle.ii_base.specs.declared.schema.value_type.ValueType.TheVariants as types
use Rattle.ii_definitions.specs.Tokens.{leaves}
use Rattle.iiq.specs.declared.commands.CommandSet.TheVariants.{WithQueries}
use Rattle.iiq.specs.Commands.{Command, command_of, index_call, look_up}

-- a call to the field of JSON values
abbrev indexed : ℕ → List (List ℕ × Leaf) → Option Command
indexed doc found = Some (index_call (record { doc = doc; field = 2; content = leaves found }))

-- a lookup of a key there
abbrev looked_up : List ℕ → Option Command
looked_up key = Some (look_up WithFreqsAndPositions (Some (record { field = 2; value = key })))

pub row_number : command_of WithQueries (codes "leaf 1 n i 5") ≡ indexed 1 ((codes "n", value_leaf types.I64 (2 ^ 63 + 5)) ∷ [])
row_number = refl

pub row_number_term : command_of WithQueries (codes "? leaf p n i 5") ≡ looked_up (0x6E ∷ 0 ∷ 0x69 ∷ 0x80 ∷ replicate 6 0 ++ 5 ∷ [])
row_number_term = refl

-- an unsigned number that fits is a signed one
pub row_unsigned : command_of WithQueries (codes "? leaf p n u 5") ≡ command_of WithQueries (codes "? leaf p n i 5")
row_unsigned = refl

pub row_large : command_of WithQueries (codes "? leaf p u u 9223372036854775808") ≡ looked_up (0x75 ∷ 0 ∷ 0x75 ∷ 0x80 ∷ replicate 7 0)
row_large = refl

pub row_least : command_of WithQueries (codes "leaf 1 a i -9223372036854775808") ≡ indexed 1 ((codes "a", value_leaf types.I64 0) ∷ [])
row_least = refl

pub row_too_small : command_of WithQueries (codes "leaf 1 a i -9223372036854775809") ≡ None
row_too_small = refl

pub row_too_large : command_of WithQueries (codes "leaf 1 a i 9223372036854775808") ≡ None
row_too_large = refl

pub row_minus_zero : command_of WithQueries (codes "leaf 1 a i -0") ≡ indexed 1 ((codes "a", value_leaf types.I64 (2 ^ 63)) ∷ [])
row_minus_zero = refl

pub row_plus : command_of WithQueries (codes "leaf 1 a i +1") ≡ None
row_plus = refl

pub row_minus_unsigned : command_of WithQueries (codes "leaf 1 a u -0") ≡ None
row_minus_unsigned = refl

pub row_truth : command_of WithQueries (codes "leaf 1 a o true") ≡ indexed 1 ((codes "a", value_leaf types.Bool 1) ∷ [])
row_truth = refl

pub row_text : command_of WithQueries (codes "leaf 1 a\\.b.c s x,y") ≡ indexed 1 ((codes "a.b" ++ 1 ∷ codes "c", text_leaf (codes "x,y")) ∷ [])
row_text = refl

pub row_text_term : command_of WithQueries (codes "? leaf p .a s x") ≡ looked_up (1 ∷ 0x61 ∷ 0 ∷ 0x73 ∷ 0x78 ∷ [])
row_text_term = refl

pub row_root : command_of WithQueries (codes "? leaf p \\ s x") ≡ looked_up (0 ∷ 0x73 ∷ 0x78 ∷ [])
row_root = refl

-- a null, and a path that holds byte 0
pub row_null : command_of WithQueries (codes "leaf 1 a n") ≡ indexed 1 []
row_null = refl

pub row_null_term : command_of WithQueries (codes "? leaf p a n") ≡ Some (look_up WithFreqsAndPositions None)
row_null_term = refl

pub row_null_word : command_of WithQueries (codes "leaf 1 a n x") ≡ None
row_null_word = refl

pub row_zero : command_of WithQueries (codes "leaf 1 a" ++ 0 ∷ codes "b i 5") ≡ indexed 1 []
row_zero = refl

pub row_zero_term : command_of WithQueries (codes "? leaf b a" ++ 0 ∷ codes "b i 5") ≡ Some (look_up Basic None)
row_zero_term = refl

pub row_no_text : command_of WithQueries (codes "leaf 1 a s ") ≡ None
row_no_text = refl

pub row_two_words : command_of WithQueries (codes "leaf 1 a s x y") ≡ None
row_two_words = refl
