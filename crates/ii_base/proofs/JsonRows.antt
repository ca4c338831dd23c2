-- Computed examples of JSON values and their keys.
use Rattle.std.specs.Prelude.{◌≡◌, ℕ, zero, suc, ◌+◌, ◌++◌, ◌^◌, [], ◌∷◌, List, codes, replicate, negsuc, true, false, refl}
use Rattle.ii_io.specs.declared.faults.LeafKind.TheVariants as kinds
use Rattle.ii_base.specs.declared.schema.value_type.ValueType.TheVariants as types
use Rattle.ii_base.specs.Json.{Json, array, item, json_leaves, leaf, member, no_items, no_members, null, object, text_leaf, u64_leaf, unsupported, value_leaf}
use Rattle.ii_base.specs.Values.{whole_seconds, flipped, json_key, text_key, typed_key}

abbrev one_member : List ℕ → Json → Json
one_member key j = object (member key j no_members)

abbrev number : ℕ → Json
number n = leaf (u64_leaf n)

-- the names of two bands, in an array
pub names_of_bands : json_leaves false (one_member (codes "bands") (array (item (one_member (codes "band_name") (leaf (text_leaf (codes "Elliot Smith")))) (item (one_member (codes "band_name") (leaf (text_leaf (codes "The Who")))) no_items))))
    ≡ (codes "bands" ++ 1 ∷ codes "band_name", text_leaf (codes "Elliot Smith")) ∷ (codes "bands" ++ 1 ∷ codes "band_name", text_leaf (codes "The Who")) ∷ []
names_of_bands = refl

-- a key that occurs twice, and one that holds byte 0
pub keys_of_an_object : json_leaves false (object (member (codes "a") (one_member (codes "b") (number 1)) (member (codes "a") (number 2) (member (codes "c" ++ 0 ∷ []) (number 3) no_members))))
    ≡ (codes "a" ++ 1 ∷ codes "b", value_leaf types.I64 (2 ^ 63 + 1)) ∷ (codes "a", value_leaf types.I64 (2 ^ 63 + 2)) ∷ []
keys_of_an_object = refl

pub key_of_one_below : json_key (codes "a" ++ 1 ∷ codes "b") (typed_key types.I64 (2 ^ 63 + 1)) ≡ 0x61 ∷ 1 ∷ 0x62 ∷ 0 ∷ 0x69 ∷ 0x80 ∷ replicate 6 0 ++ 1 ∷ []
key_of_one_below = refl

pub key_of_two : json_key (codes "a") (typed_key types.I64 (2 ^ 63 + 2)) ≡ 0x61 ∷ 0 ∷ 0x69 ∷ 0x80 ∷ replicate 6 0 ++ 2 ∷ []
key_of_two = refl

-- with dots expanded or not
pub key_with_a_dot : json_leaves false (one_member (codes "k8s.node") (leaf (text_leaf []))) ≡ (codes "k8s.node", text_leaf []) ∷ []
key_with_a_dot = refl

pub key_with_an_expanded_dot : json_leaves true (one_member (codes "k8s.node") (leaf (text_leaf []))) ≡ (codes "k8s" ++ 1 ∷ codes "node", text_leaf []) ∷ []
key_with_an_expanded_dot = refl

-- at the root
pub text_at_the_root : json_leaves false (leaf (text_leaf (codes "x"))) ≡ ([], text_leaf (codes "x")) ∷ []
text_at_the_root = refl

pub key_at_the_root : json_key [] (text_key (codes "x")) ≡ 0 ∷ 0x73 ∷ 0x78 ∷ []
key_at_the_root = refl

pub nothing_at_the_root : json_leaves false null ≡ []
nothing_at_the_root = refl

-- dates before 1970: the last nanosecond, and one and a half seconds
pub key_of_last_nanosecond : json_key (codes "d") (typed_key types.Date (flipped (whole_seconds (negsuc 0)))) ≡ 0x64 ∷ 0 ∷ 0x64 ∷ 0x80 ∷ replicate 7 0
key_of_last_nanosecond = refl

pub key_of_a_second_and_a_half : json_key (codes "d") (typed_key types.Date (flipped (whole_seconds (negsuc 1499999999)))) ≡ 0x64 ∷ 0 ∷ 0x64 ∷ 0x7F ∷ replicate 3 0xFF ++ 0xC4 ∷ 0x65 ∷ 0x36 ∷ 0 ∷ []
key_of_a_second_and_a_half = refl

-- the least number that isn't a signed one
pub unsigned_leaf : u64_leaf (2 ^ 63) ≡ value_leaf types.U64 (2 ^ 63)
unsigned_leaf = refl

pub unsigned_key : json_key (codes "u") (typed_key types.U64 (2 ^ 63)) ≡ 0x75 ∷ 0 ∷ 0x75 ∷ 0x80 ∷ replicate 7 0
unsigned_key = refl

-- a floating-point number, and one under a key that holds byte 0
pub float_is_reached : json_leaves false (object (member (codes "a") (number 1) (member (codes "b") (leaf (unsupported kinds.Float)) no_members))) ≡ (codes "a", value_leaf types.I64 (2 ^ 63 + 1)) ∷ (codes "b", unsupported kinds.Float) ∷ []
float_is_reached = refl

pub float_is_left_out : json_leaves false (object (member (codes "a") (number 1) (member (codes "b" ++ 0 ∷ []) (leaf (unsupported kinds.Float)) no_members))) ≡ (codes "a", value_leaf types.I64 (2 ^ 63 + 1)) ∷ []
float_is_left_out = refl

-- a number in nested arrays
abbrev in_arrays : ℕ → Json
in_arrays zero = number 1
in_arrays (suc n) = array (item (in_arrays n) no_items)

-- a leaf below many levels
pub deep_leaf : json_leaves false (in_arrays 200) ≡ ([], value_leaf types.I64 (2 ^ 63 + 1)) ∷ []
deep_leaf = refl
