-- Leaves of JSON values: their paths have no byte 0, and their values are no texts.
use Rattle.std.proofs.Common.{◌≡◌, ◌∙◌, ◌==◌, ◌||◌, ℕ, ◌^◌, Bool, true, false, pos, List, [], ◌∷◌, ◌++◌, map, nat_le, nat_lt, refl, sym, ap, subst, String}
use Rattle.std.specs.Prelude.{⊤, if◌then◌else◌}
use Rattle.std.specs.declared.alloc.Global.{Global}
use Rattle.std.specs.List.{AllByRecursion}
use Rattle.std.proofs.lemmas.Bool.{eqb-true}
use Rattle.std.proofs.lemmas.List.Folds.{list_any-append}
use Rattle.ii_io.specs.declared.faults.LeafKind.TheVariants as kinds
use Rattle.ii_base.specs.Json.{Items, Json, Leaf, Members, array, item, items_from, items_leaves, json_leaves, json_of, json_step, leaf, leaves_below, member, members_from, members_leaves, no_items, no_members, null, object, text_leaf, u64_leaf, unsupported, value_leaf}
use Rattle.ii_base.specs.Paths.{has_zero, joined_segments, segment_bytes}
use Rattle.ii_base.specs.Values.{flipped}
use Rattle.ii_base.specs.ValueTypes.{code_of}
use Rattle.ii_base.specs.declared.json_value.JsonValue.{JsonValue, map-JsonValue}
use Rattle.ii_base.specs.declared.json_value.JsonValue.TheOpen.{JsonValue-F}
use Rattle.ii_base.specs.declared.json_value.JsonValue.TheFolds.{fold-roll-JsonValue, ind-JsonValue}
use Rattle.ii_base.specs.declared.schema.value_type.ValueType.TheVariants as types
use Rattle.ii_base.proofs.CleanLemmas.{clean_segment}
use Rattle.ii_definitions.proofs.ListLaws.{all_both}

-- A leaf is no value with the type of texts.
abbrev pub IsPlainLeaf : Leaf → Type 0
IsPlainLeaf (text_leaf t) = ⊤
IsPlainLeaf (value_leaf t n) = (code_of t == code_of types.Str) ≡ false
IsPlainLeaf (unsupported kind) = ⊤

-- So it is of each leaf of a value.
abbrev mutual
  pub HasPlainLeaves : Json → Type 0
  HasPlainLeaves null = ⊤
  HasPlainLeaves (leaf l) = IsPlainLeaf l
  HasPlainLeaves (array is) = HavePlainLeaves is
  HasPlainLeaves (object ms) = MembersHavePlainLeaves ms

  pub HavePlainLeaves : Items → Type 0
  HavePlainLeaves no_items = ⊤
  HavePlainLeaves (item j is) = HasPlainLeaves j × HavePlainLeaves is

  pub MembersHavePlainLeaves : Members → Type 0
  MembersHavePlainLeaves no_members = ⊤
  MembersHavePlainLeaves (member k j ms) = HasPlainLeaves j × MembersHavePlainLeaves ms

plain_u64 : (n : ℕ) → IsPlainLeaf (u64_leaf n)
plain_u64 n = by (nat_lt n (2 ^ 63))
  where
    by : (b : Bool) → IsPlainLeaf (if b then value_leaf types.I64 (flipped (pos n)) else value_leaf types.U64 n)
    by true = refl
    by false = refl

abbrev IsPlain : JsonValue → Type 0
IsPlain v = HasPlainLeaves (json_of v)

plain_items : (vs : List ((v : JsonValue) × IsPlain v)) → HavePlainLeaves (items_from (map json_of (map (λ e. e.0) vs)))
plain_items [] = tt
plain_items (v ∷ vs) = (v.1, plain_items vs)

plain_members : (ms : List (String Global × ((v : JsonValue) × IsPlain v))) → MembersHavePlainLeaves (members_from (map (λ (m : String Global × JsonValue). (m.0, json_of m.1)) (map (λ (m : String Global × ((v : JsonValue) × IsPlain v)). (m.0, m.1.0)) ms)))
plain_members [] = tt
plain_members (m ∷ ms) = (m.1.1, plain_members ms)

plain_layer : (y : JsonValue-F ((v : JsonValue) × IsPlain v)) → HasPlainLeaves (json_step (map-JsonValue JsonValue Json json_of (map-JsonValue ((v : JsonValue) × IsPlain v) JsonValue (λ e. e.0) y)))
plain_layer JsonValue-F.Null = tt
plain_layer (JsonValue-F.Str s) = tt
plain_layer (JsonValue-F.U64 n) = plain_u64 n
plain_layer (JsonValue-F.I64 z) = refl
plain_layer (JsonValue-F.Bool b) = refl
plain_layer (JsonValue-F.Date z) = refl
plain_layer (JsonValue-F.F64Bits bits) = tt
plain_layer JsonValue-F.PreTok = tt
plain_layer JsonValue-F.Bytes = tt
plain_layer JsonValue-F.Facet = tt
plain_layer JsonValue-F.Ip = tt
plain_layer (JsonValue-F.Array v) = plain_items v.items
plain_layer (JsonValue-F.Object v) = plain_members v.items

-- the leaves of any value are plain
pub all_plain : (v : JsonValue) → HasPlainLeaves (json_of v)
all_plain = ind-JsonValue IsPlain (λ x y is.
    subst HasPlainLeaves (sym (fold-roll-JsonValue Json json_step x)) (subst (λ (z : JsonValue-F JsonValue). HasPlainLeaves (json_step (map-JsonValue JsonValue Json json_of z))) is (plain_layer y)))

-- A path has no byte 0, and its leaf is plain.
abbrev pub IsCleanLeaf : List ℕ × Leaf → Type 0
IsCleanLeaf l = (has_zero l.0 ≡ false) × IsPlainLeaf l.1

-- No segment has byte 0.
abbrev AreCleanSegments : List (List ℕ) → Type 0
AreCleanSegments ss = AllByRecursion (λ (s : List ℕ). has_zero s ≡ false) ss

both_without : (xs ys : List ℕ) → has_zero xs ≡ false → has_zero ys ≡ false → has_zero (xs ++ ys) ≡ false
both_without xs ys first second = list_any-append (λ b. b == 0) xs ys ∙ rw (first, second) refl

clean_joined : (ss : List (List ℕ)) → AreCleanSegments ss → has_zero (joined_segments ss) ≡ false
clean_joined [] clean = refl
clean_joined (s ∷ []) clean = clean.0
clean_joined (s ∷ t ∷ ss) clean = both_without s (1 ∷ joined_segments (t ∷ ss)) clean.0 (clean_joined (t ∷ ss) clean.1)

clean_more : (ss : List (List ℕ)) (s : List ℕ) → AreCleanSegments ss → has_zero s ≡ false → AreCleanSegments (ss ++ s ∷ [])
clean_more [] s clean none = (none, tt)
clean_more (t ∷ ss) s clean none = (clean.0, clean_more ss s clean.1 none)

one_member : (b : Bool) (ls : List (List ℕ × Leaf)) → (b ≡ false → AllByRecursion IsCleanLeaf ls) → AllByRecursion IsCleanLeaf (if b then [] else ls)
one_member true ls clean = tt
one_member false ls clean = clean refl

mutual
  clean_below : (expand_dots : Bool) (path : List (List ℕ)) (j : Json) → AreCleanSegments path → HasPlainLeaves j → AllByRecursion IsCleanLeaf (leaves_below expand_dots path j)
  clean_below expand_dots path null clean plain = tt
  clean_below expand_dots path (leaf l) clean plain = ((clean_joined path clean, plain), tt)
  clean_below expand_dots path (array is) clean plain = clean_items expand_dots path is clean plain
  clean_below expand_dots path (object ms) clean plain = clean_members expand_dots path ms clean plain

  clean_items : (expand_dots : Bool) (path : List (List ℕ)) (is : Items) → AreCleanSegments path → HavePlainLeaves is → AllByRecursion IsCleanLeaf (items_leaves expand_dots path is)
  clean_items expand_dots path no_items clean plain = tt
  clean_items expand_dots path (item j is) clean plain =
      all_both IsCleanLeaf (leaves_below expand_dots path j) (items_leaves expand_dots path is) (clean_below expand_dots path j clean plain.0) (clean_items expand_dots path is clean plain.1)

  clean_members : (expand_dots : Bool) (path : List (List ℕ)) (ms : Members) → AreCleanSegments path → MembersHavePlainLeaves ms → AllByRecursion IsCleanLeaf (members_leaves expand_dots path ms)
  clean_members expand_dots path no_members clean plain = tt
  clean_members expand_dots path (member k j ms) clean plain =
      all_both IsCleanLeaf (if has_zero k then [] else leaves_below expand_dots (path ++ segment_bytes expand_dots k ∷ []) j) (members_leaves expand_dots path ms)
      (one_member (has_zero k) (leaves_below expand_dots (path ++ segment_bytes expand_dots k ∷ []) j) (λ none. clean_below expand_dots (path ++ segment_bytes expand_dots k ∷ []) j (clean_more path (segment_bytes expand_dots k) clean (clean_segment expand_dots k none)) plain.0))
      (clean_members expand_dots path ms clean plain.1)

-- the leaves of a value have clean paths, and are plain
pub clean_leaves : (expand_dots : Bool) (v : JsonValue) → AllByRecursion IsCleanLeaf (json_leaves expand_dots (json_of v))
clean_leaves expand_dots v = clean_below expand_dots [] (json_of v) tt (all_plain v)
