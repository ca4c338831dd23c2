-- A value of one leaf at a path, as one member of an object.
use Rattle.std.proofs.Common.{◌≡◌, ◌∙◌, ◌<◌, ℕ, Bool, true, false, ◌||◌, ◌&&◌, not, ◌==◌, List, [], ◌∷◌, ◌++◌, map, Option, Some, None, refl, sym, ap, cond, subst, append_assoc, String, Global, Vec}
use Rattle.std.specs.Prelude.{is_none, string_bytes, unwrap_or}
use Rattle.std.specs.Option.{option_map}
use Rattle.std.specs.List.{list_any, onto_first, slice_split}
use Rattle.std.proofs.lemmas.Bool.{and_parts, eqb-true}
use Rattle.std.proofs.lemmas.List.Folds.{list_any-append}
use Rattle.ii_base.specs.declared.json_value.JsonValue.{JsonValue}
use Rattle.ii_base.specs.declared.json_value.JsonValue.TheOpen.{JsonValue-F}
use Rattle.ii_base.specs.declared.json_value.JsonValue.TheVariants.{rolls-Object}
use Rattle.ii_base.specs.declared.json_value.JsonValue.TheVariants as values
use Rattle.ii_base.specs.declared.json_value.JsonValue.TheFolds.{fold-roll-JsonValue}
use Rattle.ii_base.specs.Json.{Json, Leaf, json_leaves, json_of, json_step, member, members_from, no_members, object}
use Rattle.ii_base.specs.Paths.{acts_as, has_zero, joined_segments, kept_bytes, marked, path_bytes, segment_bytes, segments_of}
use Rattle.ii_base.specs.Terms.{TermState}
use Rattle.ii_base.specs.Values.{json_key}
use Rattle.ii_base.specs.declared.doc_id.TheConstants.{TERMINATED}
use Rattle.ii_definitions.specs.declared.index_call.IndexCall.TheVariants as calls
use Rattle.iiq.specs.Commands.{leaf_key, leaf_term, leaf_under}
use Rattle.iiq.specs.Known.{IsCall, json_alone}
use Rattle.std.proofs.Math.Bool.{or-false}

-- a byte that is no zero, by what it is
no_zero : (k c : ℕ) → (c == k) ≡ true → (k == 0) ≡ false → (c == 0) ≡ false
no_zero k c e none = subst (λ (b : ℕ). (b == 0) ≡ false) (sym (eqb-true c k e)) none

or_assoc : (a b c : Bool) → ((a || b) || c) ≡ (a || (b || c))
or_assoc true b c = refl
or_assoc false b c = refl

-- whether a segment holds byte 0
abbrev any_zero : List (List (ℕ × Bool)) → Bool
any_zero parts = list_any has_zero (map kept_bytes parts)

kept_by : (c : ℕ) (kept acts : Bool) (bs : List (ℕ × Bool)) → acts_as 92 (c, kept) ≡ acts → has_zero (kept_bytes ((c, kept) ∷ bs)) ≡ ((c == 0) || has_zero (kept_bytes bs))
kept_by c kept true bs e = rw (e, no_zero 92 c (and_parts (not kept) (c == 92) e).1 refl) refl
kept_by c kept false bs e = rw e refl

onto_zero : (c : ℕ) (kept : Bool) (parts : List (List (ℕ × Bool))) → any_zero (onto_first (c, kept) parts) ≡ ((c == 0) || any_zero parts)
onto_zero c kept [] = ap (λ b. b || false) (kept_by c kept (acts_as 92 (c, kept)) [] refl) ∙ or_assoc (c == 0) false false
onto_zero c kept (p ∷ ps) = ap (λ b. b || any_zero ps) (kept_by c kept (acts_as 92 (c, kept)) p refl) ∙ or_assoc (c == 0) (has_zero (kept_bytes p)) (any_zero ps)

split_by : (c : ℕ) (kept dot : Bool) (parts : List (List (ℕ × Bool))) (zero : Bool) → acts_as 46 (c, kept) ≡ dot → any_zero parts ≡ zero → any_zero (cond dot ([] ∷ parts) (onto_first (c, kept) parts)) ≡ ((c == 0) || zero)
split_by c kept true parts zero e is = rw (no_zero 46 c (and_parts (not kept) (c == 46) e).1 refl) is
split_by c kept false parts zero e is = onto_zero c kept parts ∙ ap (λ b. (c == 0) || b) is

-- a path's text holds byte 0 exactly if a segment does
split_zero : (kept : Bool) (text : List ℕ) → any_zero (slice_split (acts_as 46) (marked kept text)) ≡ has_zero text
split_zero kept [] = refl
split_zero kept (c ∷ cs) =
    let next = not kept && (c == 92) in
    split_by c kept (acts_as 46 (c, kept)) (slice_split (acts_as 46) (marked next cs)) (has_zero cs) refl (split_zero next cs)

-- and then their bytes do
join_zero : (segments : List (List ℕ)) → has_zero (joined_segments segments) ≡ list_any has_zero segments
join_zero [] = refl
join_zero (s ∷ []) = sym (or-false (has_zero s))
join_zero (s ∷ t ∷ ss) = list_any-append (λ (b : ℕ). b == 0) s (1 ∷ joined_segments (t ∷ ss)) ∙ ap (λ b. has_zero s || b) (join_zero (t ∷ ss))

joined_zero : (path : List ℕ) → has_zero (joined_segments (segments_of path)) ≡ has_zero path
joined_zero path = join_zero (segments_of path) ∙ split_zero false path

-- an object of one member
abbrev one_member : List ℕ → Json → Json
one_member key j = object (member key j no_members)

-- a term, as a record
abbrev pub term_at : ℕ → List ℕ → TermState
term_at field value = record { field = field; value = value }

-- an object with the complete path as its only key
object_by : (path bytes : List ℕ) (l : Option Leaf) (zero : Bool) → has_zero path ≡ zero → has_zero bytes ≡ zero → bytes ≡ joined_segments (segments_of path) → json_leaves false (one_member bytes (json_alone l)) ≡ leaf_under path l
object_by path bytes None true e same is = rw same refl
object_by path bytes None false e same is = rw same refl
object_by path bytes (Some l) true e same is = rw (same, e) refl
object_by path bytes (Some l) false e same is = rw (same, e) (ap (λ (b : List ℕ). (b, l) ∷ []) is)

object_json : (members : Vec (String Global × JsonValue) Global) → json_of (values.Object members) ≡ object (members_from (map (λ (m : String Global × JsonValue). (m.0, json_of m.1)) members.items))
object_json members = ap json_of (sym (rolls-Object members)) ∙ fold-roll-JsonValue Json json_step (JsonValue-F.Object members)

pub object_leaves : (key : String Global) (inner : JsonValue) (members : Vec (String Global × JsonValue) Global) (path : List ℕ) (l : Option Leaf) → members.items ≡ (key, inner) ∷ [] → string_bytes key ≡ joined_segments (segments_of path) → json_of inner ≡ json_alone l
    → json_leaves false (json_of (values.Object members)) ≡ leaf_under path l
object_leaves key inner members path l one is alone =
    ap (json_leaves false) (object_json members
    ∙ ap (λ (ms : List (String Global × JsonValue)). object (members_from (map (λ (m : String Global × JsonValue). (m.0, json_of m.1)) ms))) one
    ∙ ap (one_member (string_bytes key)) alone)
    ∙ object_by path (string_bytes key) l (has_zero path) refl (ap has_zero is ∙ joined_zero path) is

-- a value that is to be indexed
pub leaf_is_call : (doc field : ℕ) (v : JsonValue) (limit : ℕ) → field ≡ 2 → limit ≡ TERMINATED → doc < limit → IsCall (calls.Json doc field v)
leaf_is_call doc field v limit field_is limit_is below =
    subst (λ (f : ℕ). IsCall (calls.Json doc f v)) (sym field_is)
    (record { below = rw limit_is at below; takes = record { entry = _; found = refl; indexed = refl; typed = refl } })

-- where a path holds byte 0, and where there is no leaf
pub zero_path : (path : List ℕ) (l : Option Leaf) → has_zero path ≡ true → None ≡ leaf_term (leaf_under path l)
zero_path path None e = refl
zero_path path (Some l) e = rw e refl

plain_segments : (segments : List (List ℕ)) → map (segment_bytes false) segments ≡ segments
plain_segments [] = refl
plain_segments (s ∷ ss) = ap (λ (more : List (List ℕ)). s ∷ more) (plain_segments ss)

-- the term of a leaf
pub leaf_term_is : (path : List ℕ) (l : Option Leaf) (field : ℕ) (begun term : TermState) → has_zero path ≡ false → is_none l ≡ false → field ≡ 2 → begun ≡ term_at field (path_bytes false (segments_of path) ++ 0 ∷ []) → term ≡ term_at begun.field (begun.value ++ unwrap_or (option_map leaf_key l) [])
    → Some term ≡ leaf_term (leaf_under path l)
leaf_term_is path None field begun term zero some field_is begun_is term_is = absurd (cc)
leaf_term_is path (Some l) field begun term zero some field_is begun_is term_is =
    let bytes : (path_bytes false (segments_of path) ++ 0 ∷ []) ++ leaf_key l ≡ json_key (joined_segments (segments_of path)) (leaf_key l) =
    append_assoc (path_bytes false (segments_of path)) (0 ∷ []) (leaf_key l) ∙ ap (λ (ss : List (List ℕ)). joined_segments ss ++ 0 ∷ leaf_key l) (plain_segments (segments_of path)) in
    rw (zero, term_is, begun_is, field_is) (ap (λ (key : List ℕ). Some (term_at 2 key)) bytes)
