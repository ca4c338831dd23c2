-- The text of a part of a query.
use Rattle.std.specs.Prelude.{ℕ, ◌-◌, ◌==◌, ◌&&◌, List, [], ◌∷◌, ◌++◌, Option, None, Some, codes, decimal, drop, if◌then◌else◌, length, position, slice_get, take, unwrap_or}
use Rattle.std.specs.List.{repeat}
use Rattle.ii_base.specs.Schema.{SchemaEntry}
use Rattle.ii_base.specs.Terms.{TermState}
use Rattle.ii_base.specs.ValueTypes.{code_of}
use Rattle.ii_base.specs.declared.schema.value_type.ValueType.{ValueType}
use Rattle.ii_base.specs.declared.schema.value_type.ValueType.TheVariants as types
use Rattle.ii_query_grammar.specs.Trees.{Bound, exclusive, inclusive, unbounded}
use Rattle.ii_query_parser.specs.declared.query.PhraseTerm.{PhraseTerm}
use Rattle.ii_query_parser.specs.Queries.{QueryTree, all_below, any_of, each_of, nothing, one_phrase, one_phrase_prefix, one_range, one_term, others_with, without}
use Rattle.ii_query_parser.specs.QueryTexts.{is_unbounded}
use Rattle.ii_query_parser.specs.Ranges.{KeyRange, keys_of}
use Rattle.ii_term_text.specs.KeyTexts.{text_of_key, type_of_letter, utf8_or_bytes}
use Rattle.ii_term_text.specs.PathTexts.{path_text}

-- a field's name, a colon, and a text by the type of its values; nothing for a field that the schema doesn't have
abbrev pub in_entry : Option SchemaEntry → (ValueType → List ℕ) → List ℕ
in_entry None text_by = []
in_entry (Some e) text_by = e.name ++ 58 ∷ text_by e.value_type

-- the same for the field with a number
abbrev pub in_field : List SchemaEntry → ℕ → (ValueType → List ℕ) → List ℕ
in_field entries field text_by = in_entry (slice_get entries field) text_by

-- the later terms of a phrase, given the distance of the one before them: each after a space, and after ` ?` for each position between that has no term
abbrev pub later_terms : ValueType → ℕ → List PhraseTerm → List ℕ
later_terms t last [] = []
later_terms t last (o ∷ os) = (repeat (o.distance - last - 1) (codes " ?") ++ 32 ∷ text_of_key t o.term.value) ++ later_terms t o.distance os

-- the distance of the last term of a phrase, given that of the one before these
abbrev pub last_distance : ℕ → List PhraseTerm → ℕ
last_distance last [] = last
last_distance last (o ∷ os) = last_distance o.distance os

-- the terms of a phrase, in quotes
abbrev pub phrase_text : TermState → List PhraseTerm → ValueType → List ℕ
phrase_text first others t = 34 ∷ (text_of_key t first.value ++ later_terms t 0 others ++ 34 ∷ [])

-- the slop of a phrase, after a `~`; nothing for 0
abbrev pub slop_text : ℕ → List ℕ
slop_text slop = if slop == 0 then [] else 126 ∷ decimal slop

-- the beginning of a value; nothing if it is empty
abbrev pub value_start : ValueType → List ℕ → List ℕ
value_start t [] = []
value_start t (b ∷ bs) = text_of_key t (b ∷ bs)

-- the letter of a type, a space, and the beginning of a value; nothing without a type
abbrev pub lettered_start : Option ValueType → List ℕ → List ℕ
lettered_start None value = []
lettered_start (Some t) value = code_of t ∷ 32 ∷ value_start t value

-- what there is of a key of a JSON field after its path: byte 0, the letter of a type and a value
abbrev pub typed_start : List ℕ → List ℕ
typed_start (end ∷ code ∷ value) = lettered_start (type_of_letter code) value
typed_start (end ∷ []) = []
typed_start [] = []

-- how many bytes the path has that a key of a JSON field begins with
abbrev pub path_len : List ℕ → ℕ
path_len key = unwrap_or (position (λ b. b == 0) key) (length key)

-- the beginning of a key of a JSON field: its path, a space, and what there is of the rest
abbrev pub json_start : List ℕ → List ℕ
json_start key = utf8_or_bytes path_text (take (path_len key) key) ++ 32 ∷ typed_start (drop (path_len key) key)

-- the beginning of keys; nothing if it is empty
abbrev pub key_start : ValueType → List ℕ → List ℕ
key_start t [] = []
key_start types.Json (b ∷ bs) = json_start (b ∷ bs)
key_start t (b ∷ bs) = text_of_key t (b ∷ bs)

-- a bound of a range, `*` if there is none
abbrev pub bound_text : ValueType → Bound → List ℕ
bound_text t unbounded = codes "*"
bound_text t (inclusive key) = text_of_key t key
bound_text t (exclusive key) = text_of_key t key

-- the bracket before a range: `{` before a bound that is left out
abbrev pub opening : Bound → List ℕ
opening unbounded = codes "["
opening (inclusive key) = codes "["
opening (exclusive key) = codes "{"

-- the bracket after a range
abbrev pub closing : Bound → List ℕ
closing unbounded = codes "]"
closing (inclusive key) = codes "]"
closing (exclusive key) = codes "}"

-- a range: its bounds in brackets; without bounds the beginning of its keys, and `*`
abbrev pub range_text : KeyRange → ValueType → List ℕ
range_text r t =
    if is_unbounded r.lower && is_unbounded r.upper then key_start t r.prefix.value ++ codes "*"
    else opening r.lower ++ bound_text t r.lower ++ codes " TO " ++ bound_text t r.upper ++ closing r.upper

-- the text of a part of a query that has no parts: keys as `terms` prints them; a phrase whose last term is one of a range with the prefix of this as its last term, and `*`
abbrev pub part_text : List SchemaEntry → QueryTree → List ℕ
part_text entries nothing = []
part_text entries (all_below n) = codes "*"
part_text entries (one_term term) = in_field entries term.field (λ t. text_of_key t term.value)
part_text entries (one_phrase first others slop) = in_field entries first.field (λ t. phrase_text first others t ++ slop_text slop)
part_text entries (one_phrase_prefix p) = in_field entries p.first.field (λ t. phrase_text p.first (others_with p p.last.prefix.value) t ++ codes "*")
part_text entries (one_range range) = in_field entries range.prefix.field (range_text (keys_of range))
part_text entries (each_of qs) = []
part_text entries (any_of qs) = []
part_text entries (without first other) = []
