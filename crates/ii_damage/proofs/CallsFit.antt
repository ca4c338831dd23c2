-- Tokens of calls that may be indexed fit the schema.
use Rattle.std.proofs.Common.{◌≡◌, ◌∙◌, ◌==◌, ◌<◌, ℕ, Bool, true, false, List, [], ◌∷◌, ◌++◌, map, append_assoc, Option, None, Some, refl, sym, ap, subst}
use Rattle.std.specs.Prelude.{IfSome, slice_get, unwrap_or}
use Rattle.std.specs.List.{AllByRecursion, flat_map}
use Rattle.std.proofs.lemmas.List.Concat.{flat_map-cons}
use Rattle.ii_base.specs.Json.{Leaf, json_leaves, json_of, text_leaf, unsupported, value_leaf}
use Rattle.ii_base.specs.Paths.{has_zero}
use Rattle.ii_base.specs.Schema.{SchemaEntry}
use Rattle.ii_base.specs.Values.{json_key, text_key, typed_key, u64_bytes}
use Rattle.ii_base.specs.ValueTypes.{code_of}
use Rattle.ii_base.specs.Words.{Word}
use Rattle.ii_base.specs.declared.schema.value_type.ValueType.{ValueType}
use Rattle.ii_base.specs.declared.schema.value_type.ValueType.TheVariants.{Str, U64, I64, Bool as Truth, Date, Bytes, Json, IpAddr}
use Rattle.ii_definitions.specs.declared.index_call.IndexCall.{IndexCall}
use Rattle.ii_definitions.specs.declared.index_call.IndexCall.TheVariants as calls
use Rattle.ii_definitions.specs.IndexCalls.{MayAllBeIndexed, MayBeIndexed, call_of, call_with, doc_of, expands_dots_in, field_of, type_of}
use Rattle.ii_definitions.specs.JsonKeys.{is_key_of_text, type_of_code, type_under}
use Rattle.ii_definitions.specs.Tokens.{Piece, begin_after, call_pieces, kept_words, leaf_pieces, piece_tokens, piece_tokens_from, pieces_of, tokens_after, tokens_of, word_token}
use Rattle.ii_definitions.proofs.KeyLaws.{type_in_key}
use Rattle.ii_damage.specs.Fits.{AllFit, Fits}
use Rattle.ii_damage.proofs.JsonLeaves.{IsCleanLeaf, clean_leaves}
use Rattle.ii_definitions.proofs.ListLaws.{all_both}

-- Keys with a prefix are those of texts, or the prefix is that of a value.
abbrev FitsKeys : ValueType → Bool → List ℕ → Type 0
FitsKeys t true prefix = (key : List ℕ) → is_key_of_text t (prefix ++ key) ≡ true
FitsKeys t false prefix = is_key_of_text t prefix ≡ false

-- A piece fits a schema.
record FitsPiece (entries : List SchemaEntry) (num_docs : ℕ) (p : Piece) : Type 0 where
  below : p.doc < num_docs
  keys : IfSome (slice_get entries p.field) (λ (e : SchemaEntry). FitsKeys e.value_type p.is_text p.prefix)

words_fit : (entries : List SchemaEntry) (num_docs : ℕ) (p : Piece) (begin : ℕ) (ws : List Word) → p.doc < num_docs
    → IfSome (slice_get entries p.field) (λ (e : SchemaEntry). FitsKeys e.value_type true p.prefix) → AllFit entries num_docs (map (word_token p begin) ws)
words_fit entries num_docs p begin [] below keys = tt
words_fit entries num_docs p begin (w ∷ ws) below keys = (record { below = below; kind = by (slice_get entries p.field) keys }, words_fit entries num_docs p begin ws below keys)
  where
    by : (o : Option SchemaEntry) → IfSome o (λ (e : SchemaEntry). FitsKeys e.value_type true p.prefix) → IfSome o (λ (e : SchemaEntry). true ≡ is_key_of_text e.value_type (p.prefix ++ w.text))
    by None keys = tt
    by (Some e) keys = sym (keys w.text)

piece_fits : (entries : List SchemaEntry) (num_docs : ℕ) (p : Piece) (begin : ℕ) (is_text : Bool) → p.doc < num_docs
    → IfSome (slice_get entries p.field) (λ (e : SchemaEntry). FitsKeys e.value_type is_text p.prefix) → AllFit entries num_docs (piece_tokens_from is_text begin p)
piece_fits entries num_docs p begin true below keys = words_fit entries num_docs p begin (kept_words p.words) below keys
piece_fits entries num_docs p begin false below keys = (record { below = below; kind = by (slice_get entries p.field) keys }, tt)
  where
    by : (o : Option SchemaEntry) → IfSome o (λ (e : SchemaEntry). FitsKeys e.value_type false p.prefix) → IfSome o (λ (e : SchemaEntry). false ≡ is_key_of_text e.value_type p.prefix)
    by None keys = tt
    by (Some e) keys = sym keys

pieces_fit : (entries : List SchemaEntry) (num_docs : ℕ) (earlier ps : List Piece) → AllByRecursion (FitsPiece entries num_docs) ps → AllFit entries num_docs (tokens_after earlier ps)
pieces_fit entries num_docs earlier [] fit = tt
pieces_fit entries num_docs earlier (p ∷ ps) fit =
    all_both (Fits entries num_docs) (piece_tokens earlier p) (tokens_after (earlier ++ p ∷ []) ps)
    (piece_fits entries num_docs p (begin_after earlier p) p.is_text fit.0.below fit.0.keys) (pieces_fit entries num_docs (earlier ++ p ∷ []) ps fit.1)

known_code : (t : ValueType) → type_of_code (code_of t) ≡ Some t
known_code Str = refl
known_code U64 = refl
known_code I64 = refl
known_code Truth = refl
known_code Date = refl
known_code Bytes = refl
known_code Json = refl
known_code IpAddr = refl

-- the type under a key of a clean path
json_type : (path : List ℕ) (t : ValueType) (key : List ℕ) → has_zero path ≡ false → type_under Json (json_key path (code_of t ∷ key)) ≡ t
json_type path t key clean = ap (λ (o : Option ValueType). unwrap_or o Json) (type_in_key path (code_of t) key clean ∙ known_code t)

-- A field that takes values of a type.
abbrev HasType : List SchemaEntry → ℕ → ValueType → Type 0
HasType entries field t = (e : SchemaEntry) × (slice_get entries field ≡ Some e) × (e.value_type ≡ t)

keys_in : (entries : List SchemaEntry) (field : ℕ) (t : ValueType) (is_text : Bool) (prefix : List ℕ) → HasType entries field t → FitsKeys t is_text prefix → IfSome (slice_get entries field) (λ (e : SchemaEntry). FitsKeys e.value_type is_text prefix)
keys_in entries field t is_text prefix (e, at, typed) fits = rw (at, typed) fits

leaf_fits : (entries : List SchemaEntry) (num_docs doc field : ℕ) (analyze : List ℕ → List Word) (l : List ℕ × Leaf) → doc < num_docs → HasType entries field Json → IsCleanLeaf l → AllByRecursion (FitsPiece entries num_docs) (leaf_pieces analyze doc field l)
leaf_fits entries num_docs doc field analyze (path, text_leaf t) below has clean = (
  record {
    below = below;
    keys = keys_in entries field Json true (json_key path (text_key [])) has (λ key.
        let whole : json_key path (text_key []) ++ key ≡ json_key path (code_of Str ∷ key) = append_assoc path (0 ∷ code_of Str ∷ []) key in
        ap (λ (k : List ℕ). code_of (type_under Json k) == code_of Str) whole ∙ ap (λ (u : ValueType). code_of u == code_of Str) (json_type path Str key clean.0));
  },
  tt,
)
leaf_fits entries num_docs doc field analyze (path, value_leaf t n) below has clean =
    (record { below = below; keys = keys_in entries field Json false (json_key path (typed_key t n)) has (ap (λ (u : ValueType). code_of u == code_of Str) (json_type path t (u64_bytes n) clean.0) ∙ clean.1) }, tt)
leaf_fits entries num_docs doc field analyze (path, unsupported kind) below has clean = tt

leaves_fit : (entries : List SchemaEntry) (num_docs doc field : ℕ) (analyze : List ℕ → List Word) (ls : List (List ℕ × Leaf)) → doc < num_docs → HasType entries field Json → AllByRecursion IsCleanLeaf ls
    → AllByRecursion (FitsPiece entries num_docs) (flat_map (leaf_pieces analyze doc field) ls)
leaves_fit entries num_docs doc field analyze [] below has clean = tt
leaves_fit entries num_docs doc field analyze (l ∷ ls) below has clean =
    subst (AllByRecursion (FitsPiece entries num_docs)) (sym (flat_map-cons (leaf_pieces analyze doc field) l ls))
    (all_both (FitsPiece entries num_docs) (leaf_pieces analyze doc field l) (flat_map (leaf_pieces analyze doc field) ls) (leaf_fits entries num_docs doc field analyze l below has clean.0) (leaves_fit entries num_docs doc field analyze ls below has clean.1))

-- what a call gives fits
call_fits : (entries : List SchemaEntry) (num_docs : ℕ) (analyze : List ℕ → List Word) (c : IndexCall) (expand_dots : Bool) → doc_of c < num_docs → HasType entries (field_of c) (type_of c)
    → AllByRecursion (FitsPiece entries num_docs) (call_pieces analyze (call_with expand_dots c))
call_fits entries num_docs analyze (calls.Text doc field t) expand_dots below has = (record { below = below; keys = keys_in entries field Str true [] has (λ key. refl) }, tt)
call_fits entries num_docs analyze (calls.Tokens doc field tokens) expand_dots below has = (record { below = below; keys = keys_in entries field Str true [] has (λ key. refl) }, tt)
call_fits entries num_docs analyze (calls.U64 doc field n) expand_dots below has = (record { below = below; keys = keys_in entries field U64 false _ has refl }, tt)
call_fits entries num_docs analyze (calls.I64 doc field n) expand_dots below has = (record { below = below; keys = keys_in entries field I64 false _ has refl }, tt)
call_fits entries num_docs analyze (calls.Bool doc field b) expand_dots below has = (record { below = below; keys = keys_in entries field Truth false _ has refl }, tt)
call_fits entries num_docs analyze (calls.Date doc field date) expand_dots below has = (record { below = below; keys = keys_in entries field Date false _ has refl }, tt)
call_fits entries num_docs analyze (calls.Bytes doc field bytes) expand_dots below has = (record { below = below; keys = keys_in entries field Bytes false _ has refl }, tt)
call_fits entries num_docs analyze (calls.Ip doc field address) expand_dots below has = (record { below = below; keys = keys_in entries field IpAddr false _ has refl }, tt)
call_fits entries num_docs analyze (calls.Json doc field v) expand_dots below has = leaves_fit entries num_docs doc field analyze (json_leaves expand_dots (json_of v)) below has (clean_leaves expand_dots v)

calls_give : (entries : List SchemaEntry) (num_docs : ℕ) (analyze : List ℕ → List Word) (cs : List IndexCall) → AllByRecursion (MayBeIndexed entries num_docs) cs → AllByRecursion (FitsPiece entries num_docs) (pieces_of analyze (map (call_of entries) cs))
calls_give entries num_docs analyze [] may = tt
calls_give entries num_docs analyze (c ∷ cs) may =
    let takes = may.0.takes in
    subst (AllByRecursion (FitsPiece entries num_docs)) (sym (flat_map-cons (call_pieces analyze) (call_of entries c) (map (call_of entries) cs)))
    (all_both (FitsPiece entries num_docs) (call_pieces analyze (call_of entries c)) (pieces_of analyze (map (call_of entries) cs))
    (call_fits entries num_docs analyze c (expands_dots_in entries (field_of c)) may.0.below (takes.entry, takes.found, takes.typed)) (calls_give entries num_docs analyze cs may.1))

-- the tokens of calls that may be made fit
pub calls_fit : (entries : List SchemaEntry) (num_docs : ℕ) (analyze : List ℕ → List Word) (cs : List IndexCall) → MayAllBeIndexed entries num_docs cs → AllFit entries num_docs (tokens_of analyze (map (call_of entries) cs))
calls_fit entries num_docs analyze cs may = pieces_fit entries num_docs [] (pieces_of analyze (map (call_of entries) cs)) (calls_give entries num_docs analyze cs may.each)
