-- Lists with an item for each field of a schema.
use Rattle.std.proofs.Common.{◌≡◌, ℕ, zero, suc, ◌<◌, ◌≤◌, ◌==◌, Bool, true, false, List, [], ◌∷◌, map, length, Some, None, Option, sym, ap, ◌∙◌, refl, subst, arith, append_assoc}
use Rattle.std.specs.Prelude.{slice_get, unwrap_or, IfSome, if◌then◌else◌}
use Rattle.std.specs.Option.{option_map}
use Rattle.std.proofs.lemmas.List.{length-map}
use Rattle.std.proofs.lemmas.Option.{slice_get_within}
use Rattle.ii_io.specs.declared.faults.Fault.{Fault}
use Rattle.ii_base.specs.Schema.{keeps_norms}
use Rattle.ii_base.specs.declared.schema.index_record_option.IndexRecordOption.{IndexRecordOption}
use Rattle.ii_base.specs.declared.schema.index_record_option.IndexRecordOption.TheVariants.{Basic}
use Rattle.ii_base.specs.declared.schema.value_type.ValueType.{ValueType}
use Rattle.ii_base.specs.declared.schema.value_type.ValueType.TheVariants.{Str, U64, I64, Bool as Truth, Date, Bytes, Json, IpAddr}
use Rattle.ii_fieldnorm.specs.Buffers.{Buffers, buffer_of, empty_buffers}
use Rattle.ii_definitions.specs.Fields.{option_of}
use Rattle.ii_definitions.specs.Tokens.{Piece}
use Rattle.ii_definitions.specs.IndexCalls.{Takes}
use Rattle.ii_base.specs.Paths.{has_zero}
use Rattle.ii_base.specs.ValueTypes.{code_of}
use Rattle.ii_base.specs.Values.{json_key, text_key, typed_key, u64_bytes}
use Rattle.ii_json.specs.LeafVisit.{is_number_type}
use Rattle.ii_definitions.specs.JsonKeys.{is_json, type_of_code, type_under}
use Rattle.ii_definitions.proofs.KeyLaws.{type_in_key}
use Rattle.ii_indexing.specs.OpenPaths.{IsKnownBy, OpenPathsState, TellsPaths, no_paths, position_by, text_prefix}
use Rattle.std.specs.List.{IsDistinct}
use Rattle.ii_io.specs.Steps.{◌>>=◌}
use Rattle.ii_definitions.specs.JsonKeys.{path_in}
use Rattle.ii_definitions.proofs.KeyLaws.{path_of_key}
use Rattle.ii_json.specs.Paths.{AreDistinct, is_known, path_id, with_path}
use Rattle.ii_postings_writer.specs.ResolvedTerms.{HasPath, behind_path, held_key, held_value, id_bytes, is_json_field, json_fields}
use Rattle.ii_postings_writer.proofs.ResolvedLaws.{behind_key}
use Rattle.ii_indexing.proofs.HeldLaws.{after_id, json_flag, own_id}
use Rattle.ii_indexing.specs.IndexedTerms.{IndexedTermsState, TakesTexts, TakesValue, held_kept_at, held_kept_under, held_type, kept_at, kept_in, kept_under, values_kept_in, writer_in}
use Rattle.ii_indexing.specs.Indexer.{EndsAt, StoresAll, StoresPieces}
use Rattle.ii_indexing.specs.OpenDocuments.{HasNorms, Tells, empty_document}
use Rattle.ii_postings_writer.specs.PostingsWriter.{kept_as, text_kept_of, value_kept_of, writer_of, writers_of}
use Rattle.ii_indexing.specs.Refusals.{piece_fault, pieces_fault}
use Rattle.ii_json.specs.LeafVisit.{first_fault}
use Rattle.ii_indexing.specs.declared.open_documents.OpenDocument.{OpenDocument}
use Rattle.ii_indexing.proofs.DocumentLaws.{at_empty}
use Rattle.ii_base.specs.Schema.{SchemaEntry}

-- an item of a list that was made alike
pub made_alike : {A : Type 0} (x : A) (entries : List SchemaEntry) (i : ℕ) (d : A) → slice_get (map (λ (e : SchemaEntry). x) entries) i ≡ Some d → d ≡ x
made_alike x [] i d is = absurd (cc)
made_alike x (e ∷ es) zero d is = cc
made_alike x (e ∷ es) (suc i) d is = made_alike x es i d is

pub made_for : (entries : List SchemaEntry) (field : ℕ) → field < length entries → slice_get (writers_of entries) field ≡ Some (writer_in entries field 0)
made_for [] field inside = absurd (omega (arith, inside))
made_for (e ∷ es) zero inside = refl
made_for (e ∷ es) (suc field) inside = made_for es field (omega (arith, inside))

pub empty_norms : (entries : List SchemaEntry) (field : ℕ) → IfSome (buffer_of field (empty_buffers entries)) (λ ids. ids ≡ [])
empty_norms [] field = tt
empty_norms (e ∷ es) zero = by (keeps_norms e)
  where
    by : (b : Bool) → IfSome (if b then Some [] else None) (λ (ids : List ℕ). ids ≡ [])
    by true = refl
    by false = tt
empty_norms (e ∷ es) (suc field) = empty_norms es field

-- a field of a schema
pub takes_inside : (entries : List SchemaEntry) (field : ℕ) (t : ValueType) → Takes entries field t → field < length entries
takes_inside entries field t h = slice_get_within entries field h.entry h.found

takes_kept : (entries : List SchemaEntry) (field : ℕ) (t : ValueType) (h : Takes entries field t) → kept_in entries field ≡ kept_as t h.entry.option
takes_kept entries field t h = ap (λ (o : Option SchemaEntry). unwrap_or (option_map text_kept_of o) Basic) h.found ∙ ap (λ (v : ValueType). kept_as v h.entry.option) h.typed

takes_kept_at : (entries : List SchemaEntry) (field : ℕ) (t : ValueType) (h : Takes entries field t) (key : List ℕ) → kept_at entries field key ≡ kept_as (type_under t key) h.entry.option
takes_kept_at entries field t h key = ap (λ (o : Option SchemaEntry). unwrap_or (option_map (kept_under key) o) Basic) h.found ∙ ap (λ (v : ValueType). kept_as (type_under v key) h.entry.option) h.typed

takes_values_kept : (entries : List SchemaEntry) (field : ℕ) (t : ValueType) (h : Takes entries field t) → values_kept_in entries field ≡ (if is_json t then Basic else kept_as t h.entry.option)
takes_values_kept entries field t h =
    ap (λ (o : Option SchemaEntry). unwrap_or (option_map value_kept_of o) Basic) h.found ∙ ap (λ (v : ValueType). if is_json v then Basic else kept_as v h.entry.option) h.typed

takes_option : (entries : List SchemaEntry) (field : ℕ) (t : ValueType) (h : Takes entries field t) → option_of entries field ≡ h.entry.option
takes_option entries field t h = ap (λ (o : Option SchemaEntry). unwrap_or (option_map (λ (e : SchemaEntry). e.option) o) Basic) h.found

takes_held_at : (entries : List SchemaEntry) (field : ℕ) (t : ValueType) (h : Takes entries field t) (key : List ℕ) → held_kept_at entries field key ≡ kept_as (held_type t key) h.entry.option
takes_held_at entries field t h key = ap (λ (o : Option SchemaEntry). unwrap_or (option_map (held_kept_under key) o) Basic) h.found ∙ ap (λ (v : ValueType). kept_as (held_type v key) h.entry.option) h.typed

plain_flag : (entries : List SchemaEntry) (field : ℕ) (t : ValueType) (h : Takes entries field t) → is_json t ≡ false → is_json_field (json_fields entries) field ≡ false
plain_flag entries field t h plain = json_flag entries field h.entry false h.found (ap is_json h.typed ∙ plain)

takes_flag : (entries : List SchemaEntry) (field : ℕ) (h : Takes entries field Json) → is_json_field (json_fields entries) field ≡ true
takes_flag entries field h = json_flag entries field h.entry true h.found (ap is_json h.typed)

-- a known path, and the bytes after it
has_known_path : (paths : List (List ℕ)) (path rest : List ℕ) → has_zero path ≡ false → is_known paths path ≡ true → HasPath paths (json_key path rest)
has_known_path paths path rest clean known =
    let at : path_in (json_key path rest) ≡ path = path_of_key path rest clean in
    record {
      known = ap (is_known paths) at ∙ known;
      whole = ap (λ (v : List ℕ). json_key path v) (sym (behind_key path rest clean)) ∙ ap (λ (p : List ℕ). json_key p (behind_path (json_key path rest))) (sym at);
    }

held_at_path : (entries : List SchemaEntry) (paths : List (List ℕ)) (field : ℕ) (h : Takes entries field Json) (path rest : List ℕ) → has_zero path ≡ false → held_key (json_fields entries) paths field (json_key path rest) ≡ held_value (path_id paths path) rest
held_at_path entries paths field h path rest clean =
    let key = json_key path rest in
    ap (λ (b : Bool). if b then held_value (path_id paths (path_in key)) (behind_path key) else key) (takes_flag entries field h)
    ∙ ap (λ (p : List ℕ). held_value (path_id paths p) (behind_path key)) (path_of_key path rest clean)
    ∙ ap (λ (v : List ℕ). held_value (path_id paths path) v) (behind_key path rest clean)

-- Values of a type aren't JSON, and of them is kept that they occur.
pub record IsPlain (t : ValueType) : Type 0 where
  pub typed : is_json t ≡ false
  pub basic : (o : IndexRecordOption) → kept_as t o ≡ Basic

pub takes_value : (entries : List SchemaEntry) (field : ℕ) (t : ValueType) → Takes entries field t → IsPlain t → (paths : List (List ℕ)) (key : List ℕ) → TakesValue entries paths field key key
takes_value entries field t h plain paths key = record {
  known = takes_inside entries field t h;
  option = takes_values_kept entries field t h ∙ rw plain.typed (plain.basic h.entry.option);
  kept = takes_kept_at entries field t h key ∙ rw plain.typed (plain.basic h.entry.option);
  held_kept = takes_held_at entries field t h key ∙ rw plain.typed (plain.basic h.entry.option);
  holds = rw (plain_flag entries field t h plain.typed) refl;
  has_path = λ json. let other : true ≡ false = sym json ∙ plain_flag entries field t h plain.typed in absurd (cc);
}

pub takes_text : (entries : List SchemaEntry) (field : ℕ) → Takes entries field Str → (paths : List (List ℕ)) → TakesTexts entries paths field [] []
takes_text entries field h paths = record {
  known = takes_inside entries field Str h;
  option = takes_kept entries field Str h ∙ sym (takes_option entries field Str h);
  kept = λ key. takes_kept_at entries field Str h key ∙ sym (takes_kept entries field Str h);
  held_kept = λ key. takes_held_at entries field Str h key ∙ sym (takes_kept entries field Str h);
  holds = λ key. rw (plain_flag entries field Str h refl) refl;
  has_path = λ key json. let other : true ≡ false = sym json ∙ plain_flag entries field Str h refl in absurd (cc);
}

-- in a JSON field the key tells the type
under_path : (entries : List SchemaEntry) (field : ℕ) (h : Takes entries field Json) (path : List ℕ) (t : ValueType) (key : List ℕ) → has_zero path ≡ false → type_of_code (code_of t) ≡ Some t
    → kept_at entries field (json_key path (code_of t ∷ key)) ≡ kept_as t h.entry.option
under_path entries field h path t key clean is =
    takes_kept_at entries field Json h (json_key path (code_of t ∷ key)) ∙ ap (λ (o : Option ValueType). kept_as (unwrap_or o Json) h.entry.option) (type_in_key path (code_of t) key clean ∙ is)

-- the bytes after the id of a path
held_under : (entries : List SchemaEntry) (field : ℕ) (h : Takes entries field Json) (id : ℕ) (t : ValueType) (key : List ℕ) → type_of_code (code_of t) ≡ Some t
    → held_kept_at entries field (held_value id (code_of t ∷ key)) ≡ kept_as t h.entry.option
held_under entries field h id t key is =
    takes_held_at entries field Json h (held_value id (code_of t ∷ key)) ∙ ap (λ (o : Option ℕ). kept_as (unwrap_or (o >>= type_of_code) Json) h.entry.option) (after_id id (code_of t ∷ key))
    ∙ ap (λ (o : Option ValueType). kept_as (unwrap_or o Json) h.entry.option) is

takes_text_at : (entries : List SchemaEntry) (paths : List (List ℕ)) (field : ℕ) → Takes entries field Json → (path : List ℕ) → has_zero path ≡ false → is_known paths path ≡ true
    → TakesTexts entries paths field (held_value (path_id paths path) (text_key [])) (json_key path (text_key []))
takes_text_at entries paths field h path clean is = record {
  known = takes_inside entries field Json h;
  option = takes_kept entries field Json h ∙ sym (takes_option entries field Json h);
  kept = λ key. ap (kept_at entries field) (append_assoc path (0 ∷ code_of Str ∷ []) key) ∙ under_path entries field h path Str key clean refl ∙ sym (takes_kept entries field Json h);
  held_kept = λ key. ap (held_kept_at entries field) (append_assoc (id_bytes (path_id paths path)) (code_of Str ∷ []) key) ∙ held_under entries field h (path_id paths path) Str key refl ∙ sym (takes_kept entries field Json h);
  holds = λ key.
      ap (held_key (json_fields entries) paths field) (append_assoc path (0 ∷ code_of Str ∷ []) key) ∙ held_at_path entries paths field h path (code_of Str ∷ key) clean
      ∙ sym (append_assoc (id_bytes (path_id paths path)) (code_of Str ∷ []) key);
  has_path = λ key json. subst (HasPath paths) (sym (append_assoc path (0 ∷ code_of Str ∷ []) key)) (has_known_path paths path (code_of Str ∷ key) clean is);
}

number_code : (t : ValueType) → is_number_type t ≡ true → type_of_code (code_of t) ≡ Some t
number_code Str is = absurd (cc)
number_code U64 is = refl
number_code I64 is = refl
number_code Truth is = refl
number_code Date is = refl
number_code Bytes is = absurd (cc)
number_code Json is = absurd (cc)
number_code IpAddr is = absurd (cc)

number_kept : (t : ValueType) (o : IndexRecordOption) → is_number_type t ≡ true → kept_as t o ≡ Basic
number_kept Str o is = absurd (cc)
number_kept U64 o is = refl
number_kept I64 o is = refl
number_kept Truth o is = refl
number_kept Date o is = refl
number_kept Bytes o is = refl
number_kept Json o is = absurd (cc)
number_kept IpAddr o is = refl

pub takes_number_at : (entries : List SchemaEntry) (paths : List (List ℕ)) (field : ℕ) → Takes entries field Json → (path : List ℕ) (t : ValueType) (n : ℕ) → has_zero path ≡ false → is_known paths path ≡ true → is_number_type t ≡ true
    → TakesValue entries paths field (held_value (path_id paths path) (typed_key t n)) (json_key path (typed_key t n))
takes_number_at entries paths field h path t n clean known is = record {
  known = takes_inside entries field Json h;
  option = takes_values_kept entries field Json h;
  kept = under_path entries field h path t (u64_bytes n) clean (number_code t is) ∙ number_kept t h.entry.option is;
  held_kept = held_under entries field h (path_id paths path) t (u64_bytes n) (number_code t is) ∙ number_kept t h.entry.option is;
  holds = held_at_path entries paths field h path (typed_key t n) clean;
  has_path = λ json. has_known_path paths path (typed_key t n) clean known;
}

pub takes_text_by : (entries : List SchemaEntry) (paths : List (List ℕ)) (field : ℕ) → Takes entries field Json → (path : List ℕ) (id : ℕ) → IsKnownBy paths path id → TakesTexts entries paths field (held_value id (text_key [])) (text_prefix path)
takes_text_by entries paths field takes path id h = subst (λ (i : ℕ). TakesTexts entries paths field (held_value i (text_key [])) (text_prefix path)) h.id_is (takes_text_at entries paths field takes path h.clean h.known_is)

-- so it is once a path is known, by the id that it got
pub known_by : (old new : IndexedTermsState) (path : List ℕ) (id : ℕ) → has_zero path ≡ false → new ≡ record old { paths = with_path old.paths path } → id ≡ path_id old.paths path → IsKnownBy new.paths path id
known_by old new path id clean is at =
    let paths : new.paths ≡ with_path old.paths path = ap (λ (i : IndexedTermsState). i.paths) is in
    record {
      clean = clean;
      known_is = ap (λ (ps : List (List ℕ)). is_known ps path) paths ∙ (own_id old.paths path).0;
      id_is = ap (λ (ps : List (List ℕ)). path_id ps path) paths ∙ (own_id old.paths path).1 ∙ sym at;
    }

pub takes_number_known : (entries : List SchemaEntry) (old new : IndexedTermsState) (field : ℕ) → Takes entries field Json → (path : List ℕ) (t : ValueType) (n : ℕ) → has_zero path ≡ false → is_number_type t ≡ true → new ≡ record old { paths = with_path old.paths path }
    → TakesValue entries new.paths field (held_value (path_id old.paths path) (typed_key t n)) (json_key path (typed_key t n))
takes_number_known entries old new field h path t n clean number is =
    subst (λ (ps : List (List ℕ)). TakesValue entries ps field (held_value (path_id old.paths path) (typed_key t n)) (json_key path (typed_key t n))) (sym (ap (λ (i : IndexedTermsState). i.paths) is))
    (subst (λ (id : ℕ). TakesValue entries (with_path old.paths path) field (held_value id (typed_key t n)) (json_key path (typed_key t n))) (own_id old.paths path).1
    (takes_number_at entries (with_path old.paths path) field h path t n clean (own_id old.paths path).0 number))

-- one piece alone
pub one_fault : (option : IndexRecordOption) (ps : List Piece) (p : Piece) → piece_fault option ps p ≡ pieces_fault option ps (p ∷ [])
one_fault option ps p = by (piece_fault option ps p)
  where
    by : (f : Option Fault) → f ≡ first_fault f None
    by None = refl
    by (Some e) = refl

-- an indexer of no calls stores none
none_alike : AreDistinct []
unfolding IsDistinct
none_alike = tt

nothing_stored : (entries : List SchemaEntry) → StoresPieces entries (record { indexed = record { terms = []; paths = []; writers = writers_of entries }; opened = record { documents = map (λ (e : SchemaEntry). empty_document 0) entries; norms = empty_buffers entries }; paths = map (λ (e : SchemaEntry). no_paths) entries }) []
nothing_stored entries = record {
  tokens = record { records = λ field key low. refl; counted = λ field inside. made_for entries field inside; of_fields = tt; has_paths = tt; known_paths = record { distinct = none_alike; clean = tt; few = omega arith } };
  documents = λ field d is. subst (λ (e : OpenDocument). Tells field [] [] e (buffer_of field (empty_buffers entries))) (sym (made_alike (empty_document 0) entries field d is)) (record {
    begin = λ x from. ap (λ (e : OpenDocument). e.end_position) (sym (at_empty 0 x));
    group = λ x from. ap (λ (e : OpenDocument). e.num_tokens) (sym (at_empty 0 x));
    count = λ x from. ap (λ (e : OpenDocument). e.norm) (sym (at_empty 0 x));
    norms = by field (buffer_of field (empty_buffers entries));
  });
  paths = λ field o is. subst (TellsPaths [] field []) (sym (made_alike no_paths entries field o is)) (record { told = λ doc path from clean. ap (position_by (path_id [] path)) (no_positions (0 == doc)); free = λ id above. refl });
}
  where
    no_positions : (b : Bool) → [] ≡ (if b then no_paths.positions else [])
    no_positions true = refl
    no_positions false = refl

    by : (field : ℕ) (o : Option (List ℕ)) → IfSome o (HasNorms field [] 0)
    by field None = tt
    by field (Some ids) = λ x low. absurd (omega (arith, low))

pub nothing_known : (entries : List SchemaEntry) → StoresAll entries (record { indexed = record { terms = []; paths = []; writers = writers_of entries }; opened = record { documents = map (λ (e : SchemaEntry). empty_document 0) entries; norms = empty_buffers entries }; paths = map (λ (e : SchemaEntry). no_paths) entries }) []
nothing_known entries = record { pieces = nothing_stored entries; known = refl }

pub nothing_above : (entries : List SchemaEntry) → EndsAt 0 (record { indexed = record { terms = []; paths = []; writers = writers_of entries }; opened = record { documents = map (λ (e : SchemaEntry). empty_document 0) entries; norms = empty_buffers entries }; paths = map (λ (e : SchemaEntry). no_paths) entries })
nothing_above entries = record {
  documents = length-map entries (λ (e : SchemaEntry). empty_document 0) ∙ sym (length-map entries writer_of);
  terms = λ bytes. tt;
  reach = λ field d is. omega (arith, ap (λ (e : OpenDocument). e.doc) (made_alike (empty_document 0) entries field d is));
  paths = length-map entries (λ (e : SchemaEntry). no_paths) ∙ sym (length-map entries writer_of);
  paths_reach = λ field o is. omega (arith, ap (λ (e : OpenPathsState). e.doc) (made_alike no_paths entries field o is));
}

pub short_norms : (entries : List SchemaEntry) (buffers : Buffers) (field before : ℕ) → buffers ≡ empty_buffers entries → IfSome (buffer_of field buffers) (λ ids. length ids ≤ before)
short_norms entries buffers field before is = subst (λ (b : Buffers). IfSome (buffer_of field b) (λ ids. length ids ≤ before)) (sym is) (by (buffer_of field (empty_buffers entries)) (empty_norms entries field))
  where
    by : (o : Option (List ℕ)) → IfSome o (λ ids. ids ≡ []) → IfSome o (λ ids. length ids ≤ before)
    by None h = tt
    by (Some ids) h = omega (arith, ap length h)
