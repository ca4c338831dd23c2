-- What a line gives, value by value and field by field.
use Rattle.std.proofs.Common.{◌≡◌, ◌+◌, ◌++◌, ◌∙◌, ℕ, Bool, true, false, List, [], ◌∷◌, Option, Some, Result, Ok, Err, ap, bytes_eq, map, refl, subst, sym, Bor, String, Global, string_bytes, nat_cmp}
use Rattle.std.proofs.lemmas.List.{map-append}
use Rattle.std.specs.List.{AllByRecursion, list_any, slice_get}
use Rattle.std.specs.Option.{option_map}
use Rattle.std.specs.Map.{lookup}
use Rattle.std.specs.BTreeMap.{is_at}
use Rattle.std.specs.Cmp.Lexicographic.{slice_cmp}
use Rattle.serde_json.proofs.Views.{view-lookup, view_of_ref}
use Rattle.serde_json.specs.Data.{Data, Items, Members, item, no_items}
use Rattle.serde_json.specs.Find.{get_member}
use Rattle.serde_json.specs.View.{members_view, view}
use Rattle.serde_json.specs.declared.value.Value.{Value}
use Rattle.ii_base.specs.Schema.{SchemaEntry}
use Rattle.ii_definitions.specs.Tokens.{Call, Content}
use Rattle.ii_definitions.specs.IndexCalls.{Takes, call_of, call_with, field_of, type_of}
use Rattle.ii_definitions.specs.declared.index_call.IndexCall.{IndexCall}
use Rattle.ii_definitions.proofs.ListLaws.{all_both}
use Rattle.ii_documents.specs.declared.faults.ValueFault.{ValueFault}
use Rattle.ii_documents.specs.declared.floats.FloatNumbers.{FloatNumbers}
use Rattle.ii_documents.specs.JsonLines.{Adds, IsOf, Refusal, call_with_content, field_calls, fields_calls, items_calls, unknown_name_in, value_call}
use Rattle.ii_documents.specs.Steps.{◌>>=◌}
use Rattle.ii_documents.proofs.AddingLemmas.{both}

abbrev pub Entry : Type 0
Entry = String Global × Value

-- whether a field has this name
abbrev pub named_so : List SchemaEntry → List ℕ → Bool
named_so es key = list_any (λ (e : SchemaEntry). bytes_eq e.name key) es

pub stranger : (es : List SchemaEntry) (m : Entry) (rest : List Entry) → named_so es (string_bytes m.0) ≡ false → unknown_name_in es (members_view (m ∷ rest)) ≡ Some (string_bytes m.0)
stranger es m rest e = rw e refl

pub known : (es : List SchemaEntry) (m : Entry) (rest : List Entry) → named_so es (string_bytes m.0) ≡ true → unknown_name_in es (members_view (m ∷ rest)) ≡ unknown_name_in es (members_view rest)
known es m rest e = rw e refl

-- the value under a key
pub map_get : (r : Option (Bor Value)) (key : List ℕ) (es : List Entry) → option_map (λ x. x.now) r ≡ lookup (is_at (λ x. slice_cmp nat_cmp key (string_bytes x))) es → option_map (λ x. view x.now) r ≡ get_member key (members_view es)
map_get r key es h = view_of_ref r ∙ ap (option_map view) h ∙ view-lookup key es

-- a call that isn't refused
abbrev fine : Call → Result Call Refusal
fine call = Ok call

-- the call of a value is of its document and field
call_at : (doc field : ℕ) (r : Result Content ValueFault) (k : Call) → call_with_content doc field r ≡ Ok k → (k.doc ≡ doc) × (k.field ≡ field)
call_at doc field (Ok content) k e = (sym (ap (λ (c : Call). c.doc) (inside e)), sym (ap (λ (c : Call). c.field) (inside e)))
  where
    inside : {a b : Call} → fine a ≡ fine b → a ≡ b
    inside e = cc
call_at doc field (Err fault) k e = absurd (cc)

-- the call of a value was added
pub adds_value : (es : List SchemaEntry) (floats : FloatNumbers) (doc field : ℕ) (old new : List IndexCall) (e : SchemaEntry) (d : Data) (c : IndexCall) → slice_get es field ≡ Some e → e.is_indexed ≡ true
    → value_call floats doc field e d ≡ Ok (call_with e.expands_dots c) → type_of c ≡ e.value_type → new ≡ old ++ c ∷ []
    → (cs : List Call) × (items_calls floats doc field e (item d no_items) ≡ Ok cs) × Adds es doc old new cs
adds_value es floats doc field old new e d c found indexed is typed pushed =
    let at = call_at doc field _ (call_with e.expands_dots c) is in
    let there : slice_get es (field_of c) ≡ Some e = subst (λ f. slice_get es f ≡ Some e) (sym at.1) found in
    let same : call_of es c ≡ call_with e.expands_dots c = rw there refl in
    let takes : Takes es (field_of c) (type_of c) = record { entry = e; found = there; indexed = indexed; typed = sym typed } in (
      call_with e.expands_dots c ∷ [],
      rw is refl,
      record {
        calls = ap (map (call_of es)) pushed ∙ map-append (call_of es) old (c ∷ []) ∙ ap (λ k. map (call_of es) old ++ k ∷ []) same;
        each = λ each. subst (AllByRecursion (IsOf es doc)) (sym pushed) (all_both (IsOf es doc) old (c ∷ []) each (record { doc_is = at.0; takes = takes }, tt));
      },
    )

-- the calls of a value, before those of the later values
call_first : (v : Result Call Refusal) (r : Result (List Call) Refusal) → (v >>= λ c. r >>= λ cs. Ok (c ∷ cs)) ≡ both (v >>= λ c. Ok (c ∷ [])) r
call_first (Ok c) r = refl
call_first (Err e) r = refl

pub items_first : (floats : FloatNumbers) (doc field : ℕ) (e : SchemaEntry) (d : Data) (ds : Items) → items_calls floats doc field e (item d ds) ≡ both (items_calls floats doc field e (item d no_items)) (items_calls floats doc field e ds)
items_first floats doc field e d ds = call_first (value_call floats doc field e d) (items_calls floats doc field e ds)

-- the calls of a field, and those of the later fields
pub fields_first : (floats : FloatNumbers) (doc : ℕ) (ms : Members) (field : ℕ) (es : List SchemaEntry) (e : SchemaEntry) (rest : List SchemaEntry) → es ≡ e ∷ rest
    → fields_calls floats doc ms field es ≡ both (field_calls floats doc field e (get_member e.name ms)) (fields_calls floats doc ms (field + 1) rest)
fields_first floats doc ms field es e rest is = rw is refl

-- one entry at a place
pub same_entry : (es : List SchemaEntry) (field : ℕ) (a b : SchemaEntry) → slice_get es field ≡ Some a → slice_get es field ≡ Some b → a ≡ b
same_entry es field a b p q = inside (sym p ∙ q)
  where
    inside : Some a ≡ Some b → a ≡ b
    inside e = cc
