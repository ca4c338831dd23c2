-- A line has the same calls under the number of any document.
use Rattle.std.proofs.Common.{◌≡◌, ◌+◌, ◌++◌, ◌∙◌, ℕ, Bool, true, false, List, [], ◌∷◌, Option, None, Some, Result, Ok, Err, ap, map, refl, sym, if◌then◌else◌}
use Rattle.std.specs.Prelude.{ok_or}
use Rattle.std.proofs.lemmas.List.{map-append}
use Rattle.serde_json.specs.Data.{Data, Items, Members, item, no_items}
use Rattle.serde_json.specs.Find.{as_object, get_member}
use Rattle.serde_json.specs.Read.{read}
use Rattle.ii_base.specs.Schema.{SchemaEntry}
use Rattle.ii_definitions.specs.JsonKeys.{is_json}
use Rattle.ii_definitions.specs.Tokens.{Call, Content}
use Rattle.ii_documents.specs.declared.faults.ValueFault.{ValueFault}
use Rattle.ii_documents.specs.declared.floats.FloatNumbers.{FloatNumbers}
use Rattle.ii_documents.specs.JsonLines.{Refusal, call_with_content, content_in, field_calls, fields_calls, items_calls, knows_names, line_calls_by, members_calls, not_an_object, not_json, read_members, unknown_name_in, values_of}
use Rattle.ii_documents.specs.Steps.{◌>>=◌}
use Rattle.ii_schema_text.specs.declared.unknown_keys.UnknownKeys.{UnknownKeys}

-- a call of a document with another number
abbrev pub of_doc : ℕ → Call → Call
of_doc n c = record c { doc = n }

-- calls of a document with another number, unless there is an error
abbrev pub all_of_doc : ℕ → Result (List Call) Refusal → Result (List Call) Refusal
all_of_doc n (Ok cs) = Ok (map (of_doc n) cs)
all_of_doc n (Err refusal) = Err refusal

module _ (floats : FloatNumbers) (n doc : ℕ) where
  one_more : (field : ℕ) (r : Result Content ValueFault) (more others : Result (List Call) Refusal) → more ≡ all_of_doc n others
      → (call_with_content n field r >>= λ c. more >>= λ cs. Ok (c ∷ cs)) ≡ all_of_doc n (call_with_content doc field r >>= λ c. others >>= λ cs. Ok (c ∷ cs))
  one_more field (Err fault) more others is = refl
  one_more field (Ok content) more (Ok cs) is = rw is refl
  one_more field (Ok content) more (Err refusal) is = rw is refl

  of_items : (field : ℕ) (e : SchemaEntry) (ds : Items) → items_calls floats n field e ds ≡ all_of_doc n (items_calls floats doc field e ds)
  of_items field e no_items = refl
  of_items field e (item d ds) = one_more field (content_in floats e.value_type e.expands_dots d) (items_calls floats n field e ds) (items_calls floats doc field e ds) (of_items field e ds)

  of_field : (field : ℕ) (e : SchemaEntry) (found : Option Data) → field_calls floats n field e found ≡ all_of_doc n (field_calls floats doc field e found)
  of_field field e None = refl
  of_field field e (Some d) = by e.is_indexed
    where
      by : (b : Bool) → (if b then items_calls floats n field e (values_of (is_json e.value_type) d) else Ok []) ≡ all_of_doc n (if b then items_calls floats doc field e (values_of (is_json e.value_type) d) else Ok [])
      by true = of_items field e (values_of (is_json e.value_type) d)
      by false = refl

  both_of : (first others more rest : Result (List Call) Refusal) → first ≡ all_of_doc n others → more ≡ all_of_doc n rest
      → (first >>= λ cs. more >>= λ ds. Ok (cs ++ ds)) ≡ all_of_doc n (others >>= λ cs. rest >>= λ ds. Ok (cs ++ ds))
  both_of first (Ok cs) more (Ok ds) one two = rw (one, two) (ap (λ (xs : List Call). fine xs) (sym (map-append (of_doc n) cs ds)))
    where
      fine : List Call → Result (List Call) Refusal
      fine xs = Ok xs
  both_of first (Ok cs) more (Err refusal) one two = rw (one, two) refl
  both_of first (Err refusal) more rest one two = rw one refl

  of_fields : (ms : Members) (field : ℕ) (es : List SchemaEntry) → fields_calls floats n ms field es ≡ all_of_doc n (fields_calls floats doc ms field es)
  of_fields ms field [] = refl
  of_fields ms field (e ∷ es) =
      both_of (field_calls floats n field e (get_member e.name ms)) (field_calls floats doc field e (get_member e.name ms)) (fields_calls floats n ms (field + 1) es) (fields_calls floats doc ms (field + 1) es)
      (of_field field e (get_member e.name ms)) (of_fields ms (field + 1) es)

  of_members : (es : List SchemaEntry) (ms : Members) → members_calls floats es n ms ≡ all_of_doc n (members_calls floats es doc ms)
  unfolding members_calls
  of_members es ms = by (knows_names (unknown_name_in es ms))
    where
      by : (known : Result (Unit {0}) Refusal) → (known >>= λ _. fields_calls floats n ms 0 es) ≡ all_of_doc n (known >>= λ _. fields_calls floats doc ms 0 es)
      by (Ok u) = of_fields ms 0 es
      by (Err refusal) = refl

  -- the calls of a line under one number are those under another
  pub renumbered : (unknown : UnknownKeys) (es : List SchemaEntry) (line : List ℕ) → line_calls_by unknown floats es n line ≡ all_of_doc n (line_calls_by unknown floats es doc line)
  unfolding line_calls_by
  renumbered unknown es line = by (ok_or (read line) not_json)
    where
      in_object : (found : Result Members Refusal) → (found >>= λ ms. members_calls floats es n (read_members unknown es ms)) ≡ all_of_doc n (found >>= λ ms. members_calls floats es doc (read_members unknown es ms))
      in_object (Ok ms) = of_members es (read_members unknown es ms)
      in_object (Err refusal) = refl

      by : (found : Result Data Refusal) → (found >>= λ d. ok_or (as_object d) not_an_object >>= λ ms. members_calls floats es n (read_members unknown es ms))
          ≡ all_of_doc n (found >>= λ d. ok_or (as_object d) not_an_object >>= λ ms. members_calls floats es doc (read_members unknown es ms))
      by (Ok d) = in_object (ok_or (as_object d) not_an_object)
      by (Err refusal) = refl
