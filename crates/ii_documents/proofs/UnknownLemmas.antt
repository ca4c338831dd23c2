-- Members whose keys are no names of fields give no calls.
use Rattle.std.proofs.Common.{◌≡◌, ◌∙◌, ◌+◌, ◌||◌, ℕ, Bool, true, false, List, [], ◌∷◌, None, Some, Ordering, Less, Equal, Greater, refl, sym, ap, bytes_eq, is_eq, nat_cmp, true≢false}
use Rattle.std.proofs.lemmas.Map.Text.{is_eq-slice_cmp}
use Rattle.std.proofs.lemmas.Slice.Eq.{bytes_eq-Decides}
use Rattle.std.specs.Cmp.Lexicographic.{slice_cmp}
use Rattle.std.specs.Ordering.{match_ordering}
use Rattle.serde_json.specs.Data.{Members, member, no_members}
use Rattle.serde_json.specs.Find.{get_member}
use Rattle.ii_base.specs.Schema.{SchemaEntry}
use Rattle.ii_documents.specs.declared.floats.FloatNumbers.{FloatNumbers}
use Rattle.ii_documents.specs.JsonLines.{fields_calls, knows_names, members_calls, named_members, unknown_name_in}
use Rattle.ii_documents.specs.Steps.{◌>>=◌}
use Rattle.ii_documents.proofs.LineLemmas.{named_so}

module _ (es : List SchemaEntry) where
  -- the members with known keys have no other keys
  none_unknown : (ms : Members) → unknown_name_in es (named_members es ms) ≡ None
  none_unknown no_members = refl
  none_unknown (member key d ms) = by (named_so es key) refl (none_unknown ms)
    where
      by : (b : Bool) → named_so es key ≡ b → unknown_name_in es (named_members es ms) ≡ None → unknown_name_in es (named_members es (member key d ms)) ≡ None
      by true is later = rw (is, is) later
      by false is later = rw is later

  -- a known key isn't an unknown one
  differs : (name key : List ℕ) → named_so es name ≡ true → named_so es key ≡ false → slice_cmp nat_cmp name key ≡ Equal → true ≡ false
  differs name key known unknown equal =
      let same : name ≡ key = (bytes_eq-Decides name key).0 (sym (is_eq-slice_cmp name key) ∙ ap is_eq equal) in
      sym known ∙ ap (named_so es) same ∙ unknown

  -- a known key has the same value among them
  value_under : (name : List ℕ) (ms : Members) → named_so es name ≡ true → get_member name (named_members es ms) ≡ get_member name ms
  value_under name no_members known = refl
  value_under name (member key d ms) known = by (named_so es key) refl (value_under name ms known)
    where
      skipped : (o : Ordering) → slice_cmp nat_cmp name key ≡ o → named_so es key ≡ false → get_member name ms ≡ get_member name (member key d ms)
      skipped Less is unknown = rw is refl
      skipped Equal is unknown = absurd (true≢false (differs name key known unknown is))
      skipped Greater is unknown = rw is refl

      kept : get_member name (named_members es ms) ≡ get_member name ms → get_member name (member key d (named_members es ms)) ≡ get_member name (member key d ms)
      kept later = ap (λ found. match_ordering (slice_cmp nat_cmp name key) found (Some d) found) later

      by : (b : Bool) → named_so es key ≡ b → get_member name (named_members es ms) ≡ get_member name ms → get_member name (named_members es (member key d ms)) ≡ get_member name (member key d ms)
      by true is later = rw is (kept later)
      by false is later = rw is (later ∙ skipped (slice_cmp nat_cmp name key) refl is)

  -- fields that are named in the schema have the same calls
  same_fields : (floats : FloatNumbers) (doc : ℕ) (ms : Members) (field : ℕ) (rest : List SchemaEntry) → ((name : List ℕ) → named_so rest name ≡ true → named_so es name ≡ true)
      → fields_calls floats doc (named_members es ms) field rest ≡ fields_calls floats doc ms field rest
  same_fields floats doc ms field [] known = refl
  same_fields floats doc ms field (e ∷ rest) known =
      let own : named_so (e ∷ rest) e.name ≡ true = ap (λ b. b || named_so rest e.name) ((bytes_eq-Decides e.name e.name).1 refl) in
      let value = value_under e.name ms (known e.name own) in
      let later = same_fields floats doc ms (field + 1) rest (λ name is. known name (or_true (bytes_eq e.name name) (named_so rest name) is)) in
      rw (value, later) refl
    where
      or_true : (a b : Bool) → b ≡ true → (a || b) ≡ true
      or_true true b is = refl
      or_true false b is = is

  -- a document without its unknown keys has the calls of its fields
  pub named_calls : (floats : FloatNumbers) (doc : ℕ) (ms : Members) → members_calls floats es doc (named_members es ms) ≡ fields_calls floats doc ms 0 es
  unfolding members_calls
  named_calls floats doc ms = ap (λ found. knows_names found >>= λ _. fields_calls floats doc (named_members es ms) 0 es) (none_unknown ms) ∙ same_fields floats doc ms 0 es (λ name is. is)
