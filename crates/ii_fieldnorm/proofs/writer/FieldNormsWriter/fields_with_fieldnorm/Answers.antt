use Rattle.std.proofs.Common.{◌≡◌, ℕ, List, [], ◌∷◌, ◌++◌, append_assoc, filter, map, true, false, refl, ◌∙◌}
use Rattle.ii_base.specs.Schema.{SchemaEntry, keeps_norms}
use Rattle.ii_fieldnorm.proofs.writer.FieldNormsWriter.fields_with_fieldnorm.Goals as goal
use Rattle.ii_fieldnorm.proofs.writer.FieldNormsWriter.fields_with_fieldnorm.Goals.{else-is_indexed-via-then-is_indexed+else-has_fieldnorms, else-is_indexed-via-else-is_indexed}

-- the fields of some entries that keep norms
abbrev kept : List (ℕ × SchemaEntry) → List ℕ
kept entries = map (λ (f : ℕ × SchemaEntry). f.0) (filter (λ (f : ℕ × SchemaEntry). keeps_norms f.1) entries)

kept_more : (fields grown all : List ℕ) (field : ℕ) (entry : SchemaEntry) (entries rest : List (ℕ × SchemaEntry)) → entries ≡ (field, entry) ∷ rest → keeps_norms entry ≡ true → grown ≡ fields ++ field ∷ [] → fields ++ kept entries ≡ all → grown ++ kept rest ≡ all
kept_more fields grown all field entry entries rest step keeps push is =
    let one : kept ((field, entry) ∷ rest) ≡ field ∷ kept rest = rw keeps refl in
    rw push (append_assoc fields (field ∷ []) (kept rest) ∙ rw (one) at (rw step at is))

left_out : (fields all : List ℕ) (field : ℕ) (entry : SchemaEntry) (entries rest : List (ℕ × SchemaEntry)) → entries ≡ (field, entry) ∷ rest → keeps_norms entry ≡ false → fields ++ kept entries ≡ all → fields ++ kept rest ≡ all
left_out fields all field entry entries rest step keeps is =
    let none : kept ((field, entry) ∷ rest) ≡ kept rest = rw keeps refl in
    rw (none) at (rw step at is)

pub loop-field-preserved-then-has_fieldnorms : goal.loop-field-preserved-then-has_fieldnorms
loop-field-preserved-then-has_fieldnorms c =
    let entry = c.in-Some.entry.now in
    let keeps : keeps_norms entry ≡ true = rw (← c.is_indexed.ensures, ← c.has_fieldnorms.ensures, c.if-is_indexed.true, c.if-has_fieldnorms.true) refl in
    kept_more _ _ _ c.in-Some.field entry _ _ c.in-Some.ensures.steps keeps c.in_ok-push.ensures.items c.loop-field.invariant

pub loop-field-preserved : goal.loop-field-preserved
loop-field-preserved c =
    let entry = c.in-Some.entry.now in
    let keeps : keeps_norms entry ≡ false = elim c.else-is_indexed.branch [
      | else-is_indexed-via-then-is_indexed+else-has_fieldnorms w ↦ rw (← c.is_indexed.ensures, w.if-is_indexed.true, ← w.has_fieldnorms.ensures, w.if-has_fieldnorms.false) refl
      | else-is_indexed-via-else-is_indexed w ↦ rw (← c.is_indexed.ensures, w.if-is_indexed.false) refl
    ] in
    left_out _ _ c.in-Some.field entry _ _ c.in-Some.ensures.steps keeps c.loop-field.invariant
