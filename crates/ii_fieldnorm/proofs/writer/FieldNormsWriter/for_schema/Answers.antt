use Rattle.std.proofs.Common.{◌≡◌, ℕ, Bool, List, [], ◌∷◌, ◌++◌, append_assoc, length, map, Some, None, refl, ap, ◌∙◌, arith}
use Rattle.std.specs.Prelude.{Option, if◌then◌else◌}
use Rattle.ii_base.specs.Schema.{SchemaEntry, keeps_norms}
use Rattle.std.proofs.lemmas.List.{length-map}
use Rattle.ii_fieldnorm.specs.Buffers.{Buffers, empty_buffer}
use Rattle.ii_fieldnorm.proofs.BufferLemmas.{all_made}
use Rattle.ii_fieldnorm.proofs.writer.FieldNormsWriter.for_schema.Goals as goal
use Rattle.ii_fieldnorm.proofs.writer.FieldNormsWriter.for_schema.Goals.{then-is_indexed, else-is_indexed}

pub invariant_of-result : goal.invariant_of-result
invariant_of-result c =
    let made = all_made c.loop-field.buffers.items c.loop-field._field-iterator c.args.schema.now c.in-None.ensures.steps.0 c.loop-field.invariant in
    let count = c.num_fields.ensures.value in
    let bound = c.num_fields.ensures.bound in
    omega (arith, ap length made, length-map c.args.schema.now empty_buffer)

pub returns-clause-empty : goal.returns-clause-empty
returns-clause-empty c =
    all_made c.loop-field.buffers.items c.loop-field._field-iterator c.args.schema.now c.in-None.ensures.steps.0 c.loop-field.invariant

made_more : (made grown all : Buffers) (field : ℕ) (entry : SchemaEntry) (entries rest : List (ℕ × SchemaEntry)) (flag : Bool) (one : Option (List ℕ)) → entries ≡ (field, entry) ∷ rest → flag ≡ keeps_norms entry → one ≡ (if flag then Some [] else None) → grown ≡ made ++ one ∷ [] → made ++ map (λ (f : ℕ × SchemaEntry). empty_buffer f.1) entries ≡ all → grown ++ map (λ (f : ℕ × SchemaEntry). empty_buffer f.1) rest ≡ all
made_more made grown all field entry entries rest flag one step keeps new push is =
    let known : one ≡ empty_buffer entry = new ∙ rw keeps refl in
    rw (push, known) (append_assoc made (empty_buffer entry ∷ []) (map (λ (f : ℕ × SchemaEntry). empty_buffer f.1) rest) ∙ rw step at is)

pub loop-field-preserved : goal.loop-field-preserved
loop-field-preserved c =
    let entry = c.in-Some.entry.now in
    let keeps : c.if-is_indexed.keeps_norms ≡ keeps_norms entry = elim c.if-is_indexed.branch [
      | then-is_indexed w ↦ rw (w.keeps_norms-is, w.has_fieldnorms-keeps_norms.ensures, ← c.is_indexed.ensures, w.if-is_indexed.true) refl
      | else-is_indexed w ↦ rw (w.keeps_norms-is, ← c.is_indexed.ensures, w.if-is_indexed.false) refl
    ] in
    made_more _ _ _ c.in-Some._field entry _ _ c.if-is_indexed.keeps_norms c.new.result c.in-Some.ensures.steps keeps c.new.ensures c.in_ok-push.ensures.items c.loop-field.invariant
