use Rattle.std.proofs.Common.{◌≡◌, []}
use Rattle.std.specs.Prelude.{IsTrue}
use Rattle.ii_postings_writer.specs.FieldParts.{HasFields, first_parts}
use Rattle.ii_postings_writer.proofs.postings_writer.serialize_postings.Given as goal

abbrev pub invariant-loop-place : goal.invariant-loop-place
invariant-loop-place g l =
    HasFields l.fn.serializer.entries l.fn.serializer.bodies l.serializer.bodies (first_parts l.fn.serializer.entries l.fn.per_field_postings_writers l.fn.fieldnorm_readers l.terms.items l.place)
    × (l.serializer.closed ≡ l.fn.serializer.closed)
    × (l.serializer.entries ≡ l.fn.serializer.entries)
    × (IsTrue l.fn.serializer.closed → (l.serializer ≡ l.fn.serializer) × (first_parts l.fn.serializer.entries l.fn.per_field_postings_writers l.fn.fieldnorm_readers l.terms.items l.place ≡ []))
