use Rattle.ii_schema_text.specs.SchemaText.{is_known_key}
use Rattle.ii_schema_text.proofs.keys.is_field_key.Goals as goal

pub returns : goal.returns
unfolding is_known_key
returns c = rw (← c.if-eq.ensures, ← c.if-eq-2.ensures, ← c.if-eq-3.ensures, ← c.if-eq-4.ensures, ← c.if-eq-5.ensures, ← c.if-eq-6.ensures, ← c.if-eq-7.ensures, ← c.if-eq-8.ensures) (c.eq-9.ensures)
