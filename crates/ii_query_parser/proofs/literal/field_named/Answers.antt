use Rattle.std.proofs.Common.{◌∙◌, ℕ, Some, List, sym, ap}
use Rattle.std.specs.Prelude.{bytes_eq, slice_get}
use Rattle.ii_query_parser.proofs.TermLemmas.{named_here, named_later}
use Rattle.ii_query_parser.proofs.literal.field_named.Goals as goal

pub returns-then-eq-clause-named : goal.returns-then-eq-clause-named
returns-then-eq-clause-named c =
    let here = ap (slice_get c.args.schema.now) (sym c.from_field_id-field.ensures) ∙ c.get_field_entry.ensures in
    let same = ap (λ (n : List ℕ). bytes_eq n c.args.name.now) (sym c.name.ensures) ∙ sym c.eq.ensures ∙ c.if-eq.true in
    ap (λ (n : ℕ). Some n) c.from_field_id-field.ensures ∙ sym (c.loop-id.invariant ∙ named_here c.args.schema.now c.args.name.now c.loop-id.id c.get_field_entry.result.now here same)

pub loop-id-preserved : goal.loop-id-preserved
loop-id-preserved c =
    let here = ap (slice_get c.args.schema.now) (sym c.from_field_id-field.ensures) ∙ c.get_field_entry.ensures in
    let other = ap (λ (n : List ℕ). bytes_eq n c.args.name.now) (sym c.name.ensures) ∙ sym c.eq.ensures ∙ c.if-eq.false in
    c.loop-id.invariant ∙ named_later c.args.schema.now c.args.name.now c.loop-id.id c.get_field_entry.result.now here other
