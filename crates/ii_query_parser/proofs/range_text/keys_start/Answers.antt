use Rattle.std.proofs.Common.{◌≡◌, ◌∙◌, true, inr, refl, ap, sym}
use Rattle.ii_base.specs.Paths.{has_zero}
use Rattle.ii_query_parser.proofs.range_text.keys_start.Goals as goal

pub returns-then-contains-clause-start : goal.returns-then-contains-clause-start
returns-then-contains-clause-start c =
    let zero : has_zero c.in-Some.path.now ≡ true = ap has_zero (sym c.as_bytes.ensures.value) ∙ sym c.contains.ensures.value ∙ c.if-contains.true in
    rw c.in-Some.is (inr (rw zero refl))
