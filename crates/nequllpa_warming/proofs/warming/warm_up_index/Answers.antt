use Rattle.std.proofs.Common.{◌≡◌, ℕ, List, Ok, subst, sym}
use Rattle.ii_schema_text.specs.SchemaText.{text_schema}
use Rattle.nequllpa_warming.specs.WarmedSegments.{HoldsOfOne, IsWarmupRefusal}
use Rattle.nequllpa_warming.proofs.warming.warm_up_index.Goals as goal

pub returns-clause-refused : goal.returns-clause-refused
returns-clause-refused g c =
    let same : text_schema c.as_slice.result.now ≡ Ok c.args.index.schema = subst (λ (bs : List ℕ). text_schema bs ≡ Ok c.args.index.schema) (sym c.as_slice.ensures.value) c.requires in
    subst (λ (bs : List ℕ). HoldsOfOne (λ s. IsWarmupRefusal bs c.args.index.schema c.args.query.now s c.in-Err.fault) c.args.segments.segments.items) c.as_slice.ensures.value (c.in-Err.ensures.refused c.args.index.schema same)
