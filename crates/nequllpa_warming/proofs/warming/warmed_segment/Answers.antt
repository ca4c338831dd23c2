use Rattle.std.proofs.Common.{◌≡◌, List, subst}
use Rattle.ii_base.specs.Schema.{SchemaEntry}
use Rattle.nequllpa_warming.specs.WarmedSegments.{IsWarmupRefusal}
use Rattle.nequllpa_warming.proofs.warming.warmed_segment.Goals as goal

pub returns-in-Err-warmed_index-clause-refused : goal.returns-in-Err-warmed_index-clause-refused
returns-in-Err-warmed_index-clause-refused g c = λ entries is.
    let same : c.in-Ok.schema ≡ entries = c.in-Ok.ensures.taken entries is in
    subst (λ (es : List SchemaEntry). IsWarmupRefusal c.args.schema.now es c.args.query.now c.args.segment c.in-Err-warmed_index.fault) same (c.in-Err-warmed_index.ensures.refused c.args.schema.now)
