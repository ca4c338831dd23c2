use Rattle.std.proofs.Common.{◌≡◌, List, Ok}
use Rattle.ii_base.specs.Schema.{SchemaEntry}
use Rattle.ii_schema_text.specs.SchemaText.{text_schema}
use Rattle.nequllpa_opening.proofs.OpenLemmas.{IsMaking}
use Rattle.nequllpa_warming.specs.WarmedSegments.{WarmsAs}
use Rattle.nequllpa_warming.proofs.warming.warmed_each.Given as goal

-- the segments that were taken are open, by whatever schema the bytes are
abbrev pub invariant-loop-segment : goal.invariant-loop-segment
invariant-loop-segment g l = (entries : List SchemaEntry) → text_schema l.schema ≡ Ok entries → IsMaking (WarmsAs entries l.query l.scoring) l.fn.segments.items l.yielded l.segment-iterator.rest.items l.opened.items
