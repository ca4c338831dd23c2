-- How rows are written.
use Rattle.std.specs.Prelude.{Bool, true, false}
use Rattle.nequllpa_opening.specs.declared.row_format.RowFormat.{RowFormat}
use Rattle.nequllpa_opening.specs.declared.row_format.RowFormat.TheVariants.{JsonItem, JsonLine, Words}

-- whether a row is a JSON object
abbrev pub is_json : RowFormat → Bool
is_json Words = false
is_json JsonLine = true
is_json JsonItem = true
