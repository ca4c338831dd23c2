use Rattle.std.specs.Prelude.{ℕ, ◌+◌, Option, Some, None}
use Rattle.ii_base.specs.declared.json_value.JsonValue.{JsonValue}
use Rattle.ii_base.specs.JsonWeight.{weight}
use Rattle.ii_base.proofs.json_value.JsonValue.drop.Given as goal

abbrev weight_left : Option JsonValue → ℕ
weight_left None = 0
weight_left (Some value) = weight value + 1

abbrev pub decreases-loop-rest : goal.decreases-loop-rest
decreases-loop-rest l = weight_left l.rest
