-- Values of many levels.
use Rattle.std.specs.Prelude.{ℕ, zero, suc}
use Rattle.ii_base.specs.Json.{Json, Leaf, array, item, leaf, no_items}

-- a leaf in this many nested arrays
abbrev pub in_arrays : ℕ → Leaf → Json
in_arrays zero l = leaf l
in_arrays (suc levels) l = array (item (in_arrays levels l) no_items)
