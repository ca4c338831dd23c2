use Rattle.std.proofs.Common.{◌≡◌, ◌+◌, ◌*◌, ◌≤◌, ◌&&◌, true, drop}
use Rattle.std.specs.List.{list_all, sum}
use Rattle.ii_layout.specs.PositionReader.{is_width}
use Rattle.ii_layout.proofs.positions.blocks.end_of.Given as goal

abbrev pub invariant-loop-width : goal.invariant-loop-width
invariant-loop-width l =
    (list_all is_width l.widths ≡ (l.are_widths && list_all is_width (drop l.width-index l.widths)))
    × (l.are_widths ≡ true → sum l.widths ≡ l.bits + sum (drop l.width-index l.widths)) × (l.bits ≤ 32 * l.width-index)
