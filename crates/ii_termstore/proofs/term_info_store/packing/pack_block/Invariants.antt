use Rattle.std.proofs.Common.{◌≡◌, ◌≤◌, ◌*◌, length, take}
use Rattle.std.specs.List.{flat_map}
use Rattle.ii_termstore.specs.Written.{IsPacking, term_row}
use Rattle.ii_termstore.proofs.term_info_store.packing.pack_block.Given as goal

abbrev pub invariant-loop-info : goal.invariant-loop-info
invariant-loop-info l = record {
  row : IsPacking l.buffer l.count l.packer (flat_map (term_row l.meta) (take l.info-index l.others));
  few : l.count ≤ 24 * l.info-index;
  size : length l.buffer ≡ length l.fn.buffer;
}
