use Rattle.std.proofs.Common.{◌-◌, take, drop, length, refl, ap, arith}
use Rattle.ii_layout.proofs.PositionLemmas.{keeps_rest}
use Rattle.ii_layout.proofs.positions.blocks.PositionBlocks.open.Goals as goal

pub invariant_of-result : goal.invariant_of-result
invariant_of-result c =
    let w = c.in-Some.widths in
    let b = c.in-Some.body in
    keeps_rest c.args.bytes _ c.bytes_from-blocks.result.now c.bytes_from.result.now c.find_blocks.new.anchors _ w b _ c.in-Some-find_blocks.place _
    (record {
      order = c.in-Some.ensures.order;
      within = rw c.as_slice-all.ensures at c.in-Some.ensures.within;
      list = rw c.as_slice-all.ensures at c.in-Some.ensures.list;
      ws_are = ap (λ xs. take (b - w) (drop w xs)) c.as_slice-all.ensures;
      bs_are = rw c.as_slice-all.ensures at c.bytes_from-blocks.ensures;
    })
    (record {
      found = c.in-Some-find_blocks.ensures.found;
      place_is = c.in-Some-find_blocks.ensures.end;
      within = c.in-Some-find_blocks.ensures.within;
      many = omega arith;
      anchors_are = c.in-Some-find_blocks.ensures.anchors;
    })
    refl c.bytes_from.ensures c.if-not-read_rest.ensures.rest (ap length c.output_array-rest_len.ensures.values)

pub returns-clause-ok : goal.returns-clause-ok
returns-clause-ok c = (invariant_of-result c).there.deltas

pub returns-clause-block : goal.returns-clause-block
returns-clause-block c =
    let keeps = invariant_of-result c in
    let len = keeps.len in
    let few = keeps.few in
    omega arith
