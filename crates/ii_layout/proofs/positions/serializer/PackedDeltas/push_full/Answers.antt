use Rattle.std.proofs.Common.{List, ℕ, ◌≡◌, ◌++◌, ap, length, rules, ◌∙◌}
use Rattle.std.proofs.lemmas.List.{append-nil}
use Rattle.ii_layout.proofs.PositionPacking.{packs_empty, empty_in, pushed_are, pushed_packs}
use Rattle.ii_layout.proofs.positions.serializer.PackedDeltas.push_full.Goals as goal

pub invariant_of-self : goal.invariant_of-self
invariant_of-self c =
    let many : length c.deltas.result.now ≡ 128 = search rules in
    pushed_packs c.deltas.result.now c.self.inside.bit_widths.items c.self.inside.positions_buffer.items c.pack-packed.new.bit_widths.items c.pack-packed.new.positions_buffer.items
    (record { packed = c.self.invariant; many = many; fit = c.in-Ok.ensures.fit; widths_are = c.in-Ok.ensures.widths; body_is = c.in-Ok.ensures.bytes })

pub invariant_of-self-in-Err : goal.invariant_of-self-in-Err
invariant_of-self-in-Err c = packs_empty c.clear-in-Err.new.self.items c.clear-in-Err-2.new.self.items c.clear-in-Err.ensures.items c.clear-in-Err-2.ensures.items

pub returns-in-Ok-clause-ok : goal.returns-in-Ok-clause-ok
returns-in-Ok-clause-ok c =
    let many : length c.deltas.result.now ≡ 128 = search rules in
    let packed = pushed_are c.deltas.result.now c.self.inside.bit_widths.items c.self.inside.positions_buffer.items c.pack-packed.new.bit_widths.items c.pack-packed.new.positions_buffer.items
    (record { packed = c.self.invariant; many = many; fit = c.in-Ok.ensures.fit; widths_are = c.in-Ok.ensures.widths; body_is = c.in-Ok.ensures.bytes }) in
    rw (c.clear.ensures, append-nil _) (packed ∙ ap (λ (xs : List ℕ). xs ++ c.deltas.result.now) c.self.view_is ∙ ap (λ (xs : List ℕ). c.args.self.now ++ xs) c.deltas.ensures)

pub returns-in-Err-clause-err : goal.returns-in-Err-clause-err
returns-in-Err-clause-err c =
    rw (c.clear.ensures, append-nil _) (empty_in c.clear-in-Err.new.self.items c.clear-in-Err-2.new.self.items c.clear-in-Err.ensures.items c.clear-in-Err-2.ensures.items)
