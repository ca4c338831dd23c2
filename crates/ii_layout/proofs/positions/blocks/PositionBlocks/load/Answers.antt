use Rattle.std.proofs.Common.{◌≡◌, ℕ, ◌-◌, List, take, drop, refl, sym, ap, ◌∙◌}
use Rattle.ii_layout.proofs.PositionLemmas.{asked_within, asked_there, keeps_other}
use Rattle.ii_layout.proofs.positions.blocks.PositionBlocks.load.Goals as goal

cut : (from to : ℕ) (xs bytes : List ℕ) → xs ≡ bytes → take (to - from) (drop from xs) ≡ take (to - from) (drop from bytes)
cut from to xs bytes e = ap (λ (ys : List ℕ). take (to - from) (drop from ys)) e

after : (from : ℕ) (xs bytes : List ℕ) {ys : List ℕ} → xs ≡ bytes → ys ≡ drop from xs → ys ≡ drop from bytes
after from xs bytes e f = f ∙ ap (drop from) e

pub decode-requires-clause-valid : goal.decode-requires-clause-valid
decode-requires-clause-valid c =
    let i = c.self.inside in
    asked_there i.bytes _ _ i.anchors _ i.widths i.body i.stride i.block i.place i.rest_len c.args.block c.self.invariant
    (cut i.widths i.body _ i.bytes c.as_slice-bytes.ensures) (after i.body _ i.bytes c.as_slice-bytes.ensures c.bytes_from-body.ensures)
    (asked_within i.bytes i.anchors _ i.widths i.body i.stride i.block i.place i.rest_len c.args.block c.self.invariant (rw (← c.self.view_is) at c.requires.inside))

pub invariant_of-self : goal.invariant_of-self
invariant_of-self c =
    let i = c.self.inside in
    keeps_other i.bytes _ _ i.anchors _ _ i.widths i.body i.stride i.block i.place i.rest_len c.args.block c.walk-place.result c.self.invariant
    (cut i.widths i.body _ i.bytes c.as_slice-bytes.ensures) (after i.body _ i.bytes c.as_slice-bytes.ensures c.bytes_from-body.ensures)
    (asked_within i.bytes i.anchors _ i.widths i.body i.stride i.block i.place i.rest_len c.args.block c.self.invariant (rw (← c.self.view_is) at c.requires.inside))
    c.walk-place.ensures c.decode.ensures.held

pub returns-clause-deltas : goal.returns-clause-deltas
returns-clause-deltas c = rw (← c.self.view_is) refl

pub returns-clause-kept : goal.returns-clause-kept
returns-clause-kept c = rw (← c.self.view_is) (λ same. absurd (c.if-block-self.false (sym same)))

pub returns-clause-rises : goal.returns-clause-rises
returns-clause-rises c = rw (← c.self.view_is) c.decode.ensures.rises

pub returns-clause-decodes : goal.returns-clause-decodes
returns-clause-decodes c = rw (← c.self.view_is) c.decode.ensures.decodes
