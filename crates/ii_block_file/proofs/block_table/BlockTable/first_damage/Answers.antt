use Rattle.std.proofs.Common.{◌≡◌, ◌<◌, ◌+◌, ◌-◌, length, true, ℕ, sym, ap, ◌∙◌, arith, inl, inr}
use Rattle.std.proofs.lemmas.Bool.{cases_lt}
use Rattle.ii_block_file.specs.BlockTable.{file_block, lists_checksum, num_file_blocks}
use Rattle.ii_block_file.proofs.TableLaws.{blocks_divide}
use Rattle.ii_block_file.proofs.block_table.BlockTable.first_damage.Goals as goal

pub returns-then-not-lists-clause-some : goal.returns-then-not-lists-clause-some
returns-then-not-lists-clause-some c =
    let bytes = c.args.bytes.now in
    let first = c.args.first in
    let place = c.loop-place.place in
    let more : place < num_file_blocks (length bytes) = omega (arith, c.loop-place-test.true, c.div_ceil-place-end.ensures ∙ blocks_divide (length bytes)) in
    let block : c.file_block.result.now ≡ file_block (first + place - first) bytes = c.file_block.ensures ∙ ap (λ n. file_block n bytes) (omega arith) in
    (omega arith, omega (arith, more), ap (lists_checksum c.args.self.now (first + place)) (sym block) ∙ sym c.if-not-lists.ensures)

pub loop-place-preserved : goal.loop-place-preserved
loop-place-preserved c = λ k before.
    let bytes = c.args.bytes.now in
    let listed = λ (n : ℕ). lists_checksum c.args.self.now (c.args.first + n) (file_block n bytes) in
    let here : listed c.loop-place.place ≡ true = ap (lists_checksum c.args.self.now (c.args.first + c.loop-place.place)) (sym c.file_block.ensures) ∙ sym c.if-not-lists.ensures in
    elim (cases_lt k c.loop-place.place) [
      | inl earlier ↦ c.loop-place.invariant k earlier
      | inr from ↦ ap listed (omega (arith, from, before)) ∙ here
    ]
